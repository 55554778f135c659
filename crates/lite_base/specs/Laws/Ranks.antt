-- Laws of a rank that falls with the items.
use Rattle.std.specs.Prelude.{ℕ, ◌+◌, ◌<◌, ◌≡◌, refl, replicate, zero, suc, ◌≤◌, List, [], ◌∷◌, ◌++◌, length, Some, map, None, Result, Ok}
use Rattle.lite_base.specs.Uses.{sym, subst, inl, inr, ap, ◌∙◌, arith, Ready, Pending, MutBor}
use mathlib.Core.WellFounded.{Acc, WellFounded}
use lib.WfN.{lt-wf_rel}
use Rattle.lite_base.specs.Chain.{After, Reaches}
use Rattle.lite_base.specs.Laws.Chain.{Reaches-on, Reaches-then}
use Rattle.lite_base.specs.Ranks.{Terminates, Below, AtMost, Lowers, ItemRun, Counting, Ranks, number_ranks, ranks_of, OkCounting, OkRun, all_ok}
use Rattle.std.proofs.Common.{length-append}
use Rattle.std.proofs.Math.Nat.{eq-or-lt_of_le}
use Rattle.std.proofs.lemmas.List.{length-replicate}
use lib.Measure.{by_dom}
use Rattle.lite_base.specs.Answers.{Answer, Waiting, items, item}
use Rattle.lite_base.specs.Runs.{Runs, Lent}

-- Laws of chains of steps that are finite.

ends_acc : {S X : Type 0} {next : S → S → Type 0} {≺ : X → X → Type 0} (f : S → X)
    → ((x y : S) → next x y → ≺ (f y) (f x)) → (a : X) → Acc ≺ a → (x : S) → a ≡ f x → Terminates next x
ends_acc {≺ = ≺} f to a (Acc.intro a' h) x e =
    Terminates.ends (λ y s. ends_acc f to (f y) (h (f y) (subst (λ k. ≺ (f y) k) (sym e) (to x y s))) y refl)

accessible : {T : Type 0} {next : T → T → Type 0} (t : T) → Terminates next t → Acc (λ u v. next v u) t
accessible t (Terminates.ends h) = Acc.intro t (λ u s. accessible u (h u s))

-- Chains of steps are finite if a function turns each step into a step whose chains are finite.
pub Terminates-map : {S T : Type 0} {next : S → S → Type 0} {next' : T → T → Type 0} (f : S → T)
    → ((x y : S) → next x y → next' (f x) (f y)) → (x : S) → Terminates next' (f x) → Terminates next x
Terminates-map {next' = next'} f to x h = ends_acc {≺ = λ u v. next' v u} f to (f x) (accessible (f x) h) x refl

-- If the chains from `x` are finite, so are chains of several steps at once from every value that it reaches.
ends_after : {S : Type 0} {next : S → S → Type 0} (x : S) → Terminates next x → (w : S) → Reaches next x w
    → Terminates (After next) w
ends_after x (Terminates.ends h) w p =
    Terminates.ends
    (λ y a. let first = Reaches-then x a.0 y (Reaches-on p a.1) a.2 in
    ends_after first.0 (h first.0 first.1) y first.2)

pub Terminates-after : {S : Type 0} {next : S → S → Type 0} (x : S) → Terminates next x → Terminates (After next) x
Terminates-after x h = ends_after x h x Reaches.stay

-- Chains of steps that lower a measure are finite.
pub Terminates-by : {S X : Type 0} {next : S → S → Type 0} (≺ : X → X → Type 0) → WellFounded ≺ → (f : S → X)
    → ((x y : S) → next x y → ≺ (f y) (f x)) → (x : S) → Terminates next x
Terminates-by ≺ wf f to x = ends_acc f to (f x) (wf.apply (f x)) x refl

pub Terminates-count : {S : Type 0} {next : S → S → Type 0} (f : S → ℕ) → ((x y : S) → next x y → f y < f x) → (x : S)
    → Terminates next x
Terminates-count = Terminates-by ◌<◌ lt-wf_rel.wf

-- It is enough to consider values with a fact that the steps keep.
pub Terminates-where : {S : Type 0} {next : S → S → Type 0} (P : S → Type 0) → ((x y : S) → P x → next x y → P y)
    → (x : S) → P x → Terminates (λ y z. P y × next y z) x → Terminates next x
Terminates-where P keeps x p (Terminates.ends h) =
    Terminates.ends (λ y s. Terminates-where P keeps y (keeps x y p s) (h y (p, s)))

-- Laws of ranks that fall.

pub Below-length : (xs ys : List ℕ) → Below xs ys → length xs ≡ length ys
Below-length (x ∷ xs) (y ∷ ys) h = elim h [ inl p ↦ ap suc p.1 | inr p ↦ ap suc (Below-length xs ys p.1) ]
Below-length xs ys h = absurd h

pub AtMost-length : (xs ys : List ℕ) → AtMost xs ys → length xs ≡ length ys
AtMost-length xs ys h = elim h [ inl e ↦ ap length e | inr p ↦ Below-length xs ys p ]

pub Below-trans : (xs ys zs : List ℕ) → Below xs ys → Below ys zs → Below xs zs
Below-trans (x ∷ xs) (y ∷ ys) [] h k = absurd k
Below-trans (x ∷ xs) (y ∷ ys) (z ∷ zs) h k =
    elim h [
      | inl p ↦ elim k [
        | inl q ↦ inl (omega (arith, p.0, q.0), p.1 ∙ q.1)
        | inr q ↦ inl (omega (arith, p.0, q.0), p.1 ∙ Below-length ys zs q.1)
      ]
      | inr p ↦ elim k [
        | inl q ↦ inl (omega (arith, p.0, q.0), Below-length xs ys p.1 ∙ q.1)
        | inr q ↦ inr (p.0 ∙ q.0, Below-trans xs ys zs p.1 q.1)
      ]
    ]
Below-trans xs ys zs h k = absurd h

-- A list is lower if its first part is lower and what follows is as long.
pub Below-first : (xs ys us vs : List ℕ) → Below xs ys → length us ≡ length vs → Below (xs ++ us) (ys ++ vs)
Below-first (x ∷ xs) (y ∷ ys) us vs h e =
    elim h [
      | inl p ↦ inl (p.0, rw (length-append xs us, length-append ys vs, p.1, e))
      | inr p ↦ inr (p.0, Below-first xs ys us vs p.1 e)
    ]
Below-first xs ys us vs h e = absurd h

-- A list is lower if its first part stays and what follows is lower.
pub Below-then : (xs us vs : List ℕ) → Below us vs → Below (xs ++ us) (xs ++ vs)
Below-then [] us vs h = h
Below-then (x ∷ xs) us vs h = inr (refl, Below-then xs us vs h)

pub AtMost-both : (xs ys us vs : List ℕ) → AtMost xs ys → AtMost us vs → AtMost (xs ++ us) (ys ++ vs)
AtMost-both xs ys us vs h k =
    elim h [
      | inl e ↦ elim k [
        | inl d ↦ inl (cc)
        | inr q ↦ inr (subst (λ l. Below (xs ++ us) (l ++ vs)) e (Below-then xs us vs q))
      ]
      | inr p ↦ inr (Below-first xs ys us vs p (AtMost-length us vs k))
    ]

pub Below-after : (xs ys us vs : List ℕ) → AtMost xs ys → Below us vs → Below (xs ++ us) (ys ++ vs)
Below-after xs ys us vs h q =
    elim h [
      | inl e ↦ subst (λ l. Below (xs ++ us) (l ++ vs)) e (Below-then xs us vs q)
      | inr p ↦ Below-first xs ys us vs p (Below-length us vs q)
    ]

-- Lists of one number are compared as their numbers are.
pub Below-one : {m n k : ℕ} → AtMost (m ∷ []) (n ∷ []) → n < k → Below (m ∷ []) (k ∷ [])
Below-one {m} {n} (inl e) less = let same : m ≡ n = cc e in inl (omega (arith, same, less), refl)
Below-one (inr (inl p)) less = inl (omega (arith, p.0, less), refl)
Below-one (inr (inr p)) less = absurd p.1

pub at_most_one : (m n : ℕ) → m ≤ n → AtMost (m ∷ []) (n ∷ [])
at_most_one m n h = elim (eq-or-lt_of_le h) [ inl e ↦ inl (ap (λ k. k ∷ []) e) | inr p ↦ inr (inl (p, refl)) ]

pub Lowers-at_most : {A : Type 0} (l : List (Answer A)) (xs ys : List ℕ) → Lowers l xs ys → AtMost xs ys
Lowers-at_most [] xs ys h = h
Lowers-at_most (Ready (Some a) ∷ l) xs ys h = inr h
Lowers-at_most (a ∷ l) xs ys h = Lowers-at_most l xs ys h

pub Lowers-below : {A : Type 0} (l : List (Answer A)) (xs ys : List ℕ) → Below xs ys → Lowers l xs ys
Lowers-below [] xs ys h = inr h
Lowers-below (Ready (Some a) ∷ l) xs ys h = h
Lowers-below (a ∷ l) xs ys h = Lowers-below l xs ys h

pub waiting_lowers : {A : Type 0} (l : List (Answer A)) (xs ys : List ℕ) → Waiting l → AtMost xs ys → Lowers l xs ys
waiting_lowers [] xs ys w h = h
waiting_lowers (Pending ∷ l) xs ys w h = waiting_lowers l xs ys w h
waiting_lowers (Ready b ∷ l) xs ys w h = absurd w

none_below : (ys : List ℕ) → Below ys [] → Acc Below ys
none_below [] h = absurd h
none_below (y ∷ ys) h = absurd h

-- No list falls forever from below `x ∷ xs`, if none does from a list with a lower first number, or with the first
-- number `x` and a lower rest.
below_cons : (x : ℕ) (xs : List ℕ)
    → ((x' : ℕ) → x' < x → (xs' : List ℕ) → length xs' ≡ length xs → Acc Below (x' ∷ xs'))
    → ((xs' : List ℕ) → Below xs' xs → Acc Below (x ∷ xs')) → (ys : List ℕ) → Below ys (x ∷ xs) → Acc Below ys
below_cons x xs first rest [] h = absurd h
below_cons x xs first rest (y ∷ ys) h =
    elim h [ inl p ↦ first y p.0 ys p.1 | inr p ↦ subst (λ (z : ℕ). Acc Below (z ∷ ys)) (sym p.0) (rest ys p.1) ]

ends_cons : (n : ℕ) → ((xs : List ℕ) → length xs ≡ n → Acc Below xs) → (x : ℕ) (xs : List ℕ) → length xs ≡ n
    → Acc Below (x ∷ xs)
ends_cons n all x =
    by_dom ◌<◌ (λ (x₁ : ℕ). (xs : List ℕ) → length xs ≡ n → Acc Below _)
    (λ x₁ first xs e. by_dom Below (λ (xs₁ : List ℕ). length xs₁ ≡ n → Acc Below _)
    (λ xs₁ rest e₁. Acc.intro _
    (below_cons x₁ xs₁ (λ x' lt xs' same. first x' lt xs' (same ∙ e₁))
    (λ xs' lower. rest xs' lower (Below-length xs' xs₁ lower ∙ e₁))))
    xs (all xs e) e)
    x (lt-wf_rel.wf.apply x)

ends : (n : ℕ) (xs : List ℕ) → length xs ≡ n → Acc Below xs
ends n [] e = Acc.intro [] none_below
ends zero (x ∷ xs) e = absurd (omega (arith, e))
ends (suc n) (x ∷ xs) e = ends_cons n (ends n) x xs (omega (arith, e))

pub Below-wf : WellFounded Below
Below-wf = record { apply = λ xs. ends _ xs refl }

-- From a value that counts, no chain of steps that lower the rank is endless.
pub ranked_ends : {S : Type 0} (next : S → S → Type 0) (counts : S → Type 0) (rank : S → List ℕ)
    → ((x y : S) → counts x → next x y → counts y) → ((x y : S) → counts x → next x y → Below (rank y) (rank x))
    → (x : S) → counts x → Terminates next x
ranked_ends next counts rank kept falls x c =
    Terminates-where counts kept x c (Terminates-by Below Below-wf rank (λ y z h. falls y z h.0 h.1) x)

module _ {S A : Type 0} (run : Runs (Answer A) S) (counts : S → Type 0) (rank : S → List ℕ)
    (kept : (x y : S) (l : List (Answer A)) → counts x → run x l y → counts y)
    (falls : (x y : S) (a : A) (more : List A) → counts x → run x (items (a ∷ more)) y
    → Below (rank y) (rank x)) where
  -- From a value that counts, no chain of runs of items is endless.
  pub counted_ends : (x : S) → counts x → Terminates (ItemRun run) x
  counted_ends =
      ranked_ends _ counts rank (λ y z k h. kept y z _ k h.2)
      (λ y z k h. falls y z h.0 h.1 k h.2)

module _ {S A : Type 0} {run : Runs (Answer A) S} where
  -- From a value that counts, no chain of runs of items is endless.
  pub counting_ends : {r : Ranks S} → Counting run r → (x : S) → r.counts x → Terminates (ItemRun run) x
  counting_ends {r} c = counted_ends run r.counts r.rank c.counts_on c.falls

  -- A number is such a rank if each item lowers it and nothing raises it.
  pub number_counting : {number : S → ℕ}
      → ((x y : S) (l : List (Answer A)) → run x l y → Lowers l (number y ∷ []) (number x ∷ []))
      → Counting run (number_ranks number)
  number_counting lowers =
      record {
        sized = λ x. refl;
        counts_on = λ x y l c h. tt;
        firm_on = λ x y l c h. tt;
        falls = λ x y a more c. lowers x y _;
        lowers = λ x y l c. lowers x y l;
      }

-- Laws of a rank that falls with each `Ok` item.

ok_items : {T E : Type 0} (l : List T) → all_ok {E = E} (items l) ≡ items (map Ok l)
ok_items [] = refl
ok_items (x ∷ l) = ap (λ k. item (Ok x) ∷ k) (ok_items l)

ok_lowers : {T : Type 0} (E : Type 0) (l : List (Answer T)) (xs ys : List ℕ) → Lowers (all_ok {E = E} l) xs ys
    → Lowers l xs ys
ok_lowers E (Pending ∷ l) xs ys h = ok_lowers E l xs ys h
ok_lowers E (Ready None ∷ l) xs ys h = ok_lowers E l xs ys h
ok_lowers E l xs ys h = h

module _ {S T E : Type 0} {run : Runs (Answer (Result T E)) S} {r : Ranks S} where
  -- A rank that falls with each item falls with each `Ok` item.
  pub ok_counting : Counting run r → OkCounting run r
  ok_counting c =
      record {
        sized = c.sized;
        counts_on = c.counts_on;
        firm_on = c.firm_on;
        falls = λ x y a more k h. c.falls x y (Ok a) (map Ok more) k
            (subst (λ l. run x l y) (ok_items {E = E} (a ∷ more)) h);
        lowers = λ x y l k h. ok_lowers E l _ _ (c.lowers x y (all_ok l) k h);
      }

  -- From a value that counts, no chain of runs of `Ok` items is endless.
  pub ok_counting_ends : OkCounting run r → (x : S) → r.counts x → Terminates (OkRun run) x
  ok_counting_ends c =
      ranked_ends _ r.counts r.rank (λ x y k h. c.counts_on x y _ k h.2)
      (λ x y k h. c.falls x y h.0 h.1 k h.2)

  pub lent_ok_counting : OkCounting run r → OkCounting (Lent run) (ranks_of (λ (s : MutBor S). s.now) r)
  lent_ok_counting c =
      record {
        sized = λ s. c.sized s.now;
        counts_on = λ x y l k h. c.counts_on x.now y.now l k h.0;
        firm_on = λ x y l k h. c.firm_on x.now y.now l k h.0;
        falls = λ x y a more k h. c.falls x.now y.now a more k h.0;
        lowers = λ x y l k h. c.lowers x.now y.now l k h.0;
      }

-- The rank falls with `Ok` items if runs of `Ok` items are runs of what the items hold, by a relation whose rank falls.
pub ok_counting_by : {S T E : Type 0} {run : Runs (Answer (Result T E)) S} {oks : Runs (Answer T) S} {r : Ranks S}
    → ((x y : S) (l : List (Answer T)) → run x (all_ok l) y → oks x l y) → Counting oks r
    → ((x y : S) (l : List (Answer (Result T E))) → r.counts x → run x l y → r.counts y)
    → ((x y : S) (l : List (Answer (Result T E))) → r.firm x → run x l y → r.firm y) → OkCounting run r
ok_counting_by unwraps c counts_on firm_on =
    record {
      sized = c.sized;
      counts_on = counts_on;
      firm_on = firm_on;
      falls = λ x y a more k h. c.falls x y a more k (unwraps x y _ h);
      lowers = λ x y l k h. c.lowers x y l k (unwraps x y l h);
    }

-- Laws about ranks that are lower than others.

pub AtMost-then_below : (xs ys zs : List ℕ) → AtMost xs ys → Below ys zs → Below xs zs
AtMost-then_below xs ys zs h k = elim h [ inl e ↦ subst (λ l. Below l zs) (sym e) k | inr p ↦ Below-trans xs ys zs p k ]

pub Lowers-then_below : {A : Type 0} (l : List (Answer A)) (xs ys zs : List ℕ) → Lowers l xs ys → Below ys zs
    → Lowers l xs zs
Lowers-then_below [] xs ys zs h k = inr (AtMost-then_below xs ys zs h k)
Lowers-then_below (Ready (Some x) ∷ l) xs ys zs h k = Below-trans xs ys zs h k
Lowers-then_below (a ∷ l) xs ys zs h k = Lowers-then_below l xs ys zs h k

-- The rank falls as before with numbers in front of it that do not rise.
pub Lowers-after : {A : Type 0} (l : List (Answer A)) (us vs xs ys : List ℕ) → AtMost us vs → Lowers l xs ys
    → Lowers l (us ++ xs) (vs ++ ys)
Lowers-after [] us vs xs ys m h = AtMost-both us vs xs ys m h
Lowers-after (Ready (Some x) ∷ l) us vs xs ys m h = Below-after us vs xs ys m h
Lowers-after (a ∷ l) us vs xs ys m h = Lowers-after l us vs xs ys m h

pub Lowers-then_at_most : {A : Type 0} (l : List (Answer A)) (xs ys zs : List ℕ) → Lowers l xs ys → AtMost ys zs
    → Lowers l xs zs
Lowers-then_at_most l xs ys zs h k = elim k [ inl e ↦ subst (Lowers l xs) e h | inr p ↦ Lowers-then_below l xs ys zs h p ]

-- No list of the same length is below a list of zeros.
pub zeros_least : (n : ℕ) (ys : List ℕ) → length ys ≡ n → AtMost (replicate n 0) ys
zeros_least zero [] e = inl refl
zeros_least (suc n) (zero ∷ ys) e =
    elim (zeros_least n ys (omega (arith, e))) [ inl d ↦ inl (ap (λ l. 0 ∷ l) d) | inr p ↦ inr (inr (refl, p)) ]
zeros_least (suc n) (suc y ∷ ys) e = inr (inl (omega arith, length-replicate n 0 ∙ omega (arith, e)))
zeros_least _ _ e = cc

module _ {A : Type 0} where
  -- The rank falls if the first results hold an item, or if the results after them lower it.
  pub own_lowers : (own last after : List (Answer A)) (xs us ys vs : List ℕ) → Lowers (own ++ last) xs us
      → (Lowers last xs us → Lowers after ys vs) → (Below xs us → Below ys vs) → Lowers (own ++ after) ys vs
  own_lowers [] last after xs us ys vs h then below = then h
  own_lowers (Ready (Some x) ∷ own) last after xs us ys vs h then below = below h
  own_lowers (_ ∷ own) last after xs us ys vs h then below = own_lowers own last after xs us ys vs h then below

-- A count that is one less is less.
pub one_less : {n m : ℕ} → n ≡ m + 1 → m < n
one_less e = omega arith
