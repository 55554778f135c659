-- Laws about adapters that replace each item by a list of results.
use Rattle.std.specs.Prelude.{◌≡◌, ℕ, ◌+◌, List, [], ◌∷◌, ◌++◌, Option, Some, None}
use Rattle.std.proofs.Common.{◌≤◌}
use Rattle.lite_reshape.specs.Uses.{◌∙◌, inl, inr, refl, ap, sym, arith, append_assoc, AllByRecursion, Ready, Pending}
use Rattle.lite_reshape.specs.Uses.{Answer, Gives, Waiting, before_end, end, item, items, all_split, Lowers-at_most}
use Rattle.lite_reshape.specs.Uses.{Lowers-below, IsItem, items_each, Below, Lowers, Counting, Ranks, count_held}
use Rattle.lite_reshape.specs.Uses.{StreamLaws, Hints, Question, Runs, AlsoBefore, Entails, Following, AdapterParts}
use Rattle.lite_reshape.specs.Uses.{Adapts, Through}
use Rattle.lite_base.specs.Laws.Ranks.{waiting_lowers}
use Rattle.lite_base.specs.Ranks.{held_rank}
use Rattle.lite_stream.specs.Laws.Held.{held_falls, held_first, held_less, held_level, held_sized}
use Rattle.lite_reshape.specs.Expanding.{Expanding, Expands}

-- What the lists made of an item have to meet for runs of the adapter to follow one another.
pub record FollowLaws {V B : Type 0} (gives : V → List (Answer B) → Option V → Type 0) : Type 0 where
  pub rests : (v : V) → gives v [] (Some v)
  pub stays : (v w : V) → gives v [] (Some w) → w ≡ v
  -- Nothing is done before its first result.
  pub answers : (v : V) → gives v [] None → ⊥
  pub joins : (v w : V) (next : Option V) (l m : List (Answer B)) → gives v l (Some w) → gives w m next
      → gives v (l ++ m) next

-- Each item leads to exactly one item, which is the last result of its list.
pub record GivingOne {V B : Type 0} (gives : V → List (Answer B) → Option V → Type 0) : Type 0 where
  pub waits : (v w : V) (l : List (Answer B)) → gives v l (Some w) → Waiting l
  pub hands : (v : V) (l : List (Answer B)) → gives v l None → (y : B) × Gives l (Some y)

-- Induction on the source's results and on the value held: nothing happens, the held value goes on or is done, or the
-- source returns a result.
module _ {F A V B : Type 0} (call : Question F A V) (gives : V → List (Answer B) → Option V → Type 0) (t : F × Option V)
    (P : F × Option V → List (Answer A) → List (Answer B) → Type 0)
    (nothing : t.1 ≡ None → P (t.0, None) [] [])
    (still : (v w : V) (o : List (Answer B)) → gives v o (Some w) → t.1 ≡ Some w → P (t.0, Some v) [] o)
    (done : (p : F) (v : V) (i : List (Answer A)) (own rest : List (Answer B)) → gives v own None → P (p, None) i rest
    → P (p, Some v) i (own ++ rest))
    (waits : AlsoBefore (λ p. P (p, None)) Pending Pending) (ended : AlsoBefore (λ p. P (p, None)) end end)
    (made : (p r : F) (x : A) (v : V) (i : List (Answer A)) (b : Answer B) (o : List (Answer B)) → call p x v r
    → P (r, Some v) i (b ∷ o) → P (p, None) (item x ∷ i) (b ∷ o)) where
  module _ (p : F) (v : V) (i : List (Answer A)) (o : List (Answer B))
      (rest : (rest : List (Answer B)) → Expands call gives p i rest t.0 t.1 → P (p, None) i rest) where
    held_by : Expanding call gives (p, Some v) i o t → P (p, Some v) i o
    held_by (inl c) = rw c.0 (rw c.1 at (still v c.2 o c.3 c.4))
    held_by (inr c) = rw c.2 (done p v i c.0 c.1 c.3 (rest c.1 c.4))

  expands_by : (p : F) (i : List (Answer A)) (o : List (Answer B)) → Expands call gives p i o t.0 t.1 → P (p, None) i o
  expands_by p [] [] c = rw c.0 at (nothing c.1)
  expands_by p (Pending ∷ i) (b ∷ o) c = rw c.0 (waits p i o (expands_by p i o c.1))
  expands_by p (Ready None ∷ i) (b ∷ o) c = rw c.0 (ended p i o (expands_by p i o c.1))
  expands_by p (Ready (Some x) ∷ i) (b ∷ o) c =
      made p c.1 x c.0 i b o c.2 (held_by c.1 c.0 i _ (expands_by c.1 i) c.3)
  expands_by p _ _ h = absurd h

  pub expanding_by : (s : F × Option V) (i : List (Answer A)) (o : List (Answer B)) → Expanding call gives s i o t
      → P s i o
  expanding_by (p, None) i o c = expands_by p i o c
  expanding_by (p, Some v) i o c = held_by p v i o (expands_by p i) c

module _ {F A V B : Type 0} (call : Question F A V) (gives : V → List (Answer B) → Option V → Type 0)
    (g : FollowLaws gives) where
  -- The list of a held value may be cut in two.
  module _ (t : F × Option V) (p : F) (v w : V) (j : List (Answer A)) (l m : List (Answer B))
      (ran : gives v l (Some w)) where
    begun : Expanding call gives (p, Some w) j m t → Expanding call gives (p, Some v) j (l ++ m) t
    begun (inl k) = inl (k.0, k.1, k.2, g.joins v w _ l m ran k.3, k.4)
    begun (inr k) =
        inr (l ++ k.0, k.1, ap (λ n. l ++ n) k.2 ∙ sym (append_assoc l k.0 k.1), g.joins v w None l k.0 ran k.3, k.4)

  joins : (s r t : F × Option V) (i j : List (Answer A)) (l m : List (Answer B)) → Expanding call gives s i l r
      → Expanding call gives r j m t → Expanding call gives s (i ++ j) (l ++ m) t
  joins s (q, f) t i j l m c d =
      expanding_by call gives (q, f) (λ s i l. Expanding call gives s (i ++ j) (l ++ m) t)
      (λ e. rw e at d)
      (λ v w l ran e. begun t q v w j l m ran (rw e at d))
      (λ p v i own rest ran k. inr (own, rest ++ m, append_assoc own rest m, ran, k)) (λ p i l k. (refl, k))
      (λ p i l k. (refl, k)) (λ p r x v i b l called k. (v, r, called, k)) s i l c

  -- What is done has returned a result, so it is not the case for an empty list.
  nothing : (v : V) (own rest : List (Answer B)) → [] ≡ own ++ rest → gives v own None → ⊥
  nothing v [] rest e h = g.answers v h
  nothing v (b ∷ own) rest e h = cc

  empty : (s t : F × Option V) (i : List (Answer A)) → Expanding call gives s i [] t → (i ≡ []) × (t ≡ s)
  empty (p, None) (q, f) [] c = (refl, λ k. (c.0 k, c.1 k))
  empty (p, None) t (a ∷ i) c = absurd c
  empty (p, Some v) (q, f) i (inl c) = (c.0, λ k. (c.1 k, (c.4 ∙ ap Some (g.stays v c.2 c.3)) k))
  empty (p, Some v) t i (inr c) = absurd (nothing v c.0 c.1 c.2 c.3)

  starts : (s : F × Option V) → Expanding call gives s [] [] s
  starts (p, None) = (refl, refl)
  starts (p, Some v) = inl (refl, refl, v, g.rests v, refl)

  pub expanding_following : Following (Expanding call gives)
  expanding_following = record { starts = starts; empty = empty; joins = joins }

-- One poll.
module _ {S F A V B : Type 0} (run : Runs (Answer A) S) (call : Question F A V)
    (gives : V → List (Answer B) → Option V → Type 0) where
  one_given : (f : F) (v : V) (b : Answer B) (left : Option V) → gives v (b ∷ []) left
      → Expanding call gives (f, Some v) [] (b ∷ []) (f, left)
  one_given f v b None given = inr (b ∷ [], [], refl, given, (refl, refl))
  one_given f v b (Some w) given = inl (refl, refl, w, given, refl)

  -- One poll of the value that is held. The source is not polled.
  pub held_answers : (s : S) (f : F) (v : V) (b : Answer B) (left : Option V) → run s [] s → gives v (b ∷ []) left
      → Through run (Expanding call gives) s (f, Some v) (b ∷ []) s (f, left)
  held_answers s f v b left came given = record { ins = []; came = came; related = one_given f v b left given }

  -- One poll that makes a value of the source's item, if none was held.
  pub made_answers : {s t : S} {f g : F} {held left : Option V} {a : Answer A} {x : A} {v : V} {b : Answer B}
      → held ≡ None → a ≡ item x → run s (a ∷ []) t → call f x v g → gives v (b ∷ []) left
      → Through run (Expanding call gives) s (f, held) (b ∷ []) t (g, left)
  made_answers {g} {left} {x} {v} {b} none is came called given =
      rw none
      (record { ins = item x ∷ []; came = rw is at came; related = (v, g, called, one_given g v b left given) })

  -- One poll of the source, which is pending.
  pub none_answers : {s t : S} {f : F} {held : Option V} {a : Answer A} → held ≡ None → a ≡ Pending → run s (a ∷ []) t
      → Through run (Expanding call gives) s (f, held) (Pending ∷ []) t (f, held)
  none_answers none is came =
      rw none (record { ins = Pending ∷ []; came = rw is at came; related = (refl, (refl, refl)) })

module _ {B : Type 0} where
  waiting_bounded : (l : List (Answer B)) → Waiting l → before_end l ≤ 0
  waiting_bounded [] w = omega arith
  waiting_bounded (Pending ∷ l) w = waiting_bounded l w
  waiting_bounded (Ready b ∷ l) w = absurd w

  one_bounded : (l m : List (Answer B)) (y : B) → Gives l (Some y) → before_end (l ++ m) ≤ before_end m + 1
  one_bounded [] m y h = absurd h
  one_bounded (Pending ∷ l) m y h = one_bounded l m y h
  one_bounded (Ready b ∷ l) m y h = rw (h.0, h.1) (omega arith)

module _ {F A V B : Type 0} (call : Question F A V) (gives : V → List (Answer B) → Option V → Type 0)
    (g : GivingOne gives) where
  pub expanding_bounded : Entails (Expanding call gives) (λ s i o t. before_end o ≤ before_end i + count_held s.1)
  expanding_bounded s t =
      expanding_by call gives t (λ s i o. before_end o ≤ before_end i + count_held s.1) (λ e. omega arith)
      (λ v w o ran e. omega (arith, waiting_bounded o (g.waits v w o ran)))
      (λ p v i own rest ran k. let h = g.hands v own ran in omega (arith, k, one_bounded own rest h.0 h.1))
      (λ p i o k. k) (λ p i o k. omega arith) (λ p r x v i b o called k. omega (arith, k)) s

  module _ (s t : F × Option V) where
    expanding_lowers : (i : List (Answer A)) (o : List (Answer B)) (xs us : List ℕ) → Expanding call gives s i o t
        → Lowers i xs us → Lowers o (held_rank xs t.1) (held_rank us s.1)
    expanding_lowers i o xs us =
        expanding_by call gives t (λ s i o. Lowers i xs us → Lowers o (held_rank xs t.1) (held_rank us s.1))
        (λ e h. held_level xs us None t.1 h (ap count_held e))
        (λ v w o ran e h. waiting_lowers o _ _ (g.waits v w o ran) (held_level xs us (Some v) t.1 h (ap count_held e)))
        (λ p v i own rest ran k h. Lowers-below (own ++ rest) _ _ (held_less _ us v (Lowers-at_most rest _ _ (k h))))
        (λ p i o k. k) (λ p i o k. k)
        (λ p r x v i b o called k h. Lowers-below (b ∷ o) _ _ (held_first xs us t.1 None h)) s i o

  -- If all results are items, so are the source's results.
  expanding_items : Entails (Expanding call gives) (λ s i o t. AllByRecursion IsItem o → AllByRecursion IsItem i)
  expanding_items s t =
      expanding_by call gives t (λ s i o. AllByRecursion IsItem o → AllByRecursion IsItem i) (λ e h. tt)
      (λ v w o ran e h. tt) (λ p v i own rest ran k h. k (all_split IsItem own rest h).1)
      (λ p i o k h. let e = h.0.1 in cc) (λ p i o k h. let e = h.0.1 in cc)
      (λ p r x v i b o called k h. ((x, refl), k h)) s

  -- If the source was not polled and nothing was held, nothing is held.
  none_held : (p : F) (t : F × Option V) (o : List (Answer B)) → Expands call gives p [] o t.0 t.1 → t.1 ≡ None
  none_held p t [] c = c.1
  none_held p t (b ∷ o) c = absurd c

  alone : (s t : F × Option V) (y : B) (l : List B) → Expanding call gives s [] (items (y ∷ l)) t → (t.1 ≡ None)
      × (v : V) × (s.1 ≡ Some v)
  alone (p, None) t y l c = absurd c
  alone (p, Some v) t y l (inl c) = absurd (g.waits v c.2 _ c.3)
  alone (p, Some v) t y l (inr c) = (none_held p t c.1 c.4, v, refl)

  expanding_falls : (s t : F × Option V) (i : List (Answer A)) (y : B) (l : List B) (xs us : List ℕ)
      → ((a : A) (before : List A) → i ≡ items (a ∷ before) → Below xs us) → (i ≡ [] → xs ≡ us)
      → Expanding call gives s i (items (y ∷ l)) t → Below (held_rank xs t.1) (held_rank us s.1)
  expanding_falls s t i y l xs us falls same c =
      held_falls i xs us t.1 s.1 falls same
      (λ e. alone s t y l (rw e at c))
      (expanding_items s t i (items (y ∷ l)) c (items_each (y ∷ l)))

-- The rank of the source, followed by one number that counts the value held.
abbrev pub held_ranks : {M S F V : Type 0} → AdapterParts M S (F × Option V) → Ranks S → Ranks M
held_ranks p r =
    record {
      width = r.width + 1;
      rank = λ m. held_rank (r.rank (p.source m)) (p.held m).1;
      counts = λ m. r.counts (p.source m);
      firm = λ m. r.firm (p.source m);
    }

module _ {M S F A V B : Type 0} (p : AdapterParts M S (F × Option V)) {call : Question F A V}
    {gives : V → List (Answer B) → Option V → Type 0}
    {run : Runs (Answer A) S} {can_poll : S → Type 0} {hints : Hints S} {r : Ranks S} where
  pub held_counting : StreamLaws can_poll run hints → Counting run r → GivingOne gives
      → Counting (Adapts p run (Expanding call gives)) (held_ranks p r)
  held_counting laws c g =
      record {
        sized = λ x. held_sized _ _ (c.sized _);
        counts_on = λ x y l k h. c.counts_on _ _ h.ins k h.came;
        firm_on = λ x y l k h. c.firm_on _ _ h.ins k h.came;
        falls = λ x y a more k h.
            expanding_falls call gives g _ _ h.ins a more _ _
            (λ b before e. c.falls _ _ b before k (rw e at h.came))
            (λ e. ap r.rank (laws.stays _ _ (rw e at h.came))) h.related;
        lowers = λ x y l k h.
            expanding_lowers call gives g _ _ h.ins l _ _ h.related (c.lowers _ _ h.ins k h.came);
      }
