-- What the server's map holds after a change at one key.
use Rattle.std.proofs.Common.{◌≡◌, ◌∙◌, ◌⊎◌, ◌+◌, ◌-◌, arith, inl, inr, ℕ, Bool, true, false, List, Option, None, Some, ap, refl, sym, subst, cond}
use Rattle.std.proofs.lemmas.Bool.{cases_Bool, cond-false, cond-true}
use Rattle.std.proofs.lemmas.Map.Text.{is_eq-slice_cmp}
use Rattle.std.proofs.lemmas.Slice.Eq.{bytes_eq-Decides}
use Rattle.std.specs.BTreeMap.{BTreeMap, UpdatesBy, get_by}
use Rattle.std.specs.Cmp.Lexicographic.{nat_list_cmp_total, nat_list_eq_equiv, slice_cmp}
use Rattle.std.specs.Cmp.{eq_by_cmp_equiv}
use Rattle.std.specs.Map.{KeepsOthers, update}
use Rattle.std.specs.Option.{is_some, option_map}
use Rattle.std.specs.Ordering.{is_eq, nat_cmp}
use Rattle.std.specs.Str.{bytes_eq}
use mathlib.Core.Path.{fun_ext}
use Rattle.example_redis.specs.Store.{HeldValues}

-- a key that is equal to one of two different keys is not equal to the other
apart : (p q k : List ℕ) → bytes_eq p q ≡ false → is_eq (slice_cmp nat_cmp p k) ≡ true
    → is_eq (slice_cmp nat_cmp q k) ≡ false
apart p q k n y =
    is_eq-slice_cmp q k ∙ nat_list_eq_equiv.symm q k
    ∙ sym (nat_list_eq_equiv.congr p k q (sym (is_eq-slice_cmp p k) ∙ y)) ∙ n

module _ {K X A : Type 0} (items : K → List ℕ) (shown : X → A) where
  abbrev at : BTreeMap K X → List ℕ → Option A
  at m q = option_map shown (get_by (λ k. slice_cmp nat_cmp q (items k)) m)

  -- the value at the key `p` is now `w`, and at each other key what it was
  pub changed : (m n : BTreeMap K X) (p : List ℕ) (w : Option X)
      → UpdatesBy (λ x y. slice_cmp nat_cmp (items x) (items y)) (λ k. slice_cmp nat_cmp p (items k)) m n w
      → at n ≡ update bytes_eq (at m) p (option_map shown w)
  unfolding KeepsOthers
  changed m n p w h = fun_ext (λ q. by_case q (cases_Bool (bytes_eq p q)))
    where
      by_case : (q : List ℕ) → (bytes_eq p q ≡ true) ⊎ (bytes_eq p q ≡ false)
          → at n q ≡ cond (bytes_eq p q) (option_map shown w) (at m q)
      by_case q (inl y) =
          subst (λ r. at n r ≡ option_map shown w) ((bytes_eq-Decides p q).0 y) (ap (option_map shown) h.1)
          ∙ sym (cond-true (bytes_eq p q) _ _ y)
      by_case q (inr y) =
          ap (option_map shown)
          (h.3 (λ k. is_eq (slice_cmp nat_cmp q (items k)))
          (λ a b. (eq_by_cmp_equiv nat_list_cmp_total).congr q (items a) (items b))
          (λ k. apart p q (items k) y))
          ∙ sym (cond-false (bytes_eq p q) _ _ y)

abbrev pub held_of : (List ℕ → Option (List ℕ)) → ℕ → ℕ → ℕ → Bool → HeldValues
held_of f n k limit refuses = record { at = f; size = n; bytes = k; limit = limit; refuses = refuses }

pub same_held : (f g : List ℕ → Option (List ℕ)) (m n k l limit : ℕ) (refuses : Bool) → f ≡ g → m ≡ n → k ≡ l
    → held_of f m k limit refuses ≡ held_of g n l limit refuses
same_held f g m n k l limit refuses e h i =
    ap (λ x. held_of x m k limit refuses) e ∙ ap (λ x. held_of g x k limit refuses) h ∙ ap (λ x. held_of g n x limit refuses) i

pub is_some-option_map : {X Y : Type 0} (f : X → Y) (o : Option X) → is_some (option_map f o) ≡ is_some o
is_some-option_map f None = refl
is_some-option_map f (Some x) = refl

pub less : (n m k : ℕ) → n + k ≡ m → n ≡ m - k
less n m k e = omega (arith, e)
