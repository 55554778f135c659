-- Laws about `script`, and about other sources whose results to come are a list.
use Rattle.std.specs.Prelude.{⊤, ◌≡◌, ◌≤◌, List, [], ◌∷◌, ◌++◌, length, Option, Some, None}
use Rattle.lite_source.specs.Uses.{◌∙◌, refl, sym, inl, arith, Ready, Pending, Answer, Comparable, before_end, strip, CalmLaws, NoPending, Below-one}
use Rattle.lite_source.specs.Uses.{Lowers-at_most, Lowers-below, Lowers, calm_both, same_hint, Steadiness, StreamLaws, NoHint}
use Rattle.lite_source.specs.Script.{GivesScript}

module _ {A : Type 0} where
  pub gives_follow : (x y z l m : List (Answer A)) → GivesScript x l y → GivesScript y m z → GivesScript x (l ++ m) z
  gives_follow x y z [] m h k = rw h at k
  gives_follow [] y z (a ∷ l) m h k = (h.0, gives_follow [] y z l m h.1 k)
  gives_follow (b ∷ x) y z (a ∷ l) m h k = (h.0, gives_follow x y z l m h.1 k)

  pub gives_bounded : (x y l : List (Answer A)) → GivesScript x l y → before_end l ≤ length x
  gives_bounded [] y (a ∷ l) h = rw h.0 (omega arith)
  gives_bounded (b ∷ x) y (Pending ∷ l) h = let e = gives_bounded x y l h.1 in omega arith
  gives_bounded (b ∷ x) y (Ready (Some v) ∷ l) h = let e = gives_bounded x y l h.1 in omega arith
  gives_bounded x y l h = omega arith

  pub gives_lowers : (x y l : List (Answer A)) → GivesScript x l y → Lowers l (length y ∷ []) (length x ∷ [])
  gives_lowers x y [] h = inl (rw h)
  gives_lowers [] y (Ready None ∷ l) h = gives_lowers [] y l h.1
  gives_lowers [] y (a ∷ l) h = cc
  gives_lowers (b ∷ x) y (a ∷ l) h =
      Lowers-below (a ∷ l) _ _ (Below-one (Lowers-at_most l _ _ (gives_lowers x y l h.1)) (omega arith))

  pub script_laws : StreamLaws (λ _. ⊤) (GivesScript {A = A}) NoHint
  script_laws =
      record {
        rests = λ x. refl;
        stays = λ x y h. h;
        follows = gives_follow;
        bounded = λ x y hint l e h. same_hint hint (0, None) l e tt;
        polls_on = λ x y l c h. tt;
      }

  -- The results of a list in order, and then ends of stream.
  abbrev Emits : List (Option A) → List (Option A) → Type 0
  Emits s [] = ⊤
  Emits [] (a ∷ l) = (a ≡ None) × Emits [] l
  Emits (b ∷ s) (a ∷ l) = (a ≡ b) × Emits s l

  gives_emits : (x y l : List (Answer A)) → GivesScript x l y → Emits (strip x) (strip l)
  gives_emits x y [] h = tt
  gives_emits [] y (a ∷ l) h = rw h.0 (refl, gives_emits [] y l h.1)
  gives_emits (Pending ∷ x) y (a ∷ l) h = rw h.0 (gives_emits x y l h.1)
  gives_emits (Ready b ∷ x) y (a ∷ l) h = rw h.0 (refl, gives_emits x y l h.1)

  emits_same : (s l m : List (Option A)) → Emits s l → Emits s m → Comparable l m
  emits_same [] (a ∷ l) (b ∷ m) h k = (h.0 ∙ sym k.0, emits_same [] l m h.1 k.1)
  emits_same (c ∷ s) (a ∷ l) (b ∷ m) h k = (h.0 ∙ sym k.0, emits_same s l m h.1 k.1)
  emits_same s l m h k = tt

  -- Two of them are alike, if their lists differ in `Pending`s alone.
  pub gives_steady : Steadiness (GivesScript {A = A}) (λ x y. strip x ≡ strip y)
  gives_steady x y e l m x' y' h k =
      emits_same _ _ _ (gives_emits x x' l h) (rw e (gives_emits y y' m k))

  gives_no_pending : (x y l : List (Answer A)) → NoPending x → GivesScript x l y → NoPending l × NoPending y
  gives_no_pending x y [] k h = rw h (tt, k)
  gives_no_pending [] y (a ∷ l) k h = rw h.0 (gives_no_pending [] y l k h.1)
  gives_no_pending (Pending ∷ x) y (a ∷ l) k h = absurd k
  gives_no_pending (Ready b ∷ x) y (a ∷ l) k h = rw h.0 (gives_no_pending x y l k h.1)

  -- A list without `Pending`s is calm.
  pub gives_calm : CalmLaws (GivesScript {A = A}) NoPending
  gives_calm = calm_both gives_no_pending
