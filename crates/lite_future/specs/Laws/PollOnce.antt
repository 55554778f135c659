-- Laws of `poll_once`.
use Rattle.std.specs.Prelude.{⊤, ◌≤◌, List, [], ◌∷◌, ◌++◌, length, Option, refl}
use Rattle.lite_future.specs.Uses.{subst, sym, arith, Poll, Ready, Pending, Waiting, strip, CalmLaws, NoPending, calm_both, FutureLaws, WaitsOn, Runs}
use Rattle.lite_future.specs.PollOnce.{GivesFirst}
use Rattle.lite_future.specs.declared.poll_once.PollOnce.{PollOnce}

module _ {F A : Type 0} (run : Runs (Poll A) F) where
  tells_follow : (x y z : PollOnce F) (l m : List (Poll (Option A))) → Waiting l → GivesFirst run x l y
      → GivesFirst run y m z → GivesFirst run x (l ++ m) z
  tells_follow x y z [] m w h k = subst (λ t. GivesFirst run t m z) h k
  tells_follow x y z (Pending ∷ l) m w h k = absurd (let e = h.2 in cc)
  tells_follow x y z (Ready b ∷ l) m w h k = absurd w

  tells_once : (x y : PollOnce F) (l : List (Poll (Option A))) → GivesFirst run x l y → length (strip l) ≤ 1
  tells_once x y [] h = omega arith
  tells_once x y (Pending ∷ l) h = absurd (let e = h.2 in cc)
  tells_once x y (Ready b ∷ l) h = rw h.3 (omega arith)

  tells_on : (can_poll : F → Type 0) → WaitsOn (λ (x : PollOnce F). can_poll x.f) (GivesFirst run)
  tells_on can_poll x y [] w c h = subst (λ (t : PollOnce F). can_poll t.f) (sym h) c
  tells_on can_poll x y (Pending ∷ l) w c h = absurd (let e = h.2 in cc)
  tells_on can_poll x y (Ready b ∷ l) w c h = absurd w

  tells_no_pending : (x y : PollOnce F) (l : List (Poll (Option A))) → GivesFirst run x l y → NoPending l
  tells_no_pending x y [] h = tt
  tells_no_pending x y (Pending ∷ l) h = absurd (let e = h.2 in cc)
  tells_no_pending x y (Ready b ∷ l) h = rw h.3 tt

  pub tells_calm : CalmLaws (GivesFirst run) (λ x. ⊤)
  tells_calm = calm_both (λ x y l k h. (tells_no_pending x y l h, tt))

  pub tells_laws : (can_poll : F → Type 0) → FutureLaws (λ x. can_poll x.f) (GivesFirst run)
  tells_laws can_poll =
      record {
        rests = λ x. refl;
        stays = λ x y h. h;
        follows = tells_follow;
        once = tells_once;
        waits_on = tells_on can_poll;
      }
