-- The items of `fuse`, by those of its source.
use Rattle.std.specs.Prelude.{◌≡◌, List, [], ◌∷◌, refl, true, false}
use Rattle.lite_views.specs.Uses.{Fuse, append-nil, Answer, end, Runs, FusesOn}
use Rattle.lite_stream.specs.Fuse.{Fuses, fuse_parts}
use Rattle.lite_views.proofs.Views.{Carries, listed_through}
use Rattle.lite_views.specs.Views.{Lists, ListsAs}
use Rattle.lite_views.proofs.Continuing.{continued_fits}

module _ {A : Type 0} where
  fused_fits : (xs : List A) → Carries FusesOn false xs xs
  fused_fits xs i o false e h = rw h.0 e
  fused_fits xs i o true e h =
      rw (h.4, ← append-nil xs) (continued_fits h.0 (end ∷ h.1) xs [] h.3 (rw h.2 at e) refl)

pub fused_lists : {S A : Type 0} (run : Runs (Answer A) S) (x : Fuse S) (xs : List A) → (x.done ≡ false)
    → Lists run x.stream xs → ListsAs (Fuses run) x xs
fused_lists run x xs first lists =
    listed_through fuse_parts run FusesOn x xs xs lists (rw first (fused_fits xs))
