-- The items of `copied`, by those of its source.
use Rattle.std.specs.Prelude.{List, map, refl}
use Rattle.lite_views.specs.Uses.{Answer, Always, Runs, Exchanges}
use Rattle.lite_stream.specs.Copied.{CopiesAll, CopiesItem, copied_parts}
use Rattle.lite_stream.specs.declared.copied.Copied.{Copied}
use Rattle.std.proofs.Common.{Bor}
use Rattle.lite_views.proofs.Views.{listed_through}
use Rattle.lite_views.specs.Views.{Lists, ListsAs}
use Rattle.lite_views.proofs.Map.{mapped_fits}

pub copied_lists : {S A : Type 0} (run : Runs (Answer (Bor A)) S) (x : Copied S) (xs : List (Bor A))
    → Lists run x.stream xs → ListsAs (CopiesAll run) x (map (λ y. y.now) xs)
copied_lists {A} run x xs lists =
    listed_through copied_parts run (Exchanges (Always CopiesItem)) x xs (map (λ y. y.now) xs) lists
    (mapped_fits CopiesItem tt (λ y. y.now) (λ y z q c. (refl, c)) xs)
