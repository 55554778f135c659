-- The items of `bytes` of a reader of which it is known what bytes are to come.
use Rattle.lite_views.proofs.Views.{listed}
use Rattle.std.specs.Prelude.{ℕ, List, [], ◌∷◌, map, Some, None, Result, Ok}
use Rattle.lite_views.specs.Uses.{ap, Error, Ready, Pending, Answer, Runs, ReadsKnown, Known, Knows, knows_spends, ReadMark}
use Rattle.lite_read.specs.Bytes.{GivesBytes, GivesEach}
use Rattle.lite_read.specs.declared.bytes.Bytes.{Bytes}
use Rattle.lite_views.specs.Views.{Fits, ListsAs}

bytes_fit : (marks : List ReadMark) (out : List (Answer (Result ℕ Error))) (bs ys : List ℕ) → GivesEach marks out
    → ReadsKnown bs marks ys → Fits out (map Ok bs)
bytes_fit [] [] bs ys t h = tt
bytes_fit (ReadMark.byte b ∷ marks) (Ready (Some (Ok x)) ∷ out) bs ys t h =
    rw h.1 (ap Ok t.0, bytes_fit marks out h.0 ys t.1 h.2)
bytes_fit (ReadMark.pending ∷ marks) (Pending ∷ out) bs ys t h = bytes_fit marks out bs ys t.1 h
bytes_fit (ReadMark.fault kind ∷ marks) (a ∷ out) bs ys t h = absurd h
bytes_fit (ReadMark.end ∷ marks) (Ready None ∷ out) bs ys t h = ap (map Ok) h.0
bytes_fit (_ ∷ marks) (_ ∷ out) bs ys t h = absurd t.0
bytes_fit _ _ bs ys t h = absurd t

pub bytes_lists : {R : Type 0} (reads : Runs ReadMark R) (known : Known R) (x : Bytes R)
    → Knows reads known x.inner → ListsAs (GivesBytes reads) x (map Ok (known.left x.inner))
bytes_lists reads known x knows =
    listed (GivesBytes reads) x (map Ok (known.left x.inner))
    (λ l y r. bytes_fit r.marks l (known.left x.inner) (known.left y.inner) r.told
    (knows_spends reads known x.inner y.inner r.marks knows r.came))
