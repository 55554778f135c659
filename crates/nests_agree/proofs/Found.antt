-- Two values of futures that are alike, where neither is a refusal.
use Rattle.std.proofs.Common.{◌≡◌, ◌∙◌, List, [], ◌∷◌, Result, Ok, Err, sym, Global}
use Rattle.std.specs.List.{AllZip}
use Rattle.std.specs.Prelude.{⊤, IfOk}
use Rattle.std.specs.declared.io.Error.{Error}
use Rattle.std.specs.declared.string.String.{String}
use Rattle.futures.specs.declared.task.Poll.{Poll}
use Rattle.lite_base.specs.Alike.{SameItem, SameList, Sameness}
use Rattle.lite_base.specs.Answers.{Answer}
use Rattle.lite_base.specs.Spent.{Finishes}
use Rattle.lite_base.specs.Runs.{Runs}
use Rattle.lite_gather.specs.Agreeing.{HoldsSame, HoldsSameBoth, SameCollected, TrySameCollected}
use Rattle.lite_gather.specs.declared.refused.TryCollectError.{TryCollectError}
use Rattle.lite_gather.specs.declared.refused.TryCollectError.TheVariants.{Source, Memory}
use Rattle.lite_io_base.specs.Marks.{ReadMark}
use Rattle.lite_base.specs.Steady.{TakesNone}
use Rattle.lite_laws.specs.Both.{OneValue}
use Rattle.lite_read.proofs.Refusals.{lines_ample}
use Rattle.lite_read.specs.Lines.{GivesLines}
use Rattle.lite_read.specs.NoneRefused.{NoneRefused, NotRefused}
use Rattle.lite_read.specs.declared.lines.Lines.{Lines}
use Rattle.lite_stream.specs.Laws.Cutting.{cuts_each}
use Rattle.lite_stream.specs.Take.{Takes, is_none_left, left_after}
use Rattle.lite_stream.specs.Through.{Through, Relates}
use Rattle.lite_stream.specs.declared.take.Take.{Take}

-- what came out of an adapter comes out by any run that gave what came in
pub through_from : {S F A B : Type 0} {run other : Runs (Answer A) S}
    {relates : Relates F A B} {s t : S} {f g : F} {out : List (Answer B)}
    → (h : Through run relates s f out t g) → other s h.ins t → Through other relates s f out t g
through_from h came = record { ins = h.ins; came = came; related = h.related }

-- each value that is such was given in a run in which memory was found
pub both_found : {F A E : Type 0} (same : Sameness A) {want : A → A → Type 0} {run ample : Runs (Poll A) F}
    {may : A → Type 0} (needs_none : Type 0) (x y : F)
    → ((z : F) (l : List (Poll A)) (v : A) → may v → Finishes run z l v → Finishes ample z l v)
    → ((v w : A) → SameItem same v w → want v w)
    → (r : Result (A × A) E) → IfOk r (λ vs. OneValue same run ample needs_none x vs.0 y vs.1)
    → IfOk r (λ vs. may vs.0 → may vs.1 → want vs.0 vs.1)
both_found same needs_none x y found wanted (Ok vs) h =
    λ m n. wanted vs.0 vs.1 (h.found (found x h.ins vs.0 m h.first) (found y h.others vs.1 n h.second))
both_found same needs_none x y found wanted (Err e) h = tt

module _ {C : Type 0} {same want : C → C → Type 0} (wanted : (c d : C) → same c d → want c d) where
  pub gathered_as : {E : Type 0} (v w : Result C E) → SameCollected same v w → SameCollected want v w
  gathered_as (Ok c) (Ok d) h = wanted c d h
  gathered_as (Ok c) (Err e) h = h
  gathered_as (Err e) (Ok c) h = h
  gathered_as (Err e) (Err f) h = h

  pub try_gathered_as : {T E : Type 0} (fails : E → E → Type 0) (v w : Result C (TryCollectError C T E))
      → TrySameCollected same fails v w → TrySameCollected want fails v w
  try_gathered_as fails (Ok c) (Ok d) h = wanted c d h
  try_gathered_as fails (Ok c) (Err e) h = h
  try_gathered_as fails (Err (Source e)) (Ok c) h = h
  try_gathered_as fails (Err (Source e)) (Err (Source f)) h = h
  try_gathered_as fails (Err (Source e)) (Err (Memory f)) h = h
  try_gathered_as fails (Err (Memory e)) (Ok c) h = h
  try_gathered_as fails (Err (Memory e)) (Err (Source f)) h = h
  try_gathered_as fails (Err (Memory e)) (Err (Memory f)) h = h

-- items that are the same one by one are the same in a wider sense
pub all_zip_as : {T : Type 0} {same want : T → T → Type 0} → ((x y : T) → same x y → want x y) → (l m : List T)
    → AllZip same l m → AllZip want l m
all_zip_as wider [] [] h = tt
all_zip_as wider [] (y ∷ m) h = absurd h
all_zip_as wider (x ∷ l) [] h = absurd h
all_zip_as wider (x ∷ l) (y ∷ m) h = (wider x y h.0, all_zip_as wider l m h.1)

-- collections that hold lists that are the same, where what they hold is their items
pub same_items : {C T : Type 0} (same : Sameness T) (items : C → List T) (c d : C)
    → HoldsSame same (λ v l. items v ≡ l) c d → SameList same (items c) (items d)
same_items Sameness.equal items c d h = h.1 ∙ sym h.2
same_items (Sameness.by same) items c d h = rw (h.2, h.3) h.4

pub both_items : {C T : Type 0} (same : Sameness T) (items : C → List T) (c d : C × C)
    → HoldsSameBoth same same (λ v l. items v ≡ l) (λ v l. items v ≡ l) c d
    → SameList same (items c.0) (items d.0) × SameList same (items c.1) (items d.1)
both_items same items c d h = (same_items same items c.0 d.0 h.0, same_items same items c.1 d.1 h.1)

-- the lines of a reader that asks for no memory, up to a number of them
module _ {R : Type 0} {reads ample : Runs ReadMark R} (all : TakesNone reads ample) where
  pub taken_ample : (x y : Take (Lines R)) (i : List (Answer (Result (String Global) Error))) → NoneRefused i
      → Takes (GivesLines reads ⊤) x i y → Takes (GivesLines ample ⊥) x i y
  taken_ample x y i none h =
      let before = cuts_each is_none_left left_after NotRefused x.n y.n h.ins i h.related none in
      through_from h (lines_ample all x.stream y.stream h.ins before h.came)
