-- Collections of lines that are no refusal of memory were made where memory was found.
use Rattle.std.proofs.Common.{◌≡◌, ◌∙◌, List, [], ◌∷◌, Global, Option, Result, Ok, Err, refl, ap, subst, sym}
use Rattle.std.specs.Prelude.{⊤, IsOk}
use Rattle.std.specs.IoError.{error_kind}
use Rattle.std.specs.List.{AllByRecursion}
use Rattle.std.specs.declared.io.Error.{Error}
use Rattle.std.specs.declared.string.String.{String}
use Rattle.std.specs.declared.vec.Vec.{Vec}
use Rattle.futures.specs.declared.task.Poll.{Poll}
use Rattle.futures.specs.declared.task.Poll.TheVariants.{Ready, Pending}
use Rattle.lite_base.specs.Answers.{Answer, item}
use Rattle.lite_base.specs.Spent.{Finishes}
use Rattle.lite_base.specs.Runs.{Runs}
use Rattle.lite_consume.specs.Consume.{Folds}
use Rattle.lite_consume.specs.Consuming.{fold_of}
use Rattle.lite_consume.specs.Laws.Agreeing.{finished_ample, part_within, within_itself}
use Rattle.lite_consume.specs.Laws.Consuming.{consumes_by}
use Rattle.lite_consume.specs.declared.consume.Consume.{Consume}
use Rattle.lite_gather.specs.Collect.{collects}
use Rattle.lite_gather.specs.Gathering.{NeverRefuses}
use Rattle.lite_gather.proofs.Ample.{FitsGathered, FitsTried, collect_each, collect_within, try_collect_each, try_collect_within}
use Rattle.lite_gather.specs.TryCollect.{tries_collect}
use Rattle.lite_gather.specs.TryCollect as try_values
use Rattle.lite_gather.specs.declared.collect.Collect.{Collect}
use Rattle.lite_gather.specs.declared.refused.Refused.{Refused}
use Rattle.lite_gather.specs.declared.refused.TryCollectError.{TryCollectError}
use Rattle.lite_gather.specs.declared.refused.TryCollectError.TheVariants.{Source, Memory}
use Rattle.lite_gather.specs.declared.try_collect.TryCollect.{TryCollect}
use Rattle.lite_io_base.specs.Marks.{ReadMark}
use Rattle.lite_base.specs.Steady.{TakesNone}
use Rattle.lite_read.specs.Lines.{GivesLines}
use Rattle.lite_read.specs.NoneRefused.{NoneRefused, NotRefused}
use Rattle.lite_read.specs.declared.lines.Lines.{Lines}
use Rattle.lite_stream.specs.Take.{Takes}
use Rattle.lite_stream.specs.declared.take.Take.{Take}
use Rattle.nests_agree.proofs.Found.{taken_ample}
use Rattle.nests_agree.specs.Lines.{EachFound, IsFound, WasFound}

abbrev Line : Type 0
Line = Result (String Global) Error

pub ok_found : {A : Type 0} (x : A) → NotRefused {A = A} (item (Ok x))
ok_found x e h k = cc h

found_item : {A : Type 0} (x : Result A Error) → IsFound x → NotRefused (item x)
found_item (Ok x) f d h k = ok_found x d h k
found_item (Err e) f d h k = let same : d ≡ e = cc h in f (ap error_kind (sym same) ∙ k)

each_item : {A : Type 0} (l : List (Result A Error)) → AllByRecursion IsFound l
    → AllByRecursion (λ x. NotRefused (item x)) l
each_item [] f = tt
each_item (x ∷ l) f = (found_item x f.0, each_item l f.1)

pub waiting_found : {A : Type 0} → NotRefused {A = A} Pending
waiting_found e h k = cc h

pub end_found : {A : Type 0} → NotRefused {A = A} (Ready Option.None)
end_found e h k = cc h

module _ {R : Type 0} {reads ample : Runs ReadMark R} (all : TakesNone reads ample) where
  module _ {C : Type 0} (may_refuse : C → String Global → Type 0) (holds : C → List (String Global) → Type 0) where
    abbrev Tried : Type 0
    Tried = Result C (TryCollectError C (String Global) Error)

    was_found : (v : Tried) → WasFound v → FitsTried may_refuse holds NotRefused v × try_values.HasMemory v
    was_found (Ok c) f = (tt, tt)
    was_found (Err (Source e)) f = (found_item (Err e) f, tt)
    was_found (Err (Memory m)) f = absurd f

    pub tried_found : (z : Consume (Take (Lines R)) (TryCollect C)) (l : List (Poll Tried)) (v : Tried) → WasFound v
        → Finishes (Folds (Takes (GivesLines reads ⊤)) (fold_of (λ f. f.items) (tries_collect may_refuse holds))) z l v
        → Finishes (Folds (Takes (GivesLines ample ⊥)) (fold_of (λ f. f.items) (tries_collect NeverRefuses holds))) z l v
    tried_found z l v m f =
        let fold = fold_of (λ (p : TryCollect C). p.items) (tries_collect {E = Error} may_refuse holds) in
        let fits = was_found v m in
        finished_ample NoneRefused (taken_ample all)
        (part_within (λ p. p.items) (try_collect_within may_refuse holds)) z l v fits.1
        (λ q i h.
        try_collect_each may_refuse holds NotRefused waiting_found end_found ok_found z.folder.items q.items i l v fits.0 f.gives
        (consumes_by (λ p. p.items) fold (tries_collect may_refuse holds) (within_itself fold tt) z.folder q i l
        (λ r g. tt) h)) f

-- where each answer that came before was found
module _ {S A : Type 0} {run found : Runs (Answer (Result A Error)) S}
    (told : (s t : S) (i : List (Answer (Result A Error))) → NoneRefused i → run s i t → found s i t) where
  abbrev Gathered : Type 0
  Gathered = Result (Vec (Result A Error) Global) (Refused (Vec (Result A Error) Global) (Result A Error))

  -- what may be refused
  module _ (may_refuse : Vec (Result A Error) Global → Result A Error → Type 0) where
    each_found : (v : Gathered) → EachFound v
        → FitsGathered may_refuse (λ (c : Vec (Result A Error) Global) i. c.items ≡ i) NotRefused v × IsOk v
    each_found (Ok c) f =
        (λ i e. subst (AllByRecursion (λ (x : Result A Error). NotRefused (item x))) e (each_item c.items f), refl)
    each_found (Err r) f = absurd f

    pub gathered_found : (z : Consume S (Collect (Vec (Result A Error) Global))) (l : List (Poll Gathered)) (v : Gathered)
        → EachFound v
        → Finishes (Folds run (fold_of (λ f. f.collection) (collects may_refuse (λ c i. c.items ≡ i)))) z l v
        → Finishes (Folds found (fold_of (λ f. f.collection) (collects NeverRefuses (λ c i. c.items ≡ i)))) z l v
    gathered_found z l v m f =
        let plain = collects {T = Result A Error} may_refuse (λ (c : Vec (Result A Error) Global) i. c.items ≡ i) in
        let fold = fold_of (λ (p : Collect (Vec (Result A Error) Global)). p.collection) plain in
        let fits = each_found v m in
        finished_ample NoneRefused told
        (part_within (λ p. p.collection) (collect_within may_refuse (λ c i. c.items ≡ i))) z l v fits.1
        (λ q i h.
        collect_each may_refuse (λ (c : Vec (Result A Error) Global) j. c.items ≡ j) NotRefused waiting_found end_found
        (λ c. (c.items, refl))
        z.folder.collection q.collection i l v fits.0 f.gives
        (consumes_by (λ p. p.collection) fold plain (within_itself fold tt) z.folder q i l (λ r g. tt) h)) f
