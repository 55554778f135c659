-- The lengths of lines among which no error is a refusal of memory are lengths of lines for which memory was found.
use Rattle.std.proofs.Common.{◌≡◌, ◌∙◌, ℕ, List, Option, Some, None, Result, Ok, Err, Bool, false, Global, ap, subst, sym}
use Rattle.std.specs.Prelude.{⊤}
use Rattle.std.specs.IoError.{error_kind}
use Rattle.std.specs.declared.io.Error.{Error}
use Rattle.std.specs.declared.string.String.{String}
use Rattle.futures.specs.declared.task.Poll.TheVariants.{Ready, Pending}
use Rattle.lite_base.specs.Answers.{Answer, item}
use Rattle.lite_base.specs.Calling.{Accepts, Always}
use Rattle.lite_base.specs.Runs.{Question, Runs}
use Rattle.lite_io_base.specs.Marks.{ReadMark}
use Rattle.lite_base.specs.Steady.{TakesNone}
use Rattle.lite_read.proofs.Refusals.{lines_ample}
use Rattle.lite_read.specs.Lines.{GivesLines}
use Rattle.lite_read.specs.NoneRefused.{NoneRefused, NotRefused}
use Rattle.lite_read.specs.declared.lines.Lines.{Lines}
use Rattle.lite_reshape.specs.Filter.{Filters}
use Rattle.lite_reshape.specs.Laws.Leaving.{leaves_each}
use Rattle.lite_reshape.specs.Leaving.{Passes}
use Rattle.lite_reshape.specs.declared.filter.Filter.{Filter}
use Rattle.lite_stream.specs.Laws.Cutting.{cuts_each}
use Rattle.lite_stream.specs.Laws.Pointwise.{exchanges_each}
use Rattle.lite_stream.specs.Map.{Maps}
use Rattle.lite_stream.specs.Take.{Takes, is_none_left, left_after}
use Rattle.lite_stream.specs.declared.map.Map.{Map}
use Rattle.lite_stream.specs.declared.take.Take.{Take}
use Rattle.nests_agree.proofs.Found.{through_from}
use Rattle.nests_agree.proofs.FoundLines.{end_found, ok_found, waiting_found}
use Rattle.nests_agree.specs.Lengths.{IsLength, IsTested}

measured_found : (x : Result (String Global) Error) (y : Result ℕ Error) → IsLength x y → NotRefused (item y)
    → NotRefused (item x)
measured_found (Ok s) y h n = ok_found s
measured_found (Err e) y h n = λ d same k. let is : e ≡ d = cc same in n e (ap item h) (ap error_kind is ∙ k)

rejected_found : (x : Result ℕ Error) → IsTested x false → NotRefused (item x)
rejected_found (Ok n) h = ok_found n
rejected_found (Err e) h = absurd (cc h)

module _ {R F P : Type 0} {reads ample : Runs ReadMark R} (all : TakesNone reads ample)
    (call : Question F (Result (String Global) Error) (Result ℕ Error))
    (test : Question P (Result ℕ Error) Bool)
    (answers : (f g : F) (x : Result (String Global) Error) (y : Result ℕ Error) → call f x y g → IsLength x y)
    (tests : (p q : P) (x : Result ℕ Error) (b : Bool) → test p x b q → IsTested x b) where
  abbrev Lengths : Type 0
  Lengths = Filter (Take (Map (Lines R) F)) P

  called : (f g : F) (x : Result (String Global) Error) (o : Option (Result ℕ Error)) → Always call f x o g
      → NotRefused (Ready o) → NotRefused (item x)
  called f g x None h n = absurd h
  called f g x (Some y) h n = measured_found x y (answers f g x y h) n

  passed : (p q : P) (a b : Answer (Result ℕ Error)) → Passes (Accepts test) p a b q → NotRefused b → NotRefused a
  passed p q a Pending h n = subst NotRefused (sym h.0) n
  passed p q a (Ready None) h n = subst NotRefused (sym h.0) n
  passed p q a (Ready (Some y)) h n = subst NotRefused (sym (h.1 ∙ ap item (sym h.2.0))) n

  pub lengths_ample : (x y : Lengths) (i : List (Answer (Result ℕ Error))) → NoneRefused i
      → Filters (Takes (Maps (GivesLines reads ⊤) call)) test x i y
      → Filters (Takes (Maps (GivesLines ample ⊥) call)) test x i y
  lengths_ample x y i none h =
      let few = h.came in
      let lengths = few.came in
      let kept = leaves_each (Accepts test) NotRefused NotRefused passed
      (λ p q z k. rejected_found z (tests p q z false k))
      x.predicate y.predicate h.ins i h.related none in
      let each = cuts_each is_none_left left_after NotRefused x.stream.n y.stream.n few.ins h.ins few.related kept in
      let lines = exchanges_each (Always call) NotRefused NotRefused (λ _. waiting_found) (λ _. end_found) called
      x.stream.stream.f y.stream.stream.f lengths.ins few.ins lengths.related each in
      through_from h
      (through_from few
      (through_from lengths
      (lines_ample all x.stream.stream.stream y.stream.stream.stream lengths.ins lines lengths.came)))
