-- A clone of an entry says what the entry says.
use Rattle.std.specs.Prelude.{◌≡◌, List, [], ◌∷◌}
use Rattle.lite_halves.specs.Uses.{ap, refl}
use Rattle.std.specs.List.{AllZip, each_same}
use Rattle.lite_halves.specs.declared.entry.Entry.{Entry}
use Rattle.lite_halves.specs.declared.entry.Call.{Call}
use Rattle.lite_halves.specs.declared.entry.Call.TheVariants.{Read, Write, Flush, Close}
use Rattle.lite_halves.specs.declared.entry.Answer.{Answer}
use Rattle.lite_halves.specs.declared.entry.Answer.TheVariants.{Pending, Read as WasRead, Wrote, Done, Fault}
use Rattle.lite_halves.specs.contracts.entry.AnswerClone.TheImpl as OfAnswers
use Rattle.lite_halves.specs.contracts.entry.CallClone.TheImpl as OfCalls
use Rattle.lite_halves.specs.contracts.entry.EntryClone.TheImpl as OfEntries
use Rattle.lite_halves.specs.Entry.{Request, Told, asked_of, note_of, notes_in, told_of}

answer_clone : (x y : Answer) → OfAnswers.is_clone-value.it x y → told_of y ≡ told_of x
answer_clone Pending Pending h = refl
answer_clone (WasRead x) (WasRead y) h = ap Told.got (each_same x.items y.items h.0)
answer_clone (Wrote m) (Wrote n) h = ap Told.took h
answer_clone Done Done h = refl
answer_clone (Fault k) (Fault l) h = ap Told.fault h
answer_clone _ _ h = absurd h

pub call_clone : (x y : Call) → OfCalls.is_clone-value.it x y → asked_of y ≡ asked_of x
call_clone (Read m) (Read n) h = ap Request.room h
call_clone (Write x) (Write y) h = ap Request.offer (each_same x.items y.items h.0)
call_clone Flush Flush h = refl
call_clone Close Close h = refl
call_clone _ _ h = absurd h

entry_clone : (x y : Entry) → OfEntries.is_clone-value.it x y → note_of y ≡ note_of x
entry_clone x y h = λ i. record { asked = call_clone x.call y.call h.0 i; told = answer_clone x.answer y.answer h.1 i }

pub entries_clone : (xs ys : List Entry) → AllZip OfEntries.is_clone-value.it xs ys → notes_in ys ≡ notes_in xs
entries_clone [] [] h = refl
entries_clone [] (y ∷ ys) h = absurd h
entries_clone (x ∷ xs) [] h = absurd h
entries_clone (x ∷ xs) (y ∷ ys) h = λ i. entry_clone x y h.0 i ∷ entries_clone xs ys h.1 i
