-- What a half counts of one call, by the answer to it.
use Rattle.std.specs.Prelude.{◌≡◌, ℕ, List, length, Option, Some, None, Result, Ok, Err}
use Rattle.lite_halves.specs.Uses.{Error, Pending, Poll, Ready, CountsWithin, arith, count_of, length-take-le, refl}
use Rattle.lite_halves.specs.declared.entry.Answer.{Answer}
use Rattle.lite_halves.specs.declared.entry.DoneCall.{DoneCall}
use Rattle.lite_halves.specs.declared.entry.DoneCall.TheVariants.{Close as Closes, Flush as Flushes}
use Rattle.lite_halves.specs.Counts.{CountsOn, CountsOrNone, HalfCounts, Makes, moved_by}
use Rattle.lite_halves.specs.Entry.{FitsCall, Request, done_asked, done_note, read_note, told_of, told_of_done}
use Rattle.lite_halves.specs.Entry.{told_of_read, told_of_write, write_note}
use Rattle.lite_halves.specs.Laws.Entry.{done_fits, read_note_fits, write_note_fits}

moved_read : (r : Poll (Result ℕ Error)) (buf : List ℕ) → CountsWithin r (length buf)
    → moved_by (told_of_read r buf) ≡ count_of r
moved_read (Ready (Ok n)) buf within = omega (arith, length-take-le n buf within)
moved_read (Ready (Err e)) buf within = refl
moved_read Pending buf within = refl

moved_write : (r : Poll (Result ℕ Error)) → moved_by (told_of_write r) ≡ count_of r
moved_write (Ready (Ok n)) = omega arith
moved_write (Ready (Err e)) = refl
moved_write Pending = refl

moved_done : (r : Poll (Result (Unit {0}) Error)) → moved_by (told_of_done r) ≡ 0
moved_done (Ready (Ok u)) = refl
moved_done (Ready (Err e)) = refl
moved_done Pending = refl

done_call_fits : (call : DoneCall) (r : Poll (Result (Unit {0}) Error)) → FitsCall (done_asked call) (told_of_done r)
done_call_fits Flushes r = done_fits r
done_call_fits Closes r = done_fits r

module _ (a b : HalfCounts) where
  pub read_counted : (r : Poll (Result ℕ Error)) (buf filled : List ℕ) (n : ℕ) (answer : Answer) → length buf ≡ n
      → CountsWithin r (length buf) → CountsOn 1 (count_of r) a b → Makes a (read_note r buf) b → filled ≡ buf
      → told_of answer ≡ told_of_read r filled → CountsOrNone a (Request.room n) (Some answer) b
  read_counted r buf filled n answer fits within counts makes same told =
      rw (told, same, ← fits) ((counts.0, rw (moved_read r buf within) counts.1), makes, read_note_fits r buf within)

  pub write_counted : (r : Poll (Result ℕ Error)) (xs : List ℕ) (asked : Request) (answer : Answer)
      → asked ≡ Request.offer xs → CountsWithin r (length xs) → CountsOn 1 (count_of r) a b
      → Makes a (write_note r xs) b → told_of answer ≡ told_of_write r → CountsOrNone a asked (Some answer) b
  write_counted r xs asked answer is within counts makes told =
      rw (told, is) ((counts.0, rw (moved_write r) counts.1), makes, write_note_fits r xs within)

  pub done_counted : (call : DoneCall) (r : Poll (Result (Unit {0}) Error)) (asked : Request) (answer : Answer)
      → asked ≡ done_asked call → CountsOn 1 0 a b → Makes a (done_note call r) b → told_of answer ≡ told_of_done r
      → CountsOrNone a asked (Some answer) b
  done_counted call r asked answer is counts makes told =
      rw (told, is) ((counts.0, rw (moved_done r) counts.1), makes, done_call_fits call r)

  pub none_counted : (asked : Request) (made : Option Answer) → made ≡ None → b ≡ a → CountsOrNone a asked made b
  none_counted asked made is same = rw is same
