-- What the books of the two sides hold once a call has added its entry.
use Rattle.std.specs.Prelude.{◌≡◌, ◌+◌, ◌<◌, ◌^◌, ℕ, List, [], ◌∷◌, length, Option, Some, Result, Ok, Err}
use Rattle.lite_halves.specs.Uses.{Error, Pending, Poll, Ready, CountsWithin, ReadMark, Runs, WriteMark, ap, arith, count_of, length-take-le}
use Rattle.lite_halves.specs.Uses.{refl, sum_by, sum_by-append, ◌∙◌}
use Rattle.lite_halves.specs.declared.entry.DoneCall.{DoneCall}
use Rattle.lite_halves.specs.declared.entry.DoneCall.TheVariants.{Flush, Close}
use Rattle.lite_halves.specs.declared.journalled.tally.Side.{Side}
use Rattle.lite_halves.specs.declared.journalled.tally.Side.TheVariants.{Reading, Writing}
use Rattle.lite_halves.specs.Counts.{HalfCounts, SideCounts, booked, booked_in, bytes_by, calls_by, counted_in, numbers_of}
use Rattle.lite_halves.specs.Entry.{Note, done_note, read_note, write_note}
use Rattle.lite_halves.specs.Journal.{Adds, Chronicle}
use Rattle.lite_halves.proofs.Noted.{call_fits}

-- the entry is a call of this side and not of the other, and it moved n bytes
pub record Belongs (side other : Side) (e : Note) (n : ℕ) : Type 0 where
  pub one : calls_by side e ≡ 1
  pub moved : bytes_by side e ≡ n
  pub none : calls_by other e ≡ 0
  pub nothing : bytes_by other e ≡ 0

pub read_belongs : (r : Poll (Result ℕ Error)) (buf : List ℕ) → CountsWithin r (length buf)
    → Belongs Reading Writing (read_note r buf) (count_of r)
read_belongs (Ready (Ok n)) buf within =
    record { one = refl; moved = length-take-le n buf within; none = refl; nothing = refl }
read_belongs (Ready (Err e)) buf within = record { one = refl; moved = refl; none = refl; nothing = refl }
read_belongs Pending buf within = record { one = refl; moved = refl; none = refl; nothing = refl }

pub write_belongs : (r : Poll (Result ℕ Error)) (xs : List ℕ) → Belongs Writing Reading (write_note r xs) (count_of r)
write_belongs (Ready (Ok n)) xs = record { one = refl; moved = refl; none = refl; nothing = refl }
write_belongs (Ready (Err e)) xs = record { one = refl; moved = refl; none = refl; nothing = refl }
write_belongs Pending xs = record { one = refl; moved = refl; none = refl; nothing = refl }

done_told : (call : DoneCall) (r : Poll (Result (Unit {0}) Error)) → calls_by Writing (done_note call r) ≡ 1
    → calls_by Reading (done_note call r) ≡ 0 → Belongs Writing Reading (done_note call r) 0
done_told call (Ready (Ok u)) one none = record { one = one; moved = refl; none = none; nothing = refl }
done_told call (Ready (Err e)) one none = record { one = one; moved = refl; none = none; nothing = refl }
done_told call Pending one none = record { one = one; moved = refl; none = none; nothing = refl }

pub done_belongs : (call : DoneCall) (r : Poll (Result (Unit {0}) Error)) → Belongs Writing Reading (done_note call r) 0
done_belongs Flush r = done_told Flush r refl refl
done_belongs Close r = done_told Close r refl refl

module _ {T : Type 0} (reads : Runs ReadMark T) (writes : Runs WriteMark T) (o : Option (Chronicle T))
    (a b : Chronicle T) (e : Note) (there : o ≡ Some a) (added : Adds reads writes a e b) where
  books_hold : (side : Side) (old new : SideCounts) → old ≡ booked_in side o → new.calls ≡ old.calls + calls_by side e
      → new.bytes ≡ old.bytes + bytes_by side e → new ≡ booked (counted_in side b.notes)
  books_hold side old new is calls bytes =
      let was = is ∙ ap (booked_in side) there in
      let more : new.calls ≡ sum_by (calls_by side) b.notes + 1 = omega (
        arith,
        calls,
        ap (λ (s : SideCounts). s.calls) was,
        ap (sum_by (calls_by side)) added.notes,
        sum_by-append (calls_by side) a.notes (e ∷ []),
      ) in
      let moved : new.bytes ≡ sum_by (bytes_by side) b.notes = omega (
        arith,
        bytes,
        ap (λ (s : SideCounts). s.bytes) was,
        ap (sum_by (bytes_by side)) added.notes,
        sum_by-append (bytes_by side) a.notes (e ∷ []),
      ) in
      λ i. record { calls = more i; bytes = moved i }

  module _ {side other : Side} {n : ℕ} (belongs : Belongs side other e n) where
    -- the books of the call's side
    pub own_books : (m : ℕ) (old new : SideCounts) → old ≡ booked_in side o → m ≡ n
        → (new.calls ≡ old.calls + 1) × (new.bytes ≡ old.bytes + m) → new ≡ booked (counted_in side b.notes)
    own_books m old new is same counts =
        books_hold side old new is (omega (arith, counts.0, belongs.one)) (omega (arith, counts.1, same, belongs.moved))

    -- the books of the other side
    pub other_books : (books : SideCounts) → books ≡ booked_in other o → books ≡ booked (counted_in other b.notes)
    other_books books is =
        books_hold other books books is (omega (arith, belongs.none)) (omega (arith, belongs.nothing))

    -- the tally of the call's side has room for it
    pub tally_fits : (books : SideCounts) (old tally : HalfCounts) → books ≡ booked_in side o
        → books ≡ booked (numbers_of old) → tally ≡ old → length b.notes < 2 ^ 64 → tally.calls + 1 < 2 ^ 64
    tally_fits books old tally is whole same small =
        omega (
          arith,
          call_fits side a.notes b.notes e added.notes belongs.one small,
          ap (λ (s : SideCounts). s.calls) (is ∙ ap (booked_in side) there),
          ap (λ (s : SideCounts). s.calls) whole,
          ap (λ (t : HalfCounts). t.calls) same,
        )
