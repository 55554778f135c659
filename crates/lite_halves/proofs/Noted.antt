-- A journal with one entry more.
use Rattle.std.specs.Prelude.{◌≡◌, ◌≤◌, ◌+◌, ℕ, List, [], ◌∷◌, ◌++◌, ◌<◌, ◌^◌, length, Option, Some, None}
use Rattle.lite_halves.specs.Uses.{◌∙◌, ap, arith, sym, refl, subst, map-append, Part, PartRuns, ReadMark, WriteMark, Runs, sum_by-append, sum_by-cons, sum_by}
use Rattle.lite_halves.specs.declared.entry.Answer.{Answer}
use Rattle.lite_halves.specs.declared.entry.Entry.{Entry}
use Rattle.lite_halves.specs.Drive.{AddsOrNone}
use Rattle.lite_halves.specs.Entry.{FitsCall, Note, asked_of, note_of, notes_in, part_of, told_of, Request}
use Rattle.lite_halves.specs.Journal.{Adds, AsksMemory, Chronicle, IsSound}
use Rattle.lite_halves.specs.Laws.Journal.{adds_one, sound_more}
use Rattle.lite_halves.specs.declared.journalled.tally.Side.{Side}
use Rattle.lite_halves.specs.declared.journalled.tally.Side.TheVariants.{Reading, Writing}
use Rattle.lite_halves.specs.Counts.{calls_by, counted_in, one_if_read, one_if_write}

notes_in-push : (es fs gs : List Entry) (e : Entry) (n : Note) → fs ≡ es → gs ≡ fs ++ e ∷ [] → asked_of e.call ≡ n.asked
    → told_of e.answer ≡ n.told
    → notes_in gs ≡ notes_in es ++ n ∷ []
notes_in-push es fs gs e n same pushed asked told =
    let is : note_of e ≡ n = λ i. record { asked = asked i; told = told i } in
    ap notes_in pushed ∙ map-append note_of fs (e ∷ []) ∙ ap (λ (l : List Entry). notes_in l ++ note_of e ∷ []) same
    ∙ ap (λ (m : Note). notes_in es ++ m ∷ []) is

module _ {T : Type 0} (reads : Runs ReadMark T) (writes : Runs WriteMark T) where
  -- a call that ran by the marks of its entry, which was pushed
  pub adds_push : {start stream next : T} {es fs gs : List Entry} {room rest : ℕ} (e : Entry) (n : Note) {p : Part}
      → fs ≡ es → gs ≡ fs ++ e ∷ [] → asked_of e.call ≡ n.asked → told_of e.answer ≡ n.told → FitsCall n.asked n.told
      → part_of n.asked n.told ≡ p → PartRuns reads writes stream p next → room ≤ rest + 1
      → Adds reads writes (record { start = start; notes = notes_in es; stream = stream; room = room }) n
      (record { start = start; notes = notes_in gs; stream = next; room = rest })
  adds_push {stream = stream} {next = next} {es = es} {fs = fs} {gs = gs} e n same pushed asked told fits is ran left =
      record {
        fits = fits;
        start = refl;
        notes = notes_in-push es fs gs e n same pushed asked told;
        ran = subst (λ w. PartRuns reads writes stream w next) (sym is) ran;
        room = left;
      }

  -- a sound journal is sound after such a call
  pub sound_push : {start stream next : T} {es fs gs : List Entry} {room rest : ℕ} (copies : T → T → Type 0) (e : Entry)
      (n : Note) {p : Part}
      → IsSound reads writes copies (record { start = start; notes = notes_in es; stream = stream; room = room })
      → fs ≡ es → gs ≡ fs ++ e ∷ [] → asked_of e.call ≡ n.asked → told_of e.answer ≡ n.told → FitsCall n.asked n.told
      → part_of n.asked n.told ≡ p → PartRuns reads writes stream p next → room ≤ rest + 1
      → IsSound reads writes copies (record { start = start; notes = notes_in gs; stream = next; room = rest })
  sound_push {start} {stream} {next} {es} {fs} {gs} {room} {rest} copies e n sound same pushed asked told fits is ran left =
      let a : Chronicle T = record { start = start; notes = notes_in es; stream = stream; room = room } in
      let b : Chronicle T = record { start = start; notes = notes_in gs; stream = next; room = rest } in
      let adds : Adds reads writes a n b = adds_push e n same pushed asked told fits is ran left in
      sound_more reads writes copies a b (n ∷ []) sound (adds_one reads writes adds)

module _ {T : Type 0} (reads : Runs ReadMark T) (writes : Runs WriteMark T) where
  -- a call that was made once there was room for its entry
  pub adds_after : (a m b : Chronicle T) (e : Note) → m ≡ record a { room = m.room } → a.room ≤ m.room
      → Adds reads writes m e b → Adds reads writes a e b
  adds_after a m b e same more h =
      let P : T → Type 0 = λ s. PartRuns reads writes s (part_of e.asked e.told) b.stream in
      record {
        fits = h.fits;
        start = h.start ∙ ap (λ (j : Chronicle T). j.start) same;
        notes = h.notes ∙ ap (λ (j : Chronicle T). j.notes ++ e ∷ []) same;
        ran = subst P (ap (λ (j : Chronicle T). j.stream) same) h.ran;
        room = omega (arith, h.room, more);
      }

  -- an entry by the answer that was made of its result
  pub answer_adds : (a b : Chronicle T) (asked : Request) (answer : Answer) (n : Note) → Adds reads writes a n b
      → asked ≡ n.asked → told_of answer ≡ n.told → AddsOrNone reads writes a asked (Some answer) b
  answer_adds a b asked answer n h is told = rw (is, told) h

  -- an allocation failed
  pub none_adds : (a b : Chronicle T) (asked due : Request) (made : Option Answer) → made ≡ None → b ≡ a → asked ≡ due
      → AsksMemory a due → AddsOrNone reads writes a asked made b
  none_adds a b asked due made none same is asks = rw none (same, rw is asks)

-- Calls of one side are no more than all entries.

read_le_one : (a : Request) → one_if_read a ≤ 1
read_le_one (Request.room n) = omega arith
read_le_one (Request.offer xs) = omega arith
read_le_one Request.flush = omega arith
read_le_one Request.close = omega arith

write_le_one : (a : Request) → one_if_write a ≤ 1
write_le_one (Request.room n) = omega arith
write_le_one (Request.offer xs) = omega arith
write_le_one Request.flush = omega arith
write_le_one Request.close = omega arith

calls_by-le : (side : Side) (e : Note) → calls_by side e ≤ 1
calls_by-le Reading e = read_le_one e.asked
calls_by-le Writing e = write_le_one e.asked

pub counted_in-le : (side : Side) (es : List Note) → (counted_in side es).calls ≤ length es
counted_in-le side [] = omega arith
counted_in-le side (e ∷ es) = omega (arith, calls_by-le side e, counted_in-le side es, sum_by-cons (calls_by side) e es)

-- with a call more there is room for its count
pub call_fits : (side : Side) (es fs : List Note) (e : Note) → fs ≡ es ++ e ∷ [] → calls_by side e ≡ 1
    → length fs < 2 ^ 64
    → (counted_in side es).calls + 1 < 2 ^ 64
call_fits side es fs e is one fits =
    omega (
      arith,
      fits,
      one,
      counted_in-le side fs,
      ap (sum_by (calls_by side)) is,
      sum_by-append (calls_by side) es (e ∷ []),
    )
