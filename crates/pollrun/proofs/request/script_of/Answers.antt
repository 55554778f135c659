use Rattle.std.proofs.Common.{◌≡◌, ◌≤◌, ◌==◌, ℕ, ℤ, List, [], length, map, take, sym, ap, ◌∙◌, arith, Bor}
use Rattle.std.specs.Fmt.{signed_decimal}
use Rattle.std.specs.List.{join_with_byte, slice_split}
use Rattle.std.proofs.lemmas.List.Splits.{join_with_byte-slice_split, length-slice_split}
use Rattle.std.proofs.Math.ListN.{length-map}
use Rattle.std.proofs.lemmas.List.{length-take, take_all, take_more}
use Rattle.std.proofs.lemmas.Slice.Zip.{all_zipped_more}
use Rattle.lite_base.specs.Answers.{Answer}
use Rattle.pollrun.specs.Request.{IsScript, IsWritten}
use Rattle.pollrun.specs.Spelling.{spelled, spelled_list}
use Rattle.pollrun.proofs.Pieces.{AreSpelled, AreSpelled-from_zip, piece_spelled, slice_split-spelled_list}
use Rattle.pollrun.proofs.request.script_of.Goals as goal

-- where a word spells a script, its pieces are the answers, each spelled
pieces_spelled : (word : List ℕ) (pieces : List (Bor (List ℕ))) (l : List (Answer ℤ))
    → map (λ x. x.now) pieces ≡ take 1001 (slice_split (λ b. b == 44) word) → IsScript l
    → word ≡ spelled_list signed_decimal l → map (λ x. x.now) pieces ≡ map (spelled signed_decimal) l
pieces_spelled word pieces l cut script e =
    let parts : slice_split (λ b. b == 44) word ≡ map (spelled signed_decimal) l = ap (slice_split (λ b. b == 44)) e
    ∙ slice_split-spelled_list l script.some script.each in
    let long : length (map (spelled signed_decimal) l) ≡ length l = simp length-map in
    let few = script.few in
    cut ∙ ap (take 1001) parts ∙ take_all 1001 (map (spelled signed_decimal) l) (omega (arith, long, few))

-- fewer pieces than were asked for are all of them
all_pieces : (parts : List (List ℕ)) (pieces : List (Bor (List ℕ))) → map (λ x. x.now) pieces ≡ take 1001 parts
    → length pieces ≤ 1000 → map (λ x. x.now) pieces ≡ parts
all_pieces parts pieces cut few =
    let long : length (map (λ (x : Bor (List ℕ)). x.now) pieces) ≡ length pieces = simp length-map in
    let taken = length-take 1001 parts in
    let same = ap length cut in
    cut ∙ take_all 1001 parts (omega (arith, long, taken, same, few))

is_script : (word : List ℕ) (pieces : List (Bor (List ℕ))) (l : List (Answer ℤ))
    → map (λ x. x.now) pieces ≡ take 1001 (slice_split (λ b. b == 44) word) → AreSpelled (λ x. x.now) pieces l
    → length pieces ≤ 1000 → IsScript l × (word ≡ spelled_list signed_decimal l)
is_script word pieces l cut spell few =
    let whole = all_pieces (slice_split (λ b. b == 44) word) pieces cut few in
    let parts : slice_split (λ b. b == 44) word ≡ map (spelled signed_decimal) l = sym whole ∙ spell.as_written in
    let long = length-slice_split (λ (b : ℕ). b == 44) word in
    let long_in : length (map (λ (x : Bor (List ℕ)). x.now) pieces) ≡ length pieces = simp length-map in
    let long_out : length (map (spelled signed_decimal) l) ≡ length l = simp length-map in
    let same_in = ap length whole in
    let same_out = ap length parts in (
      record {
        some = omega (arith, long, long_out, same_out);
        few =
            omega (arith, few, long_in, long_out, same_in, same_out);
        each =
            spell.each;
      },
      sym (join_with_byte-slice_split 44 word) ∙ ap (join_with_byte 44) parts,
    )

pub returns-then-pieces-gt-MOST-clause-refused : goal.returns-then-pieces-gt-MOST-clause-refused
returns-then-pieces-gt-MOST-clause-refused c = λ _ l script e.
    let cut = rw (← c.as_slice-pieces.ensures.value) at c.in_ok-found.ensures in
    let same = pieces_spelled _ c.as_slice-pieces.result.now l cut script e in
    let few = script.few in
    absurd (omega (arith, few, simp length-map at (ap length same)))

pub returns-in_default-clause-refused : goal.returns-in_default-clause-refused
returns-in_default-clause-refused c = λ _ l script e.
    let cut = rw (← c.as_slice-pieces.ensures.value) at c.in_ok-found.ensures in
    let same = pieces_spelled _ c.as_slice-pieces.result.now l cut script e in
    let none : Bor (List ℕ) = record { ref_ptr = (0, 0); now = [] } in
    let piece = piece_spelled
    (λ x. x.now) c.as_slice-pieces.result.now l c.loop-piece.piece-index none same script.each c.loop-piece-test.true in
    c.in_default.ensures piece.0 piece.1 piece.2

pub loop-piece-preserved : goal.loop-piece-preserved
loop-piece-preserved c =
    let none : Bor (List ℕ) = record { ref_ptr = (0, 0); now = [] } in
    let longer = all_zipped_more
    (λ (piece : Bor (List ℕ)) (a : Answer ℤ). IsWritten a
    × (piece.now ≡ spelled signed_decimal a)) _ _ _ _ c.loop-piece.invariant c.in-Some.ensures in
    rw (take_more c.as_slice-pieces.result.now c.loop-piece.piece-index none c.loop-piece-test.true)
    (rw c.in_ok-push.ensures.items longer)

pub returns-clause-read : goal.returns-clause-read
returns-clause-read c =
    let pieces = c.as_slice-pieces.result.now in
    let all = take_all c.loop-piece.piece-index pieces c.loop-piece-test.false in
    let spelled = AreSpelled-from_zip (λ (x : Bor (List ℕ)). x.now) pieces c.loop-piece.script.items
    (rw all at c.loop-piece.invariant) in
    let cut = rw (← c.as_slice-pieces.ensures.value) at c.in_ok-found.ensures in
    is_script c.args.word.now pieces c.loop-piece.script.items cut spelled c.if-pieces-gt-MOST.false
