use Rattle.std.proofs.Common.{◌≡◌, ℕ, ◌<◌, List, [], ◌∷◌, ◌++◌, length, take, string_bytes, ap, ◌∙◌, arith}
use Rattle.std.proofs.Common.{append_assoc}
use Rattle.std.proofs.lemmas.List.{length-take, take_more}
use Rattle.pollrun.specs.Spelling.{spelled, spelled_list}
use Rattle.pollrun.proofs.Joined.{spelled_list-first, spelled_list-more}
use Rattle.pollrun.proofs.spelling.line_of.Goals as goal
use Rattle.pollrun.proofs.spelling.line_of.Goals.{then-place-gt0+in_ok-push_str, else-place-gt0}

pub loop-place-preserved : goal.loop-place-preserved
loop-place-preserved g c =
    let text = g.I.HasText.text in
    let answers = c.args.answers.now in
    let place = c.loop-place.place in
    let a = c.index-answers-place.result in
    let more = take_more answers place a c.loop-place-test.true in
    let longer = length-take place answers in
    rw (more, ← c.index-answers-place.is) (
    elim c.if-place-gt0.branch [
      | then-place-gt0+in_ok-push_str w ↦
          let several : 0 < length (take place answers) =
          omega (arith, longer, w.if-place-gt0.true, c.loop-place-test.true) in
          rw (spelled_list-more text (take place answers) a several)
          (c.in_ok-push_answer.ensures
          ∙ ap (λ (b : List ℕ). b ++ spelled text a)
          (ap string_bytes w.line-is ∙ w.in_ok-push_str.ensures.bytes
          ∙ ap (λ (b : List ℕ). b ++ 44 ∷ []) c.loop-place.invariant)
          ∙ append_assoc (spelled_list text (take place answers)) (44 ∷ []) (spelled text a))
      | else-place-gt0 w ↦
          let none : length (take place answers) ≡ 0 = omega (arith, longer, w.if-place-gt0.false) in
          rw (spelled_list-first text (take place answers) a none)
          (c.in_ok-push_answer.ensures
          ∙ ap (λ (b : List ℕ). b ++ spelled text a) (ap string_bytes w.line-is ∙ c.loop-place.invariant))
    ])
