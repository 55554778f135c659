use Rattle.std.proofs.Common.{◌≡◌, ◌∙◌, ◌∷◌, refl, rules}
use Rattle.programs.proofs.Words.{one_more}
use Rattle.programs.proofs.command.asked_by.Goals as goal

pub loop-word-preserved : goal.loop-word-preserved
loop-word-preserved c =
    let left : c.loop-word.word-iterator.rest.items ≡ c.in-Some.word ∷ c.next.new.self.rest.items = search rules in
    one_more c.args.words.rest.items c.loop-word.command (record { words = c.push.new.self; quiet = c.loop-word.command.quiet })
    c.in-Some.word c.next.new.self.rest.items (rw left at c.loop-word.invariant)
    (λ e. c.in_default.not-text-2 (c.as_str.ensures.value ∙ e)) (λ e. c.in_default.not-text (c.as_str.ensures.value ∙ e))
    (search rules) refl
