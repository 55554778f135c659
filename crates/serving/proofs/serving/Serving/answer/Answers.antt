use Rattle.std.proofs.lemmas.List.{drop-append-le}
use Rattle.std.specs.Prelude.{drop}
use Rattle.serving.specs.Uses.{ap, refl, rules, ◌∙◌}
use Rattle.serving.specs.Performing.{lacks_answer, performs_answer, taken_back}
use Rattle.serving.proofs.serving.Serving.answer.Goals as goal

pub returns-in-Ok-true : goal.returns-in-Ok-true
returns-in-Ok-true g c =
    let p = c.in-Ok-true.ensures in
    let more = ap (drop c.self.inside.written) p.1 ∙ drop-append-le c.self.inside.written c.self.inside.out.items p.0 c.self.invariant.0 in
    performs_answer g.T.AsyncBufRead.buffer_of g.S.Responder.answers g.S.Responder.refuses c.args.self.now _ p.0 c.in-Ok-true.field-0
    (rw (← c.self.view_is) more) (rw (← c.self.view_is, ← c.frame.ensures) p.2) (search rules)
    (rw (← c.self.view_is) (record { requests = refl; replies = refl; flushed = refl; limit = refl; error = refl }))

pub returns-in-Ok-false : goal.returns-in-Ok-false
returns-in-Ok-false g c =
    let p = c.in-Ok-false.ensures in
    let more = ap (drop c.self.inside.written) p.1 ∙ drop-append-le c.self.inside.written c.self.inside.out.items p.0 c.self.invariant.0 in
    performs_answer g.T.AsyncBufRead.buffer_of g.S.Responder.answers g.S.Responder.refuses c.args.self.now _ p.0 c.in-Ok-false.field-0
    (rw (c.end_by.ensures, ← c.self.view_is) more) (rw (c.end_by.ensures, ← c.self.view_is, ← c.frame.ensures) p.2) (search rules)
    (rw (c.end_by.ensures, ← c.self.view_is) (record { requests = refl; replies = refl; flushed = refl; limit = refl; error = refl }))

pub returns-in-Err : goal.returns-in-Err
returns-in-Err g c =
    let p = c.in-Err.ensures in
    let same = ap (drop c.self.inside.written) (c.truncate.ensures.items ∙ taken_back c.self.inside.out.items _ p.0 _ p.1 (search rules)) in
    lacks_answer g.T.AsyncBufRead.buffer_of g.S.Responder.answers g.S.Responder.refuses c.args.self.now _ (rw (c.end_by-in-Err.ensures, ← c.self.view_is) same)
    (rw (c.end_by-in-Err.ensures, ← c.self.view_is, ← c.frame.ensures) p.2) (rw c.end_by-in-Err.ensures refl)
    (rw (c.end_by-in-Err.ensures, ← c.self.view_is) (record { requests = refl; replies = refl; flushed = refl; limit = refl; error = refl }))
