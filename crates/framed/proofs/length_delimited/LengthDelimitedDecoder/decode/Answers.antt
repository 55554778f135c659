use Rattle.std.specs.Prelude.{drop, refl}
use Rattle.std.proofs.Common.{inl, rules}
use Rattle.framed.proofs.Delimited.{frame_refused, header_first}
use Rattle.framed.proofs.length_delimited.LengthDelimitedDecoder.decode.Goals as goal

pub returns-then-length-self-clause-next : goal.returns-then-length-self-clause-next
returns-then-length-self-clause-next c =
    (refl, refl, (_, drop 4 c.args.src.now.items, header_first _ _ (search rules), inl (c.length_of-length.result, search rules, search rules, refl, refl)))

pub returns-in_err-frame-clause-next : goal.returns-in_err-frame-clause-next
returns-in_err-frame-clause-next c =
    frame_refused c.args.self.now c.length_of-length.result c.args.src.now.items (search rules) (search rules) (search rules)
    (search rules) c.from_residual.result c.from_residual.ensures.0 c.from_residual.ensures.1 _ (search rules)
