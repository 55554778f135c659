use Rattle.std.specs.Prelude.{◌≡◌, ◌≤◌, ◌<◌, ◌^◌, [], ◌∷◌, ◌++◌, decimal, length, refl}
use Rattle.std.proofs.Common.{◌∙◌, append_assoc, arith, rules}
use Rattle.framed.specs.Heads.{decimal_has_none, few_digits}
use Rattle.example_frames.proofs.netstring.NetstringEncoder.encode.Goals as goal

pub returns-clause-ok : goal.returns-clause-ok
returns-clause-ok g c =
    let string = g.T.AsSlice.items c.args.item in
    let small : length string < 2 ^ 64 = search rules in
    let within : length string ≤ c.args.self.now.max = search rules in
    let head = decimal (length string) in
    let before = c.args.dst.now.items in
    let all : c.extend_reserved-4.new.self.items ≡ (((before ++ head) ++ 58 ∷ []) ++ string) ++ 44 ∷ [] = search rules in (
      _,
      ((head, (few_digits (length string) small, decimal_has_none 58 (length string) (omega arith) small), (within, small, refl), refl), refl),
      all ∙ append_assoc ((before ++ head) ++ 58 ∷ []) string (44 ∷ []) ∙ append_assoc (before ++ head) (58 ∷ []) (string ++ 44 ∷ [])
          ∙ append_assoc before head (58 ∷ (string ++ 44 ∷ [])),
    )
