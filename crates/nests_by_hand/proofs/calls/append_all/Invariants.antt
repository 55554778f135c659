use Rattle.std.proofs.Common.{◌≡◌, ◌++◌, List}
use Rattle.futures_lite.specs.Lists.{Lists}
use Rattle.nests_by_hand.proofs.calls.append_all.Given as goal

-- If the items of the stream are `xs`, some of them were appended, and the others are those of the stream that is left.
abbrev pub invariant-loop : goal.invariant-loop
invariant-loop g l =
    g.S.Stream.can_poll l.stream
    × ((xs : List _) → Lists g.S.Stream.run l.initial.stream xs
    → (rest : List _) × Lists g.S.Stream.run l.stream rest × (l.initial.out.items ++ xs ≡ l.out.items ++ rest))
