-- What a poll that returned `Pending` has registered.
use Rattle.futures.specs.Task.{Lasting}

-- Whatever the first says of a context, the second says too.
abbrev pub TellsAll : (Lasting → Type 0) → (Lasting → Type 0) → Type 0
TellsAll inner outer = (fact : Lasting) → inner fact → outer fact

-- Every fact is said. It is so of a type that never returns `Pending`, because a `Pending` alone has to have registered them.
abbrev pub TellsEach : (Lasting → Type 0) → Type 0
TellsEach facts = (fact : Lasting) → facts fact
