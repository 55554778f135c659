-- What a reader in upper case reads from.
use Rattle.example_own.specs.declared.upper.Upper.{Upper}

-- The reader that it reads from.
abbrev pub upper_inner : {R : Type 0} → Upper R → R
upper_inner x = x.inner
