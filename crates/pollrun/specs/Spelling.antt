-- How poll results are written, in the arguments of the program and in what it prints.
use Rattle.std.specs.Prelude.{ℕ, ℤ, List, ◌∷◌, ◌++◌, map, codes, Some, None}
use Rattle.std.specs.Fmt.{signed_decimal}
use Rattle.std.specs.List.{join_with_byte}
use Rattle.futures.specs.declared.task.Poll.TheVariants.{Ready, Pending}
use Rattle.lite_base.specs.Answers.{Answer}

-- A pair is written as its numbers with a colon between them.
abbrev pub pair_text : ℤ × ℤ → List ℕ
pair_text p = signed_decimal p.0 ++ 58 ∷ signed_decimal p.1

-- A result is written as `P` for `Pending`, `E` for the end of the stream, or the text of its item.
abbrev pub spelled : {A : Type 0} → (A → List ℕ) → Answer A → List ℕ
spelled text Pending = codes "P"
spelled text (Ready None) = codes "E"
spelled text (Ready (Some x)) = text x

-- A list of results is written with a comma between each two.
abbrev pub spelled_list : {A : Type 0} → (A → List ℕ) → List (Answer A) → List ℕ
spelled_list text l = join_with_byte 44 (map (spelled text) l)
