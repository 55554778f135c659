use Rattle.std.specs.Prelude.{◌≡◌, ◌≤◌, drop, length, take}
use Rattle.std.proofs.Common.{arith, inl, inr, length-take-le, rules, sym, take-append-drop, ◌+◌, ◌∙◌}
use Rattle.std.proofs.lemmas.Bool.{cases_lt}
use Rattle.std.proofs.lemmas.List.{take_all}
use Rattle.framed.proofs.Heads.{first_behind, found_within, none_behind}
use Rattle.framed.proofs.delimiter.find_delimiter_behind.Goals as goal

pub returns-in-Some : goal.returns-in-Some
returns-in-Some c =
    let xs = c.args.bytes.now in
    let n = c.min-searched.result in
    let from = c.min-seen.result in
    let first = first_behind c.args.delimiter c.args.seen from n xs c.requires.none (search rules) (search rules) (search rules)
    c.in-Some.at (rw c.in-Some.is at c.first_at.ensures) in
    found_within c.args.delimiter c.args.max n (from + c.in-Some.at) xs first (search rules) (search rules)

pub returns-in-None : goal.returns-in-None
returns-in-None c =
    let xs = c.args.bytes.now in
    let n = c.min-searched.result in
    let within : n ≤ length xs = search rules in
    let none = none_behind c.args.delimiter c.args.seen c.min-seen.result n xs c.requires.none (search rules) (search rules) within
    (rw c.in-None.is at c.first_at.ensures) in
    elim (cases_lt c.args.max n) [
      | inl over ↦
          let is : n ≡ c.args.max + 1 = search (rules, over) in
          rw (c.not_among.ensures.too_far over) (take n xs, drop n xs, length-take-le n xs within ∙ is, none, sym (take-append-drop n xs))
      | inr low ↦
          let all : length xs ≤ n = search (rules, low) in
          rw (c.not_among.ensures.missing low) (rw (take_all n xs all) at none, omega (arith, all, low))
    ]
