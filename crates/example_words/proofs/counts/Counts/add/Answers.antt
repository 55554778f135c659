use Rattle.std.proofs.Common.{◌≡◌, None, arith, rules, sym}
use Rattle.std.specs.BTreeMap.{get_by}
use Rattle.example_words.proofs.Tables.{by_items, positive_insert, positive_set, total_found, total_insert, total_missing, total_set}
use Rattle.example_words.proofs.counts.Counts.add.Goals as goal
use Rattle.example_words.proofs.counts.Counts.add.Goals.{in-Err, in-Ok}

pub returns-in-Some-clause-counts : goal.returns-in-Some-clause-counts
returns-in-Some-clause-counts c w =
    let set = c.get_mut.follows.holds c.in-Some-checked_add.more in
    rw (set.0, c.in-Some-checked_add.ensures.1) (total_set c.args.word.now c.args.self.now.counts.entries c.in-Some.count.now w c.in-Some.ensures.value)

pub returns-in-Some-clause-positive : goal.returns-in-Some-clause-positive
returns-in-Some-clause-positive c h =
    let set = c.get_mut.follows.holds c.in-Some-checked_add.more in
    rw (set.0, c.in-Some-checked_add.ensures.1) (positive_set c.args.word.now c.args.self.now.counts.entries c.in-Some.count.now h)

pub returns-clause-counts : goal.returns-clause-counts
returns-clause-counts c =
    let none : get_by (by_items c.in_ok-key.key) c.args.self.now.counts ≡ None = search rules in
    elim c.match-insert.branch [
      | in-Ok w ↦ rw (w.result-is, w.in-Ok.ensures.entries, c.get_mut.follows.holds-at-none, ← c.in_ok-key.ensures.items)
          (λ u. total_insert c.in_ok-key.key c.args.self.now.counts.entries u none)
      | in-Err w ↦ rw w.result-is tt
    ]

pub returns-clause-positive : goal.returns-clause-positive
returns-clause-positive c =
    elim c.match-insert.branch [
      | in-Ok w ↦ rw (w.result-is, w.in-Ok.ensures.entries, c.get_mut.follows.holds-at-none)
          (λ h. positive_insert c.in_ok-key.key c.args.self.now.counts.entries h)
      | in-Err w ↦ rw w.result-is tt
    ]

pub returns-in_default-checked_add-clause-refused : goal.returns-in_default-checked_add-clause-refused
returns-in_default-checked_add-clause-refused c =
    let total = total_found c.args.word.now c.args.self.now.counts.entries c.in-Some.count.now c.get_mut.ensures.ordered c.in-Some.ensures.value in
    omega (arith, total, c.in_default-checked_add.ensures)

pub returns-in_err-key-clause-refused : goal.returns-in_err-key-clause-refused
returns-in_err-key-clause-refused c =
    let none = total_missing c.args.word.now c.args.self.now.counts.entries (sym c.in_default.ensures.value) in search (rules, none)

pub returns-clause-refused : goal.returns-clause-refused
returns-clause-refused c = elim c.match-insert.branch [
  | in-Ok w ↦ rw w.result-is tt
  | in-Err w ↦ rw w.result-is (total_missing c.args.word.now c.args.self.now.counts.entries (sym c.in_default.ensures.value))
]
