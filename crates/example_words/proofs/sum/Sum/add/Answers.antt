use Rattle.std.proofs.Common.{◌≡◌, ◌∷◌, ◌++◌, ◌∙◌, [], ap, append-nil, arith, rules, sym}
use Rattle.std.specs.Cmp.Lexicographic.{slice_cmp}
use Rattle.std.specs.Ordering.{nat_cmp}
use Rattle.std.specs.declared.cmp.Ordering.TheVariants.{Equal, Greater}
use Rattle.example_words.specs.Laws.{holds_first, holds_next, holds_same, words_equal, words_greater}
use Rattle.example_words.proofs.sum.Sum.add.Goals as goal
use Rattle.example_words.proofs.sum.Sum.add.Goals.{else-self-gt0, then-self-gt0+in-Greater+in_ok-push_record-in-Greater}

pub returns-in-Equal-clause-added : goal.returns-in-Equal-clause-added
returns-in-Equal-clause-added c =
    let is : slice_cmp nat_cmp c.args.next.word.now c.args.self.now.word.items ≡ Equal = search rules in
    let same = words_equal c.args.next.word.now c.args.self.now.word.items is in (
      [],
      sym (append-nil c.args.text.now.items),
      λ done read some_more h. rw (same, c.in-Some.ensures.1)
          (holds_same done read c.args.self.now.word.items c.args.self.now.count c.args.next.count c.if-self-gt0.true h),
    )

pub returns-in_default-clause-refused : goal.returns-in_default-clause-refused
returns-in_default-clause-refused c =
    let is : slice_cmp nat_cmp c.args.next.word.now c.args.self.now.word.items ≡ Equal = search rules in
    (words_equal c.args.next.word.now c.args.self.now.word.items is, omega (arith, c.in_default.ensures))

pub returns-clause-added : goal.returns-clause-added
returns-clause-added c =
    let word : c.extend_from_slice.new.self.items ≡ c.args.next.word.now =
    c.in_ok-extend_from_slice.ensures.items ∙ ap (λ k. k ++ c.args.next.word.now) c.clear.ensures.items in
    elim c.if-self-gt0.branch [
      | then-self-gt0+in-Greater+in_ok-push_record-in-Greater w ↦
          let is : slice_cmp nat_cmp c.args.next.word.now c.args.self.now.word.items ≡ Greater = search rules in
          let less = words_greater c.args.next.word.now c.args.self.now.word.items is in (
            (c.args.self.now.word.items, c.args.self.now.count) ∷ [],
            search rules,
            λ done read some_more h. rw word
                (holds_next done read c.args.self.now.word.items c.args.next.word.now c.args.self.now.count c.args.next.count w.if-self-gt0.true some_more less h),
          )
      | else-self-gt0 w ↦
          let none : c.args.self.now.count ≡ 0 = omega (arith, w.if-self-gt0.false) in (
            [],
            rw w.text-is (sym (append-nil c.args.text.now.items)),
            λ done read some_more h. rw word
                (holds_first done read c.args.self.now.word.items c.args.next.word.now c.args.next.count some_more (rw none at h)),
          )
    ]
