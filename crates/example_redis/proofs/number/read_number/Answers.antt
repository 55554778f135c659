use Rattle.std.proofs.Common.{arith, ◌≡◌, ◌+◌, ◌*◌, decimal, drop, take, length, sym, ◌∙◌, ap, ◌++◌, inl, inr}
use Rattle.std.proofs.lemmas.List.{take-append-drop}
use Rattle.example_redis.specs.Laws.Numbers.{digits_next, leading_zero, goes_on, other_byte}
use Rattle.example_redis.proofs.number.read_number.Goals as goal

pub returns-then-not-is_ascii_digit : goal.returns-then-not-is_ascii_digit
returns-then-not-is_ascii_digit c =
    let other = rw c.if-not-is_ascii_digit.true at c.is_ascii_digit.ensures.cases in
    other_byte c.args.bytes.now c.loop-index.index c.loop-index.number c.loop-index-test.true (λ r. omega (arith, other, r)) (omega arith)
    c.loop-index.invariant.digits
    (λ some is. elim c.else-byte-eq13.either [ inl w ↦ omega (arith, w.1, some) | inr other ↦ other is ])

pub returns-then-number-eq0 : goal.returns-then-number-eq0
returns-then-number-eq0 c =
    let digit = rw c.if-not-is_ascii_digit.false at c.is_ascii_digit.ensures.cases in
    leading_zero c.args.bytes.now c.loop-index.index c.loop-index-test.true digit
    (c.loop-index.invariant.digits (omega arith) ∙ ap decimal c.if-number-eq0.true)

pub returns : goal.returns
returns c =
    let all : c.loop-index.index ≡ length c.args.bytes.now = omega arith in
    goes_on c.args.bytes.now c.args.max c.loop-index.number c.loop-index.invariant.low (omega arith)
    (λ some. ap (λ n. take n c.args.bytes.now) (sym all) ∙ c.loop-index.invariant.digits (omega arith))

pub returns-then-longer-from : goal.returns-then-longer-from
returns-then-longer-from c =
    let bytes = c.args.bytes.now in
    let i = c.loop-index.index in
    let digit = rw c.if-not-is_ascii_digit.false at c.is_ascii_digit.ensures.cases in
    let value = c.from.result * 10 + c.from-in-loop-index.result in
    let front : take (i + 1) bytes ≡ decimal value =
    digits_next bytes i c.from.result c.from-in-loop-index.result c.loop-index-test.true
    (omega (arith, digit)) (omega (arith, digit)) (omega arith)
    (λ e. omega (arith, c.loop-index.invariant.none e))
    (λ some. c.loop-index.invariant.digits some ∙ ap decimal (sym c.from.ensures))
    (λ some. elim c.else-index-gt0-2.either [ inl w ↦ omega (arith, w.1) | inr none ↦ omega (arith, none, some) ]) in
    (value, drop (i + 1) bytes, omega arith, omega arith, sym (take-append-drop (i + 1) bytes) ∙ ap (λ l. l ++ drop (i + 1) bytes) front)

pub loop-index-preserved : goal.loop-index-preserved
loop-index-preserved c =
    let digit = rw c.if-not-is_ascii_digit.false at c.is_ascii_digit.ensures.cases in
    record {
      low = omega arith;
      none = λ e. absurd (omega (arith, e));
      digits = λ some. digits_next c.args.bytes.now c.loop-index.index c.from.result c.from-in-loop-index.result c.loop-index-test.true
          (omega (arith, digit)) (omega (arith, digit)) (omega arith)
          (λ e. omega (arith, c.loop-index.invariant.none e))
          (λ some. c.loop-index.invariant.digits some ∙ ap decimal (sym c.from.ensures))
          (λ some. elim c.else-index-gt0-2.either [ inl w ↦ omega (arith, w.1) | inr none ↦ omega (arith, none, some) ]);
    }
