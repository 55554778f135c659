use Rattle.std.proofs.Common.{◌≡◌, ◌≤◌, ◌<◌, ◌+◌, ◌-◌, ◌^◌, ◌/◌, ◌%◌, ℕ, zero, suc, List, [], ◌∷◌, ◌∙◌, ap, arith, drop, false, length, length-set, refl, set, sym}
use Rattle.std.specs.Fmt.{digit_glyph, digits, digits_onto}
use Rattle.std.proofs.lemmas.List.{drop-set}
use Rattle.framed.specs.Hexadecimal.{fewer_left, last_digit, more_digits}
use Rattle.framed.proofs.hexadecimal.Hexadecimal.new.Goals as goal

-- A digit that is written before the others.
module _ (start left digit : ℕ) (bytes : List ℕ) (long : length bytes ≡ 16) (some : 1 ≤ start) (within : start ≤ 16) where
  abbrev k : ℕ
  k = start - 1 + 48

  before : drop (start - 1) (set bytes (start - 1) digit) ≡ digit ∷ drop start bytes
  before =
      let is : start - 1 + 1 ≡ start = omega (arith, some) in
      drop-set bytes (start - 1) digit (omega (arith, long, some, within)) ∙ ap (λ i. digit ∷ drop i bytes) is

  there : digits_onto (start + 48) 16 false left (drop start bytes) ≡ digits_onto (suc k) 16 false left (drop start bytes)
  there = let is : start + 48 ≡ suc k = omega (arith, some) in ap (λ i. digits_onto i 16 false left (drop start bytes)) is

  more : 16 ≤ left → digit ≡ digit_glyph false (left % 16)
      → digits_onto k 16 false (left / 16) (drop (start - 1) (set bytes (start - 1) digit)) ≡ digits_onto (start + 48) 16 false left (drop start bytes)
  more large is =
      ap (digits_onto k 16 false (left / 16)) (before ∙ ap (λ d. d ∷ drop start bytes) is)
      ∙ sym (more_digits k left (drop start bytes) large) ∙ sym there

  last : left < 16 → digit ≡ digit_glyph false left
      → drop (start - 1) (set bytes (start - 1) digit) ≡ digits_onto (start + 48) 16 false left (drop start bytes)
  last small is =
      let alone : left ≡ left % 16 = omega (arith, small) in
      before ∙ ap (λ d. d ∷ drop start bytes) (is ∙ ap (digit_glyph false) alone)
      ∙ sym (last_digit k left (drop start bytes) small) ∙ sym there

-- There is room for another digit.
room : (start left : ℕ) → 1 ≤ start → 16 ≤ left → left < 16 ^ start → 2 ≤ start
room zero left some large small = omega (arith, some)
room (suc zero) left some large small = omega (arith, large, small)
room (suc (suc start)) left some large small = omega arith

pub loop-left-init : goal.loop-left-init
unfolding digits
loop-left-init c = (refl, omega arith, omega arith, omega arith, refl)

pub loop-left-preserved : goal.loop-left-preserved
loop-left-preserved c =
    let l = c.loop-left in
    let i = l.invariant in
    let start : l.start ≡ suc (l.start - 1) = omega (arith, i.1) in
    let fewer : l.left < 16 ^ suc (l.start - 1) = rw start at i.3 in
    let left = fewer_left 0 l.left [] (l.start - 1) fewer in (
      length-set l.digits (l.start - 1) c.digit.result ∙ i.0,
      omega (arith, room l.start l.left i.1 c.loop-left-test.true i.3),
      omega (arith, i.2),
      left,
      more l.start l.left c.digit.result l.digits i.0 i.1 i.2 c.loop-left-test.true c.digit.ensures ∙ i.4,
    )

pub returns : goal.returns
returns c =
    let l = c.loop-left in
    let i = l.invariant in
    last l.start l.left c.digit-2.result l.digits i.0 i.1 i.2 c.loop-left-test.false c.digit-2.ensures ∙ i.4
