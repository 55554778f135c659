use Rattle.std.proofs.Common.{rules, ◌≡◌, ◌≢◌, ◌≤◌, ◌<◌, ◌+◌, ◌++◌, ◌∙◌, ℕ, List, arith, length, length-drop, subst, take, refl, ap}
use Rattle.std.specs.List.{All, slice_index}
use Rattle.example_redis.specs.Laws.Lines.{feed_next, text_joined, text_long, text_taken}
use Rattle.example_redis.proofs.requests.Requests.take_text.Goals as goal

pub returns-then-len-amount : goal.returns-then-len-amount
returns-then-len-amount c =
    let s = c.args.self.now in
    let xs = c.args.src.now.items in
    let n = c.line_length-amount.result in
    let h = c.line_length-amount.ensures in
    let one = subst (λ (l : List ℕ). All (λ b. b ≢ 10) (take n l)) c.as_slice.ensures h.one_line in
    let within : n ≤ length xs = search rules in
    let long : s.limits.line < length s.line.items + n = search rules in
    ((refl, refl, refl), text_long s.line.items xs n s.limits.line s.one_line one c.requires.other within long)

pub returns : goal.returns
returns c =
    let s = c.args.self.now in
    let xs = c.args.src.now.items in
    let ys = c.advance.new.self.items in
    let n = c.line_length-amount.result in
    let left = c.advance.ensures.items in
    let text : c.extend_from_slice.new.self.items ≡ s.line.items ++ take n xs =
    c.in_ok-extend_from_slice.ensures.items ∙ ap (λ l. s.line.items ++ take n l) c.as_slice-2.ensures in
    let feed = subst (λ (l : List ℕ). n < length l → slice_index l n ≡ 10) c.as_slice.ensures c.line_length-amount.ensures.feed in
    text_taken s _ xs ys c.is_empty.result c.is_empty.ensures
    (refl, refl, ap (λ l. l ++ ys) text ∙ ap (λ l. (s.line.items ++ take n xs) ++ l) left ∙ text_joined s.line.items xs n)
    (λ some.
    let inside : n < length xs = omega (arith, some, ap length left, length-drop n xs) in
    let next = feed_next s.line.items xs n inside (feed inside) in
    (next.0, left ∙ next.1))
