use Rattle.std.specs.Prelude.{◌≡◌, ◌≤◌, ◌++◌, [], Err, None, Ok, Some, length, take, drop}
use Rattle.std.proofs.Common.{◌∙◌, ap, inl, inr, rules, refl, sym, take-append-drop}
use Rattle.framed.specs.Frames.{held_at, phase_of, reading}
use Rattle.framed.proofs.Steps.{front_cut, front_taken, look_refused, look_splits, none_looked, rest_left, rest_within}
use Rattle.framed.proofs.framed_read.FramedRead.look_once.Goals as goal

pub overflow_sub-taken : goal.overflow_sub-taken
overflow_sub-taken g c =
    let was : phase_of c.self.inside.stage ≡ reading = search rules in
    let is : c.decode.result ≡ Ok (Some c.in-Ok-Some.frame) = rw c.in-Ok-Some.field-0-is at c.in-Ok-Some.is in
    let shown = g.T.AsyncBufRead.buffer_of c.self.inside.reader in
    let n = c.in-Ok.taken in
    let fits : n ≤ length shown = rw (c.in-Ok.is, c.buffer-shown.ensures) at c.append_shown.ensures.within in
    let front : c.append_shown.new.buffer.items ≡ held_at c.self.inside.stage c.self.inside.buffer.items ++ take n shown
    = rw (c.in-Ok.is, c.buffer-shown.ensures) at c.append_shown.ensures.front in
    let s = look_splits g.met.D.PromptDecoder.prompt g.met.D.Decoder.stable g.met.D.Decoder.partial_has_no_frame _
    c.self.inside.stage c.self.inside.buffer.items shown (take n shown) _ _ _ _ was c.self.invariant front (rw is at c.decode.ensures) in
    rw c.len.ensures.value (rest_within shown _ _ n fits s.cut)

pub invariant_of-self-in-Ok-Some : goal.invariant_of-self-in-Ok-Some
invariant_of-self-in-Ok-Some g c =
    let was : phase_of c.self.inside.stage ≡ reading = search rules in
    let is : c.decode.result ≡ Ok (Some c.in-Ok-Some.frame) = rw c.in-Ok-Some.field-0-is at c.in-Ok-Some.is in
    let shown = g.T.AsyncBufRead.buffer_of c.self.inside.reader in
    let n = c.in-Ok.taken in
    let fits : n ≤ length shown = rw (c.in-Ok.is, c.buffer-shown.ensures) at c.append_shown.ensures.within in
    let front : c.append_shown.new.buffer.items ≡ held_at c.self.inside.stage c.self.inside.buffer.items ++ take n shown
    = rw (c.in-Ok.is, c.buffer-shown.ensures) at c.append_shown.ensures.front in
    let s = look_splits g.met.D.PromptDecoder.prompt g.met.D.Decoder.stable g.met.D.Decoder.partial_has_no_frame _
    c.self.inside.stage c.self.inside.buffer.items shown (take n shown) _ _ _ _ was c.self.invariant front (rw is at c.decode.ensures) in
    let left = rw c.len.ensures.value at c.consume.ensures.rest in
    (drop n shown, left ∙ rest_left shown _ _ n fits s.cut)

pub returns-in-Ok-Some : goal.returns-in-Ok-Some
returns-in-Ok-Some g c =
    let was : phase_of c.self.inside.stage ≡ reading = search rules in
    let is : c.decode.result ≡ Ok (Some c.in-Ok-Some.frame) = rw c.in-Ok-Some.field-0-is at c.in-Ok-Some.is in
    let shown = g.T.AsyncBufRead.buffer_of c.self.inside.reader in
    let n = c.in-Ok.taken in
    let fits : n ≤ length shown = rw (c.in-Ok.is, c.buffer-shown.ensures) at c.append_shown.ensures.within in
    let front : c.append_shown.new.buffer.items ≡ held_at c.self.inside.stage c.self.inside.buffer.items ++ take n shown
    = rw (c.in-Ok.is, c.buffer-shown.ensures) at c.append_shown.ensures.front in
    let s = look_splits g.met.D.PromptDecoder.prompt g.met.D.Decoder.stable g.met.D.Decoder.partial_has_no_frame _
    c.self.inside.stage c.self.inside.buffer.items shown (take n shown) _ _ _ _ was c.self.invariant front (rw is at c.decode.ensures) in
    let taken = rw (c.len.ensures.value, front_taken shown s.xs _ n fits s.cut) at c.consume.ensures.ran in
    rw (← c.self.view_is) (inr (was, s.xs, taken, (_, front_cut shown s.xs _ n fits s.cut), inl (refl, (refl, refl, s.some, s.frame))))

pub returns-in-Err-decode : goal.returns-in-Err-decode
returns-in-Err-decode g c =
    let was : phase_of c.self.inside.stage ≡ reading = search rules in
    let is : c.decode.result ≡ Err c.in-Err-decode.e = c.in-Err-decode.is in
    let shown = g.T.AsyncBufRead.buffer_of c.self.inside.reader in
    let n = c.in-Ok.taken in
    let fits : n ≤ length shown = rw (c.in-Ok.is, c.buffer-shown.ensures) at c.append_shown.ensures.within in
    let front : c.append_shown.new.buffer.items ≡ held_at c.self.inside.stage c.self.inside.buffer.items ++ take n shown
    = rw (c.in-Ok.is, c.buffer-shown.ensures) at c.append_shown.ensures.front in
    let found = look_refused g.D.Decoder.gives _ (held_at c.self.inside.stage c.self.inside.buffer.items)
    (take n shown) _ _ _ _ front (rw is at c.decode.ensures) in
    let taken = c.consume-in-Err-decode.ensures.ran in
    rw (← c.self.view_is) (inr (was, take n shown, taken, (drop n shown, sym (take-append-drop n shown)), inl (refl, (refl, found))))

pub returns-in-Ok-None : goal.returns-in-Ok-None
returns-in-Ok-None g c =
    let was : phase_of c.self.inside.stage ≡ reading = search rules in
    let shown = g.T.AsyncBufRead.buffer_of c.self.inside.reader in
    let n = c.in-Ok.taken in
    let fits : n ≤ length shown = rw (c.in-Ok.is, c.buffer-shown.ensures) at c.append_shown.ensures.within in
    let front : c.append_shown.new.buffer.items ≡ held_at c.self.inside.stage c.self.inside.buffer.items ++ take n shown
    = rw (c.in-Ok.is, c.buffer-shown.ensures) at c.append_shown.ensures.front in
    let is : c.decode.result ≡ Ok None = rw c.in-Ok-None.field-0-is at c.in-Ok-None.is in
    let d = rw is at c.decode.ensures in
    let some : n ≡ 0 → shown ≡ [] = rw (c.in-Ok.is, c.buffer-shown.ensures) at c.append_shown.ensures.some in
    let cut = sym (take-append-drop n shown) ∙ ap (λ l. take n shown ++ l) (sym c.consume-in-Ok-None.ensures.rest) in
    rw (← c.self.view_is) (take n shown, c.consume-in-Ok-None.ensures.ran, cut, none_looked n shown fits some, (refl, d.0, rw front at d.1))
