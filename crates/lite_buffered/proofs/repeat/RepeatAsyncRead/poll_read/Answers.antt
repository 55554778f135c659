use Rattle.std.specs.Prelude.{◌≡◌, ℕ, zero, suc, length, replicate}
use Rattle.lite_buffered.specs.Uses.{refl, take_all, bytes, moved_marks}
use Rattle.std.proofs.Common.{le_refl}
use Rattle.lite_buffered.specs.declared.repeat.Repeat.{Repeat}
use Rattle.lite_buffered.specs.Repeat.{RepeatsByte}
use Rattle.lite_buffered.proofs.repeat.RepeatAsyncRead.poll_read.Goals as goal

all_same : (x : Repeat) (n : ℕ) → RepeatsByte x (bytes (replicate n x.byte)) x
all_same x zero = refl
all_same x (suc n) = (refl, all_same x n)

filled : (x : Repeat) (n : ℕ) → RepeatsByte x (moved_marks (replicate n x.byte) (replicate n x.byte)) x
filled x zero = refl
filled x (suc n) = all_same x (suc n)

pub returns-clause-ran : goal.returns-clause-ran
returns-clause-ran c =
    let x = c.args.self.now in
    let buf = c.fill.new.self in
    let is : buf ≡ replicate (length c.args.buf.now) x.byte = c.fill.ensures.after (λ y h. h) in
    rw (take_all (length buf) buf (le_refl (length buf)), is) (filled x (length c.args.buf.now))
