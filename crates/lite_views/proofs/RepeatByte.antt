-- The reader `repeat` yields its byte over and over.
use Rattle.std.specs.Prelude.{◌≡◌, ℕ, List, [], ◌∷◌}
use Rattle.lite_views.specs.Uses.{ReadMark}
use Rattle.lite_buffered.specs.Repeat.{RepeatsByte, byte_of}
use Rattle.lite_buffered.specs.declared.repeat.Repeat.{Repeat as RepeatReader}
use Rattle.lite_views.specs.OneCall.{EachByte, YieldsOn}

pub repeat_on : (x : RepeatReader) (b : ℕ) → byte_of x ≡ b → YieldsOn RepeatsByte x b
unfolding YieldsOn
repeat_on x b e l y h = each l h
  where
    each : (l : List ReadMark) → RepeatsByte x l y → EachByte b l
    each [] h = tt
    each (m ∷ l) h = rw h.0 (e, each l h.1)
