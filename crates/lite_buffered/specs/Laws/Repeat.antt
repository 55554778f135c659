-- Laws of `repeat`.
use Rattle.std.specs.Prelude.{List, [], ◌∷◌, ◌++◌, ◌≡◌, ⊤}
use Rattle.lite_buffered.specs.Uses.{refl, ReadMark, MarkLaws, ◌∙◌, ap, sym, Comparable, CalmReadLaws, NoPendingRead, SteadyReadLaws}
use Rattle.lite_buffered.specs.declared.repeat.Repeat.{Repeat}
use Rattle.lite_buffered.specs.Repeat.{RepeatsByte}
use Rattle.lite_io_base.specs.Laws.Steady.{comparable_stripped, steady_read_always}

repeats_follow : (x y z : Repeat) (l m : List ReadMark) → RepeatsByte x l y → RepeatsByte y m z
    → RepeatsByte x (l ++ m) z
repeats_follow x y z [] m h k = rw (← h) k
repeats_follow x y z (a ∷ l) m h k = (h.0, repeats_follow x y z l m h.1 k)

pub repeats_laws : MarkLaws RepeatsByte
repeats_laws = record { rests = λ x. refl; follows = repeats_follow }

-- `repeat` is steady and calm.

same_repeats : (x y x' y' : Repeat) (l m : List ReadMark) → x.byte ≡ y.byte → RepeatsByte x l x' → RepeatsByte y m y'
    → Comparable l m
same_repeats x y x' y' (a ∷ l) (b ∷ m) e h k =
    (h.0 ∙ ap ReadMark.byte e ∙ sym k.0, same_repeats x y x' y' l m e h.1 k.1)
same_repeats x y x' y' l m e h k = tt

pub repeat_steady : SteadyReadLaws RepeatsByte RepeatsByte ⊤ (λ x y. x.byte ≡ y.byte)
repeat_steady =
    steady_read_always repeats_laws (λ x y x' y' l m e h k. comparable_stripped l m (same_repeats x y x' y' l m e h k))

no_wait : (x y : Repeat) (l : List ReadMark) → RepeatsByte x l y → NoPendingRead l
no_wait x y [] h = tt
no_wait x y (a ∷ l) h = rw h.0 (no_wait x y l h.1)

pub repeat_calm : CalmReadLaws RepeatsByte (λ x. ⊤)
repeat_calm = record { no_pending = λ x y l n h. no_wait x y l h; calm_on = λ x y l n h. tt }
