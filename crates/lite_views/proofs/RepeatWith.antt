-- The item of `repeat_with`, if its function always returns that.
use Rattle.std.specs.Prelude.{◌≡◌, refl}
use Rattle.lite_views.specs.Uses.{Called, Mut}
use Rattle.lite_source.specs.RepeatWith.{Call, RepeatsWith}
use Rattle.lite_source.specs.declared.repeat_with.RepeatWith.{RepeatWith}
use Rattle.lite_views.specs.Views.{GoesOn, Seen}
use Rattle.lite_views.proofs.Views.{seen}
use Rattle.lite_views.proofs.Repeat.{stepped_on}

pub called_on : {F A : Type 0} (g : Mut F (Unit {0}) A) (x : RepeatWith F) (y : A)
    → ((v : A) (q : F) → Called g x.f tt v q → (q ≡ x.f) × (v ≡ y))
    → Seen x y × GoesOn (λ (p : RepeatWith F) l q. RepeatsWith g p.f l q.f) x y
unfolding GoesOn
called_on g x y acts = (
  seen x y,
  λ l z h.
      stepped_on (Call g) x.f y (λ a q c. let made = acts c.0 q c.2 in (made.0, rw (← made.1) c.1)) x.f z.f l refl h,
)
