-- The item of the stream `poll_fn`, if its function always returns that.
use Rattle.std.specs.Prelude.{◌≡◌, refl, Option}
use Rattle.lite_views.specs.Uses.{Answer, CallAnswers, Called, Context, FoldsTo, MutBor, Poller, item}
use Rattle.lite_source.specs.declared.poll_fn.PollFn.{PollFn}
use Rattle.lite_views.specs.Views.{GoesOn, Seen}
use Rattle.lite_views.proofs.Views.{seen}
use Rattle.lite_views.proofs.Repeat.{stepped_on}

pub polled_on : {F A : Type 0} (g : Poller F (Option A)) (x : PollFn F) (y : A)
    → ((cx left : MutBor Context) (a : Answer A) (q : F) → Called g x.f (cx, tt) (a, (left, tt)) q
    → (q ≡ x.f) × (a ≡ item y))
    → Seen x y × GoesOn (λ (p : PollFn F) l q. FoldsTo (CallAnswers g) p.f l q.f) x y
unfolding GoesOn
polled_on g x y acts =
    (seen x y, λ l z h. stepped_on (CallAnswers g) x.f y (λ a q c. acts c.0 c.1 a q c.2) x.f z.f l refl h)
