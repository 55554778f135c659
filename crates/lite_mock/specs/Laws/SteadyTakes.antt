-- Laws of the test writer `Takes`: what it has taken does not depend on when it was pending.
use Rattle.std.proofs.Common.{◌≡◌, List, [], ◌∷◌, ◌++◌, inl, inr, append-nil, append_assoc}
use Rattle.lite_io_base.specs.Steady.{CalmWriteLaws, SteadyWriteLaws}
use Rattle.lite_io_base.specs.WriteMarks.{WriteMark, bytes_taken}
use Rattle.lite_mock.specs.Takes.{AllObey, Orders}
use Rattle.lite_mock.specs.SteadyTakes.{BothOrders, NoPendingOrder}

all_taken : (x y : Orders) (l : List WriteMark) → AllObey x l y → y.taken ≡ x.taken ++ bytes_taken l
all_taken x y [] h = rw (h, append-nil)
all_taken x y (WriteMark.wrote xs ∷ l) h = rw (all_taken h.0 y l h.2, h.1.0, append_assoc)
all_taken x y (WriteMark.nothing ∷ l) h = rw (all_taken h.0 y l h.2, h.1.0)
all_taken x y (WriteMark.pending ∷ l) h = rw (all_taken h.0 y l h.2, h.1.1)
all_taken x y (WriteMark.fault kind ∷ l) (z, inl f, h) = rw (all_taken z y l h, f.1)
all_taken x y (WriteMark.fault kind ∷ l) (z, inr f, h) = rw (all_taken z y l h, f.1)
all_taken x y (a ∷ l) h = rw (all_taken h.0 y l h.2, h.1)

none_waits : (x y : Orders) (l : List WriteMark) → NoPendingOrder x.orders → AllObey x l y → BothOrders x l y
none_waits x y [] n h = (tt, rw h n)
none_waits x y (WriteMark.wrote xs ∷ l) n (z, (t, inl e), h) = none_waits z y l (rw e.1 tt) h
none_waits x y (WriteMark.wrote xs ∷ l) n (z, (t, inr e), h) = none_waits z y l (rw e.1 at n) h
none_waits x y (WriteMark.nothing ∷ l) n (z, (t, inl e), h) = none_waits z y l (rw e.1 tt) h
none_waits x y (WriteMark.nothing ∷ l) n (z, (t, inr e), h) = none_waits z y l (rw e.1 at n) h
none_waits x y (WriteMark.pending ∷ l) n h = absurd (rw h.1.0 at n)
none_waits x y (WriteMark.fault kind ∷ l) n (z, inl f, h) = none_waits z y l (rw f.0 at n) h
none_waits x y (WriteMark.fault kind ∷ l) n (z, inr f, h) = none_waits z y l (rw f.1 n) h
none_waits x y (a ∷ l) n h = none_waits h.0 y l (rw h.1 n) h.2

pub takes_steady : SteadyWriteLaws AllObey (λ x y. x.taken ≡ y.taken) (λ x. x.taken)
takes_steady =
    record {
      steady = λ x y x' y' l m e h k a b f g same.
          let one : x'.taken ≡ y'.taken = rw (all_taken x x' l h, all_taken y y' m k, e, same) in
          (one, one);
    }

pub takes_calm : CalmWriteLaws AllObey (λ x. NoPendingOrder x.orders)
takes_calm =
    record {
      no_pending = λ x y l c h. (none_waits x y l c h).0;
      calm_on = λ x y l c h. (none_waits x y l c h).1;
    }
