use Rattle.std.specs.Prelude.{[], refl}
use Rattle.example_http.proofs.moves.refill.Goals as goal

pub returns-in-Err : goal.returns-in-Err
returns-in-Err g c = let f = c.in-Err.ensures in (record { told = []; took = f.0 }, (f.1, refl, refl))

pub returns-in-Ok : goal.returns-in-Ok
returns-in-Ok g c =
    let f = c.in_default.ensures in
    let t = c.in-Ok.ensures in
    (record { told = t.0; took = f.0 }, (f.1, t.1, t.2))

pub returns-in-Err-wait_fill : goal.returns-in-Err-wait_fill
returns-in-Err-wait_fill g c =
    let f = c.in_default.ensures in
    let t = c.in-Err-wait_fill.ensures in
    (record { told = t.0; took = f.0 }, (f.1, t.1, t.2))
