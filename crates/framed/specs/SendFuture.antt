-- Futures that write frames, which were encoded when the future was made.
use Rattle.std.specs.Prelude.{◌≡◌, ⊤, List, [], ◌∷◌, Result, Ok, Err}
use Rattle.std.specs.List.{AllZip}
use Rattle.std.specs.declared.io.Error.{Error}
use Rattle.futures.specs.declared.task.Poll.{Poll}
use Rattle.framed.specs.Uses.{Pending, Ready, Runs, WriteMark}
use Rattle.lite_write.specs.WriteAll.{WritesAll}
use Rattle.lite_write.specs.declared.write_all.WriteAllFuture.{WriteAllFuture}
use Rattle.framed.specs.declared.send_future.SendFuture.{SendFuture}

module _ {E : Type 0} (from_gives : Error → E → Type 0) where
  -- A poll result with the writer's error, and the same with the error that is made of it.
  abbrev pub WithError : Poll (Result (Unit {0}) Error) → Poll (Result (Unit {0}) E) → Type 0
  WithError Pending Pending = ⊤
  WithError (Ready (Ok u)) (Ready (Ok v)) = ⊤
  WithError (Ready (Err cause)) (Ready (Err e)) = from_gives cause e
  WithError a b = ⊥

  module _ {O : Type 0} (writes : Runs WriteMark O) where
    -- If an item was not encoded, the first poll returns why, and nothing is written. Otherwise the polls return what those
    -- of `write_all` return.
    abbrev pub SendsIfEncoded : Result (Unit {0}) E → WriteAllFuture O → List (Poll (Result (Unit {0}) E)) → Result (Unit {0}) E
        → WriteAllFuture O → Type 0
    SendsIfEncoded (Err e) w [] r v = (r ≡ Err e) × (v ≡ w)
    SendsIfEncoded (Err e) w (a ∷ out) r v = (a ≡ Ready (Err e)) × (out ≡ []) × (r ≡ Ok tt) × (v ≡ w)
    SendsIfEncoded (Ok u) w out r v = (r ≡ Ok tt)
        × (l : List (Poll (Result (Unit {0}) Error))) × WritesAll writes w l v × AllZip WithError l out

    -- The run of a future that sends.
    abbrev pub SendsFrames : Runs (Poll (Result (Unit {0}) E)) (SendFuture O E)
    SendsFrames x out y = SendsIfEncoded x.encoded x.writing out y.encoded y.writing
