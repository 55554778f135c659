-- One step of a server.
use Rattle.std.specs.Prelude.{◌≡◌, ℕ, Bool, true, false, List, [], ◌∷◌, ◌++◌, Option, Some, None, Result, Ok, Err, refl}
use Rattle.std.specs.List.{FoldsTo}
use Rattle.std.specs.declared.io.Error.{Error}
use Rattle.std.proofs.Common.{inr}
use Rattle.framed.specs.Uses.{MarkLaws, ReadMark, Runs, WriteMark}
use Rattle.tokio_util.specs.Codec.Next.{Gives}
use Rattle.framed.specs.Frames.{Framed}
use Rattle.framed.specs.Sending.{FlushesOnce}
use Rattle.framed.specs.Services.{LastWords, ServiceStep}
use Rattle.framed.specs.Serving.{NextEnds, Performs, Sent, Session, Step, StepEnds, TakesNextItem}
use Rattle.framed.specs.declared.serve_error.ServeError.{ServeError}
use Rattle.framed.specs.declared.serve_error.ServeError.TheVariants.{Encode, Input, Memory, Output}

module _ {T D O C S A E B F : Type 0} (gives : Gives D A E) (from_gives : Error → E → Type 0) (reads : Runs ReadMark T)
    (buffer_of : T → List ℕ) (writes : Runs WriteMark O) (encodes : C → B → List ℕ → C → Type 0)
    (rejects : C → B → ℕ → F → Type 0) (answers : ServiceStep S A B) (refuses : LastWords S E B)
    (x : Session T D O C S) where
  abbrev Taking : Option (Result A E) → Framed T D → O → Type 0
  Taking item y w = TakesNextItem gives from_gives reads buffer_of writes x.requests x.replies item y w

  abbrev pub StepTo : Option (Result A E) → Bool → Session T D O C S → Type 0
  StepTo item on y = Step gives from_gives reads buffer_of writes encodes rejects answers refuses item on x y

  abbrev pub One : Result (Result Bool (ServeError E F)) Error → Session T D O C S → Type 0
  One r y = StepEnds gives from_gives reads buffer_of writes encodes rejects answers refuses x r y

  abbrev pub Next : Result Bool (ServeError E F) → Session T D O C S → Type 0
  Next r y = NextEnds gives from_gives reads buffer_of writes encodes rejects answers refuses x r y

  -- at the end of the input nothing is written
  pub nothing : MarkLaws writes → (y : Framed T D) (w : O) → Taking None y w
      → StepTo None false (record { requests = y; replies = w; encoder = x.encoder; service = x.service })
  nothing laws y w taken =
      record {
        taken_at = w;
        replies = [];
        turned = (taken, (refl, refl, refl));
        sent = ([], (refl, refl), ([], (laws.rests w, ([], refl)), (tt, refl)));
      }

  module _ (y : Session T D O C S) (item : Result A E) (on : Bool) (w : O) (replies : List B)
      (taken : Taking (Some item) y.requests w) (performed : Performs answers refuses x.service (Some item) replies on y.service)
      (r : Result (Result (Unit {0}) Error) F) (sent : Sent writes encodes rejects w x.encoder replies r y.replies y.encoder)
    where
      -- the replies were written whole
      pub stepped : r ≡ Ok (Ok tt) → StepTo (Some item) on y
      stepped is = record { taken_at = w; replies = replies; turned = (taken, performed); sent = rw is at sent }

      -- a write failed
      pub not_written : (e : Error) → r ≡ Ok (Err e) → One (Err e) y
      not_written e is = inr (item, w, replies, on, (taken, performed), rw is at sent)

      -- one was not encoded
      pub not_encoded : (e : F) → r ≡ Err e → One (Ok (Err (Encode e))) y
      not_encoded e is = let k = rw is at sent in (item, replies, on, (rw k.1 taken, performed), k.0)

  -- the service goes on, or ends
  pub went : (y : Session T D O C S) (request : A) (on : Bool) → StepTo (Some (Ok request)) on y → One (Ok (Ok on)) y
  went y request true step = (request, step)
  went y request false step = inr (request, step)

  -- the last flush behind an error
  module _ (m y : Session T D O C S) (requests : y.requests ≡ m.requests) (encoder : y.encoder ≡ m.encoder)
      (service : y.service ≡ m.service) where
    pub flushed : (e : ServeError E F) → One (Ok (Err e)) m → FlushesOnce writes m.replies (Ok tt) y.replies → Next (Err e) y
    flushed (Input e) h f = (m, h, f, requests, encoder, service)
    flushed (Output e) h f = absurd h
    flushed (Encode e) h f = (m, h, f, requests, encoder, service)
    flushed Memory h f = (m, h, f, requests, encoder, service)

    pub unflushed : (stop : Result Bool (ServeError E F)) → (stop ≡ Ok true → ⊥) → One (Ok stop) m → (cause : Error)
        → FlushesOnce writes m.replies (Err cause) y.replies → Next (Err (Output cause)) y
    unflushed (Ok true) ends h cause f = absurd (ends refl)
    unflushed (Ok false) ends h cause f = inr (inr (Ok tt, (m, h, f, requests, encoder, service)))
    unflushed (Err e) ends h cause f = inr (inr (Err e, (m, h, f, requests, encoder, service)))

-- one step more
pub folds_push : {S A : Type 0} (R : S → A → S → Type 0) (x y z : S) (l : List A) (a : A) → FoldsTo R x l y → R y a z
    → FoldsTo R x (l ++ a ∷ []) z
folds_push R x y z [] a h k = (z, rw h k, refl)
folds_push R x y z (b ∷ l) a h k = (h.0, h.1, folds_push R h.0 y z l a h.2 k)
