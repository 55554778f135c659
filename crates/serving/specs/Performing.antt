-- What the responder pushes stands behind the replies that wait.
use Rattle.std.specs.Prelude.{◌≡◌, ℕ, Bool, List, ◌++◌, length, take, Some, None, Ok, Err}
use Rattle.std.proofs.lemmas.List.{take_all, take-append-le}
use Rattle.serving.specs.Uses.{FramesError, LastWords, ServiceStep, ap, append-nil, arith, inl, inr, lent_body, refl, sym, ◌∙◌}
use Rattle.serving.specs.ServingSteps.{PerformsFound, PerformsTurn}
use Rattle.serving.specs.Turns.{Responds, ServingTurn, answered, ended, refused, said_in, stop_behind, unanswered, unrefused, Server}
use Rattle.serving.specs.declared.stop.Stop.TheVariants.{Ended, Lacked, Refused}

-- What was pushed behind some bytes is taken away.
pub taken_back : (before after rest : List ℕ) (n : ℕ) → after ≡ before ++ rest → n ≡ length before → take n after ≡ before
taken_back before after rest n is same =
    ap (take n) is ∙ take-append-le n before rest (omega (arith, same)) ∙ take_all n before (omega (arith, same))

module _ {T C O S E : Type 0} (buffer_of : T → List ℕ) (answers : ServiceStep S (List ℕ) ℕ) (words : LastWords S (FramesError E) ℕ) where
  -- What else a turn leaves as it was.
  pub record KeepsRest (x y : Server T C O S E) : Type 0 where
    pub requests : y.requests ≡ x.requests
    pub replies : y.replies ≡ x.replies
    pub flushed : y.is_flushed ≡ x.is_flushed
    pub limit : y.limit ≡ x.limit
    pub error : y.error ≡ x.error

  performs_turn : (x y : Server T C O S E) (turn : ServingTurn E) → Responds answers words x.responder turn None y.responder y.stop
      → y.waiting ≡ x.waiting ++ said_in turn → KeepsRest x y → PerformsTurn buffer_of answers words x turn y
  performs_turn x y turn responds out rest =
      record {
        responds = responds;
        waits = out;
        requests = rest.requests;
        replies = rest.replies;
        flushed = rest.flushed;
        limit = rest.limit;
        error = rest.error;
      }

  pub performs_ended : (x y : Server T C O S E) → y ≡ record x { stop = Some Ended } → PerformsFound buffer_of answers words x None y
  performs_ended x y is = (
    ended,
    refl,
    performs_turn x y ended (rw is (refl, refl)) (rw is (sym (append-nil x.waiting)))
        (record { requests = rw is refl; replies = rw is refl; flushed = rw is refl; limit = rw is refl; error = rw is refl }),
  )

  pub performs_answer : (x y : Server T C O S E) (said : List ℕ) (on : Bool) → y.waiting ≡ x.waiting ++ said
      → answers x.responder (lent_body buffer_of x.requests) (Some (said, on)) y.responder → y.stop ≡ stop_behind on → KeepsRest x y
      → PerformsFound buffer_of answers words x (Some (Ok tt)) y
  performs_answer x y said on out is stop rest =
      (answered (lent_body buffer_of x.requests) said on, inl (said, on, refl), performs_turn x y _ (is, stop) out rest)

  pub lacks_answer : (x y : Server T C O S E) → y.waiting ≡ x.waiting
      → answers x.responder (lent_body buffer_of x.requests) None y.responder → y.stop ≡ Some Lacked → KeepsRest x y
      → PerformsFound buffer_of answers words x (Some (Ok tt)) y
  lacks_answer x y out is stop rest =
      (unanswered (lent_body buffer_of x.requests), inr refl, performs_turn x y _ (is, stop) (out ∙ sym (append-nil x.waiting)) rest)

  pub performs_words : (x y : Server T C O S E) (e : FramesError E) (said : List ℕ) → y.waiting ≡ x.waiting ++ said
      → words x.responder e (Some said) y.responder → y.stop ≡ Some (Refused e) → KeepsRest x y
      → PerformsFound buffer_of answers words x (Some (Err e)) y
  performs_words x y e said out is stop rest = (refused e said, inl (said, refl), performs_turn x y _ (is, stop) out rest)

  pub lacks_words : (x y : Server T C O S E) (e : FramesError E) → y.waiting ≡ x.waiting → words x.responder e None y.responder
      → y.stop ≡ Some Lacked → KeepsRest x y → PerformsFound buffer_of answers words x (Some (Err e)) y
  lacks_words x y e out is stop rest =
      (unrefused e, inr refl, performs_turn x y _ (is, stop) (out ∙ sym (append-nil x.waiting)) rest)
