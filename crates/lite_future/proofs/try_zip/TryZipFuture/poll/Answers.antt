use Rattle.std.specs.Prelude.{[], ◌∷◌, refl, Ok, Err}
use Rattle.lite_future.specs.Uses.{inl, inr, arith, Ready, future_runs_of}
use Rattle.lite_future.specs.TryZip.{try_pair}
use Rattle.lite_future.specs.Laws.Side.{stands_rest}
use Rattle.lite_future.specs.Laws.Together.{together_row}
use Rattle.lite_future.proofs.try_zip.TryZipFuture.poll.Goals as goal

pub returns-in-Err-clause-ran : goal.returns-in-Err-clause-ran
returns-in-Err-clause-ran g c =
    let f = c.in-Err.ensures.failed in
    inr (inl record {
      before = f.0;
      was_asked = f.2;
      ins = Ready (Err c.in-Err.e) ∷ [];
      error = c.in-Err.e;
      failed = ((refl, refl), refl);
      last = f.1;
      came = f.3;
      is_kept = f.4;
      others = [];
      stands = stands_rest (λ b. Ok b) g.F2.Future.run (future_runs_of g.met.F2.Future.laws) _;
      asked = omega arith;
      gives = (refl, refl);
    })

pub returns-in-Err-try_ask-clause-ran : goal.returns-in-Err-try_ask-clause-ran
returns-in-Err-try_ask-clause-ran g c =
    let row = c.in_default.ensures.row in
    let f = c.in-Err-try_ask.ensures.failed in
    inr (inr record {
      before = f.0;
      was_asked = f.2;
      ins = Ready (Err c.in-Err-try_ask.e) ∷ [];
      error = c.in-Err-try_ask.e;
      failed = ((refl, refl), refl);
      last = f.1;
      came = f.3;
      is_kept = f.4;
      others = row.0 ∷ [];
      stands = row.1;
      asked = omega arith;
      gives = (refl, refl);
    })

pub returns-in-Ready-clause-ran : goal.returns-in-Ready-clause-ran
returns-in-Ready-clause-ran g c =
    let first = c.in_default.ensures.row in
    let second = c.in_default-try_ask.ensures.row in
    inl (together_row (λ a. Ok a) (λ b. Ok b) try_pair g.F1.Future.run g.F2.Future.run (λ v w. Ok (v, w))
    (λ v w. refl) _ _ _ _ _ _ first.0 second.0 (Ready c.in-Ready.both) first.1 second.1 c.in-Ready.ensures)
