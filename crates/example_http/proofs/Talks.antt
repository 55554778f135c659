-- A session over a new connection.
use Rattle.std.specs.Prelude.{◌≡◌, ℕ, false, List, Result, refl}
use Rattle.std.proofs.Common.{subst, sym}
use Rattle.futures_lite.specs.Marks.{ReadMark, WriteMark}
use Rattle.futures_lite.specs.Own.{Runs}
use Rattle.http.specs.declared.request.Request.{Request}
use Rattle.http_server.specs.declared.response.Response.{Response}
use Rattle.http_server.specs.declared.state.Config.{Config}
use Rattle.http_server.specs.History.{IsServed, new_history}
use Rattle.example_http.specs.Moving.{Moved}
use Rattle.example_http.specs.Serving.{HttpSession}
use Rattle.example_http.specs.Whole.{Conversation, ReadAt, WholeSession, WrittenAt}
use Rattle.example_http.specs.declared.http_error.HttpError.{HttpError}

pub conversation : {T O S : Type 0} (config other : Config) (reads : Runs ReadMark T) (writes : Runs WriteMark O)
    (answers : S → Request (List ℕ) → Response → S → Type 0) (x y : HttpSession T O S) (moved : Moved)
    (r : Result (Unit {0}) HttpError) → other ≡ config → x.history ≡ new_history
    → WholeSession other reads writes answers x moved r y → Conversation config answers x.service moved r y.service
conversation config other reads writes answers x y moved r is new w =
    let calls = rw new at w.calls in
    let came : y.history.received ≡ w.came = rw new at w.received in
    let was : x.history.ended ≡ false = rw new refl in
    let tells = subst (λ xs. ReadAt false y.history.ended xs moved.told r) (sym came)
    (subst (λ was. ReadAt was y.history.ended w.came moved.told r) was w.tells) in
    record {
      history = y.history;
      served = subst (λ k. ∥ IsServed k y.history ∥₁) is w.served;
      tells = tells;
      calls = rw calls.1 calls.2;
      written = subst (λ h. WrittenAt h moved r y.history) new w.written;
    }
