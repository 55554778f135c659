use Rattle.std.specs.Prelude.{ℕ, List, [], ◌∷◌}
use Rattle.lite_bridge.specs.Uses.{subst, sym, ap, BufReader, ThroughBuffer, SeeksThrough}
use Rattle.lite_bridge.specs.declared.cursor.Cursor.{Cursor}
use Rattle.lite_bridge.specs.Cursor.{CursorReads, CursorSeeks}
use Rattle.lite_bridge.specs.Calls.{Event, RunsEvents}
use Rattle.lite_bridge.specs.Logical.{IsInStep, logical}
use Rattle.lite_bridge.proofs.Seeking.{seeks_as_bare}
use Rattle.lite_bridge.proofs.Stepping.{reads_as_bare}
use Rattle.lite_bridge.proofs.seek.answers_as_cursor.Goals as goal

module _ {T : Type 0} (bytes : T → List ℕ) where
  as_bare : (x : BufReader (Cursor T)) → IsInStep bytes x → (calls : List Event) (last : BufReader (Cursor T))
      → RunsEvents (ThroughBuffer (CursorReads bytes)) (SeeksThrough (CursorSeeks bytes)) x calls last
      → RunsEvents (CursorReads bytes) (CursorSeeks bytes) (logical x) calls (logical last) × IsInStep bytes last
  as_bare x s [] last h = (ap logical h, subst (IsInStep bytes) (sym h) s)
  as_bare x s (Event.read l ∷ calls) last h =
      let one = reads_as_bare bytes x h.0 l s h.1 in
      let rest = as_bare h.0 one.1 calls last h.2 in
      ((logical h.0, one.0, rest.0), rest.1)
  as_bare x s (Event.sought to r ∷ calls) last h =
      let one = seeks_as_bare bytes x h.0 to r s h.1 h.2 in
      let rest = as_bare h.0 one.1 calls last h.3 in
      ((logical h.0, h.1, one.0, rest.0), rest.1)

pub returns : goal.returns
returns g c =
    let t = g.T.BytesLike in
    as_bare t.bytes c.args._reader.now c.requires
