use Rattle.std.specs.Prelude.{◌≡◌, ◌≤◌, ◌<◌, ◌∷◌, [], Ok}
use Rattle.lite_buffered.specs.Uses.{refl, rules, arith, Ready, ReadMark, read_marks, room_in}
use Rattle.lite_buffered.proofs.Crossing.{crossed, moved_end}
use Rattle.lite_buffered.proofs.chain.Chain.read_on_vectored.Goals as goal

pub returns-2-clause-ran : goal.returns-2-clause-ran
returns-2-clause-ran g c =
    let first = g.R1.ReadSpec.reads in
    let p = c.poll_read_vectored in
    let h = p.ensures.ran in
    let bufs = c.args.bufs.now in
    let within : c.args.room ≤ room_in bufs = omega (arith, c.requires.room) in
    let some : 0 < room_in bufs = omega (arith, within, c.requires.some) in
    let met : p.result ≡ Ready (Ok 0) = search rules in
    let ended : first c.args.self.now.first (ReadMark.end ∷ []) p.new.self =
    rw (← moved_end h.0 (omega (arith, h.1, some))) (rw met at h.2) in
    let b = c.read_within.ensures.ran bufs within in (
      b.0,
      b.1,
      crossed first g.R2.ReadSpec.reads c.args.self.now _ (read_marks c.read_within.result b.0) g.R1.ReadSpec.read_laws
          c.requires.first refl ended b.2,
    )
