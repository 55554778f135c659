use Rattle.std.specs.Prelude.{◌≡◌, ◌++◌, ◌∷◌, [], length, Err, None, Ok, Some}
use Rattle.std.proofs.Common.{◌∙◌, ap, append-nil, append_assoc, arith, refl, sym}
use Rattle.framed.specs.Uses.{ToldStripped}
use Rattle.framed.proofs.Collecting.{all_frames, all_left, last_more, last_refused, last_stops, more, none_left, none_yet, nothing_left, refused, stops}
use Rattle.framed.specs.ToldLaws.{stripped_laws}
use Rattle.framed.proofs.collect.collect_frames.Goals as goal

pub loop-init : goal.loop-init
loop-init g c = (
  tt,
  tt,
  c.requires,
  [],
  sym (append-nil _),
  none_yet g.D.Decoder.gives g.D.Error.From.from_gives (ToldStripped g.T.ReadSpec.reads) (stripped_laws g.T.ReadSpec.read_laws)
      g.met.D.Decoder.stable c.args.framed.now,
  none_left g.D.Decoder.gives g.D.Error.From.from_gives (ToldStripped g.T.ReadSpec.reads) (stripped_laws g.T.ReadSpec.read_laws)
      g.met.D.Decoder.stable c.args.framed.now,
  λ phase. (refl, refl),
  omega arith,
)

pub loop-preserved : goal.loop-preserved
loop-preserved g c =
    let is : c.frame_by.result ≡ Some (Ok c.in-Some-Ok.frame) = rw c.in-Some-Ok.field-0-is at c.in-Some-Ok.is in
    let frames = c.loop.invariant.3 in (
      tt,
      tt,
      c.frame_by.ensures.again,
      frames ++ c.in-Some-Ok.frame ∷ [],
      c.in_default.ensures.items ∙ ap (λ l. l ++ c.in-Some-Ok.frame ∷ []) c.loop.invariant.4 ∙ append_assoc _ frames _,
      λ phase. more g.D.Decoder.gives g.D.Error.From.from_gives
          (ToldStripped g.T.ReadSpec.reads) (stripped_laws g.T.ReadSpec.read_laws) g.met.D.Decoder.stable c.args.framed.now
          frames c.loop.framed _ c.in-Some-Ok.frame (c.loop.invariant.5 phase) (rw is at c.frame_by.ensures.told),
      λ phase. last_more g.D.Decoder.gives g.D.Error.From.from_gives
          (ToldStripped g.T.ReadSpec.reads) (stripped_laws g.T.ReadSpec.read_laws) g.met.D.Decoder.stable c.args.framed.now
          frames c.loop.framed _ c.in-Some-Ok.frame (c.loop.invariant.6 phase) (rw is at c.frame_by.ensures.told),
      λ phase.
          let none = nothing_left g.D.Decoder.gives g.D.Error.From.from_gives (ToldStripped g.T.ReadSpec.reads)
          (stripped_laws g.T.ReadSpec.read_laws) g.met.D.Decoder.stable c.args.framed.now c.loop.framed _ (Some (Ok c.in-Some-Ok.frame))
          (c.loop.invariant.7 phase).0 phase (rw is at c.frame_by.ensures.told) in
          let no = none.0 in cc,
      omega (arith, c.loop.invariant.8, c.in_default.ensures.capacity),
    )

pub returns-in-Err-clause-full : goal.returns-in-Err-clause-full
returns-in-Err-clause-full g c =
    omega (arith, c.loop.invariant.8, c.in-Err.ensures.full, ap length c.in-Err.ensures.items)

pub returns-in-Err-clause-told : goal.returns-in-Err-clause-told
returns-in-Err-clause-told g c phase =
    let is : c.frame_by.result ≡ Some (Ok c.in-Some-Ok.frame) = rw c.in-Some-Ok.field-0-is at c.in-Some-Ok.is in
    let at = more g.D.Decoder.gives g.D.Error.From.from_gives (ToldStripped g.T.ReadSpec.reads)
    (stripped_laws g.T.ReadSpec.read_laws) g.met.D.Decoder.stable c.args.framed.now c.loop.invariant.3 c.loop.framed _ c.in-Some-Ok.frame (c.loop.invariant.5 phase) (rw is at c.frame_by.ensures.told) in
    let r = refused g.D.Decoder.gives g.D.Error.From.from_gives (ToldStripped g.T.ReadSpec.reads)
    (stripped_laws g.T.ReadSpec.read_laws) g.met.D.Decoder.stable c.args.framed.now c.loop.invariant.3 _ _ _ c.in-Err.ensures.value_returned at in
    (r.0, c.loop.invariant.3, r.1, c.in-Err.ensures.items ∙ c.loop.invariant.4, r.2)

pub returns-in-Err-clause-rest : goal.returns-in-Err-clause-rest
returns-in-Err-clause-rest g c phase =
    let is : c.frame_by.result ≡ Some (Ok c.in-Some-Ok.frame) = rw c.in-Some-Ok.field-0-is at c.in-Some-Ok.is in
    let at = last_more g.D.Decoder.gives g.D.Error.From.from_gives (ToldStripped g.T.ReadSpec.reads)
    (stripped_laws g.T.ReadSpec.read_laws) g.met.D.Decoder.stable c.args.framed.now c.loop.invariant.3 c.loop.framed _ c.in-Some-Ok.frame (c.loop.invariant.6 phase) (rw is at c.frame_by.ensures.told) in
    let r = last_refused g.D.Decoder.gives g.D.Error.From.from_gives (ToldStripped g.T.ReadSpec.reads)
    (stripped_laws g.T.ReadSpec.read_laws) g.met.D.Decoder.stable c.args.framed.now c.loop.invariant.3 _ _ _ c.in-Err.ensures.value_returned at in
    (c.loop.invariant.3, r.0, c.in-Err.ensures.items ∙ c.loop.invariant.4, r.1)

pub returns-in-Err-clause-over : goal.returns-in-Err-clause-over
returns-in-Err-clause-over g c phase =
    let is : c.frame_by.result ≡ Some (Ok c.in-Some-Ok.frame) = rw c.in-Some-Ok.field-0-is at c.in-Some-Ok.is in
    let none = nothing_left g.D.Decoder.gives g.D.Error.From.from_gives (ToldStripped g.T.ReadSpec.reads)
    (stripped_laws g.T.ReadSpec.read_laws) g.met.D.Decoder.stable c.args.framed.now c.loop.framed _ (Some (Ok c.in-Some-Ok.frame))
    (c.loop.invariant.7 phase).0 phase (rw is at c.frame_by.ensures.told) in
    let no = none.0 in cc

pub returns-in-Some-Err-clause-told : goal.returns-in-Some-Err-clause-told
returns-in-Some-Err-clause-told g c phase =
    let is : c.frame_by.result ≡ Some (Err c.in-Some-Err.e) = rw c.in-Some-Err.field-0-is at c.in-Some-Err.is in
    let r = stops g.D.Decoder.gives g.D.Error.From.from_gives (ToldStripped g.T.ReadSpec.reads)
    (stripped_laws g.T.ReadSpec.read_laws) g.met.D.Decoder.stable c.args.framed.now c.loop.invariant.3 c.loop.framed _ c.in-Some-Err.e (c.loop.invariant.5 phase) (rw is at c.frame_by.ensures.told) in
    (r.0, c.loop.invariant.3, r.1, c.loop.invariant.4, r.2)

pub returns-in-Some-Err-clause-rest : goal.returns-in-Some-Err-clause-rest
returns-in-Some-Err-clause-rest g c phase =
    let is : c.frame_by.result ≡ Some (Err c.in-Some-Err.e) = rw c.in-Some-Err.field-0-is at c.in-Some-Err.is in
    let r = last_stops g.D.Decoder.gives g.D.Error.From.from_gives (ToldStripped g.T.ReadSpec.reads)
    (stripped_laws g.T.ReadSpec.read_laws) g.met.D.Decoder.stable c.args.framed.now c.loop.invariant.3 c.loop.framed _ c.in-Some-Err.e (c.loop.invariant.6 phase) (rw is at c.frame_by.ensures.told) in
    (c.loop.invariant.3, r.0, c.loop.invariant.4, r.1)

pub returns-in-Some-Err-clause-over : goal.returns-in-Some-Err-clause-over
returns-in-Some-Err-clause-over g c phase =
    let is : c.frame_by.result ≡ Some (Err c.in-Some-Err.e) = rw c.in-Some-Err.field-0-is at c.in-Some-Err.is in
    let none = nothing_left g.D.Decoder.gives g.D.Error.From.from_gives (ToldStripped g.T.ReadSpec.reads)
    (stripped_laws g.T.ReadSpec.read_laws) g.met.D.Decoder.stable c.args.framed.now c.loop.framed _ (Some (Err c.in-Some-Err.e))
    (c.loop.invariant.7 phase).0 phase (rw is at c.frame_by.ensures.told) in
    let no = none.0 in cc

pub returns-in-None-frame_by-clause-told : goal.returns-in-None-frame_by-clause-told
returns-in-None-frame_by-clause-told g c phase =
    let is : c.frame_by.result ≡ None = c.in-None-frame_by.is in
    let r = all_frames g.D.Decoder.gives g.D.Error.From.from_gives (ToldStripped g.T.ReadSpec.reads)
    (stripped_laws g.T.ReadSpec.read_laws) g.met.D.Decoder.stable c.args.framed.now c.loop.invariant.3 c.loop.framed _ (c.loop.invariant.5 phase) (rw is at c.frame_by.ensures.told) in
    (r.0, c.loop.invariant.3, r.1, c.loop.invariant.4, r.2)

pub returns-in-None-frame_by-clause-rest : goal.returns-in-None-frame_by-clause-rest
returns-in-None-frame_by-clause-rest g c phase =
    let is : c.frame_by.result ≡ None = c.in-None-frame_by.is in
    let r = all_left g.D.Decoder.gives g.D.Error.From.from_gives (ToldStripped g.T.ReadSpec.reads)
    (stripped_laws g.T.ReadSpec.read_laws) g.met.D.Decoder.stable c.args.framed.now c.loop.invariant.3 c.loop.framed _ (c.loop.invariant.6 phase) (rw is at c.frame_by.ensures.told) in
    (c.loop.invariant.3, r.0, c.loop.invariant.4, r.1)

pub returns-in-None-frame_by-clause-over : goal.returns-in-None-frame_by-clause-over
returns-in-None-frame_by-clause-over g c phase =
    let is : c.frame_by.result ≡ None = c.in-None-frame_by.is in
    let none = nothing_left g.D.Decoder.gives g.D.Error.From.from_gives (ToldStripped g.T.ReadSpec.reads)
    (stripped_laws g.T.ReadSpec.read_laws) g.met.D.Decoder.stable c.args.framed.now c.loop.framed _ None
    (c.loop.invariant.7 phase).0 phase (rw is at c.frame_by.ensures.told) in
    (c.loop.invariant.3, none.1, c.loop.invariant.4, (c.loop.invariant.7 phase).1)
