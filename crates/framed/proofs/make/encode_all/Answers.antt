use Rattle.std.specs.Prelude.{◌≡◌, ◌++◌, ◌∷◌, [], List}
use Rattle.std.specs.Vec.Iter.{into_iter_items}
use Rattle.std.proofs.Common.{◌∙◌, ap}
use Rattle.framed.proofs.Encoding.{cut_on, encodes_push}
use Rattle.framed.proofs.make.encode_all.Goals as goal

-- a list with one item more is not empty
not_none : {X : Type 0} (xs : List X) (x : X) → xs ++ x ∷ [] ≡ [] → ⊥
not_none [] x e = cc e
not_none (y ∷ xs) x e = cc e

pub returns-in-Err : goal.returns-in-Err
returns-in-Err g c = (
  record {
    before = c.loop-item.yielded;
    item = c.in-Some.item;
    behind = into_iter_items c.next.new.self;
    frames = c.loop-item.out.items;
    spare = c.loop-item.out.spare;
    cut = c.loop-item.invariant.1 ∙ ap (λ l. c.loop-item.yielded ++ l) c.in-Some.ensures.steps.0;
    encoded = rw c.in-Err.ensures.unchanged.0 c.loop-item.invariant.0;
    rejected = rw c.in-Err.ensures.unchanged.0 c.in-Err.ensures.refused;
  },
  c.loop-item.invariant.2,
  c.clear-in-Err.ensures.items,
)

pub loop-item-preserved : goal.loop-item-preserved
loop-item-preserved g c =
    let e = rw c.in_default.is at c.encode.ensures.ok in (
      encodes_push g.E.Encoder.encodes c.args.encoder.now c.loop-item.encoder c.encode.new.self c.loop-item.yielded
          c.in-Some.item c.loop-item.out.items e.0 c.encode.new.dst.items c.loop-item.invariant.0 e.1 e.2,
      cut_on c.loop-item.yielded _ _ c.in-Some.item c.args.items.items c.loop-item.invariant.1 c.in-Some.ensures.steps.0,
      λ none. absurd (not_none c.loop-item.yielded c.in-Some.item none),
    )
