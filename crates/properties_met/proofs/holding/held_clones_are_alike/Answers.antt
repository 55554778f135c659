use Rattle.std.proofs.Common.{Some, Bor, ap, sym}
use Rattle.lite_base.specs.Alike.{SameItem, Sameness}
use Rattle.lite_reshape.specs.Cloned.{AlikeCloned, EqualClones}
use Rattle.properties_met.proofs.holding.held_clones_are_alike.Goals as goal

held_alike : {S T : Type 0} (same : Sameness (Bor T)) (alike : S → S → Type 0) (is_clone : T → T → Type 0) (x y : S) (i j : Bor T)
    → alike x y → EqualClones is_clone → SameItem same i j
    → AlikeCloned same alike is_clone (record { stream = x; held = Some i }) (record { stream = y; held = Some j })
held_alike Sameness.equal alike is_clone x y i j a e d = (a, ap (λ k. Some k) (sym d), e)
held_alike (Sameness.by same) alike is_clone x y i j a e d = (a, d)

pub returns : goal.returns
returns g c =
    held_alike g.S.SteadyStream.same g.S.SteadyStream.alike g.T.Clone.is_clone _ _ _ _ c.requires.alike c.requires.equal
    c.requires.items
