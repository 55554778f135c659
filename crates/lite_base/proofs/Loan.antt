-- A `&mut` that is lent for one call, for a new lifetime within ρ, and comes back at the value that the call left.
use Rattle.std.specs.Prelude.{ℕ, [], ◌∷◌}
use Rattle.lite_base.specs.Uses.{RattleType}
use denote.Lend.{LentAgain, comes_back, lends_again}
use denote.Ref.{MutRef}
use seplogic.Ra.Ura.{Ura}
use base.Fml.{Fml, Lft, GName, Share, flft, fdead, fres}
use base.Fraction.{full_share}
use base.FractionLaws.{common}
use base.Logic.{SProp, ent, sep, ex, wand, wand_i, apply∗}
use contract.BorrowLft.{meet_⊑_left}
use mir.Syntax.{named}
use mir.Val.{vptr}
use types.Kit.{‵, raw, ◌⊛◌, later, some, await, updating, show, split, pick, move, use1, use2, use3, now as at_once}
use types.Kit.{done, ◌$◌, ◌∵◌, !, qed}
use types.Logic.{Logic, sem}
use types.Tokens.{lft_new, lft_end, lft-common}

-- the reference to the m at (b, o), under the ghost name γ
abbrev pub lent : (X : RattleType) → Lft → ℕ → ℕ → GName → X.Denot → Fml
lent X κ b o γ m = (MutRef (named 0) κ X).own_val (record { ref_ptr = (b, o); ghost_name = γ; now = m }) (vptr b o ∷ [])

module _ {M : Type 1} {𝓤 : Ura M} (𝓛 : Logic 𝓤) where
  open 𝓛 use {H, A}

  abbrev Ends : Lft → Share → ℕ → Share → SProp 𝓤
  Ends ρ q a s = wand 𝓤 (A.lft (a ∷ ρ) s) (H.⇛ (sep 𝓤 (A.dead (a ∷ ρ)) (A.lft ρ q)))

  abbrev Begun : Lft → Share → ℕ × Share → SProp 𝓤
  Begun ρ q p = sep 𝓤 (A.lft (p.0 ∷ ρ) p.1) (Ends ρ q p.0 p.1)

  -- a new lifetime within ρ, with its token, and the way to end it
  begins : (ρ : Lft) (q : Share) → ent 𝓤 (A.lft ρ q) (H.⇛ (ex 𝓤 (Begun ρ q)))
  begins ρ q =
      qed 𝓛 (‵ (flft ρ q) ∷ []) ∵ updating ! $ lft_new ! tt (λ a.
      let s : Share = (common full_share q).0 in
      let Back : SProp 𝓤 = wand 𝓤 (A.lft (a ∷ ρ) s) (sep 𝓤 (A.lft (a ∷ []) full_share) (A.lft ρ q)) in
      use2 𝓛 (‵ (flft (a ∷ ρ) s) ⊛ raw Back) (lft-common 𝓛 (a ∷ []) ρ full_share q) $ split ! $ move ! (1 ∷ []) $
      use1 𝓛 (raw (Ends ρ q a s))
      (wand_i 𝓤 Back (A.lft (a ∷ ρ) s) _
      (qed 𝓛 (raw Back ∷ ‵ (flft (a ∷ ρ) s) ∷ []) ∵ updating ! $ move ! (1 ∷ 0 ∷ []) $
      use2 𝓛 (‵ (flft (a ∷ []) full_share) ⊛ ‵ (flft ρ q))
      (apply∗ 𝓤 (A.lft (a ∷ ρ) s) (sep 𝓤 (A.lft (a ∷ []) full_share) (A.lft ρ q))) $ split ! $ lft_end ! tt $
      use1 𝓛 (‵ (fdead (a ∷ ρ))) (𝓛.lfts.dead-incl (a ∷ ρ) (a ∷ []) (meet_⊑_left (a ∷ []) ρ)) $ at_once ! $ done !)) $
      at_once ! $ show ! (Begun ρ q) (a, s) $ move ! (1 ∷ 0 ∷ []) $ done !)

  module _ (X : RattleType) (κ ρ : Lft) (q r : Share) (b o : ℕ) (γ : GName) (m : X.Denot) where
    -- the new lifetime, the share of its token, and the name under which it is lent
    abbrev pub Terms : Type 0
    Terms = ℕ × Share × GName

    -- what the lender keeps
    abbrev pub Kept : Terms → SProp 𝓤
    Kept p = sep 𝓤 (sem 𝓛 (LentAgain X κ (p.0 ∷ ρ) q γ b o p.2 m)) (Ends ρ r p.0 p.1)

    abbrev pub Lent : Terms → SProp 𝓤
    Lent p = sep 𝓤 (sem 𝓛 (lent X (p.0 ∷ ρ) b o p.2 m)) (sep 𝓤 (A.lft (p.0 ∷ ρ) p.1) (Kept p))

    pub lends : ent 𝓤 (sep 𝓤 (sem 𝓛 (lent X κ b o γ m)) (sep 𝓤 (A.lft κ q) (A.lft ρ r))) (H.⇛ (ex 𝓤 Lent))
    lends =
        qed 𝓛 (‵ (lent X κ b o γ m) ∷ ‵ (flft κ q) ∷ ‵ (flft ρ r) ∷ []) ∵ updating ! $ move ! (2 ∷ []) $
        use1 𝓛 (later (some (λ (p : ℕ × Share). ‵ (flft (p.0 ∷ ρ) p.1) ⊛ raw (Ends ρ r p.0 p.1)))) (begins ρ r) $
        await ! tt $ pick ! (λ p. split ! $ move ! (2 ∷ 3 ∷ []) $
        use2 𝓛 (later (some (λ (δ : GName). ‵ (lent X (p.0 ∷ ρ) b o δ m) ⊛ ‵ (LentAgain X κ (p.0 ∷ ρ) q γ b o δ m))))
        (lends_again 𝓛 X (named 0) κ (p.0 ∷ ρ) q γ b o (named 0) m) $
        await ! tt $ pick !
        (λ δ. split ! $ at_once ! $ show ! Lent (p.0, p.1, δ) $ move ! (0 ∷ 2 ∷ 1 ∷ 3 ∷ []) $ done !))

    pub regains : (p : Terms) (n : X.Denot)
        → ent 𝓤 (sep 𝓤 (A.lft (p.0 ∷ ρ) p.1) (sep 𝓤 (A.res p.2 (X.coded.code n)) (Kept p)))
        (H.⇛ (sep 𝓤 (sem 𝓛 (lent X κ b o γ n)) (sep 𝓤 (A.lft κ q) (A.lft ρ r))))
    regains p n =
        qed 𝓛 (‵ (flft (p.0 ∷ ρ) p.1) ∷ ‵ (fres p.2 (X.coded.code n)) ∷
        (‵ (LentAgain X κ (p.0 ∷ ρ) q γ b o p.2 m) ⊛ raw (Ends ρ r p.0 p.1)) ∷ []) ∵ updating ! $
        move ! (2 ∷ []) $ split ! $ move ! (2 ∷ 1 ∷ []) $
        use2 𝓛 (later (‵ (fdead (p.0 ∷ ρ)) ⊛ ‵ (flft ρ r))) (apply∗ 𝓤 (A.lft (p.0 ∷ ρ) p.1) _) $ await ! tt $
        split ! $
        move ! (0 ∷ 2 ∷ 3 ∷ []) $
        use3 𝓛 (later (‵ (lent X κ b o γ n) ⊛ ‵ (flft κ q)))
        (comes_back 𝓛 X (named 0) κ (p.0 ∷ ρ) q γ b o p.2 m n) $ await ! tt $ split ! $
        at_once ! $ done !
