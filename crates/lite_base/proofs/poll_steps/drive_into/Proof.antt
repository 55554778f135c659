-- The walk of `drive_into` by hand: its loop ends by the order of the steps, which is no number. Each step lends the
-- three references to `step_into`.
use Rattle.std.specs.Prelude.{None, Some, Option, Bool, true, false, IsSome, IfSome, MatchOption, ◌≡◌, ℕ, List, [], ◌∷◌, refl}
use Rattle.lite_base.specs.Uses.{ap, subst, Keeps, RattleType}
use Rattle.std.proofs.raw_atomic.Walks.{leaves, proved}
use denote.Memory.{mem}
use denote.Param.{bounded, param}
use denote.Ref.{mut_Tells, mut_vals}
use denote.Signature.{plain}
use denote.Steps.{heard, nothing, only}
use denote.Triple.Call.{calls_at}
use denote.Triple.Clauses.{Clauses, Ended}
use denote.Triple.Spec.{triple_of}
use denote.Triple.Statement.{Contract, Triple}
use denote.Triple.Walked.{Goes-ref, Stays, stay_ref, walk_of}
use Rattle.futures.specs.contracts.task.Poll as PollRow
use Rattle.futures.specs.contracts.task.context.Context as ContextRow
use Rattle.std.specs.contracts.option.Option as OptionRow
use Rattle.lite_base.specs.Chain.{NextStep, Reaches}
use Rattle.lite_base.specs.Ranks.{Terminates}
use Rattle.lite_base.proofs.Later.{Later, Later-wf}
use Rattle.lite_base.proofs.Loan.{lent, lends, regains, Kept}
use Rattle.lite_base.specs.declared.poll_steps.PollSteps.{Ghosts}
use Rattle.lite_base.specs.contracts.poll_steps.drive_into as F
use Rattle.lite_base.specs.contracts.poll_steps.drive_into.Key.{name as #drive_into}
use Rattle.lite_base.specs.contracts.poll_steps.step_into as Turned
use Rattle.lite_base.proofs.poll_steps.step_into.Met.{met as step_into_met}
use Rattle.lite_base.proofs.poll_steps.step_into.Symbol.{name as #step_into}
use Rattle.lite_base.proofs.poll_steps.drive_into.Statement.{statement}
use Rattle.lite_base.proofs.poll_steps.drive_into.Code as code
use base.Fml.{Fml, GName, Lft, Share, fbor, feq, flft, fres, fsep, ftrue}
use base.Logic.{SProp, ent, sep, ex, emp, guard, id⊢}
use base.Share
use contract.BorrowLft.{◌⊑◌, ⊑_refl, ⊑_trans, meet_⊑_right}
use contract.Lifetimes.{AllOutlive, Lfts, Shares}
use contract.Monad.{Fun, fact, fact_i}
use contract.Running.{tables, tables_of}
use mathlib.Core.WellFounded.InvImage
use mir.MapTy.{inst_fn}
use mir.Syntax.{Args, Body, Callee, Dict, Fn, a_type, block, dcons, dnil, loop, named, return, seq}
use mir.Val.{Val, vbool, vptr, vunit}
use prog.Memory.{Memory}
use prog.Routine.{Routine}
use prog.Wp.{Env, Out, Tables, after_block, after_seq, after_turn, at_return, WpFn, Wp}
use seplogic.Ra.Ura.{Ura}
use sound.WpLaws.{fm_of}
use types.ByLocal.{alloc_all, env, forget_but, free_all, get, holding, lands_as, look_at, pass_all, sets, through}
use types.Kit.{Item, Sq, ‵, raw, ◌⊛◌, some, later, given, any_q, runs, await, check, learn, updating, show, split}
use types.Kit.{split3, fsplit, fsplit3, fjoin, feq_i, feq_l, join, pick, keep, move, group, rewrite, suffices, use0}
use types.Kit.{use1, use2, use3, now as at_once, done, ◌$◌, ◌∵◌, !, qed}
use types.Logic.{Logic, sem}
use types.Run.{Below, addr, again, and_then, blocks, branches, enter, first, loops, no_more, of_opd, returns_within}
use types.Run.{skips, stop, unit_lit}
use types.SemTy.{Body as BorBody}
use Rattle.lite_base.specs.Registered.{Registered}

-- the step of a function that is one loop
abbrev step_of : Body → Body
step_of (seq (block (loop b)) rest) = b
step_of b = b

-- what a step does after its call
abbrev after_call : Body → Body
after_call (seq a (seq b (seq c (seq d e)))) = e
after_call b = b

module _ {A : Type 0} where
  some_told : (o : Option A) → MatchOption o (true ≡ false) (λ _. true ≡ true) → IsSome o
  some_told None h = absurd (cc h)
  some_told (Some a) h = refl

  none_told : (o : Option A) → MatchOption o (false ≡ false) (λ _. false ≡ true) → o ≡ None
  none_told None h = refl
  none_told (Some a) h = absurd (cc h)

answered : {S A : Type 0} (step : S → Option A → S → Type 0) (x m y : S) (o : Option A) → Reaches (NextStep step) x m
    → step m o y → IfSome o (λ a. (mid : S) × Reaches (NextStep step) x mid × step mid (Some a) y)
answered step x m y None g h = tt
answered step x m y (Some a) g h = (m, g, h)

record El : Type 2 where
  T : RattleType
  O : RattleType
  G : Ghosts T.Denot O.Denot
  d : Dict

module _ (E : El) where
  abbrev args : Args
  args = bounded (a_type ∷ a_type ∷ []) (E.T, (E.O, tt)) (dcons E.d dnil)

  abbrev fn' : Fn
  fn' = inst_fn args code.function

  abbrev step : Body
  step = step_of fn'.body

  abbrev State : RattleType
  State = param 0 E.T

  abbrev Cx : Lft → RattleType
  Cx κ = ContextRow.the_row (record { mir = named 2; lft = κ })

  abbrev Answer : RattleType
  Answer = OptionRow.the_row (PollRow.the_row (param 1 E.O))

  abbrev ended : Ended
  ended = F.ended E.T E.O E.G E.d

  abbrev stayed : Stays ended.signature.params ended.kept
  stayed = (
    stay_ref (0 ∷ []) tt (plain (λ _. State)),
    (stay_ref (1 ∷ []) tt (plain (λ κs. Cx κs.1.1.0)), (stay_ref (3 ∷ []) tt (plain (λ _. Answer)), tt)),
  )

  abbrev at_key : Callee
  at_key = #step_into args

  abbrev N : E.T.Denot → E.T.Denot → Type 0
  N = NextStep E.G.step

  abbrev Open : Answer.Denot → Type 0
  Open o = o ≡ None

  abbrev Leaving : (κ : Lft) → E.T.Denot → (Cx κ).Denot → Answer.Denot → Type 0
  Leaving κ x c o = IfSome o (λ answer. Registered answer (E.G.step_registers x) c)

  abbrev Answered : E.T.Denot → Answer.Denot → E.T.Denot → Type 0
  Answered x o y = IfSome o (λ answer. (mid : E.T.Denot) × Reaches N x mid × E.G.step mid (Some answer) y)

  -- what `step_into` ensures, with the answer's slot empty before
  abbrev Told : (κ : Lft) → E.T.Denot → (Cx κ).Denot → Bool → E.T.Denot → (Cx κ).Denot → Answer.Denot → Type 0
  Told κ x c r y k o = E.G.step x o y × MatchOption o (r ≡ false) (λ _. r ≡ true) × Leaving κ y k o × Keeps c k

  module _ {M : Type 1} {𝓤 : Ura M} (𝓛 : Logic 𝓤) (at_mem : Memory → SProp 𝓤) (run : Routine → Fun 𝓤) where
    open 𝓛 use {H, A}

    abbrev At : Contract 𝓤
    At = triple_of 𝓛 (Turned.signature E.T E.O) (Turned.spec E.T E.O E.G E.d 𝓛 at_mem run)

    -- what a `&mut` that was lent leaves
    abbrev last : (X : RattleType) → Lft → ℕ → ℕ → GName → X.Denot → Fml
    last X κ b o δ w = fsep (fres δ (X.coded.code w)) (fbor κ (BorBody (mem X) b o δ))

    module _ (κt κc κo ρ : Lft) (qt qc qo qρ : Share) (tb to cb co ob oo : ℕ) (δt δc δo : GName) (x : E.T.Denot)
        (c : (Cx ρ).Denot) (below : κc ⊑ ρ) where
      abbrev asking : At.Ghost
      asking = (
        (
          (κt, (κc, (ρ, (κo, (κt, (κo, tt)))))),
          (Share.left qt, (qc, (qρ, (Share.left qo, (Share.right qt, (Share.right qo, tt)))))),
          (below, (⊑_refl κt, (⊑_refl κo, tt))),
          (
            record { ref_ptr = (tb, to); ghost_name = δt; now = x },
            (
              record { ref_ptr = (cb, co); ghost_name = δc; now = c },
              (record { ref_ptr = (ob, oo); ghost_name = δo; now = None }, tt),
            ),
          ),
          (vptr tb to ∷ [], (vptr cb co ∷ [], (vptr ob oo ∷ [], tt))),
        ),
        tt,
      )

      asks : κt ⊑ E.T.lives → κo ⊑ E.O.lives → E.G.can_step x
          → ent 𝓤 (sep 𝓤 (sem 𝓛 (lent Answer κo ob oo δo None))
          (sep 𝓤 (A.lft κo qo)
          (sep 𝓤 (sem 𝓛 (lent (Cx ρ) κc cb co δc c))
          (sep 𝓤 (A.lft κc qc)
          (sep 𝓤 (sem 𝓛 (lent State κt tb to δt x)) (sep 𝓤 (A.lft κt qt) (A.lft ρ qρ)))))))
          (At.pre asking)
      asks in_t in_o can =
          qed 𝓛 (‵ (lent Answer κo ob oo δo None) ∷ ‵ (flft κo qo) ∷ ‵ (lent (Cx ρ) κc cb co δc c) ∷ ‵ (flft κc qc) ∷ ‵
          (lent State κt tb to δt x) ∷ ‵ (flft κt qt) ∷ ‵ (flft ρ qρ) ∷ []) ∵
          use0 𝓛 (raw (fact 𝓤 (Open None))) (fact_i 𝓤 (Open None) (emp 𝓤) refl) $
          use0 𝓛 (raw (fact 𝓤 (E.G.can_step x))) (fact_i 𝓤 (E.G.can_step x) (emp 𝓤) can) $ join ! $
          use0 𝓛 (raw (fact 𝓤 (κo ⊑ E.O.lives))) (fact_i 𝓤 (κo ⊑ E.O.lives) (emp 𝓤) in_o) $ join ! $
          use0 𝓛 (raw (fact 𝓤 (κt ⊑ E.T.lives))) (fact_i 𝓤 (κt ⊑ E.T.lives) (emp 𝓤) in_t) $ join ! $
          nothing ! $ move ! (2 ∷ 0 ∷ []) $ fjoin ! $ move ! (3 ∷ 0 ∷ []) $ fjoin ! $ move ! (4 ∷ 0 ∷ []) $ fjoin ! $
          -- [the references; the facts; the tokens of κo, κc, κt and ρ]
          move ! (2 ∷ []) $
          use1 𝓛 (‵ (flft κo (Share.left qo)) ⊛ ‵ (flft κo (Share.right qo))) (𝓛.lfts.lft_split κo qo) $ split ! $
          move ! (5 ∷ []) $
          use1 𝓛 (‵ (flft κt (Share.left qt)) ⊛ ‵ (flft κt (Share.right qt))) (𝓛.lfts.lft_split κt qt) $ split ! $
          nothing ! $ move ! (4 ∷ 0 ∷ []) $ join ! $ move ! (2 ∷ 0 ∷ []) $ join ! $ move ! (2 ∷ 0 ∷ []) $ join ! $
          move ! (5 ∷ 0 ∷ []) $ join ! $
          move ! (4 ∷ 0 ∷ []) $ join ! $ move ! (1 ∷ 0 ∷ []) $ join ! $ join ! $ join ! $ done !

      abbrev Given : Type 0
      Given = Bool × E.T.Denot × (Cx ρ).Denot × Answer.Denot

      abbrev Gave : Val → Given → SProp 𝓤
      Gave v y =
          guard 𝓤 (Told ρ x c y.0 y.1 y.2 y.3)
          (sep 𝓤 (sem 𝓛 (feq (List Val) (v ∷ []) (vbool y.0 ∷ [])))
          (sep 𝓤 (A.lft κt qt) (sep 𝓤 (A.res δt (State.coded.code y.1)) (sep 𝓤 (A.lft κc qc)
          (sep 𝓤 (A.res δc ((Cx ρ).coded.code y.2))
          (sep 𝓤 (A.lft κo qo) (sep 𝓤 (A.res δo (Answer.coded.code y.3)) (A.lft ρ qρ))))))))

      gives : (v : Val) → ent 𝓤 (At.post asking v) (H.⇛ (ex 𝓤 (Gave v)))
      gives v =
          qed 𝓛 (raw (At.post asking v) ∷ []) ∵ updating ! $
          use1 𝓛 (later
          (some (λ (r : Bool).
          ((‵ (flft κt (Share.left qt)) ⊛ ‵ (flft κc qc) ⊛ ‵ (flft ρ qρ) ⊛ ‵ (flft κo (Share.left qo)) ⊛ ‵
          (flft κt (Share.right qt)) ⊛ ‵ (flft κo (Share.right qo)) ⊛ ‵ ftrue)
          ⊛ ‵ (feq (List Val) (v ∷ []) (vbool r ∷ []))) ⊛ some
          (λ (ws : E.T.Denot × ((Cx ρ).Denot × (Answer.Denot × Unit {0}))).
          ‵ (fsep (last State κt tb to δt ws.0)
          (fsep (last (Cx ρ) κc cb co δc ws.1.0) (fsep (last Answer κo ob oo δo ws.1.1.0) ftrue)))
          ⊛ raw (fact 𝓤 (E.G.step x ws.1.1.0 ws.0)) ⊛ raw (fact 𝓤 (MatchOption ws.1.1.0 (r ≡ false) (λ _. r ≡ true)))
          ⊛ raw (fact 𝓤 (Leaving ρ ws.0 ws.1.0 ws.1.1.0)) ⊛ raw (fact 𝓤 (Keeps c ws.1.0)))))) (id⊢ 𝓤 _) $ await ! tt $
          pick ! (λ r. split ! $ split ! $ move ! (2 ∷ []) $
          pick ! (λ ws. split ! $ move ! (1 ∷ []) $ split3 ! $
          heard ! _ (λ related. heard ! _ (λ told. split ! $ heard ! _ (λ left. heard ! _ (λ kept.
          -- [what the references leave; the tokens; the result]
          fsplit3 ! $ fsplit ! $ move ! (2 ∷ []) $ fsplit ! $ move ! (4 ∷ []) $ fsplit ! $ fsplit ! $
          move ! (7 ∷ []) $ split3 ! $ move ! (2 ∷ []) $ split3 ! $ move ! (2 ∷ []) $ split3 ! $
          move ! (5 ∷ 0 ∷ []) $ use2 𝓛 (‵ (flft κt qt)) (𝓛.lfts.lft_join κt qt) $
          move ! (4 ∷ 1 ∷ []) $ use2 𝓛 (‵ (flft κo qo)) (𝓛.lfts.lft_join κo qo) $
          at_once ! $ show ! (Gave v) (r, ws.0, ws.1.0, ws.1.1.0) $ check ! (related, told, left, kept) $
          keep ! (12 ∷ 1 ∷ 10 ∷ 4 ∷ 8 ∷ 0 ∷ 5 ∷ 3 ∷ []) $ done !))))))

    abbrev clauses : Clauses 𝓤 ended
    clauses = F.clauses E.T E.O E.G E.d 𝓛 at_mem run

    module _ (𝓣 : Tables 𝓤 H) (met : Triple 𝓤 (𝓣.C at_key) At)
        (goes_on : (x y : E.T.Denot) → E.G.can_step x → E.G.step x None y → E.G.can_step y)
        (finite : (x : E.T.Denot) → E.G.can_step x → Terminates N x)
        (κs : Lfts 6) (qs : Shares 6) (bounds : AllOutlive 6 ended.signature.outlives κs) (tb to cb co ob oo : ℕ)
        (γt γc γo : GName) (x₀ : E.T.Denot) (c₀ : (Cx κs.1.1.0).Denot) (o₀ : Answer.Denot) where
      abbrev κ2 : Lft
      κ2 = κs.1.1.0

      -- the lifetimes that the type of the steps and its output outlive
      abbrev κT : Lft
      κT = κs.1.1.1.1.0

      abbrev κO : Lft
      κO = κs.1.1.1.1.1.0

      abbrev bound : (walk_of 𝓛 ended stayed clauses).Ghost
      bound = (
        (
          κs,
          qs,
          bounds,
          (
            record { ref_ptr = (tb, to); ghost_name = γt; now = x₀ },
            (
              record { ref_ptr = (cb, co); ghost_name = γc; now = c₀ },
              (record { ref_ptr = (ob, oo); ghost_name = γo; now = o₀ }, tt),
            ),
          ),
          (vptr tb to ∷ [], (vptr cb co ∷ [], (vptr ob oo ∷ [], tt))),
        ),
        tt,
      )

      abbrev Post : Val → SProp 𝓤
      Post = (walk_of 𝓛 ended stayed clauses).post bound

      -- the value and the context after the steps so far, which all went on
      abbrev Stage : Type 0
      Stage = (x : E.T.Denot) × (c : (Cx κ2).Denot) × E.G.can_step x × Reaches N x₀ x × Keeps c₀ c

      abbrev Nearer : Stage → Stage → Type 0
      Nearer s r = Later N s.0 r.0

      module _ (l : ℕ → ℕ) where
        abbrev En : Env 𝓤 H
        En = env fn'.locals l

        -- the three references, each with the tokens that it is lent for
        abbrev Held : E.T.Denot → (Cx κ2).Denot → Answer.Denot → List (ℕ × Val) → List (Item 𝓤)
        Held x c o vs =
            ‵ (lent State κs.0 tb to γt x) ∷ ‵ (flft κs.0 qs.0) ∷ ‵ (flft κT qs.1.1.1.1.0) ∷ ‵
            (lent (Cx κ2) κs.1.0 cb co γc c) ∷ ‵ (flft κs.1.0 qs.1.0) ∷ ‵ (flft κ2 (Share.left qs.1.1.0))
            ∷ ‵ (lent Answer κs.1.1.1.0 ob oo γo o) ∷ ‵ (flft κs.1.1.1.0 qs.1.1.1.0) ∷ ‵ (flft κO qs.1.1.1.1.1.0) ∷ ‵
            (flft κ2 (Share.right qs.1.1.0))
            ∷ holding 𝓛 En ((1, vptr tb to) ∷ (2, vptr cb co) ∷ (3, vptr ob oo) ∷ vs)

        abbrev Now : Stage → List (Item 𝓤)
        Now s = Held s.0 s.1 None []

        abbrev Round : Stage → Out → SProp 𝓤
        Round s = after_turn 𝓤 H (Below 𝓛 Nearer Now s)
            (after_block 𝓤 H (after_seq 𝓤 H (Wp 𝓤 H 𝓣.C 𝓣.Λ En return (at_return 𝓤 H En Post)) (at_return 𝓤 H En Post)))

        -- a step that told of an answer returns, and the next one is nearer after one that did not
        decides : (s : Stage) (r : Bool) (x : E.T.Denot) (c : (Cx κ2).Denot) (o : Answer.Denot)
            → Told κ2 s.0 s.1 r x c o
            → Sq 𝓛 (Held x c o ((4, vbool r) ∷ (5, vptr tb to) ∷ (6, vptr cb co) ∷ (7, vptr ob oo) ∷ []))
            (runs 𝓣.C 𝓣.Λ En (after_call step) (any_q (Round s)))
        unfolding after_turn
        decides s true x c o told =
            branches ! (get ! refl)
            (λ _. sets ! (of_opd ! (unit_lit !)) refl (tt, tt) $ returns_within ! Post refl (look_at ! 0 refl) $
            free_all ! refl $
            suffices ! _ (leaves 𝓛 ended stayed clauses bound vunit tt (x, (c, (o, tt))) (tt, (tt, (tt, tt)))) $
            move ! (5 ∷ 9 ∷ []) $ use2 𝓛 (‵ (flft κ2 qs.1.1.0)) (𝓛.lfts.lft_join κ2 qs.1.1.0) $
            use0 𝓛 (raw (fact 𝓤 (Keeps c₀ c))) (fact_i 𝓤 (Keeps c₀ c) (emp 𝓤) (λ f h. told.3 f (s.4 f h))) $
            use0 𝓛 (raw (fact 𝓤 (Leaving κ2 x c o))) (fact_i 𝓤 (Leaving κ2 x c o) (emp 𝓤) told.2) $ join ! $
            use0 𝓛 (raw (fact 𝓤 (Answered x₀ o x)))
            (fact_i 𝓤 (Answered x₀ o x) (emp 𝓤) (answered E.G.step x₀ s.0 x o s.3 told.0)) $ join ! $
            use0 𝓛 (raw (fact 𝓤 (IsSome o))) (fact_i 𝓤 (IsSome o) (emp 𝓤) (some_told o told.1)) $ join ! $
            feq_i ! (List Val) (vunit ∷ []) (vunit ∷ []) refl $ join ! $
            -- [the result and what is ensured; the tokens of κ2; the three references with theirs]
            nothing ! $ move ! (8 ∷ 0 ∷ []) $ fjoin ! $ move ! (6 ∷ 0 ∷ []) $ fjoin ! $ move ! (3 ∷ 0 ∷ []) $ fjoin ! $
            join ! $
            nothing ! $ move ! (7 ∷ 0 ∷ []) $ join ! $ move ! (4 ∷ 0 ∷ []) $ join ! $ move ! (5 ∷ 0 ∷ []) $ join ! $
            move ! (2 ∷ 0 ∷ []) $ join ! $
            move ! (3 ∷ 0 ∷ []) $ join ! $ move ! (2 ∷ 0 ∷ []) $ join ! $ join ! $ done !)
            (λ bad. absurd bad)
        decides s false x c o told =
            let none : o ≡ None = none_told o told.1 in
            let step : N s.0 x = subst (λ (a : Answer.Denot). E.G.step s.0 a x) none told.0 in
            branches ! (get ! refl)
            (λ bad. absurd bad)
            (λ _. skips ! $ forget_but ! En (1 ∷ 2 ∷ 3 ∷ []) refl $
            rewrite ! 6 (λ (a : Answer.Denot). ‵ (lent Answer κs.1.1.1.0 ob oo γo a)) none refl $
            again ! Nearer Now s (x, c, goes_on s.0 x s.2 step, Reaches.more s.3 step, λ f h. told.3 f (s.4 f h))
            (finite s.0 s.2, (s.0, Reaches.stay, step)))

        relates : κT ⊑ E.T.lives → κO ⊑ E.O.lives → (s : Stage) → Sq 𝓛 (Now s) (runs 𝓣.C 𝓣.Λ En step (any_q (Round s)))
        unfolding after_turn
        relates in_t in_o s =
            sets ! (addr ! (through ! refl (stop !))) refl (tt, tt) $
            sets ! (addr ! (through ! refl (stop !))) refl (tt, tt) $
            sets ! (addr ! (through ! refl (stop !))) refl (tt, tt) $
            use3 𝓛 (later
            (some (λ (p : ℕ × Share × GName). ‵ (lent State (p.0 ∷ κT) tb to p.2 s.0) ⊛ ‵
            (flft (p.0 ∷ κT) p.1) ⊛ raw (Kept 𝓛 State κs.0 κT qs.0 qs.1.1.1.1.0 tb to γt s.0 p))))
            (lends 𝓛 State κs.0 κT qs.0 qs.1.1.1.1.0 tb to γt s.0) $ await ! tt $
            pick ! (λ pt. split3 ! $ move ! (3 ∷ 4 ∷ 5 ∷ []) $
            use3 𝓛 (later
            (some (λ (p : ℕ × Share × GName). ‵ (lent (Cx κ2) (p.0 ∷ κ2) cb co p.2 s.1) ⊛ ‵
            (flft (p.0 ∷ κ2) p.1) ⊛ raw
            (Kept 𝓛 (Cx κ2) κs.1.0 κ2 qs.1.0 (Share.left qs.1.1.0) cb co γc s.1 p))))
            (lends 𝓛 (Cx κ2) κs.1.0 κ2 qs.1.0 (Share.left qs.1.1.0) cb co γc s.1) $ await ! tt $
            pick ! (λ pc. split3 ! $ move ! (6 ∷ 7 ∷ 8 ∷ []) $
            use3 𝓛 (later
            (some (λ (p : ℕ × Share × GName). ‵ (lent Answer (p.0 ∷ κO) ob oo p.2 None) ⊛ ‵
            (flft (p.0 ∷ κO) p.1) ⊛ raw
            (Kept 𝓛 Answer κs.1.1.1.0 κO qs.1.1.1.0 qs.1.1.1.1.1.0 ob oo γo None p))))
            (lends 𝓛 Answer κs.1.1.1.0 κO qs.1.1.1.0 qs.1.1.1.1.1.0 ob oo γo None) $ await ! tt $
            pick ! (λ po. split3 ! $
            let κt : Lft = pt.0 ∷ κT in let κc : Lft = pc.0 ∷ κ2 in let κo : Lft = po.0 ∷ κO in let below : κc ⊑ κ2 =
            meet_⊑_right (pc.0 ∷ []) κ2 in
            let y : At.Ghost =
            asking κt κc κo κ2 pt.1 pc.1 po.1
            (Share.right qs.1.1.0) tb to cb co ob oo pt.2 pc.2 po.2 s.0 s.1 below in
            -- [the loans, each with its token and what is kept; the other side of the token of κ2]
            move ! (0 ∷ 1 ∷ 3 ∷ 4 ∷ 6 ∷ 7 ∷ 9 ∷ []) $ group ! 7 $
            use1 𝓛 (raw (At.pre y))
            (asks κt κc κo κ2 pt.1 pc.1 po.1 (Share.right qs.1.1.0) tb to cb co ob oo pt.2 pc.2 po.2 s.0 s.1 below
            (⊑_trans κt κT E.T.lives (meet_⊑_right (pt.0 ∷ []) κT) in_t)
            (⊑_trans κo κO E.O.lives (meet_⊑_right (po.0 ∷ []) κO) in_o) s.2) $
            calls_at ! (fm_of 𝓤 H 𝓛.laws 𝓣) At met y
            (and_then ! (get ! refl) (and_then ! (get ! refl) (and_then ! (get ! refl) (no_more !)))) (λ v.
            use1 𝓛 (later
            (some (λ (z : Bool × E.T.Denot × (Cx κ2).Denot × Answer.Denot). given (Told κ2 s.0 s.1 z.0 z.1 z.2 z.3)
            (‵ (feq (List Val) (v ∷ []) (vbool z.0 ∷ []))
            ⊛ ‵ (flft κt pt.1) ⊛ ‵ (fres pt.2 (State.coded.code z.1)) ⊛ ‵ (flft κc pc.1) ⊛ ‵
            (fres pc.2 ((Cx κ2).coded.code z.2)) ⊛ ‵ (flft κo po.1) ⊛ ‵ (fres po.2 (Answer.coded.code z.3)) ⊛ ‵
            (flft κ2 (Share.right qs.1.1.0))))))
            (gives κt κc κo κ2 pt.1 pc.1 po.1 (Share.right qs.1.1.0) tb to cb co ob oo pt.2 pc.2 po.2 s.0 s.1 below v) $
            await ! tt $ pick !
            (λ z. learn ! (λ told. split ! $ feq_l ! (λ is. lands_as ! (ap only is) refl (tt, tt) $
            -- [the loans' tokens and last values; what is kept of the answer, the context and the value]
            split3 ! $ move ! (0 ∷ 1 ∷ 5 ∷ []) $
            use3 𝓛 (later (‵ (lent State κs.0 tb to γt z.1) ⊛ ‵ (flft κs.0 qs.0) ⊛ ‵ (flft κT qs.1.1.1.1.0)))
            (regains 𝓛 State κs.0 κT qs.0 qs.1.1.1.1.0 tb to γt s.0 pt z.1) $
            await ! tt $ split3 ! $ move ! (3 ∷ []) $ split3 ! $ move ! (0 ∷ 1 ∷ 7 ∷ []) $
            use3 𝓛 (later
            (‵ (lent (Cx κ2) κs.1.0 cb co γc z.2) ⊛ ‵ (flft κs.1.0 qs.1.0) ⊛ ‵ (flft κ2 (Share.left qs.1.1.0))))
            (regains 𝓛 (Cx κ2) κs.1.0 κ2 qs.1.0 (Share.left qs.1.1.0) cb co γc s.1 pc z.2) $
            await ! tt $ split3 ! $ move ! (3 ∷ []) $ split3 ! $ move ! (0 ∷ 1 ∷ 9 ∷ []) $
            use3 𝓛 (later
            (‵ (lent Answer κs.1.1.1.0 ob oo γo z.3) ⊛ ‵ (flft κs.1.1.1.0 qs.1.1.1.0) ⊛ ‵ (flft κO qs.1.1.1.1.1.0)))
            (regains 𝓛 Answer κs.1.1.1.0 κO qs.1.1.1.0 qs.1.1.1.1.1.0 ob oo γo None po z.3) $
            await ! tt $ split3 ! $ move ! (7 ∷ 8 ∷ 9 ∷ 4 ∷ 5 ∷ 6 ∷ 0 ∷ 1 ∷ 2 ∷ 3 ∷ []) $
            decides s z.0 z.1 z.2 z.3 told)))))))

      starts : ent 𝓤 ((walk_of 𝓛 ended stayed clauses).pre bound)
          (WpFn 𝓤 H 𝓣.C 𝓣.Λ fn' (vptr tb to ∷ vptr cb co ∷ vptr ob oo ∷ []) Post)
      starts =
          qed 𝓛 (((‵ (flft κs.0 qs.0) ⊛ ‵ (flft κs.1.0 qs.1.0) ⊛ ‵ (flft κ2 qs.1.1.0) ⊛ ‵
          (flft κs.1.1.1.0 qs.1.1.1.0) ⊛ ‵ (flft κT qs.1.1.1.1.0) ⊛ ‵ (flft κO qs.1.1.1.1.1.0) ⊛ ‵ ftrue)
          ⊛ ‵ (fsep (lent State κs.0 tb to γt x₀)
          (fsep (lent (Cx κ2) κs.1.0 cb co γc c₀) (fsep (lent Answer κs.1.1.1.0 ob oo γo o₀) ftrue))))
          ∷ (raw (fact 𝓤 (κT ⊑ E.T.lives)) ⊛ raw (fact 𝓤 (κO ⊑ E.O.lives)) ⊛ raw (fact 𝓤 (E.G.can_step x₀)) ⊛ raw
          (fact 𝓤 (Open o₀))) ∷ []) ∵
          move ! (1 ∷ []) $ split3 ! $
          heard ! _ (λ in_t. heard ! _ (λ in_o. split ! $ heard ! _ (λ can. heard ! _ (λ empty.
          split ! $ split3 ! $ move ! (2 ∷ []) $ split3 ! $ move ! (2 ∷ []) $ split3 ! $ move ! (7 ∷ []) $ fsplit3 ! $
          move ! (2 ∷ []) $ fsplit ! $
          move ! (7 ∷ []) $
          use1 𝓛 (‵ (flft κ2 (Share.left qs.1.1.0)) ⊛ ‵ (flft κ2 (Share.right qs.1.1.0)))
          (𝓛.lfts.lft_split κ2 qs.1.1.0) $ split ! $
          rewrite ! 2 (λ (a : Answer.Denot). ‵ (lent Answer κs.1.1.1.0 ob oo γo a)) empty refl $
          keep ! (4 ∷ 10 ∷ 6 ∷ 5 ∷ 11 ∷ 0 ∷ 2 ∷ 9 ∷ 7 ∷ 1 ∷ []) $
          enter ! _ _ _ _ _ $
          alloc_all ! (λ l. pass_all ! refl ((tt, tt), ((tt, tt), ((tt, tt), tt))) $ first ! $ blocks ! $
          loops ! 𝓣 Nearer (InvImage.wf (λ (s : Stage). s.0) (Later-wf N)) (Now l) (relates l in_t in_o)
          (x₀, c₀, can, Reaches.stay, λ _ h. h))))))

pub drive_into_spec : {M : Type 1} → statement M
unfolding tables_of
drive_into_spec 𝓤 𝓛 𝓜 𝓡 wired T O LT LO G d met =
    let E : El = record { T = T; O = O; G = G; d = d } in
    let 𝓣 : Tables 𝓤 𝓛.H = tables_of 𝓤 𝓛.H 𝓜 (tables 𝓤 𝓛.H 𝓜 𝓡 𝓡.env) in
    proved 𝓛 (ended E) (stayed E) (clauses E 𝓛 𝓜.mem 𝓡.returns) 𝓜 𝓡 (
      Goes-ref 𝓛 6 0 tt (plain (λ _. State E)),
      (Goes-ref 𝓛 6 1 tt (plain (λ κs. Cx E κs.1.1.0)), (Goes-ref 𝓛 6 3 tt (plain (λ _. Answer E)), tt)),
    )
    (#drive_into (args E)) (fn' E) (code.unfolded 𝓤 𝓛.H 𝓜 𝓡 wired (T, (O, tt)) d)
    (λ κs. (mut_vals, (mut_vals, (mut_vals, tt))))
    (λ κs. (
      mut_Tells (named 0) κs.0 (State E),
      (mut_Tells (named 1) κs.1.0 (Cx E κs.1.1.0), (mut_Tells (named 3) κs.1.1.1.0 (Answer E), tt)),
    ))
    (λ κs qs bounds a _ are. starts E 𝓛 𝓜.mem 𝓡.returns 𝓣
    (step_into_met 𝓤 𝓛 𝓜 𝓡
    (code.calls-lite_base::poll_steps::step_into 𝓡.env wired) T O LT LO G d met) met.goes_on met.finite κs qs bounds
    a.0.ref_ptr.0 a.0.ref_ptr.1 a.1.0.ref_ptr.0 a.1.0.ref_ptr.1 a.1.1.0.ref_ptr.0 a.1.1.0.ref_ptr.1 a.0.ghost_name
    a.1.0.ghost_name a.1.1.0.ghost_name a.0.now a.1.0.now a.1.1.0.now)
