-- Laws about adapters with a value that they hold or a second stream, over sources that are never pending.
use Rattle.std.specs.Prelude.{IfSome, ◌+◌, List, [], ◌∷◌, Option, None}
use Rattle.std.proofs.Common.{◌≤◌}
use Rattle.lite_reshape.specs.Uses.{AllByRecursion, arith, inl, inr, refl, Answer, end, CalmLaws, NoPending, waits, calm_both, no_pending_join}
use Rattle.lite_reshape.specs.Uses.{OfItem, Hints, Question, Runs, Calming, StreamLaws, Entails, AdapterParts, Adapts, Relates}
use Rattle.lite_base.specs.Laws.Calm.{no_pending_front, no_pending_none, waits_join}
use Rattle.lite_stream.specs.Laws.Calming.{calm_two}
use Rattle.lite_stream.specs.Laws.Cutting.{cuts_calming}
use Rattle.lite_reshape.specs.Chain.{Chains, Joins, is_done, second_after}
use Rattle.lite_reshape.specs.Flatten.{Flattening}
use Rattle.lite_reshape.specs.Inner.{EachInner}
use Rattle.lite_reshape.specs.Laws.Expanding.{expanding_by}
use Rattle.lite_reshape.specs.Laws.Flatten.{each_inner_on, flattening_by, have_come}
use Rattle.lite_reshape.specs.Expanding.{Expanding}
use Rattle.lite_reshape.specs.Ended.Turn.{First, Second, Done}
use Rattle.lite_reshape.specs.Ended.{Turn}

module _ {A : Type 0} where
  joins_waits : (f g : Turn) (i j l : List (Answer A)) → Joins f i j l g → waits l ≤ waits i + waits j
  joins_waits First g i j l (inl r) = rw r.2 (omega arith)
  joins_waits First g i j l (inr r) =
      let e = cuts_calming is_done second_after Second g j (r.next ∷ r.later) r.followed in
      let own = waits_join r.own (end ∷ []) in
      rw (r.through_end, r.joined) (omega (arith, e, own, waits_join r.own (r.next ∷ r.later)))
  joins_waits Second g i j l r = omega (arith, cuts_calming is_done second_after Second g j l r.1)
  joins_waits Done g i j l r = let e = cuts_calming is_done second_after Done g j l r.1 in omega (arith, e)

module _ {S U A : Type 0} {run : Runs (Answer A) S} {run' : Runs (Answer A) U} where
  -- A `chain` of two calm streams is calm. That includes the stream that is not polled yet.
  pub chain_calm : {is_calm : S → Type 0} {is_calm' : U → Type 0} → CalmLaws run is_calm → CalmLaws run' is_calm'
      → CalmLaws (Chains run run') (λ x. is_calm x.first × is_calm' x.second)
  chain_calm s u =
      calm_two _ _ s u
      (λ x y l h. (h.firsts, h.seconds, h.came, h.then_came, joins_waits x.part y.part h.firsts h.seconds l h.joined))

-- If the held value is calm and no source result is `Pending`, no result of the adapter is `Pending` and the value held
-- after it is calm.
abbrev pub CalmingBy : {F A B : Type 0} → (F → Type 0) → Relates F A B → Type 0
CalmingBy {F} {A} {B} held_calm relates = (f g : F) (i : List (Answer A)) (o : List (Answer B)) → held_calm f
    → relates f i o g → NoPending i → NoPending o × held_calm g

-- An adapter over one source is calm, if its source and the value that it holds are.
pub through_calm_by : {M S F A B : Type 0} (p : AdapterParts M S F) {run : Runs (Answer A) S}
    {relates : Relates F A B} {is_calm : S → Type 0} {held_calm : F → Type 0}
    → CalmLaws run is_calm → CalmingBy held_calm relates
    → CalmLaws (Adapts p run relates) (λ m. is_calm (p.source m) × held_calm (p.held m))
through_calm_by p c t =
    calm_both
    (λ x y l k h.
    let e = t _ _ h.ins l k.1 h.related (c.no_pending _ _ h.ins k.0 h.came) in
    (e.0, (c.calm_on _ _ h.ins k.0 h.came, e.1)))

module _ {F A V B : Type 0} (call : Question F A V) (gives : V → List (Answer B) → Option V → Type 0) where
  -- An adapter that replaces each item by a list is calm, if its source, its closure's values and the value that it
  -- holds are.
  pub expanding_calm : {calm : F → Type 0} {calm_made : V → Type 0}
      → ((f : F) (x : A) (v : V) (g : F) → calm f → call f x v g → calm_made v × calm g)
      → ((v : V) (l : List (Answer B)) (next : Option V) → calm_made v → gives v l next → NoPending l
      × IfSome next calm_made)
      → CalmingBy (λ (s : F × Option V). IfSome s.1 calm_made × calm s.0) (Expanding call gives)
  expanding_calm {calm} {calm_made} calls answers s t i o k c =
      expanding_by call gives t
      (λ s i o. IfSome s.1 calm_made × calm s.0 → NoPending i → NoPending o × (IfSome t.1 calm_made × calm t.0))
      (λ e k n. (tt, (rw e tt, k.1)))
      (λ v w o ran e k n. let a = answers v o _ k.0 ran in (a.0, (rw e a.1, k.1)))
      (λ p v i own rest ran h k n. let r = h (tt, k.1) n in
      (no_pending_join own rest (answers v own None k.0 ran).0 r.0, r.1))
      (λ p i o h k n. absurd n) (λ p i o h. h)
      (λ p r x v i b o called h k. h (calls p x v r k.1 called)) s i o c k

  -- An adapter adds no `Pending` if no value that is made of an item returns `Pending`.
  pub expanding_calming : ((v : V) (l : List (Answer B)) (next : Option V) → gives v l next → NoPending l)
      → Calming (Expanding call gives)
  expanding_calming no_pending s t =
      expanding_by call gives t (λ s i o. waits o ≤ waits i) (λ e. omega arith)
      (λ v w o ran e. omega (arith, no_pending_none o (no_pending v o _ ran)))
      (λ p v i own rest ran k. omega (arith, no_pending_none own (no_pending v own None ran), waits_join own rest, k))
      (λ p i o k. omega (arith, k)) (λ p i o k. k) (λ p r x v i b o called k. k) s

module _ {B A : Type 0} {run : Runs (Answer A) B} {calm : B → Type 0} (c : CalmLaws run calm) where
  flattening_no_pending : Entails (Flattening run)
      (λ f i l g. IfSome f calm → AllByRecursion (OfItem calm) i → NoPending i → NoPending l)
  flattening_no_pending held last =
      flattening_by run last (λ f i l. IfSome f calm → AllByRecursion (OfItem calm) i → NoPending i → NoPending l)
      (λ e k each n. tt) (λ b d l m ran e k each n. c.no_pending b d l k ran)
      (λ b d i own a rest m ran h k each n.
      no_pending_join own (a ∷ rest)
      (no_pending_front own (end ∷ []) (c.no_pending b d _ k ran)) (h tt each n))
      (λ i l h k each. absurd) (λ i l h k each. h tt each.1) (λ b i a l h k each. h (each.0 b refl) each.1) held

  -- An adapter that flattens is calm, if its source, the inner stream that it holds and each one that may follow are.
  pub flattening_calm : {M S : Type 0} (p : AdapterParts M S (Option B)) {outer : Runs (Answer B) S}
      {is_calm : S → Type 0} {can_poll : S → Type 0} {hints : Hints S} → StreamLaws can_poll outer hints → CalmLaws outer is_calm
      → CalmLaws (Adapts p outer (Flattening run))
      (λ m. is_calm (p.source m) × EachInner outer calm (p.source m) (p.held m))
  flattening_calm p {outer} laws d =
      calm_both
      (λ x y l k h. (
        flattening_no_pending _ _ h.ins l h.related k.1.0
            (have_come outer calm _ _ _ h.ins k.1 h.came)
            (d.no_pending _ _ h.ins k.0 h.came),
        (d.calm_on _ _ h.ins k.0 h.came, each_inner_on run outer calm c.calm_on laws _ _ _ _ l k.1 h),
      ))
