-- Adapters with a value that they hold or a second stream: which part has registered the task.
use Rattle.std.specs.Prelude.{◌≡◌, List, ◌∷◌, Option, Some, None, Bool, true, false}
use Rattle.futures.specs.Task.{Lasting}
use Rattle.lite_reshape.specs.Uses.{◌∙◌, inl, inr, refl, sym, Ready, Pending, Answer, end, item, Question, Runs, AdapterParts, Adapts}
use Rattle.lite_base.specs.Armed.{Arms, EndsPending, pends_last}
use Rattle.lite_base.specs.Laws.Armed.{pends_anew, pends_from, pends_join}
use Rattle.lite_stream.specs.Laws.Cutting.{cuts_arming, cuts_steps}
use Rattle.lite_stream.specs.Cutting.{Cuts}
use Rattle.lite_reshape.specs.Chain.{ChainRegisters, Chains, Joins, PartRegisters, is_done, second_after}
use Rattle.lite_reshape.specs.Expanding.{Expanding, HeldRegisters}
use Rattle.lite_reshape.specs.Flatten.{Flattening}
use Rattle.lite_reshape.specs.Laws.Expanding.{expanding_by}
use Rattle.lite_reshape.specs.Laws.Flatten.{flattening_by}
use Rattle.lite_reshape.specs.Ended.Turn.{First, Second, Done}
use Rattle.lite_reshape.specs.Ended.{Turn}

-- What was polled last: the value that is held, of which `armed` holds, or the source, whose results end in a
-- `Pending`. If the source has no results, the answer is `before`.
abbrev pub LastPolled : {V A : Type 0} → (V → Type 0) → Option V → Bool → List (Answer A) → Type 0
LastPolled armed None before i = pends_last before i ≡ true
LastPolled armed (Some v) before i = armed v

-- What `b` and `c` say of results that came before: nothing of a value that is held now, and otherwise that the source
-- was pending if the adapter was.
abbrev pub Before : {V : Type 0} → Bool → Bool → Option V → Type 0
Before b c None = b ≡ true → c ≡ true
Before b c (Some v) = b ≡ false

-- Before all results neither was pending.
pub before_held : {V : Type 0} (held : Option V) → Before false false held
before_held None = λ n. n
before_held (Some v) = refl

-- `HeldRegisters` holds of the fact that the task is armed, if it does of what was polled last.
pub held_armed : {S V A : Type 0} {run : Runs (Answer A) S} {registers : S → Lasting → Type 0}
    (registers' : V → Lasting → Type 0) → Arms run registers → (s t : S) (held : Option V) (i : List (Answer A))
    → run s i t → LastPolled (λ v. registers' v Lasting.armed) held false i
    → HeldRegisters registers registers' t held Lasting.armed
held_armed registers' a s t None i came e = a.at s t i e came
held_armed registers' a s t (Some v) i came e = e

-- What was polled last stays so with another list of the source that ends alike.
polled_alike : {V A : Type 0} (armed : V → Type 0) (held : Option V) (b c : Bool) (i j : List (Answer A))
    → pends_last b i ≡ pends_last c j → LastPolled armed held b i → LastPolled armed held c j
polled_alike armed None b c i j same e = sym same ∙ e
polled_alike armed (Some v) b c i j same e = e

-- `armed` holds of a value that is held after a `Pending`, and a value that is done returned no `Pending` last.
module _ {F A V B : Type 0} (call : Question F A V) (gives : V → List (Answer B) → Option V → Type 0)
    (armed : V → Type 0) (still : (v w : V) (l : List (Answer B)) → gives v l (Some w) → EndsPending l → armed w)
    (done : (v : V) (l : List (Answer B)) → gives v l None → EndsPending l → ⊥) where
  pub expanding_pends : (s t : F × Option V) (i : List (Answer A)) (o : List (Answer B)) → Expanding call gives s i o t
      → (b c : Bool) → Before b c s.1 → pends_last b o ≡ true → LastPolled armed t.1 c i
  expanding_pends s t =
      expanding_by call gives t
      (λ s i o. (b c : Bool) → Before b c s.1 → pends_last b o ≡ true → LastPolled armed t.1 c i)
      (λ e b c h d. rw e (h d))
      (λ v w o ran e b c h d. rw e (still v w o ran (rw h at d)))
      (λ p v i own rest ran k b c h d.
      let more : pends_last (pends_last false own) rest ≡ true = sym (pends_join false own rest) ∙ (rw h at d) in
      k false c (λ n. cc n) (pends_from (pends_last false own) false rest (λ n. absurd (done v own ran n)) more))
      (λ p i o k b c h d. polled_alike armed t.1 true c i (Pending ∷ i) refl (k true true (λ n. n) d))
      (λ p i o k b c h d. polled_alike armed t.1 false c i (end ∷ i) refl (k false false (λ n. n) d))
      (λ p r x v i a o called k b c h d.
      polled_alike armed t.1 false c i (item x ∷ i) refl (k false false refl (pends_anew false b a o ∙ d))) s

module _ {B A : Type 0} {run : Runs (Answer A) B} {armed : B → Type 0}
    (still : (b c : B) (l : List (Answer A)) → EndsPending l → run b l c → armed c) where
  flattening_pends : (held last : Option B) (i : List (Answer B)) (l : List (Answer A)) → Flattening run held i l last
      → (b c : Bool) → Before b c held → pends_last b l ≡ true → LastPolled armed last c i
  flattening_pends held last =
      flattening_by run last
      (λ held i l. (b c : Bool) → Before b c held → pends_last b l ≡ true → LastPolled armed last c i)
      (λ e b c h d. rw e (h d))
      (λ x y l endless ran e b c h d. rw e (still x y l (rw h at d) ran))
      (λ x y i own a rest endless ran k b c h d.
      let more : pends_last (pends_last b own) (a ∷ rest) ≡ true = sym (pends_join b own (a ∷ rest)) ∙ d in
      k false c (λ n. cc n) (pends_anew false (pends_last b own) a rest ∙ more))
      (λ i l k b c h d. polled_alike armed last true c i (Pending ∷ i) refl (k true true (λ n. n) d))
      (λ i l k b c h d. polled_alike armed last false c i (end ∷ i) refl (k false false (λ n. n) d))
      (λ x i a l k b c h d.
      polled_alike armed last false c i (item x ∷ i) refl (k false false refl (pends_anew false b a l ∙ d))) held

-- An adapter that flattens is armed if its source and the inner streams are.
pub flattening_arms : {M S B A : Type 0} (p : AdapterParts M S (Option B)) {outer : Runs (Answer B) S}
    {run : Runs (Answer A) B} {registers : S → Lasting → Type 0} {registers' : B → Lasting → Type 0}
    → Arms outer registers → Arms run registers'
    → Arms (Adapts p outer (Flattening run)) (λ m. HeldRegisters registers registers' (p.source m) (p.held m))
flattening_arms p {registers'} a b =
    record {
      at = λ x y l e h.
          held_armed registers' a (p.source x) (p.source y) (p.held y) h.ins h.came
          (flattening_pends (λ v w m d ran. b.at v w m d ran) (p.held x) (p.held y) h.ins l h.related false false
          (before_held (p.held x)) e);
    }

module _ {A : Type 0} where
  -- A `chain` whose second stream was pending last has not ended.
  still_second : (f g : Turn) (i o : List (Answer A)) → Cuts is_done second_after f i o g → (f ≡ First → ⊥) → (b : Bool)
      → (b ≡ true → f ≡ Second) → pends_last b o ≡ true → g ≡ Second
  still_second f g =
      cuts_steps is_done second_after g
      (λ f i o. (f ≡ First → ⊥) → (b : Bool) → (b ≡ true → f ≡ Second) → pends_last b o ≡ true → g ≡ Second)
      (λ n b h e. h e) (λ f i o d k n b h e. k n false (λ m. cc m) e) goes f
    where
      second : (f : Turn) → (f ≡ First → ⊥) → (is_done f → ⊥) → f ≡ Second
      second First n d = absurd (n refl)
      second Second n d = refl
      second Done n d = absurd (d refl)

      goes : (f : Turn) (a : Answer A) (i o : List (Answer A)) → (is_done f → ⊥)
          → ((second_after a f ≡ First → ⊥) → (b : Bool) → (b ≡ true → second_after a f ≡ Second)
          → pends_last b o ≡ true → g ≡ Second)
          → (f ≡ First → ⊥) → (b : Bool) → (b ≡ true → f ≡ Second) → pends_last b (a ∷ o) ≡ true → g ≡ Second
      goes f Pending i o d k n b h e = k n true (λ m. second f n d) e
      goes f (Ready None) i o d k n b h e = k (λ m. cc m) false (λ m. cc m) e
      goes f (Ready (Some x)) i o d k n b h e = k n false (λ m. cc m) e

-- A `chain` is armed if both streams are.
module _ {S U A : Type 0} {run : Runs (Answer A) S} {run' : Runs (Answer A) U} {registers : S → Lasting → Type 0}
    {registers' : U → Lasting → Type 0} (a : Arms run registers) (b : Arms run' registers') where
  second_armed : (f : Turn) (t : Turn) (s : S) (u v : U) (j l : List (Answer A)) → (f ≡ First → ⊥)
      → Cuts is_done second_after f j l t → run' u j v → EndsPending l
      → PartRegisters registers registers' t s v Lasting.armed
  second_armed f t s u v j l n cut came e =
      rw (still_second f t j l cut n false (λ m. cc m) e)
      (b.at u v j (cuts_arming is_done second_after f t j l cut false e) came)

  joins_armed : (f t : Turn) (s s' : S) (u u' : U) (i j l : List (Answer A)) → run s i s' → run' u j u'
      → Joins f i j l t → EndsPending l → PartRegisters registers registers' t s' u' Lasting.armed
  joins_armed First t s s' u u' i j l came came' (inl r) e = rw r.3 (a.at s s' i (rw r.2 at e) came)
  joins_armed First t s s' u u' i j l came came' (inr r) e =
      let own = pends_last false r.own in
      let rest : pends_last own (r.next ∷ r.later) ≡ true =
      sym (pends_join false r.own (r.next ∷ r.later)) ∙ (rw r.joined at e) in
      second_armed Second t s' u u' j (r.next ∷ r.later) (λ n. cc n) r.followed came'
      (pends_anew false own r.next r.later ∙ rest)
  joins_armed Second t s s' u u' i j l came came' r e = second_armed Second t s' u u' j l (λ n. cc n) r.1 came' e
  joins_armed Done t s s' u u' i j l came came' r e = second_armed Done t s' u u' j l (λ n. cc n) r.1 came' e

  pub chain_arms : Arms (Chains run run') (ChainRegisters registers registers')
  chain_arms =
      record {
        at = λ x y l e h.
            joins_armed x.part y.part x.first y.first x.second y.second h.firsts h.seconds l h.came h.then_came h.joined
            e;
      }
