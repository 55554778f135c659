-- Laws about a stream with a budget.
use Rattle.std.specs.Prelude.{true, false, ◌⊎◌, ◌≡◌, ◌==◌, ℕ, Bool, List, [], ◌∷◌, ◌++◌, ⊤}
use Rattle.futures.specs.Task.{Lasting}
use Rattle.lite_base.specs.Armed.{Arms, EndsPending, pends_last}
use Rattle.lite_merge.specs.Uses.{Ready, inl, inr, refl, arith, ap, sym, ◌∙◌, Pending, Sameness, Answer, Paces, left_behind, Counting, Runs, SteadyLawsBy, Relating}
use Rattle.lite_base.specs.Laws.Segments.{paced_bounded, paced_items, paced_lowers, paced_strip, paces_follow}
use Rattle.lite_stream.specs.Laws.Agreeing.{through_alike}
use Rattle.lite_stream.specs.Laws.Through.{Following, through_runs}
use Rattle.lite_merge.specs.Budgeted.{Budgets, PacedRegisters, PacesNoting, RegistersPaused, budget_parts, budget_ranks, paused_after, paused_by}
use Rattle.lite_merge.specs.declared.budgeted.Budgeted.{Budgeted}

-- Whether the last `Pending` is the stream's own after two lists of results, of which the first leads to the state `q`.
paused_join : {A : Type 0} (p q : ℕ × ℕ) (before : Bool) (i l m : List (Answer A)) → Paces Pending left_behind p i l q
    → paused_after p before (l ++ m) ≡ paused_after q (paused_after p before l) m
paused_join p q before i [] m h = rw h.1 refl
paused_join p q before i (a ∷ l) m (inl h) = rw h.1 (paused_join (p.0, p.0) q (p.1 == 0) i l m h.2)
paused_join p q before i (a ∷ l) m (inr h) =
    paused_join (p.0, left_behind p.0 a p.1) q (paused_by a (p.1 == 0) before) h.1 l m h.3

paces_following : {A : Type 0} → Following (PacesNoting {A = A})
paces_following =
    record {
      starts = λ p. ((refl, refl), refl);
      empty = λ p q i h. (h.0.0, λ k. ((h.0.1 k).0, (h.0.1 k).1, h.1 k));
      joins = λ p q r i j l m h k. (
        paces_follow Pending left_behind (p.0, p.1) (q.0, q.1) (r.0, r.1) i j l m h.0 k.0,
        k.1 ∙ ap (λ b. paused_after (q.0, q.1) b m) h.1 ∙ sym (paused_join (p.0, p.1) (q.0, q.1) p.2 i l m h.0),
      );
    }

pub paces_relating : {A : Type 0} → Relating (PacesNoting {A = A})
paces_relating =
    record {
      following = paces_following;
      bounds = λ p q i o h. paced_bounded (p.0, p.1) (q.0, q.1) i o h.0;
      lowers = λ p q i o xs ys h. paced_lowers (p.0, p.1) (q.0, q.1) i o xs ys h.0;
      from_items = λ p q i y l h. (y, l, (paced_items (p.0, p.1) (q.0, q.1) i (y ∷ l) h.0).0);
    }

pub budget_counting : {S A : Type 0} {run : Runs (Answer A) S} → Counting (Budgets run) budget_ranks
budget_counting =
    record {
      sized = λ x. refl;
      counts_on = λ x y l k h. tt;
      firm_on = λ x y l k h. absurd k;
      falls = λ x y a more k h.
          let e = (paced_items (x.budget, x.left) (y.budget, y.left) h.ins (a ∷ more) h.related.0).1 in
          inl (omega (arith, e), refl);
      lowers = λ x y l k h. absurd k;
    }

-- Two such streams are alike, whatever their budgets are.
pub budget_steady : {S A : Type 0} {run ample : Runs (Answer A) S} {needs_none : Type 0} {alike : S → S → Type 0}
    (like : Sameness A) → SteadyLawsBy like run ample needs_none alike
    → SteadyLawsBy like (Budgets run) (Budgets ample) needs_none (λ (x y : Budgeted S). alike x.stream y.stream)
budget_steady like s =
    record {
      laws = through_runs budget_parts s.laws paces_relating.following;
      steady = λ x y e. through_alike budget_parts {agree = λ _ _. ⊤} x y (s.steady x.stream y.stream e) tt
          (λ p q p2 q2 i j o m a h k c.
          rw (paced_strip (p.0, p.1) (p2.0, p2.1) i o h.0, paced_strip (q.0, q.1) (q2.0, q2.1) j m k.0) c);
      found = λ n x y l h. record {
        ins = h.ins;
        came = s.found n x.stream y.stream h.ins h.came;
        related = h.related;
      };
    }

-- Whose the last `Pending` is: the stream's own, as `paused_after` says, or the source's.
paces_pend : {A : Type 0} (p q : ℕ × ℕ) (before : Bool) (i o : List (Answer A)) (b c : Bool)
    → (b ≡ true → (before ≡ true) ⊎ (c ≡ true)) → Paces Pending left_behind p i o q → pends_last b o ≡ true
    → (paused_after p before o ≡ true) ⊎ (pends_last c i ≡ true)
paces_pend p q before i [] b c k h e = rw h.0 (k e)
paces_pend p q before i (a ∷ o) b c k (inl h) e =
    rw (h.0, h.1) (paces_pend (p.0, p.0) q true i o true c (λ d. inl refl) h.2 (rw h.1 at e))
paces_pend p q before i (Pending ∷ o) b c k (inr h) e =
    rw h.2 (paces_pend (p.0, p.0) q (p.1 == 0) h.1 o true true (λ d. inr refl) h.3 e)
paces_pend p q before i (Ready x ∷ o) b c k (inr h) e =
    rw h.2 (paces_pend (p.0, left_behind p.0 (Ready x) p.1) q before h.1 o false false (λ d. cc d) h.3 e)

-- A stream with a budget is armed if its source is: its own `Pending`s have woken the task.
module _ {S A : Type 0} {run : Runs (Answer A) S} {registers : S → Lasting → Type 0} (a : Arms run registers) where
  paused_armed : (paused : Bool) (s t : S) (i : List (Answer A)) → run s i t → (paused ≡ true) ⊎ EndsPending i
      → RegistersPaused paused (registers t) Lasting.armed
  paused_armed true s t i came e = inl refl
  paused_armed false s t i came (inl e) = cc e
  paused_armed false s t i came (inr e) = a.at s t i e came

  pub budget_arms : Arms (Budgets run) (PacedRegisters registers)
  budget_arms =
      record {
        at = λ x y l e h.
            let own = paces_pend (x.budget, x.left) (y.budget, y.left) x.paused h.ins l false false (λ d. cc d)
            h.related.0 e in
            paused_armed y.paused x.stream y.stream h.ins h.came (rw h.related.1 own);
      }
