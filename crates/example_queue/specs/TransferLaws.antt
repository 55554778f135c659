-- The value of a transfer.
use Rattle.std.specs.Prelude.{◌≡◌, List, [], ◌∷◌, ◌++◌, false, None, Some, Result, Ok, Err, IfOk, refl}
use Rattle.std.specs.Global.{Vec}
use Rattle.std.specs.declared.alloc.AllocError.{AllocError}
use Rattle.std.proofs.Common.{append-nil, append_assoc, ap, sym, ◌∙◌}
use Rattle.futures_lite.specs.Answers.{Answer, Endless, Pending, Ready, end, items_in}
use Rattle.futures_lite.specs.Lists.{Fits, Lists, OfItems, Seen, ValueHolds}
use Rattle.futures_lite.specs.Own.{Hints, Runs, StepsToValue, future_by_keeping_steps, value_by_steps}
use Rattle.futures_lite.specs.Futures.{FutureLaws}
use Rattle.futures_lite.specs.Runs.{StreamLaws}
use Rattle.example_queue.specs.Transfer.{TransferStep, come}
use Rattle.example_queue.specs.declared.transfer.Transfer.{Transfer}

module _ {A : Type 0} where
  -- The items `xs` go on with `rest` after the items of the results `l`.
  record Rest (l : List (Answer A)) (xs : List A) : Type 0 where
    rest : List A
    is : xs ≡ items_in l ++ rest
    fits : (m : List (Answer A)) → Fits (l ++ m) xs → Fits m rest

  rest_of : (l m : List (Answer A)) (xs : List A) → Endless l → Fits (l ++ m) xs → Rest l xs
  rest_of [] m xs e f = record { rest = xs; is = refl; fits = λ k g. g }
  rest_of (Pending ∷ l) m xs e f =
      let r = rest_of l m xs (cc e) f in record { rest = r.rest; is = r.is; fits = r.fits }
  rest_of (Ready None ∷ l) m xs e f = absurd (cc e)
  rest_of (Ready (Some x) ∷ l) m [] e f = absurd f
  rest_of (Ready (Some x) ∷ l) m (y ∷ xs) e f =
      let r = rest_of l m xs (cc e) f.1 in
      record {
        rest = r.rest;
        is = ap (λ k. y ∷ k) r.is ∙ ap (λ z. z ∷ (items_in l ++ r.rest)) (sym f.0);
        fits = λ k g. r.fits k g.1;
      }

module _ {S T : Type 0} {run : Runs (Answer T) S} {can_poll : S → Type 0} {hints : Hints S} (laws : StreamLaws can_poll run hints) where
  -- If the items of the source are `xs`, a value has those that came before, and then `xs`.
  abbrev HasAll : Transfer S T → Result (Vec T) AllocError → Type 0
  HasAll x r = (xs : List T) → Lists run x.sender.source xs → IfOk r (λ v. v.items ≡ come x ++ xs)

  waits : (x y : Transfer S T) (r : Result (Vec T) AllocError) → TransferStep run x Pending y → HasAll y r → HasAll x r
  unfolding Lists
  waits x y r h later xs lists =
      let next = rest_of h.0 [] xs h.1 (rw append-nil (lists h.0 y.sender.source h.2)) in
      by r next.rest next.is
      (later next.rest (λ l t ran. next.fits l (lists (h.0 ++ l) t (laws.follows _ _ t h.0 l h.2 ran))))
    where
      by : (o : Result (Vec T) AllocError) (rest : List T) → xs ≡ items_in h.0 ++ rest
          → IfOk o (λ v. v.items ≡ come y ++ rest) → IfOk o (λ v. v.items ≡ come x ++ xs)
      by (Ok v) rest is e = e ∙ rw (← h.3, is) (append_assoc (come x) (items_in h.0) rest)
      by (Err f) rest is e = tt

  gives : (x y : Transfer S T) (r : Result (Vec T) AllocError) → TransferStep run x (Ready r) y → HasAll x r
  unfolding Lists
  gives x y (Ok v) h xs lists =
      let fits = lists (h.0 ++ end ∷ []) y.sender.source h.2 in
      let last = rest_of h.0 (end ∷ []) xs h.1 fits in
      let none : last.rest ≡ [] = last.fits (end ∷ []) fits in
      h.3 ∙ ap (λ l. come x ++ l) (sym (last.is ∙ rw (none, append-nil) refl))
  gives x y (Err e) h xs lists = tt

  -- The laws of a transfer, which may be polled if its source may be, and its queue is open.
  pub transfer_laws : FutureLaws (λ x. can_poll x.sender.source × (x.queue.is_closed ≡ false))
      (StepsToValue (TransferStep run))
  transfer_laws =
      future_by_keeping_steps (TransferStep run)
      (λ x y can h. (laws.polls_on x.sender.source y.sender.source h.0 can.0 h.2, h.4))

  -- The value of a transfer that was waited for.
  pub transfer_value : {E : Type 0} (x : Transfer S T) → ValueHolds E (StepsToValue (TransferStep run)) x (HasAll x)
  transfer_value = value_by_steps (TransferStep run) HasAll waits gives

  fresh_value : (x : Transfer S T) (xs : List T) → come x ≡ [] → Lists run x.sender.source xs
      → ValueHolds AllocError (StepsToValue (TransferStep run)) x (λ r. IfOk r (λ v. v.items ≡ xs))
  fresh_value x xs none lists r w = let held = transfer_value x r w in (held.0, by r (held.1))
    where
      by : (o : Result (Result (Vec T) AllocError) AllocError) → IfOk o (HasAll x)
          → IfOk o (λ r. IfOk r (λ v. v.items ≡ xs))
      by (Ok (Ok v)) h = h xs lists ∙ rw none refl
      by (Ok (Err e)) h = tt
      by (Err e) h = tt

  -- The value of a transfer that has not been polled.
  pub fresh_of_items : (x : Transfer S T) → come x ≡ []
      → OfItems run x.sender.source (λ xs. ValueHolds AllocError (StepsToValue (TransferStep run)) x
      (λ r. IfOk r (λ v. v.items ≡ xs)))
  unfolding Seen
  fresh_of_items x none =
      (λ xs lists. fresh_value x xs none lists, λ xs lists. (tt, fresh_value x xs none lists))
