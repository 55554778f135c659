-- Laws about two streams that are chained.
use Rattle.std.specs.Prelude.{◌≡◌, ℕ, ◌+◌, List, [], ◌∷◌, ◌++◌, length, Some, None}
use Rattle.lite_reshape.specs.Uses.{length-replicate, ◌∙◌, inl, inr, refl, ap, sym, subst, arith, length-append}
use Rattle.lite_reshape.specs.Uses.{append_assoc, append-nil, Ready, Pending, Answer, Endless, items, AtMost-both}
use Rattle.lite_base.specs.Ranks.{AtMost}
use Rattle.lite_reshape.specs.Uses.{Below-after, Below-first, Lowers-at_most, endless_join, same_hint, Below}
use Rattle.lite_reshape.specs.Uses.{Lowers, Counting, Ranks, RunLaws, StreamLaws, runs_of, Hints, NoHint, Runs, Cuts}
use Rattle.lite_reshape.specs.Uses.{AtMost-then_below, Lowers-after, not_empty, own_lowers, zeros_least}
use Rattle.lite_base.specs.Laws.Ranks.{AtMost-length}
use Rattle.lite_base.specs.Laws.StreamLaws.{laws_of}
use Rattle.lite_stream.specs.Laws.Cutting.{cuts_relating, cuts_steps}
use Rattle.lite_reshape.specs.Chain.{Chains, CrossesOver, Joins, is_done, second_after, chain_rank, chain_ranks, second_rank, zeros}
use Rattle.lite_base.specs.Laws.Answers.{items_after}
use Rattle.lite_reshape.specs.Ended.Turn.{First, Second, Done}
use Rattle.lite_reshape.specs.Ended.{Turn}

zeros_length : (xs : List ℕ) → length (zeros xs) ≡ length xs
zeros_length xs = length-replicate _ 0

module _ (xs ys : List ℕ) where
  zeros_same : length xs ≡ length ys → zeros xs ≡ zeros ys
  zeros_same e = cc

  zeros_below : Below xs ys → Below (zeros xs) ys
  zeros_below = AtMost-then_below _ xs ys (zeros_least _ xs refl)

second_below : (g : Turn) (xs ys : List ℕ) → Below xs ys → Below (second_rank g xs) ys
second_below Done xs ys h = zeros_below xs ys h
second_below _ xs ys h = h

-- The rank of a `chain` once the first stream has ended.
ended_rank : (g : Turn) (xs ys : List ℕ) → (g ≡ First → ⊥) → chain_rank g xs ys ≡ zeros xs ++ second_rank g ys
ended_rank First xs ys n = absurd (n refl)
ended_rank _ xs ys n = refl

chain_below : (g : Turn) (xs us ys vs : List ℕ) → Below xs us → length ys ≡ length vs
    → Below (chain_rank g xs ys) (us ++ vs)
chain_below First xs us ys vs h e = Below-first xs us ys vs h e
chain_below Second xs us ys vs h e = Below-first _ us ys vs (zeros_below xs us h) e
chain_below Done xs us ys vs h e = Below-first _ us _ vs (zeros_below xs us h) (zeros_length ys ∙ e)

module _ {A : Type 0} where
  -- The second stream goes on, and the first is not polled again.
  after_not : (s : Turn) (b : Answer A) → (s ≡ First → ⊥) → second_after b s ≡ First → ⊥
  after_not s (Ready None) n e = cc
  after_not s _ n e = n e

  not_first : (s g : Turn) (j l : List (Answer A)) → Cuts is_done second_after s j l g → (s ≡ First → ⊥) → g ≡ First → ⊥
  not_first s g j l r n =
      cuts_steps is_done second_after g (λ f i o. (f ≡ First → ⊥) → g ≡ First → ⊥) (λ n. n) (λ f i o d k. k)
      (λ f b i o d k n. k (after_not f b n)) s j l r n

  later : (s g h : Turn) (i j k l m : List (Answer A)) → (s ≡ First → ⊥) → Cuts is_done second_after s j l g
      → Joins g i k m h
      → (i ≡ []) × Cuts is_done second_after s (j ++ k) (l ++ m) h
  later s First h i j k l m n r q = absurd (not_first s First j l r n refl)
  later s Second h i j k l m n r q =
      (q.0, (cuts_relating is_done second_after).following.joins s Second h j k l m r q.1)
  later s Done h i j k l m n r q = (q.0, (cuts_relating is_done second_after).following.joins s Done h j k l m r q.1)

  -- Results of the first stream may be put in front of the joined results.
  module _ (h : Turn) (i u k m : List (Answer A)) (endless : Endless i) where
    own_before : Joins First u k m h → Joins First (i ++ u) k (i ++ m) h
    own_before (inl q) = inl (endless_join i u endless q.0, q.1, ap (λ n. i ++ n) q.2, q.3)
    own_before (inr q) =
        inr (record {
          own = i ++ q.own;
          endless = endless_join i q.own endless q.endless;
          through_end = ap (λ n. i ++ n) q.through_end ∙ sym (append_assoc i q.own _);
          next = q.next;
          later = q.later;
          joined = ap (λ n. i ++ n) q.joined ∙ sym (append_assoc i q.own _);
          followed = q.followed;
        })

  crosses_on : (g h : Turn) (i u j k l m : List (Answer A)) → CrossesOver i j l g → Joins g u k m h
      → CrossesOver (i ++ u) (j ++ k) (l ++ m) h
  crosses_on g h i u j k l m r q =
      let e = later Second g h u j k (r.next ∷ r.later) m (λ d. cc d) r.followed q in
      record {
        own = r.own;
        endless = r.endless;
        through_end = ap (λ n. i ++ n) e.0 ∙ append-nil i ∙ r.through_end;
        next = r.next;
        later = r.later ++ m;
        joined = ap (λ n. n ++ m) r.joined ∙ append_assoc r.own _ m;
        followed = e.1;
      }

  joins_follow : (f g h : Turn) (i u j k l m : List (Answer A)) → Joins f i j l g → Joins g u k m h
      → Joins f (i ++ u) (j ++ k) (l ++ m) h
  joins_follow First g h i u j k l m (inl r) q =
      rw (r.1, r.2) (own_before h i u k m r.0 (rw r.3 at q))
  joins_follow First g h i u j k l m (inr r) q = inr (crosses_on g h i u j k l m r q)
  joins_follow Second g h i u j k l m r q =
      let e = later Second g h u j k l m (λ d. cc d) r.1 q in
      (rw (r.0, e.0), e.1)
  joins_follow Done g h i u j k l m r q =
      let e = later Done g h u j k l m (λ d. cc d) r.1 q in
      (rw (r.0, e.0), e.1)

  joins_stay : (f g : Turn) (i j : List (Answer A)) → Joins f i j [] g → (i ≡ []) × (j ≡ []) × (g ≡ f)
  joins_stay First g i j (inl r) = (sym r.2, r.1, r.3)
  joins_stay First g i j (inr r) = absurd (not_empty r.own r.next r.later r.joined)
  joins_stay _ g i j r = (r.0, r.1.0, r.1.1)

  -- After the second stream's end every result is the end of the stream.
  module _ (g : Turn) where
    done_lowers : (j l : List (Answer A)) (us vs : List ℕ) → AtMost us vs → Cuts is_done second_after Done j l g
        → (g ≡ Done) × Lowers l us vs
    done_lowers j l us vs h r =
        cuts_steps is_done second_after g (λ f i o. f ≡ Done → (g ≡ Done) × Lowers o us vs) (λ e. (e, h))
        (λ f i o d k. k) (λ f b i o n k e. absurd (n e)) Done j l r refl

    second_lowers : (j l : List (Answer A)) (xs ys : List ℕ) → Cuts is_done second_after Second j l g → Lowers j xs ys
        → Lowers l (second_rank g xs) ys
    second_lowers j [] xs ys r h = rw r.1 (rw r.0 at h)
    second_lowers j (b ∷ l) xs ys (inl r) h = cc
    second_lowers j (Pending ∷ l) xs ys (inr r) h = second_lowers r.1 l xs ys r.3 (rw r.2 at h)
    second_lowers j (Ready None ∷ l) xs ys (inr r) h =
        let same = AtMost-length xs ys (Lowers-at_most r.1 xs ys (rw r.2 at h)) in
        let e = done_lowers r.1 l _ ys (zeros_least _ ys (sym same)) r.3 in
        rw e.0 e.1
    second_lowers j (Ready (Some x) ∷ l) xs ys (inr r) h = second_below g xs ys (rw r.2 at h)

  -- The rank falls as before with numbers behind it that do not rise.
  lowers_first : (l : List (Answer A)) (xs us ys vs : List ℕ) → Lowers l xs us → AtMost ys vs
      → Lowers l (xs ++ ys) (us ++ vs)
  lowers_first [] xs us ys vs h m = AtMost-both xs us ys vs h m
  lowers_first (Ready (Some x) ∷ l) xs us ys vs h m = Below-first xs us ys vs h (AtMost-length ys vs m)
  lowers_first (_ ∷ l) xs us ys vs h m = lowers_first l xs us ys vs h m

  joins_lowers : (f g : Turn) (i j l : List (Answer A)) (xs us ys vs : List ℕ) → Joins f i j l g → Lowers i xs us
      → Lowers j ys vs
      → Lowers l (chain_rank g xs ys) (chain_rank f us vs)
  joins_lowers First g i j l xs us ys vs (inl r) h k =
      rw (r.2, r.3) (lowers_first i xs us ys vs h (Lowers-at_most j ys vs k))
  joins_lowers First g i j l xs us ys vs (inr r) h k =
      let second = second_lowers g j (r.next ∷ r.later) ys vs r.followed k in
      let after =
      Lowers-after (r.next ∷ r.later) (zeros xs) us (second_rank g ys) vs
      (zeros_least (length xs) us (sym (AtMost-length xs us (Lowers-at_most i xs us h)))) second in
      let ended = ended_rank g xs ys (not_first Second g j (r.next ∷ r.later) r.followed (λ d. cc d)) in
      rw r.joined
      (own_lowers r.own _ _ xs us _ _ (rw r.through_end at h)
      (λ _. subst (λ n. Lowers (r.next ∷ r.later) n (us ++ vs)) (sym ended) after)
      (λ b. chain_below g xs us ys vs b (AtMost-length ys vs (Lowers-at_most j ys vs k))))
  joins_lowers Second g i j l xs us ys vs r h k =
      rw (ended_rank g xs ys (not_first Second g j l r.1 (λ d. cc d)))
      (Lowers-after l _ _ _ vs
      (inl (zeros_same xs us (AtMost-length xs us (Lowers-at_most i xs us h)))) (second_lowers g j l ys vs r.1 k))
  joins_lowers Done g i j l xs us ys vs r h k =
      let same = AtMost-length xs us (Lowers-at_most i xs us h) in
      let same' = AtMost-length ys vs (Lowers-at_most j ys vs k) in
      let level = ap (λ z. z ++ zeros ys) (zeros_same xs us same) ∙ ap (λ z. zeros us ++ z) (zeros_same ys vs same') in
      let e = done_lowers g j l _ _ (inl level) r.1 in
      rw e.0 e.1

  -- If all results are items of the second stream, it has not ended.
  module _ (s g : Turn) where
    second_items : (j : List (Answer A)) (l : List A) → Cuts is_done second_after s j (items l) g → (s ≡ Second)
        → g ≡ Second
    second_items j [] r e = cc
    second_items j (x ∷ l) (inl r) e = cc
    second_items j (x ∷ l) (inr r) e = second_items r.1 l r.3 e

  module _ (g : Turn) (j : List (Answer A)) (b : Answer A) (o : List (Answer A)) where
    second_falls : (l : List A) (xs us ys vs : List ℕ)
        → ((a : A) (before : List A) → j ≡ items (a ∷ before) → Below ys vs) → AtMost (zeros xs) us → b ∷ o ≡ items l
        → Cuts is_done second_after Second j (b ∷ o) g → Below (chain_rank g xs ys) (us ++ vs)
    second_falls [] xs us ys vs falls m same r = cc
    second_falls (y ∷ l) xs us ys vs falls m same r =
        let gave : Cuts is_done second_after Second j (items (y ∷ l)) g =
        subst (λ n. Cuts is_done second_after Second j n g) same r in
        let e = (cuts_relating is_done second_after).from_items Second g j y l gave in
        rw (second_items Second g j (y ∷ l) gave refl) (Below-after (zeros xs) us ys vs m (falls e.0 e.1 e.2))

  joins_falls : (f g : Turn) (i j : List (Answer A)) (y : A) (l : List A) (xs us ys vs : List ℕ)
      → ((a : A) (before : List A) → i ≡ items (a ∷ before) → Below xs us)
      → ((a : A) (before : List A) → j ≡ items (a ∷ before) → Below ys vs)
      → length xs ≡ length us → length ys ≡ length vs → Joins f i j (items (y ∷ l)) g
      → Below (chain_rank g xs ys) (chain_rank f us vs)
  joins_falls First g i j y l xs us ys vs falls falls' same same' (inl r) =
      rw r.3 (Below-first xs us ys vs (falls y l (sym r.2)) same')
  joins_falls First g i j y l xs us ys vs falls falls' same same' (inr r) =
      let m = items_after r.own _ (y ∷ l) r.joined in
      second_falls g j r.next r.later m.0 xs us ys vs falls' (zeros_least _ us (sym same)) m.1 r.followed
  joins_falls Second g i j y l xs us ys vs falls falls' same same' r =
      second_falls g j _ _ (y ∷ l) xs _ ys vs falls' (inl (zeros_same xs us same)) refl r.1
  joins_falls Done g i j y l xs us ys vs falls falls' same same' r =
      absurd (elim r.1 [ inl e ↦ cc e.1 | inr e ↦ e.0 refl ])

joins_start : (A : Type 0) (f : Turn) → Joins {A = A} f [] [] [] f
joins_start A First = inl (refl, refl, refl, refl)
joins_start A _ = (refl, (refl, refl))

chain_sized : (part : Turn) (xs ys : List ℕ) (m n : ℕ) → length xs ≡ m → length ys ≡ n
    → length (chain_rank part xs ys) ≡ m + n
chain_sized First xs ys m n d e = length-append xs ys ∙ omega (arith, d, e)
chain_sized Second xs ys m n d e = length-append _ ys ∙ omega (arith, zeros_length xs, d, e)
chain_sized Done xs ys m n d e =
    length-append _ (zeros ys) ∙ omega (arith, zeros_length xs, zeros_length ys, d, e)

module _ {S U A : Type 0} {run : Runs (Answer A) S} {run' : Runs (Answer A) U} where
  pub chain_runs : RunLaws run → RunLaws run' → RunLaws (Chains run run')
  chain_runs s u =
      record {
        rests = λ x.
            record {
              firsts = [];
              seconds = [];
              came = s.rests x.first;
              then_came = u.rests x.second;
              joined = joins_start A x.part;
            };
        stays = λ x y h.
            let e = joins_stay x.part y.part h.firsts h.seconds h.joined in
            λ i.
            record {
              first = (s.stays x.first y.first (rw e.0 at h.came)) i;
              second = (u.stays x.second y.second (rw e.1 at h.then_came)) i;
              part = e.2 i;
            };
        follows = λ x y z l m a b.
            record {
              firsts = a.firsts ++ b.firsts;
              seconds = a.seconds ++ b.seconds;
              came = s.follows x.first y.first z.first a.firsts b.firsts a.came b.came;
              then_came = u.follows x.second y.second z.second a.seconds b.seconds a.then_came b.then_came;
              joined = joins_follow x.part y.part z.part a.firsts b.firsts a.seconds b.seconds l m a.joined b.joined;
            };
      }

  pub chain_laws : {can_poll : S → Type 0} {hints : Hints S} {can_poll' : U → Type 0} {hints' : Hints U} → StreamLaws can_poll run hints → StreamLaws can_poll' run' hints'
      → StreamLaws (λ m. can_poll m.first × can_poll' m.second) (Chains run run') NoHint
  chain_laws s u =
      laws_of (chain_runs (runs_of s) (runs_of u)) (λ x y hint l e h. same_hint hint (0, None) l e tt)
      (λ x y l c h.
      (s.polls_on x.first y.first h.firsts c.0 h.came, u.polls_on x.second y.second h.seconds c.1 h.then_came))

  pub chain_counting : {r : Ranks S} {r' : Ranks U} → Counting run r → Counting run' r'
      → Counting (Chains run run') (chain_ranks r r')
  chain_counting {r} {r'} s u =
      record {
        sized = λ x. chain_sized x.part _ _ r.width r'.width (s.sized x.first) (u.sized x.second);
        counts_on = λ x y l c h.
            (s.counts_on x.first y.first h.firsts c.0 h.came, u.counts_on x.second y.second h.seconds c.1 h.then_came);
        firm_on = λ x y l c h.
            (s.firm_on x.first y.first h.firsts c.0 h.came, u.firm_on x.second y.second h.seconds c.1 h.then_came);
        falls = λ x y a more c h.
            joins_falls x.part y.part h.firsts h.seconds a more _ _ _ _
            (λ b before e. s.falls x.first y.first b before c.0 (rw e at h.came))
            (λ b before e. u.falls x.second y.second b before c.1 (rw e at h.then_came))
            (s.sized y.first ∙ sym (s.sized x.first)) (u.sized y.second ∙ sym (u.sized x.second)) h.joined;
        lowers = λ x y l c h.
            joins_lowers x.part y.part h.firsts h.seconds l _ _ _ _ h.joined
            (s.lowers x.first y.first h.firsts c.0 h.came)
            (u.lowers x.second y.second h.seconds c.1 h.then_came);
      }
