-- The steadiness of `chain`, from that of its two streams.
use Rattle.std.specs.Prelude.{◌≡◌, List, [], ◌∷◌, ◌++◌, Option, Some, None, ⊤}
use Rattle.lite_reshape.specs.Uses.{inl, inr, refl, append-nil, Ready, Pending, Either, OptionBy, SameAnswer, Sameness, Answer, ComparableBy, Endless}
use Rattle.lite_reshape.specs.Uses.{strip, SteadyLawsBy, both_items, comparable_nil, ends_same, Runs}
use Rattle.lite_base.specs.Laws.Alike.{either_first, either_second}
use Rattle.lite_stream.specs.Laws.Cutting.{CutsStripped, cut_same, cuts_stripped}
use Rattle.lite_reshape.specs.Chain.{Chains, Joins, is_done, second_after}
use Rattle.lite_reshape.specs.Ended.{Turn}
use Rattle.lite_reshape.specs.Ended.Turn.{First, Second, Done}
use Rattle.lite_reshape.specs.Laws.Chain.{chain_runs}

module _ {A : Type 0} where
  -- The same as `Joins`, for lists of results without their `Pending`s.
  abbrev JoinsStripped : Turn → Runs (Option A) (List (Option A))
  JoinsStripped First [] js out = out ≡ []
  JoinsStripped First (None ∷ is) js out = CutsStripped is_done second_after Second js out
  JoinsStripped First (Some x ∷ is) js out =
      (more : List (Option A)) × (out ≡ Some x ∷ more) × JoinsStripped First is js more
  JoinsStripped Second is js out = CutsStripped is_done second_after Second js out
  JoinsStripped Done is js out = CutsStripped is_done second_after Done js out

  -- The first stream's results before its end come first.
  own_joined : (own rest after : List (Answer A)) (j : List (Option A)) → Endless own
      → JoinsStripped First (strip rest) j (strip after)
      → JoinsStripped First (strip (own ++ rest)) j (strip (own ++ after))
  own_joined [] rest after j e h = h
  own_joined (Pending ∷ own) rest after j e h = own_joined own rest after j (cc e) h
  own_joined (Ready None ∷ own) rest after j e h = cc
  own_joined (Ready (Some x) ∷ own) rest after j e h =
      (strip (own ++ after), refl, own_joined own rest after j (cc e) h)

  stripped : (f g : Turn) (i j l : List (Answer A)) → Joins f i j l g → JoinsStripped f (strip i) (strip j) (strip l)
  stripped First g i j l (inl r) = rw r.2 (rw (← (append-nil i)) (own_joined i [] [] _ r.0 refl))
  stripped First g i j l (inr r) =
      let after = cuts_stripped is_done second_after (λ f n. refl) Second g j (r.next ∷ r.later) r.followed in
      rw r.through_end (rw r.joined (own_joined r.own _ _ _ r.endless after))
  stripped Second g i j l r = cuts_stripped is_done second_after (λ f n. refl) Second g j l r.1
  stripped Done g i j l r = cuts_stripped is_done second_after (λ f n. refl) Done g j l r.1

  second_same : (x y : Option A) (f : Turn) → OptionBy (λ _ _. ⊤) x y
      → second_after (Ready x) f ≡ second_after (Ready y) f
  second_same None None f e = refl
  second_same (Some x) (Some y) f e = refl
  second_same _ _ f h = absurd h

  module _ (same : Sameness A) where
    cuts_same : (f : Turn) (k h o p : List (Option A)) → CutsStripped is_done second_after f k o
        → CutsStripped is_done second_after f h p → ComparableBy (SameAnswer same) k h
        → ComparableBy (SameAnswer same) o p
    cuts_same = cut_same is_done second_after (λ f n. refl) _ (ends_same same)
        (λ x y f e. second_same x y f (both_items same x y e))

    joined_same : (f : Turn) (i j k h o p : List (Option A)) → JoinsStripped f i k o → JoinsStripped f j h p
        → ComparableBy (SameAnswer same) i j
        → ComparableBy (SameAnswer same) k h → ComparableBy (SameAnswer same) o p
    joined_same First [] j k h o p r q c d = cc
    joined_same First (x ∷ i) [] k h o p r q c d =
        rw q (comparable_nil _ o)
    joined_same First (None ∷ i) (Some y ∷ j) k h o p r q c d = absurd (both_items same None _ c.0)
    joined_same First (Some x ∷ i) (None ∷ j) k h o p r q c d = absurd (both_items same _ None c.0)
    joined_same First (Some x ∷ i) (Some y ∷ j) k h o p r q c d =
        rw (r.1, q.1) (c.0, joined_same First i j k h r.0 q.0 r.2 q.2 c.1 d)
    joined_same Done i j k h o p r q c d = cuts_same Done k h o p r q d
    joined_same _ _ _ k h o p r q c d = cuts_same Second k h o p r q d

module _ {S U A : Type 0} {run ample : Runs (Answer A) S} {run' ample' : Runs (Answer A) U} {none none' : Type 0}
    {alike : S → S → Type 0} {alike' : U → U → Type 0} (same other : Sameness A) where
  -- Two chains are alike, if their streams are and they are at the same part.
  pub chain_steady : SteadyLawsBy same run ample none alike → SteadyLawsBy other run' ample' none' alike'
      → SteadyLawsBy (Either same other) (Chains run run') (Chains ample ample') (none × none')
      (λ x y. alike x.first y.first × alike' x.second y.second × (y.part ≡ x.part))
  chain_steady s u =
      record {
        laws = chain_runs s.laws u.laws;
        steady = λ x y e l m x' y' h k.
            joined_same _ x.part _ _ _ _ _ _
            (stripped x.part x'.part h.firsts h.seconds l h.joined)
            (rw e.2 at (stripped y.part y'.part k.firsts k.seconds m k.joined))
            (either_first same other _ _
            (s.steady x.first y.first e.0 h.firsts k.firsts x'.first y'.first h.came k.came))
            (either_second same other _ _
            (u.steady x.second y.second e.1 h.seconds k.seconds x'.second y'.second h.then_came k.then_came));
        found = λ n x y l h.
            record {
              firsts = h.firsts;
              seconds = h.seconds;
              came = s.found n.0 x.first y.first h.firsts h.came;
              then_came = u.found n.1 x.second y.second h.seconds h.then_came;
              joined = h.joined;
            };
      }
