-- Laws about `cycle`.
use Rattle.std.specs.Prelude.{Bool, true, false, IfSome, Result, Ok, Err, ◌≡◌, List, [], ◌∷◌, ◌++◌, Option, Some, None}
use Rattle.futures.specs.Task.{Lasting}
use Rattle.lite_base.specs.Armed.{Arms, pends_last}
use Rattle.lite_base.specs.Laws.Armed.{pends_anew, pends_join}
use Rattle.lite_merge.specs.Uses.{sym, ◌∙◌, refl, append_assoc, Ready, Pending, Answer, Endless, end, CalmLaws, NoPending, calm_both, no_pending_join}
use Rattle.lite_merge.specs.Uses.{same_hint, all_ok, StreamLaws, endless_join, Hints, NoHint, Runs}
use Rattle.lite_base.specs.Laws.Calm.{no_pending_front}
use Rattle.lite_merge.specs.Cycle.{AllCopies, Cycles, Lap, LapOver, Laps, Renews}

module _ {A : Type 0} (E : Type 0) where
  all_ok_join : (i j : List (Answer A)) → all_ok {E = E} (i ++ j) ≡ all_ok i ++ all_ok j
  all_ok_join [] j = refl
  all_ok_join (Ready (Some x) ∷ i) j = rw (all_ok_join i j)
  all_ok_join (_ ∷ i) j = rw (all_ok_join i j)

  all_ok_none : (i : List (Answer A)) → [] ≡ all_ok {E = E} i → i ≡ []
  all_ok_none [] e = refl
  all_ok_none (Ready None ∷ i) e = cc
  all_ok_none (_ ∷ i) e = cc

  all_ok_no_pending : (i : List (Answer A)) → NoPending i → NoPending (all_ok {E = E} i)
  all_ok_no_pending [] h = tt
  all_ok_no_pending (Pending ∷ i) h = absurd h
  all_ok_no_pending (Ready None ∷ i) h = all_ok_no_pending i h
  all_ok_no_pending (Ready (Some x) ∷ i) h = all_ok_no_pending i h

none_after : {A : Type 0} (i j l : List A) → ([] ≡ j → ⊥) → [] ≡ i ++ (j ++ l) → ⊥
none_after [] [] l some e = some refl
none_after i j l some e = cc

module _ {S A : Type 0} {run : Runs (Answer A) S} {can_poll : S → Type 0} {hints : Hints S} (laws : StreamLaws can_poll run hints) where
  lap_rest : (x : Option S) → Lap run x [] x
  lap_rest None = refl
  lap_rest (Some s) = (laws.rests s, refl)

  lap_stay : (x y : Option S) → Lap run x [] y → y ≡ x
  lap_stay None None h = refl
  lap_stay (Some s) (Some t) h = rw (laws.stays s t h.0)
  lap_stay x y h = absurd h

  lap_join : (x y z : Option S) (i j : List (Answer A)) → Lap run x i y → Lap run y j z → Lap run x (i ++ j) z
  lap_join None None None i j h k = rw (h, k)
  lap_join None (Some t) z i j h k = absurd h
  lap_join (Some s) None z i j h k = absurd h
  lap_join (Some s) (Some t) (Some u) i j h k = (laws.follows s t u i j h.0 k.0, endless_join i j h.1 k.1)
  lap_join x y z i j h k = absurd k

  lap_over : (x y : Option S) (i j : List (Answer A)) → Lap run x i y → LapOver run y j → LapOver run x (i ++ j)
  lap_over None None i j h k = rw (h, k)
  lap_over (Some s) (Some t) i j h k = (
    k.0,
    rw append_assoc (laws.follows s t k.0 i (j ++ end ∷ []) h.0 k.1),
    endless_join i j h.1 k.2,
  )
  lap_over x y i j h k = absurd h

  lap_on : (x y : Option S) (own : List (Answer A)) → IfSome x can_poll → Lap run x own y → IfSome y can_poll
  lap_on None None own k h = tt
  lap_on (Some s) (Some t) own k h = laws.polls_on s t own k h.0
  lap_on x y own k h = absurd h

module _ {S A E : Type 0} (is_clone : S → S → Type 0) (is_infallible : S → Type 0) {run : Runs (Answer A) S}
    {can_poll : S → Type 0} {hints : Hints S} (laws : StreamLaws can_poll run hints) where
  module _ (original : S) where
    -- One poll of a stream that yielded an item or was pending.
    pub lap_one : (s t : S) (a : Answer A) → run s (a ∷ []) t → Endless (a ∷ [])
        → Laps run is_clone is_infallible original [] (Some s) (all_ok {E = E} (a ∷ [])) (Some t)
    lap_one s t a came endless = (a ∷ [], (came, endless), refl)

    -- One poll at an end of the stream, or while a clone is still to be made.
    pub renewed : (x : Option S) (asked : Result S E) (b : Answer (Result A E)) (y : Option S) → LapOver run x []
        → Renews run is_clone is_infallible original asked (b ∷ []) y
        → Laps run is_clone is_infallible original (asked ∷ []) x (b ∷ []) y
    renewed x asked b y over renews = record {
      own = [];
      over = over;
      anew = b ∷ [];
      next = y;
      renews = renews;
      rest = [];
      goes_on = ([], lap_rest laws y, refl);
      joined = refl;
    }

    renews_some : (asked : Result S E) (out : List (Answer (Result A E))) (s : Option S)
        → Renews run is_clone is_infallible original asked out s → [] ≡ out → ⊥
    renews_some (Err e) out s h none = cc
    renews_some (Ok copy) out None h none = h.1
    renews_some (Ok copy) out (Some s) h none = cc (all_ok_none E (h.1.0 ∷ []) (none ∙ h.1.2))

    laps_stay : (asked : List (Result S E)) (x y : Option S) → Laps run is_clone is_infallible original asked x [] y
        → y ≡ x
    laps_stay [] x y h = lap_stay laws x y (rw (all_ok_none E h.0 h.2) at h.1)
    laps_stay (r ∷ asked) x y h =
        absurd (none_after (all_ok h.own) h.anew h.rest (renews_some r h.anew h.next h.renews) h.joined)

    -- More results after a part of the first lap.
    laps_after : (asked : List (Result S E)) (x y z : Option S) (own : List (Answer A))
        (out : List (Answer (Result A E))) → Lap run x own y → Laps run is_clone is_infallible original asked y out z
        → Laps run is_clone is_infallible original asked x (all_ok own ++ out) z
    laps_after [] x y z own out h k = (own ++ k.0, lap_join laws x y z own k.0 h k.1, rw (k.2, all_ok_join))
    laps_after (r ∷ asked) x y z own out h k =
        record {
          own = own ++ k.own;
          over = lap_over laws x y own k.own h k.over;
          anew = k.anew;
          next = k.next;
          renews = k.renews;
          rest = k.rest;
          goes_on = k.goes_on;
          joined = rw (k.joined, all_ok_join, append_assoc);
        }

    laps_join : (asked more : List (Result S E)) (x y z : Option S) (l m : List (Answer (Result A E)))
        → Laps run is_clone is_infallible original asked x l y → Laps run is_clone is_infallible original more y m z
        → Laps run is_clone is_infallible original (asked ++ more) x (l ++ m) z
    laps_join [] more x y z l m h k = rw h.2 (laps_after more x y z h.0 m h.1 k)
    laps_join (r ∷ asked) more x y z l m h k =
        record {
          own = h.own;
          over = h.over;
          anew = h.anew;
          next = h.next;
          renews = h.renews;
          rest = h.rest ++ m;
          goes_on = laps_join asked more h.next y z h.rest m h.goes_on k;
          joined = rw (h.joined, append_assoc, append_assoc);
        }

  -- The stream that is cycled may be polled after any run, if it and each clone of the original may be polled.
  module _ (original : S) (copies : (copy : S) → is_clone original copy → can_poll copy) where
    renews_on : (asked : Result S E) (out : List (Answer (Result A E))) (s : Option S)
        → Renews run is_clone is_infallible original asked out s → IfSome s can_poll
    renews_on (Err e) out s h = rw h.2 tt
    renews_on (Ok copy) out None h = absurd h.1
    renews_on (Ok copy) out (Some s) h = laws.polls_on copy s (h.1.0 ∷ []) (copies copy h.0) h.1.1

    laps_on : (asked : List (Result S E)) (x y : Option S) (out : List (Answer (Result A E))) → IfSome x can_poll
        → Laps run is_clone is_infallible original asked x out y → IfSome y can_poll
    laps_on [] x y out k h = lap_on laws x y h.0 k h.1
    laps_on (r ∷ asked) x y out k h =
        laps_on asked h.next y h.rest (renews_on r h.anew h.next h.renews) h.goes_on

  pub cycle_laws : StreamLaws (AllCopies can_poll is_clone) (Cycles {E = E} run is_clone is_infallible) NoHint
  cycle_laws =
      record {
        rests = λ x. ([], ([], lap_rest laws x.stream, refl), refl);
        stays = λ x y h.
            λ i. record { original = h.2 i; stream = (laps_stay x.original h.0 x.stream y.stream h.1) i };
        follows = λ x y z l m h k.
            (h.0 ++ k.0, laps_join x.original h.0 k.0 x.stream y.stream z.stream l m h.1 (rw h.2 at k.1), k.2 ∙ h.2);
        bounded = λ x y hint l e h. same_hint hint (0, None) l e tt;
        polls_on = λ x y l k h.
            (laps_on x.original k.1 h.0 x.stream y.stream l k.0 h.1, λ copy made. k.1 copy (rw h.2 at made));
      }

module _ {S A : Type 0} {run : Runs (Answer A) S} {is_calm : S → Type 0} (c : CalmLaws run is_calm) where
  lap_calm : (x y : Option S) (own : List (Answer A)) → IfSome x is_calm → Lap run x own y → NoPending own
      × IfSome y is_calm
  lap_calm None None own k h = (rw h tt, tt)
  lap_calm (Some s) (Some t) own k h = (c.no_pending s t own k h.0, c.calm_on s t own k h.0)
  lap_calm x y own k h = absurd h

  over_calm : (x : Option S) (own : List (Answer A)) → IfSome x is_calm → LapOver run x own → NoPending own
  over_calm None own k h = rw h tt
  over_calm (Some s) own k h = no_pending_front own (end ∷ []) (c.no_pending s h.0 (own ++ end ∷ []) k h.1)

module _ {S A E : Type 0} (is_clone : S → S → Type 0) (is_infallible : S → Type 0) {run : Runs (Answer A) S}
    {is_calm : S → Type 0} (c : CalmLaws run is_calm) where
  module _ (original : S) (copies : (copy : S) → is_clone original copy → is_calm copy) where
    renews_calm : (asked : Result S E) (out : List (Answer (Result A E))) (s : Option S)
        → Renews run is_clone is_infallible original asked out s → NoPending out × IfSome s is_calm
    renews_calm (Err e) out s h = rw (h.1, h.2) (tt, tt)
    renews_calm (Ok copy) out None h = absurd h.1
    renews_calm (Ok copy) out (Some s) h =
        let first = c.no_pending copy s (h.1.0 ∷ []) (copies copy h.0) h.1.1 in
        (rw h.1.2 (all_ok_no_pending E (h.1.0 ∷ []) first), c.calm_on copy s (h.1.0 ∷ []) (copies copy h.0) h.1.1)

    laps_calm : (asked : List (Result S E)) (x y : Option S) (out : List (Answer (Result A E))) → IfSome x is_calm
        → Laps run is_clone is_infallible original asked x out y → NoPending out × IfSome y is_calm
    laps_calm [] x y out k h = let e = lap_calm c x y h.0 k h.1 in (rw h.2 (all_ok_no_pending E h.0 e.0), e.1)
    laps_calm (r ∷ asked) x y out k h =
        let anew = renews_calm r h.anew h.next h.renews in
        let after = laps_calm asked h.next y h.rest anew.1 h.goes_on in (
          rw h.joined
              (no_pending_join (all_ok h.own) (h.anew ++ h.rest)
              (all_ok_no_pending E h.own (over_calm c x h.own k h.over))
              (no_pending_join h.anew h.rest anew.0 after.0)),
          after.1,
        )

  -- A `cycle` is calm, if the stream and each clone of it are.
  pub cycle_calm : CalmLaws (Cycles {E = E} run is_clone is_infallible) (AllCopies is_calm is_clone)
  cycle_calm =
      calm_both (λ x y l k h.
      let e = laps_calm x.original k.1 h.0 x.stream y.stream l k.0 h.1 in
      (e.0, (e.1, λ copy made. k.1 copy (rw h.2 at made))))

-- A `cycle` is armed if the stream is.
module _ {A : Type 0} (E : Type 0) where
  all_ok_pends : (b : Bool) (i : List (Answer A)) → pends_last b (all_ok {E = E} i) ≡ pends_last b i
  all_ok_pends b [] = refl
  all_ok_pends b (Pending ∷ i) = all_ok_pends true i
  all_ok_pends b (Ready None ∷ i) = all_ok_pends false i
  all_ok_pends b (Ready (Some x) ∷ i) = all_ok_pends false i

-- The stream that was polled last has registered the task.
abbrev StreamArmed : {S : Type 0} → (S → Lasting → Type 0) → Option S → Type 0
StreamArmed {S} registers x = (s : S) × (x ≡ Some s) × registers s Lasting.armed

lap_arms : {S A : Type 0} {run : Runs (Answer A) S} {can_poll : S → Type 0} {hints : Hints S}
    {registers : S → Lasting → Type 0} → StreamLaws can_poll run hints → Arms run registers → (b : Bool)
    (x y : Option S) (own : List (Answer A)) → (b ≡ true → StreamArmed registers x) → Lap run x own y
    → pends_last b own ≡ true → StreamArmed registers y
lap_arms laws a b None None own k h e = k (rw h at e)
lap_arms laws a b (Some s) (Some t) [] k h e = rw (laws.stays s t h.0) (k e)
lap_arms laws a b (Some s) (Some t) (c ∷ own) k h e =
    (t, refl, a.at s t (c ∷ own) (pends_anew false b c own ∙ e) h.0)
lap_arms laws a b x y own k h e = absurd h

module _ {S A E : Type 0} (is_clone : S → S → Type 0) (is_infallible : S → Type 0) {run : Runs (Answer A) S}
    {can_poll : S → Type 0} {hints : Hints S} (laws : StreamLaws can_poll run hints) {registers : S → Lasting → Type 0}
    (a : Arms run registers) where
  module _ (original : S) where
    renews_arms : (b : Bool) (asked : Result S E) (out : List (Answer (Result A E))) (s : Option S)
        → Renews run is_clone is_infallible original asked out s → pends_last b out ≡ true → StreamArmed registers s
    renews_arms b (Err f) out s h e = absurd (let none = rw h.1 at e in cc none)
    renews_arms b (Ok copy) out None h e = absurd h.1
    renews_arms b (Ok copy) out (Some s) h e =
        let first = sym (all_ok_pends E b (h.1.0 ∷ [])) ∙ (rw h.1.2 at e) in
        (s, refl, a.at copy s (h.1.0 ∷ []) (pends_anew false b h.1.0 [] ∙ first) h.1.1)

    laps_arms : (b : Bool) (asked : List (Result S E)) (x y : Option S) (out : List (Answer (Result A E)))
        → (b ≡ true → StreamArmed registers x) → Laps run is_clone is_infallible original asked x out y
        → pends_last b out ≡ true → StreamArmed registers y
    laps_arms b [] x y out k h e = lap_arms laws a b x y h.0 k h.1 (sym (all_ok_pends E b h.0) ∙ (rw h.2 at e))
    laps_arms b (r ∷ asked) x y out k h e =
        let before = pends_last b (all_ok {E = E} h.own) in
        let all : pends_last before (h.anew ++ h.rest) ≡ true =
        sym (pends_join b (all_ok h.own) (h.anew ++ h.rest)) ∙ (rw h.joined at e) in
        laps_arms (pends_last before h.anew) asked h.next y h.rest (renews_arms before r h.anew h.next h.renews)
        h.goes_on (sym (pends_join before h.anew h.rest) ∙ all)

  pub cycle_arms : Arms (Cycles {E = E} run is_clone is_infallible)
      (λ m fact. (s : S) × (m.stream ≡ Some s) × registers s fact)
  cycle_arms =
      record { at = λ x y l e h. laps_arms x.original false h.0 x.stream y.stream l (λ d. cc d) h.1 e }
