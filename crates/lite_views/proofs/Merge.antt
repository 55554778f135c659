-- The items of `or` and `race` if one of the two streams is never ready, and what the first poll of `or` returns.
use Rattle.std.specs.Prelude.{◌≡◌, List, [], ◌∷◌, ◌++◌, map, refl, Bool, true, false, Option, Some, None, ⊤}
use Rattle.lite_views.specs.Uses.{AllEnds, Answer, Endless, Fuse, FusesOn, MergeRow, MergeRows, Pending, Ready, Runs, Stream, Waiting, append-nil}
use Rattle.lite_views.specs.Uses.{end, is_first, item, rows_by}
use Rattle.lite_merge.specs.Merge.{Merges}
use Rattle.lite_merge.specs.Or.{Ors}
use Rattle.lite_merge.specs.Race.{RacesOn}
use Rattle.lite_merge.specs.declared.or.Or.{Or}
use Rattle.lite_merge.specs.declared.race.Race.{Race}
use Rattle.lite_views.specs.Answering.{AtOnce, NeverReady}
use Rattle.lite_views.specs.Views.{Fits, Lists, ListsAs, Seen}
use Rattle.lite_views.proofs.Views.{listed, seen}

module _ {A : Type 0} where
  -- as Fits, with no item after an end either
  abbrev EndsFit : List (Answer A) → List A → Type 0
  EndsFit [] xs = ⊤
  EndsFit (Pending ∷ l) xs = EndsFit l xs
  EndsFit (Ready None ∷ l) xs = (xs ≡ []) × EndsFit l []
  EndsFit (Ready (Some x) ∷ l) [] = ⊥
  EndsFit (Ready (Some x) ∷ l) (y ∷ xs) = (x ≡ y) × EndsFit l xs

  all_ends_fit : (l : List (Answer A)) → AllEnds l → EndsFit l []
  all_ends_fit [] h = tt
  all_ends_fit (a ∷ l) h = rw h.0 (refl, all_ends_fit l h.1)

  -- before the first end, and then what fits in place of what fitted
  until_fits : (own m k : List (Answer A)) (xs : List A) → Endless own
      → ((rest : List A) → Fits m rest → EndsFit k rest) → Fits (own ++ m) xs → EndsFit (own ++ k) xs
  until_fits [] m k xs n to e = to xs e
  until_fits (Pending ∷ own) m k xs n to e = until_fits own m k xs (cc n) to e
  until_fits (Ready None ∷ own) m k xs n to e = cc
  until_fits (Ready (Some x) ∷ own) m k [] n to e = absurd e
  until_fits (Ready (Some x) ∷ own) m k (y ∷ xs) n to e = (e.0, until_fits own m k xs (cc n) to e.1)

  fused_ends : (after : Bool) (ins out : List (Answer A)) (xs : List A) → Fits ins xs → FusesOn false ins out after
      → EndsFit out xs
  fused_ends false ins out xs e h =
      rw (h.0, ← append-nil ins) (until_fits ins [] [] xs h.1 (λ rest f. tt) (rw append-nil e))
  fused_ends true ins out xs e (own, later, is, endless, out_is, ends) =
      rw out_is
      (until_fits own (end ∷ []) (end ∷ later) xs endless (λ rest f. (f, all_ends_fit later ends)) (rw is at e))

  -- the first list has only Pendings
  abbrev Beside : List (Answer A) → List (Answer A) → List (Answer A) → Type 0
  Beside i j l = Waiting i → (ys : List A) → EndsFit j ys → Fits l ys

  module _ (c : Answer A) (i' j' l : List (Answer A)) (more : Beside i' j' l) where
    first_beside : (i j : List (Answer A)) → MergeRow i j c i' j' → Beside i j (c ∷ l)
    first_beside [] j r w ys e = absurd r
    first_beside (Ready a ∷ i) j r w ys e = absurd w
    first_beside (Pending ∷ i) [] r w ys e = absurd r
    first_beside (Pending ∷ i) (Pending ∷ j) r w ys e = rw r.0 (more (rw r.1 w) ys (rw r.2 e))
    first_beside (Pending ∷ i) (Ready None ∷ j) r w ys e =
        rw r.0 (rw e.0 (more (rw r.1 w) [] (rw r.2 e.1)))
    first_beside (Pending ∷ i) (Ready (Some x) ∷ j) r w [] e = absurd e
    first_beside (Pending ∷ i) (Ready (Some x) ∷ j) r w (y ∷ ys) e =
        rw r.0 (e.0, more (rw r.1 w) ys (rw r.2 e.1))

    second_beside : (i j : List (Answer A)) → MergeRow j i c j' i' → Beside i j (c ∷ l)
    second_beside i [] r w ys e = absurd r
    second_beside i (Ready (Some x) ∷ j) r w [] e = absurd e
    second_beside i (Ready (Some x) ∷ j) r w (y ∷ ys) e = rw r.0 (e.0, more (rw r.2 w) ys (rw r.1 e.1))
    second_beside [] (Ready None ∷ j) r w ys e = absurd r
    second_beside (Ready a ∷ i) (Ready None ∷ j) r w ys e = absurd w
    second_beside (Pending ∷ i) (Ready None ∷ j) r w ys e =
        rw r.0 (rw e.0 (more (rw r.2 w) [] (rw r.1 e.1)))
    second_beside [] (Pending ∷ j) r w ys e = absurd r
    second_beside (Ready a ∷ i) (Pending ∷ j) r w ys e = absurd w
    second_beside (Pending ∷ i) (Pending ∷ j) r w ys e = rw r.0 (more (rw r.2 w) ys (rw r.1 e))

  rows_beside : (order : List Bool) (i j l : List (Answer A)) → MergeRows order i j l → Beside i j l × Beside j i l
  rows_beside =
      rows_by MergeRow (λ i j l. Beside i j l × Beside j i l) (λ w ys e. tt, λ w ys e. tt)
      (λ i j c i' j' l r h. (first_beside c i' j' l h.0 i j r, second_beside c j' i' l h.1 j i r))
      (λ i j c i' j' l r h. (second_beside c i' j' l h.0 i j r, first_beside c j' i' l h.1 j i r))

  no_end : (own : List (Answer A)) → Waiting (own ++ end ∷ []) → ⊥
  no_end [] w = w
  no_end (Pending ∷ own) w = no_end own w
  no_end (Ready a ∷ own) w = w

  fused_waits : (after : Bool) (ins out : List (Answer A)) → Waiting ins → FusesOn false ins out after → Waiting out
  fused_waits false ins out w h = rw h.0 w
  fused_waits true ins out w h = absurd (no_end h.0 (rw h.2 at w))

-- Two streams that are merged, neither of which has ended.
module _ {S U A : Type 0} (run : Runs (Answer A) S) (run' : Runs (Answer A) U) (order : List Bool) (s t : Fuse S)
    (u v : Fuse U) (unended : s.done ≡ false) (unended' : u.done ≡ false) where
  merged_second : (out : List (Answer A)) (ys : List A) → NeverReady run s.stream → Lists run' u.stream ys
      → Merges run run' order s u out t v → Fits out ys
  unfolding NeverReady Lists
  merged_second out ys never lists h =
      let waits = fused_waits t.done h.came.ins h.firsts (never h.came.ins t.stream h.came.came)
      (rw unended at h.came.related) in
      let fits = fused_ends v.done h.then_came.ins h.seconds ys (lists h.then_came.ins v.stream h.then_came.came)
      (rw unended' at h.then_came.related) in
      (rows_beside order h.firsts h.seconds out h.rows).0 waits ys fits

  merged_first : (out : List (Answer A)) (xs : List A) → NeverReady run' u.stream → Lists run s.stream xs
      → Merges run run' order s u out t v → Fits out xs
  unfolding NeverReady Lists
  merged_first out xs never lists h =
      let waits = fused_waits v.done h.then_came.ins h.seconds (never h.then_came.ins v.stream h.then_came.came)
      (rw unended' at h.then_came.related) in
      let fits = fused_ends t.done h.came.ins h.firsts xs (lists h.came.ins t.stream h.came.came)
      (rw unended at h.came.related) in
      (rows_beside order h.firsts h.seconds out h.rows).1 waits xs fits

module _ {S U A : Type 0} (run : Runs (Answer A) S) (run' : Runs (Answer A) U) where
  -- `or`
  module _ (x : Or S U) (unended : x.stream1.done ≡ false) (unended' : x.stream2.done ≡ false) where
    pub or_first_never : (ys : List A) → NeverReady run x.stream1.stream → Lists run' x.stream2.stream ys
        → ListsAs (Ors run run') x ys
    or_first_never ys never lists =
        listed (Ors run run') x ys
        (λ l y h.
        merged_second run run' (map (λ _. true) l) x.stream1 y.stream1 x.stream2 y.stream2 unended unended' l ys never lists h)

    pub or_second_never : (xs : List A) → NeverReady run' x.stream2.stream → Lists run x.stream1.stream xs
        → ListsAs (Ors run run') x xs
    or_second_never xs never lists =
        listed (Ors run run') x xs
        (λ l y h.
        merged_first run run' (map (λ _. true) l) x.stream1 y.stream1 x.stream2 y.stream2 unended unended' l xs never lists h)

    first_answer : (o : Option A) (c a : Answer A) (out firsts : List (Answer A)) (ins : List (Answer A)) (t : S)
        (after : Bool) → AtOnce run x.stream1.stream o → run x.stream1.stream ins t
        → FusesOn false ins (a ∷ firsts) after → a ≡ Ready o
    unfolding AtOnce
    first_answer o c a out firsts [] t false once came h = absurd (let k : a ∷ firsts ≡ [] = h.0 in cc)
    first_answer o c a out firsts (b ∷ ins) t false once came h =
        let first = once b ins t came in let k : a ∷ firsts ≡ b ∷ ins = h.0 in cc
    first_answer o c a out firsts ins t true once came ([], later, is, endless, out_is, ends) =
        let first = once end [] t (rw is at came) in let k : a ∷ firsts ≡ end ∷ later = out_is in cc
    first_answer o c a out firsts ins t true once came (b ∷ own, later, is, endless, out_is, ends) =
        let first = once b (own ++ end ∷ []) t (rw is at came) in
        let k : a ∷ firsts ≡ b ∷ (own ++ end ∷ later) = out_is in cc

    at_once : (v : A) → AtOnce run x.stream1.stream (Some v) → AtOnce (Ors run run') x (Some v)
    unfolding AtOnce
    at_once v once c out y h =
        by h.firsts h.seconds h.rows.0 h.rows.1 h.rows.2 (rw unended at h.came.related)
      where
        by : (firsts seconds i j : List (Answer A)) → MergeRow firsts seconds c i j
            → FusesOn false h.came.ins firsts y.stream1.done → c ≡ item v
        by [] seconds i j r k = absurd r
        by (a ∷ firsts) seconds i j r k =
            let first = first_answer (Some v) c a out firsts h.came.ins y.stream1.stream y.stream1.done once h.came.came k in
            (rw first at r).0

    pub or_at_once : (v : A) → AtOnce run x.stream1.stream (Some v) → Seen x v × AtOnce (Ors run run') x (Some v)
    or_at_once v once = (seen x v, at_once v once)

  -- `race`
  module _ {R : Type 0} (stream : R → Stream) (x : Race S U R) (unended : x.stream1.done ≡ false)
      (unended' : x.stream2.done ≡ false) where
    pub race_first_never : (ys : List A) → NeverReady run x.stream1.stream → Lists run' x.stream2.stream ys
        → ListsAs (RacesOn run run' stream) x ys
    race_first_never ys never lists = listed (RacesOn run run' stream) x ys by
      where
        by : (l : List (Answer A)) (y : Race S U R) → RacesOn run run' stream x l y → Fits l ys
        by [] y h = tt
        by (c ∷ l) y h =
            merged_second run run' (map is_first h.words) x.stream1 y.stream1 x.stream2 y.stream2 unended unended' (c ∷ l) ys
            never lists h.merges

    pub race_second_never : (xs : List A) → NeverReady run' x.stream2.stream → Lists run x.stream1.stream xs
        → ListsAs (RacesOn run run' stream) x xs
    race_second_never xs never lists = listed (RacesOn run run' stream) x xs by
      where
        by : (l : List (Answer A)) (y : Race S U R) → RacesOn run run' stream x l y → Fits l xs
        by [] y h = tt
        by (c ∷ l) y h =
            merged_first run run' (map is_first h.words) x.stream1 y.stream1 x.stream2 y.stream2 unended unended' (c ∷ l) xs
            never lists h.merges

-- What the clauses of `or` and `race` say.
pub ruleset or_rules = (seen, or_first_never, or_second_never, or_at_once)

pub ruleset race_rules = (seen, race_first_never, race_second_never)
