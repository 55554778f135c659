-- Laws of `read_exact`.
use Rattle.std.specs.Prelude.{◌≡◌, ◌≤◌, ◌<◌, ◌-◌, ℕ, List, [], ◌∷◌, length, Result, ◌++◌, Ok, Err}
use Rattle.lite_read.specs.Uses.{◌∙◌, refl, ap, arith, append-nil, append_assoc, length-append, length-take, FoldsTo}
use Rattle.lite_read.specs.Uses.{Error, Poll, FutureLaws, FutureRunLaws, Runs, ReadMark, future_laws_of, MarkLaws}
use Rattle.lite_read.specs.Uses.{lent_still, sym, CalmLaws, Sameness, FutureSteadyLawsBy, CalmReadLaws, SteadyReadLaws, SameByKind}
use Rattle.lite_read.specs.Laws.Gathers.{KeepLaws, gathers_before, gathers_runs, gathers_alike, gathers_calm}
use Rattle.lite_read.specs.ReadExact.{ExactStays, Filling, filling_of, ReadsExactly, fills, Fulfils}
use Rattle.lite_read.specs.PollSteps.{ReadsMore}
use Rattle.lite_read.specs.declared.read_exact.ReadExactFuture.{ReadExactFuture}
use Rattle.lite_read.specs.Laws.Deterministic.{GivenBy, TakenAt, deterministic_by}
use Rattle.lite_read.specs.Deterministic.{IsDeterministic}

-- The bytes consumed are those appended to the filled part, and the buffer's length stays.
pub filled_by : (xs : List ℕ) (p q : Filling) → FoldsTo fills.takes p xs q → (q.0 ≡ p.0 ++ xs) × (q.1 ≡ p.1)
filled_by [] p q h = rw (← h, append-nil) (refl, refl)
filled_by (x ∷ xs) p q h =
    let rest = filled_by xs h.0 q h.2 in
    rw (← append_assoc p.0 (x ∷ []) xs) (rest.0 ∙ ap (λ (z : Filling). z.0 ++ xs) h.1.1, rest.1 ∙ ap (λ z. z.1) h.1.1)

had_room : (g h : List ℕ × ℕ) (xs : List ℕ) → 0 < length xs → FoldsTo fills.takes g xs h → length g.0 < g.1
had_room g h [] some e = omega arith
had_room g h (x ∷ xs) some e = e.1.0

module _ {R : Type 0} where
  stays_none : (x : ReadExactFuture R) → ExactStays x x
  stays_none x = record { reader = refl; buf = refl; within = λ h. h }

  stays_join : (x y z : ReadExactFuture R) → ExactStays x y → ExactStays y z → ExactStays x z
  stays_join x y z h k =
      record {
        reader = lent_still x.reader y.reader z.reader h.reader k.reader;
        buf = lent_still x.buf y.buf z.buf h.buf k.buf;
        within = λ w. k.within (h.within w);
      }

  keeps : KeepLaws (λ (x : ReadExactFuture R). fills) ExactStays
  keeps = record { none = stays_none; join = stays_join; same = λ x y k. refl }

  module _ {reads : Runs ReadMark R} (laws : MarkLaws reads) where
    pub exact_runs : FutureRunLaws (ReadsExactly reads)
    exact_runs = gathers_runs keeps laws

    pub exact_laws : FutureLaws (λ x. x.filled ≤ length x.buf.now) (ReadsExactly reads)
    exact_laws = future_laws_of exact_runs (λ x y l w c h. h.stays.within c)

    -- A step that does not yet return, followed by a poll result, is one run with that result.
    pub step_before : (x y z : ReadExactFuture R) (a : Poll (Result (Unit {0}) Error)) → ReadsMore reads x y
        → ReadsExactly reads y (a ∷ []) z
        → ReadsExactly reads x (a ∷ []) z
    step_before = gathers_before keeps laws (λ x y k. k)

  -- Each step leaves less room in the buffer.
  pub room_falls : {reads : Runs ReadMark R} (x y : ReadExactFuture R) → ReadsMore reads x y
      → length y.buf.now - y.filled < length x.buf.now - x.filled
  room_falls x y t =
      let more = filled_by t.taken _ _ t.folds in
      let grown = ap length more.0 ∙ length-append (filling_of x).0 t.taken in
      let room = had_room _ _ t.taken t.some t.folds in
      omega (arith, grown, more.1, room, t.some, length-take x.filled x.buf.now, length-take y.filled y.buf.now)

-- `read_exact` is steady over a steady reader, and calm over a calm one.

given_by : (g : Filling) (l : List ReadMark) (v : Result (Unit {0}) Error) → Fulfils g l v
    → GivenBy (length g.0 ≡ g.1) (TakenAt fills g) l
given_by g [] v h = GivenBy.at_none h.0
given_by g (ReadMark.end ∷ []) (Err e) h = GivenBy.at_mark _ (λ full. omega arith) (λ t. cc t.2) tt
given_by g (ReadMark.fault kind ∷ []) (Err e) h = GivenBy.at_mark _ (λ full. omega arith) (λ t. cc t.2) tt
given_by g _ v h = absurd h

one_value : (g : Filling) (l : List ReadMark) (v w : Result (Unit {0}) Error) → Fulfils g l v → Fulfils g l w
    → SameByKind v w
one_value g [] v w h k = rw (h.1, k.1)
one_value g (ReadMark.end ∷ []) (Err e) (Err f) h k = h.1 ∙ sym k.1
one_value g (ReadMark.fault kind ∷ []) (Err e) (Err f) h k = h.1 ∙ sym k.1
one_value g (ReadMark.end ∷ []) (Err e) (Ok u) h k = absurd k
one_value g (ReadMark.fault kind ∷ []) (Err e) (Ok u) h k = absurd k
one_value g _ v w h k = absurd h

fills_deterministic : IsDeterministic SameByKind fills
fills_deterministic =
    deterministic_by fills (λ g. length g.0 ≡ g.1) (λ p q r b h k. h.1 ∙ sym k.1) (λ p r b h full. omega arith)
    (λ p q l v h. given_by p l v h.0) (λ p q r l v w h k. (one_value p l v w h.0 k.0, h.1 ∙ sym k.1))

-- Two `read_exact` futures have read equal bytes, into buffers of one length, over readers that are alike.
abbrev pub ExactAlike : {R : Type 0} → (R → R → Type 0) → ReadExactFuture R → ReadExactFuture R → Type 0
ExactAlike alike x y = alike x.reader.now y.reader.now × (filling_of x ≡ filling_of y)

module _ {R : Type 0} {reads : Runs ReadMark R} where
  module _ {ample : Runs ReadMark R} {needs_none : Type 0} {alike : R → R → Type 0}
      (s : SteadyReadLaws reads ample needs_none alike) where
    pub exact_steady : FutureSteadyLawsBy (Sameness.by SameByKind) (ReadsExactly reads) (ReadsExactly ample) needs_none
        (ExactAlike alike)
    exact_steady = record {
      laws = exact_runs s.laws;
      steady = λ x y e. gathers_alike (λ x. fills_deterministic) s x y e.0 e.1 refl;
      found = λ n x y l h. record {
        folded = record {
          marks = h.folded.marks;
          came = s.found n _ _ _ h.folded.came;
          cut = h.folded.cut;
        };
        ends = h.ends;
        stays = h.stays;
        idle = h.idle;
      };
    }

  pub exact_calm : {is_calm : R → Type 0} → CalmReadLaws reads is_calm
      → CalmLaws (ReadsExactly reads) (λ x. is_calm x.reader.now)
  exact_calm = gathers_calm
