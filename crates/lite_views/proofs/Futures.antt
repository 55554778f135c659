-- What futures share that were waited for; what those share that read from a reader of which it is known what bytes are
-- to come; and `read_to_end`, whose lemma `read_to_string` shares.
use Rattle.std.specs.Prelude.{◌≡◌, ℕ, List, [], ◌∷◌, ◌++◌, ⊤, Result, Ok, Err, IfOk}
use Rattle.std.proofs.Common.{◌+◌, length-append}
use Rattle.lite_views.specs.Uses.{length, ap, sym, subst, arith, append_assoc, append-nil, FoldsTo, Error, Poll, Ready}
use Rattle.lite_views.specs.Uses.{Pending, Gives, to_value_last, Runs, ReadsKnown, Known, Knows, spends_bytes}
use Rattle.lite_views.specs.Uses.{spends_split, knows_spends, ReadMark, bytes, AnswerMarks, ReadFold, appends}
use Rattle.lite_base.specs.Laws.Calling.{folds_follow}
use Rattle.lite_read.specs.ReadFold.{Gathers, ReadFolds}
use Rattle.lite_read.specs.ReadToEnd.{Appended}
use Rattle.lite_views.specs.Answering.{LeftAs, WhenLeft}
use Rattle.lite_views.proofs.Waiting.{left_seen}

-- P holds wherever f was waited for, and Q wherever there is a value
module _ {F A E : Type 0} (run : Runs (Poll A) F) (f : F) (P : F → Type 0) (Q : F → A → Type 0) (here : P f)
    (kept : (ins : List (Poll A)) (g : F) → run f ins g → P g)
    (value : (ins : List (Poll A)) (g : F) (v : A) → Gives ins v → run f ins g → Q g v) where
  pub when_left : WhenLeft E run f P Q
  unfolding LeftAs
  when_left (Ok v) g h = (left_seen f (Ok v) g, kept h.0.0 g h.0.2, value h.0.0 g v h.0.1 h.0.2)
  when_left (Err e) g h = (left_seen f (Err e) g, rw h.1 here, tt)

-- what is known wherever f was waited for is known where its runs are some of these
pub when_less : {F A E : Type 0} (some all : Runs (Poll A) F) (f : F) {P : F → Type 0} {Q : F → A → Type 0}
    → ((g : F) (ins : List (Poll A)) → some f ins g → all f ins g) → WhenLeft E all f P Q → WhenLeft E some f P Q
unfolding LeftAs
when_less some all f more w (Ok v) g h = w (Ok v) g ((h.0.0, h.0.1, more g h.0.0 h.0.2), h.1)
when_less some all f more w (Err e) g h = w (Err e) g h

-- a value was given: some of the bytes that are to come were taken in, and then what is told gave it
pub record TakenUp {M R : Type 0} (fold : ReadFold M R) (p : M) (bs ys : List ℕ) (v : R) (q : M) : Type 0 where
  pub taken : List ℕ
  pub rest : List ℕ
  pub last : List ReadMark
  pub between : M
  pub came : bs ≡ taken ++ rest
  pub folds : FoldsTo fold.takes p taken between
  pub told : ReadsKnown rest last ys
  pub given : fold.gives between last v q

pub taken_up : {M R : Type 0} (fold : ReadFold M R) (out : List (Poll R)) (v : R) (p q : M) (bs ys : List ℕ)
    (marks : List ReadMark) → ReadFolds fold p marks out q → ReadsKnown bs marks ys → Gives out v
    → TakenUp fold p bs ys v q
taken_up fold [] v p q bs ys marks g s e = absurd e
taken_up fold (Pending ∷ out) v p q bs ys marks ((first, rest, m, cut, w, more), up) s e =
    let parts = spends_split bs ys first rest (rw cut at s) in
    let one = spends_split bs parts.0 (bytes w.taken) w.last (rw (← w.cut) parts.1) in
    let next = taken_up fold out v m q parts.0 ys rest (more, up) parts.2 e in
    record {
      taken = w.taken ++ next.taken;
      rest = next.rest;
      last = next.last;
      between = next.between;
      came =
          rw (
            append_assoc w.taken next.taken next.rest,
            ← next.came,
            subst (λ l. ReadsKnown one.0 l parts.0) w.given.0 one.2,
          ) (spends_bytes w.taken bs one.0 one.1);
      folds = folds_follow fold.takes p m next.between w.taken next.taken (rw w.given.2 w.folds) next.folds;
      told = next.told;
      given = next.given;
    }
taken_up fold (Ready r ∷ out) v p q bs ys marks g s e =
    let w = to_value_last (AnswerMarks fold) p q marks r out g in
    let one = spends_split bs ys (bytes w.taken) w.last (rw w.cut at s) in
    record {
      taken = w.taken;
      rest = one.0;
      last = w.last;
      between = w.between;
      came = spends_bytes w.taken bs one.0 one.1;
      folds = w.folds;
      told = one.2;
      given = subst (λ u. fold.gives w.between w.last u q) e.0 w.given;
    }

-- a future over a reader of which it is known what is to come: P holds wherever it was waited for, and Q wherever a
-- value was given
pub gathered_left : {X S M R E : Type 0} (reader : X → S) (held : X → M) (fold : X → ReadFold M R)
    (Keeps : X → X → Type 0) (reads : Runs ReadMark S) (known : Known S) (P : X → Type 0) (Q : X → R → Type 0) (x : X)
    → Knows reads known (reader x) → P x → ((y : X) → Keeps x y → P y)
    → ((y : X) (v : R) → Keeps x y
    → TakenUp (fold x) (held x) (known.left (reader x)) (known.left (reader y)) v (held y) → Q y v)
    → WhenLeft E (Gathers reader held fold Keeps reads) x P Q
gathered_left reader held fold Keeps reads known P Q x knows here kept value =
    when_left (Gathers reader held fold Keeps reads) x P Q here (λ ins y ran. kept y ran.stays)
    (λ ins y v gives ran. let r = ran.folded in
    value y v ran.stays
    (taken_up (fold x) ins v (held x) (held y) (known.left (reader x)) (known.left (reader y)) r.marks (r.cut, ran.ends)
    (knows_spends reads known (reader x) (reader y) r.marks knows r.came) gives))

taken_all : (start : ℕ) (xs p q : List ℕ) → FoldsTo (appends ⊤ start).takes p xs q → q ≡ p ++ xs
taken_all start [] p q h = rw append-nil (sym h)
taken_all start (x ∷ xs) p q h = rw (← append_assoc p (x ∷ []) xs, ← h.1) (taken_all start xs h.0 q h.2)

module _ (start n : ℕ) (g bs ys : List ℕ) where
  at_end : (last : List ReadMark) → Appended ⊤ start g last (Ok n) → ReadsKnown bs last ys → (bs ≡ [])
      × (length g ≡ start + n)
  at_end (ReadMark.end ∷ []) a s = (s.0, a)
  at_end (ReadMark.fault kind ∷ l) a s = absurd s
  at_end _ a s = absurd a

-- all that is to come stands behind what stood there, and the value counts it
pub all_appended : (start n : ℕ) (p q bs ys : List ℕ) → TakenUp (appends ⊤ start) p bs ys (Ok n) q
    → (q ≡ p ++ bs) × (length q ≡ start + n)
all_appended start n p q bs ys t =
    let last = at_end start n t.between t.rest ys t.last t.given.0 t.told in
    rw (t.came, last.0, append-nil, t.given.1) (taken_all start t.taken p t.between t.folds, last.1)

-- `read_to_end`
pub all_read : (v : Result ℕ Error) (p q bs ys : List ℕ) → TakenUp (appends ⊤ (length p)) p bs ys v q
    → IfOk v (λ n. (q ≡ p ++ bs) × (n ≡ length bs))
all_read (Ok n) p q bs ys t =
    let all = all_appended (length p) n p q bs ys t in
    (all.0, omega (arith, ap length all.0, all.1, length-append p bs))
all_read (Err e) p q bs ys t = tt
