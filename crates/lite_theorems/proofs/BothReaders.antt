-- A reader that is read up to a value, pendings aside; and two that are alike.
use Rattle.std.specs.Prelude.{IfErr, IfOk, ◌≡◌, ◌<◌, ◌+◌, vec_capacity, ℕ, List, [], ◌∷◌, ◌++◌, length, Result, Ok, Err}
use Rattle.lite_theorems.specs.Uses.{◌∙◌, refl, sym, ap, subst, arith, append_assoc, append-nil, length-append, FoldsTo}
use Rattle.lite_theorems.specs.Uses.{Error, MutBor, Poll, Gives, Runs, ReadMark, bytes, NoPendingRead, strip_marks}
use Rattle.lite_theorems.specs.Uses.{Appended, next_read, SameByKind, WaitedFor}
use Rattle.lite_base.specs.Answers.{Comparable}
use Rattle.lite_io_base.specs.Laws.Steady.{comparable_swapped}
use Rattle.lite_io_base.specs.Steady.{SteadyReadLaws}
use Rattle.lite_read.specs.ReadToEnd.{ToEndStays, ReadsToEndByRoom, ToEndLacksRoom, appends}
use Rattle.lite_read.specs.Laws.ReadToEnd.{appends_deterministic}
use Rattle.lite_read.specs.declared.read_to_end.ReadToEndFuture.{ReadToEndFuture}
use Rattle.std.specs.declared.vec.Vec.{Vec}
use Rattle.lite_theorems.proofs.Waited.{read_folds_once}
use Rattle.lite_theorems.specs.BothReaders.{BothRead, HasReadMemory, LacksNext, ReadsUp}

abbrev ReadResult : Type 0
ReadResult = Result ℕ Error

folded : (m : Type 0) (start : ℕ) (p q xs : List ℕ) → FoldsTo (appends m start).takes p xs q → q ≡ p ++ xs
folded m start p q [] h = sym h ∙ sym (append-nil p)
folded m start p q (x ∷ xs) h = folded m start h.0 q xs h.2 ∙ ap (λ k. k ++ xs) h.1 ∙ append_assoc p (x ∷ []) xs

no_wait : (m : Type 0) (start : ℕ) (g : List ℕ) (l : List ReadMark) (v : ReadResult) → Appended m start g l v
    → NoPendingRead l
no_wait m start g [] v h = tt
no_wait m start g (ReadMark.end ∷ []) v h = tt
no_wait m start g (ReadMark.fault kind ∷ []) v h = tt
no_wait m start g _ v h = absurd h

-- what was there before is not counted
from_none : (m : Type 0) (p xs : List ℕ) (l : List ReadMark) (v : ReadResult) → Appended m (length p) (p ++ xs) l v
    → Appended m 0 xs l v
from_none m p xs [] (Err e) h = h
from_none m p xs (ReadMark.end ∷ []) (Ok n) h = omega (arith, h, length-append p xs)
from_none m p xs (ReadMark.fault kind ∷ []) (Err e) h = h
from_none m p xs _ _ h = absurd h

found_up : (m : Type 0) (xs : List ℕ) (l : List ReadMark) (v : ReadResult) → HasReadMemory v → Appended m 0 xs l v
    → Appended ⊥ 0 xs l v
found_up m xs [] (Err e) f h = absurd (f h.1)
found_up m xs (ReadMark.end ∷ []) (Ok n) f h = h
found_up m xs (ReadMark.fault kind ∷ []) (Err e) f h = h
found_up m xs _ _ f h = absurd h

-- where one thing allows a refusal, another does that follows from it
appended_by : (m n : Type 0) → (m → n) → (xs : List ℕ) (l : List ReadMark) (v : ReadResult) → Appended m 0 xs l v
    → Appended n 0 xs l v
appended_by m n so xs [] (Err e) h = (so h.0, h.1)
appended_by m n so xs (ReadMark.end ∷ []) (Ok k) h = h
appended_by m n so xs (ReadMark.fault kind ∷ []) (Err e) h = h
appended_by m n so xs _ _ h = absurd h

-- bytes and a value that begin one another
same_told : (p xs ys : List ℕ) (l m : List ReadMark) (v w : ReadResult) → Appended ⊥ 0 (p ++ xs) l v
    → Appended ⊥ 0 (p ++ ys) m w
    → Comparable (bytes xs ++ l) (bytes ys ++ m) → SameByKind v w × (xs ≡ ys)
same_told p [] [] l m v w h k c =
    let one = (appends_deterministic 0).one_value (p ++ []) (p ++ []) (p ++ []) l m v w (h, refl) (k, refl) c in
    (one.0, refl)
same_told p [] (b ∷ ys) l m v w h k c =
    absurd
    ((appends_deterministic 0).given_or_taken (p ++ []) (p ++ []) ((p ++ []) ++ b ∷ []) l (bytes ys ++ m) v b
    (h, refl) refl c)
same_told p (a ∷ xs) [] l m v w h k c =
    let related = comparable_swapped (ReadMark.byte a ∷ (bytes xs ++ l)) m c in
    absurd
    ((appends_deterministic 0).given_or_taken (p ++ []) (p ++ []) ((p ++ []) ++ a ∷ []) m (bytes xs ++ l) w a
    (k, refl) refl related)
same_told p (a ∷ xs) (b ∷ ys) l m v w h k c =
    let byte : a ≡ b = cc c.0 in
    let one = subst (λ g. Appended ⊥ 0 g l v) (sym (append_assoc p (a ∷ []) xs)) h in
    let other = subst (λ g. Appended ⊥ 0 g m w)
    (ap (λ d. p ++ d ∷ ys) (sym byte) ∙ sym (append_assoc p (a ∷ []) ys)) k in
    let rest = same_told (p ++ a ∷ []) xs ys l m v w one other c.1 in
    (rest.0, rw (byte, rest.1))

module _ {R A : Type 0} (reads : Runs ReadMark R) where
  -- what is known of a wait for the future
  abbrev ReadWaited : {E : Type 0} → ReadToEndFuture R A → Result ReadResult E → ReadToEndFuture R A → Type 0
  ReadWaited = WaitedFor (ReadsToEndByRoom reads)

  stays_lent : {E : Type 0} (x y : ReadToEndFuture R A) (r : Result ReadResult E) → ReadWaited x r y → ToEndStays x y
  stays_lent x y (Ok v) h = h.0.2.gathered.stays
  stays_lent x y (Err e) h = rw h.1 (record { reader = refl; buf = refl; start = refl })

  -- the vector lacked room for these bytes and the next read
  lacks_next : (x : ReadToEndFuture R A) (xs items : List ℕ) → x.room ≡ 0 → items ≡ x.buf.now.items ++ xs
      → ToEndLacksRoom (length x.buf.now.items) (length items) x
      → LacksNext (vec_capacity x.buf.now) items (length xs)
  lacks_next x xs items none is h =
      let long = ap length is ∙ length-append x.buf.now.items xs in
      let all : h.0 ≡ length xs = omega (arith, long, h.1) in
      subst (λ n. vec_capacity x.buf.now < length items + next_read 0 n) all
      (subst (λ r. vec_capacity x.buf.now < length items + next_read r h.0) none h.2)

  -- what a wait left: the bytes behind those that were there, and why there was no memory for more
  abbrev ReadOn : ReadToEndFuture R A → ReadResult → R → List ℕ → Type 0
  ReadOn x v t ts = (xs : List ℕ) × (ts ≡ x.buf.now.items ++ xs)
      × ReadsUp (LacksNext (vec_capacity x.buf.now) ts (length xs)) reads x.reader.now xs v t

  reads_up : (x y : ReadToEndFuture R A) (l : List (Poll ReadResult)) (v : ReadResult) → x.room ≡ 0
      → x.start ≡ length x.buf.now.items → Gives l v → ReadsToEndByRoom reads x l y
      → ReadOn x v y.reader.now y.buf.now.items
  reads_up x y l v empty begun g by_room =
      let h = by_room.gathered in
      let p = x.buf.now.items in
      let q = y.buf.now.items in
      let m = ToEndLacksRoom (length p) (length q) x in
      let c =
      read_folds_once (appends m x.start) (λ p q l v h. no_wait m x.start p l v h.0) p q h.folded.marks l v
      (h.folded.cut, h.ends) g in
      let all = folded m x.start p c.between c.taken c.folds in
      let whole : q ≡ p ++ c.taken = c.given.1 ∙ all in
      let last = subst (λ g. Appended m x.start g c.last v) all c.given.0 in
      let counted = subst (λ k. Appended m k (p ++ c.taken) c.last v) begun last in
      let value = from_none m p c.taken c.last v counted in
      let lacks = lacks_next x c.taken q empty whole in (
        c.taken,
        whole,
        record {
          told = h.folded.marks;
          last = c.last;
          came = h.folded.came;
          cut = c.cut;
          value = appended_by m _ lacks c.taken c.last v value;
        },
      )

  -- a future that was waited for, by what it leaves
  waited_up : {E : Type 0} (x y : ReadToEndFuture R A) (r : Result ReadResult E) (t : R) (ts : List ℕ) → x.room ≡ 0
      → x.start ≡ length x.buf.now.items
      → t ≡ y.reader.now → ts ≡ y.buf.now.items → ReadWaited x r y
      → (xs : List ℕ) × (ts ≡ x.buf.now.items ++ xs)
      × IfOk r (λ v. ReadsUp (LacksNext (vec_capacity x.buf.now) ts (length xs)) reads x.reader.now xs v t)
      × IfErr r (λ _. (xs ≡ []) × (t ≡ x.reader.now))
  waited_up x y (Ok v) t ts empty begun e d h =
      let up = subst (ReadOn x v t) (sym d)
      (subst (λ u. ReadOn x v u y.buf.now.items) (sym e) (reads_up x y h.0.0 v empty begun h.0.1 h.0.2)) in
      (up.0, up.1, up.2, tt)
  waited_up x y (Err e) t ts empty begun f d h = (
    [],
    d ∙ ap (λ z. z.buf.now.items) h.1 ∙ sym (append-nil x.buf.now.items),
    tt,
    (refl, f ∙ ap (λ z. z.reader.now) h.1),
  )

  module _ {E : Type 0} (b : MutBor R) (c : MutBor (Vec ℕ A)) (x y : ReadToEndFuture R A) (r : Result ReadResult E)
      (begins : x ≡ record { reader = b; buf = c; start = length c.now.items; filled = length c.now.items; room = 0 })
      (waited : ReadWaited x r y) where
    -- both references are as before
    pub lent_on : (y.reader.ghost_name ≡ b.ghost_name) × (y.buf.ghost_name ≡ c.ghost_name)
    lent_on =
        let stays = stays_lent x y r waited in (
          ap (λ t. t.ghost_name) stays.reader ∙ ap (λ z. z.reader.ghost_name) begins,
          ap (λ t. t.ghost_name) stays.buf
              ∙ ap (λ z. z.buf.ghost_name) begins,
        )

    pub read_up : (t : R) (ts : List ℕ) → t ≡ y.reader.now → ts ≡ y.buf.now.items
        → (xs : List ℕ) × (ts ≡ c.now.items ++ xs)
        × IfOk r (λ v. ReadsUp (LacksNext (vec_capacity c.now) ts (length xs)) reads b.now xs v t)
        × IfErr r (λ _. (xs ≡ []) × (t ≡ b.now))
    read_up t ts e d = rw begins at (waited_up x y r t ts (rw begins refl) (rw begins) e d waited)

module _ {R : Type 0} {reads : Runs ReadMark R} where
  module _ {ample : Runs ReadMark R} {needs_none : Type 0} {alike : R → R → Type 0}
      (s : SteadyReadLaws reads ample needs_none alike) where
    agree_up : (x x' y y' : R) (xs ys : List ℕ) (v w : ReadResult) → alike x y → ReadsUp ⊥ ample x xs v x'
        → ReadsUp ⊥ ample y ys w y' → SameByKind v w × (xs ≡ ys)
    agree_up x x' y y' xs ys v w e h k =
        let lists =
        subst (λ t. Comparable t (strip_marks k.told)) h.cut (s.steady x y x' y' h.told k.told e h.came k.came) in
        same_told [] xs ys h.last k.last v w h.value k.value (rw (← k.cut) lists)

    ample_up : needs_none → (m : Type 0) (x x' : R) (xs : List ℕ) (v : ReadResult) → HasReadMemory v
        → ReadsUp m reads x xs v x' → ReadsUp ⊥ ample x xs v x'
    ample_up n m x x' xs v f h = record {
      told = h.told;
      last = h.last;
      came = s.found n x x' h.told h.came;
      cut = h.cut;
      value = found_up m xs h.last v f h.value;
    }

    pub both_read : (m n : Type 0) (x x' y y' : R) (xs ys : List ℕ) (v w : ReadResult) → alike x y
        → ReadsUp m reads x xs v x' → ReadsUp n reads y ys w y'
        → BothRead reads ample needs_none m n x xs v x' y ys w y'
    both_read m n x x' y y' xs ys v w e h k =
        record {
          first = h;
          second = k;
          found = agree_up x x' y y' xs ys v w e;
          always = λ needs f g.
              agree_up x x' y y' xs ys v w e (ample_up needs m x x' xs v f h) (ample_up needs n y y' ys w g k);
        }
