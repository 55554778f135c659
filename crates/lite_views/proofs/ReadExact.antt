-- `read_exact` of a reader of which it is known what bytes are to come.
use Rattle.std.specs.Prelude.{◌≡◌, ◌≤◌, ◌+◌, ℕ, zero, suc, List, [], ◌∷◌, refl, replicate, Result, Ok, Err, IfOk}
use Rattle.lite_views.specs.Uses.{take-append_seam, drop-append_seam, ◌∙◌, length, take, drop, ap, sym, arith, Error, ReadsKnown, ReadMark, Runs}
use Rattle.lite_read.specs.ReadExact.{Filling, filling_of, Fulfils, ReadsExactly, fills}
use Rattle.lite_read.specs.Laws.ReadExact.{filled_by}
use Rattle.lite_read.specs.declared.read_exact.ReadExactFuture.{ReadExactFuture}
use Rattle.std.proofs.lemmas.List.{length-take, take-replicate, take_all}
use Rattle.lite_views.specs.Answering.{WhenLeft}
use Rattle.lite_views.specs.OneCall.{EachByte, YieldsOn}
use Rattle.lite_views.proofs.Futures.{TakenUp, taken_up, when_left}

module _ (p : Filling) (bs ys : List ℕ) where
  full : (last : List ReadMark) (u : Unit {0}) → Fulfils p last (Ok u) → ReadsKnown bs last ys → (length p.0 ≡ p.1)
      × (ys ≡ bs)
  full [] u f s = (f.0, s)
  full (ReadMark.fault kind ∷ l) u f s = absurd s
  full (ReadMark.end ∷ []) u f s = absurd f
  full _ u f s = absurd f

-- `read_exact`: the buffer has the bytes that came first, and the others are left
pub exactly_read : (v : Result (Unit {0}) Error) (k : ℕ) (old new bs ys : List ℕ)
    → TakenUp fills ([], length old) bs ys v (take k new, length new)
    → IfOk v (λ u. (new ≡ take (length old) bs) × (ys ≡ drop (length old) bs))
exactly_read (Err e) k old new bs ys t = tt
exactly_read (Ok u) k old new bs ys t =
    let taken = filled_by t.taken ([], length old) t.between t.folds in
    let end = full t.between t.rest ys t.last u t.given.0 t.told in
    let whole : length (take k new) ≡ length new =
    ap (λ (z : Filling). length z.0) t.given.1 ∙ end.0 ∙ ap (λ (z : Filling). z.1) (sym t.given.1) in
    let all : new ≡ t.taken =
    sym (take_all k new (omega (arith, length-take k new))) ∙ (ap (λ (z : Filling). z.0) t.given.1 ∙ taken.0) in
    let fits : length old ≡ length t.taken = sym (ap (λ (z : Filling). z.1) t.given.1 ∙ taken.1) ∙ ap length all in
    rw (t.came, fits, take-append_seam, drop-append_seam) (all, end.1)

-- marks that are one byte, over and over, are told of enough such bytes
each_told : (b n : ℕ) (l : List ReadMark) → EachByte b l → length l ≤ n → (k : ℕ)
    × ReadsKnown (replicate n b) l (replicate k b)
each_told b n [] e h = (n, refl)
each_told b n (ReadMark.pending ∷ l) e h = each_told b n l e (omega (arith, h))
each_told b zero (ReadMark.byte x ∷ l) e h = absurd (omega (arith, h))
each_told b (suc n) (ReadMark.byte x ∷ l) e h =
    let more = each_told b n l e.1 (omega (arith, h)) in (more.0, (replicate n b, rw e.0 refl, more.1))
each_told b n (ReadMark.fault kind ∷ l) e h = absurd e
each_told b n (ReadMark.end ∷ l) e h = absurd e

-- `read_exact`: where one byte comes over and over, the buffer is full of it
exactly_same : (v : Result (Unit {0}) Error) (b n k : ℕ) (old new ys : List ℕ) → length old ≤ n
    → TakenUp fills ([], length old) (replicate n b) ys v (take k new, length new)
    → IfOk v (λ u. new ≡ replicate (length old) b)
exactly_same (Err e) b n k old new ys h t = tt
exactly_same (Ok u) b n k old new ys h t =
    (exactly_read (Ok u) k old new (replicate n b) ys t).0 ∙ take-replicate (length old) n b h

pub same_read : {R E : Type 0} (reads : Runs ReadMark R) (x : ReadExactFuture R) (b : ℕ) → x.filled ≡ 0
    → YieldsOn reads x.reader.now b
    → WhenLeft E (ReadsExactly reads) x
    (λ y. (y.buf.ghost_name ≡ x.buf.ghost_name) × (y.reader.ghost_name ≡ x.reader.ghost_name))
    (λ y r. IfOk r (λ u. y.buf.now ≡ replicate (length x.buf.now) b))
unfolding YieldsOn
same_read reads x b begins on =
    when_left (ReadsExactly reads) x
    (λ y. (y.buf.ghost_name ≡ x.buf.ghost_name) × (y.reader.ghost_name ≡ x.reader.ghost_name))
    (λ y r. IfOk r (λ u. y.buf.now ≡ replicate (length x.buf.now) b)) (refl, refl)
    (λ ins y ran. rw (ran.stays.buf, ran.stays.reader) (refl, refl))
    (λ ins y v gives ran.
    let f = ran.folded in
    let n = length f.marks + length x.buf.now in
    let told = each_told b n f.marks (on f.marks y.reader.now f.came) (omega arith) in
    exactly_same v b n y.filled x.buf.now y.buf.now (replicate told.0 b) (omega arith)
    (rw begins at (taken_up fills ins v (filling_of x) (filling_of y) (replicate n b) (replicate told.0 b) f.marks
    (f.cut, ran.ends) told.1 gives)))
