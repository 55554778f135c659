-- `copy` from a reader of which it is known what bytes are to come, to a writer of which it is known what it keeps.
use Rattle.std.specs.Prelude.{◌≡◌, ◌%◌, ℕ, List, [], ◌∷◌, ◌++◌, refl, ⊤, Result, Ok, Err, IfOk}
use Rattle.std.proofs.Common.{◌+◌, ◌^◌}
use Rattle.lite_views.specs.Uses.{◌∙◌, length, ap, sym, arith, append-nil, Error, Poll, Ready, Pending, Gives, Runs}
use Rattle.lite_views.specs.Uses.{Known, Knows, ReadsKnown, knows_spends, Stored, Stores, stores_kept, ReadMark}
use Rattle.lite_views.specs.Uses.{WriteMark, bytes_taken}
use Rattle.lite_base.specs.Answers.{strip}
use Rattle.lite_write.specs.Copy.{CopyRuns, CopyValue, Moves, NothingCopied, held_of, met_in, source_of}
use Rattle.lite_write.specs.MarkLists.{BytesAlone, bytes_told}
use Rattle.lite_write.specs.declared.copy.CopyFuture.{CopyFuture}
use Rattle.lite_views.proofs.Futures.{when_left}
use Rattle.lite_views.specs.Answering.{WhenLeft}

one_value : {A : Type 0} (out : List (Poll A)) (v : A) → Gives out v → strip out ≡ v ∷ []
one_value [] v g = absurd g
one_value (Pending ∷ out) v g = one_value out v g
one_value (Ready x ∷ out) v g = cc

-- where the value is Ok
values_ok : (n total : ℕ) (failed : List ReadMark) (last : List WriteMark) (after : List ℕ) (met : List ReadMark)
    → CopyValue (Ok n ∷ []) failed last after met total
    → (failed ≡ []) × (after ≡ []) × (met ≡ ReadMark.end ∷ []) × (n ≡ total)
values_ok n total [] (WriteMark.flushed ∷ []) after met h = (refl, h.0, h.1, h.2)
values_ok n total failed last after met h = absurd h

told_all : (read : List ReadMark) (bs ys : List ℕ) → BytesAlone read → ReadsKnown bs (read ++ ReadMark.end ∷ []) ys
    → bytes_told (read ++ ReadMark.end ∷ []) ≡ bs
told_all [] bs ys o h = cc
told_all (ReadMark.byte b ∷ l) bs ys o h = rw h.1 (rw (told_all l h.0 ys o h.2))
told_all (ReadMark.pending ∷ l) bs ys o h = told_all l bs ys o h
told_all (_ ∷ l) bs ys o h = absurd o

-- of a value of which three facts are known
pub on_each : {A B : Type 0} {P Q S T : A → Type 0} (r : Result A B) → IfOk r P → IfOk r Q → IfOk r S
    → ((x : A) → P x → Q x → S x → T x) → IfOk r T
on_each (Ok x) p q s to = to x p q s
on_each (Err e) p q s to = tt

module _ {R W : Type 0} (reads : Runs ReadMark R) (writes : Runs WriteMark W) where
  -- all that is to come was taken, where the value is Ok
  all_moved : (x y : CopyFuture R W) (v : Result ℕ Error) (out : List (Poll (Result ℕ Error))) (bs ys held : List ℕ)
      → NothingCopied x → (m : Moves reads writes x out y) → ReadsKnown bs m.told ys → Gives out v
      → IfOk v (λ n. (held ++ bytes_taken m.took ≡ held ++ bs) × (n ≡ length bs % 2 ^ 64))
  all_moved x y (Err e) out bs ys held b m s g = tt
  all_moved x y (Ok n) out bs ys held b m s g =
      let c = m.copied in
      let v =
      values_ok n y.amount c.failed c.last (held_of y) (met_in y.phase)
      (rw (one_value out (Ok n) g) at c.value) in
      let cut : m.told ≡ c.reading.read ++ ReadMark.end ∷ [] = rw (b.met, v.2, v.0) at c.reading.cut in
      let whole = told_all c.reading.read bs ys c.reading.goes_on (rw cut at s) in
      let taken : bytes_taken m.took ≡ bs =
      sym (rw (b.held, v.1, append-nil) at c.balanced) ∙ ap bytes_told cut ∙ whole in
      let from : x.amount + length (bytes_taken m.took) ≡ length (bytes_taken m.took) = omega (arith, b.none) in
      (rw taken, v.3 ∙ m.counted ∙ rw (from, taken))

  -- a copy that begins, and is waited for
  pub copy_left : {E : Type 0} (known : Known R) (stored : Stored W) (reader : R) (writer : W) (f : CopyFuture R W)
      → source_of f ≡ reader → f.writer ≡ writer → NothingCopied f → Knows reads known reader
      → Stores writes stored writer
      → WhenLeft E (CopyRuns reads writes) f (λ g. ⊤)
      (λ g r. IfOk r
      (λ n. (stored.kept g.writer ≡ stored.kept writer ++ known.left reader)
      × (n ≡ length (known.left reader) % 2 ^ 64)))
  copy_left known stored reader writer f from to begins knows stores =
      when_left (CopyRuns reads writes) f (λ g. ⊤)
      (λ g r. IfOk r
      (λ n. (stored.kept g.writer ≡ stored.kept writer ++ known.left reader)
      × (n ≡ length (known.left reader) % 2 ^ 64))) tt (λ ins g ran. tt)
      (λ ins g v gives ran.
      let m = ran.moves in
      let told = knows_spends reads known reader (source_of g) m.told knows (rw from at m.came) in
      rw (stores_kept writes stored writer g.writer m.took stores (rw to at m.went))
      (all_moved f g v ins (known.left reader) (known.left (source_of g)) (stored.kept writer) begins m told gives))
