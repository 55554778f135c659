-- A writer that took bytes and was then flushed, and two that are alike.
use Rattle.std.specs.Prelude.{IfOk, IsOk, ◌≡◌, ℕ, List, [], ◌∷◌, ◌++◌, Result, Ok, Err}
use Rattle.lite_theorems.specs.Uses.{◌∙◌, sym, ap, append-nil, Runs, MarkLaws, TakesFront, WriteMark, bytes_taken, taken_both}
use Rattle.lite_theorems.specs.Uses.{FlushedUp, OnlyWrites}
use Rattle.lite_io_base.specs.Steady.{NoError, SteadyWriteLaws}
use Rattle.lite_write.proofs.Handed.{flushed_later, once_flushes}
use Rattle.lite_write.specs.Handed.{WritesAndFlushes}
use Rattle.lite_write.specs.Laws.WriteAll.{WriteAllResult}
use Rattle.lite_theorems.specs.BothWriters.{BothWritten, WrittenUp}

-- marks without a byte behind others
none_after : (p : List ℕ) (b l : List WriteMark) → bytes_taken b ≡ p → bytes_taken l ≡ [] → bytes_taken (b ++ l) ≡ p
none_after p b l all none = taken_both b l ∙ ap (λ k. bytes_taken b ++ k) none ∙ append-nil (bytes_taken b) ∙ all

-- all was taken, and then flushed
written_later : (p : List ℕ) (b l : List WriteMark) (v : WriteAllResult) → OnlyWrites b → bytes_taken b ≡ p
    → bytes_taken l ≡ [] → FlushedUp l v
    → WrittenUp p (b ++ l) v
written_later p b l (Ok u) a all none h = (flushed_later b l (Ok u) a h, none_after p b l all none)
written_later p b l (Err e) a all none h = flushed_later b l (Err e) a h

written_wait : {E : Type 0} (p : List ℕ) (b l : List WriteMark) (r : Result WriteAllResult E) → OnlyWrites b
    → bytes_taken b ≡ p → bytes_taken l ≡ []
    → IfOk r (λ v. FlushedUp l v) → IfOk r (λ v. WrittenUp p (b ++ l) v)
written_wait p b l (Ok v) a all none up = written_later p b l v a all none up
written_wait p b l (Err e) a all none up = tt

pub flush_after : {W E : Type 0} {writes : Runs WriteMark W} → MarkLaws writes
    → (x y z : W) (p : List ℕ) (b l : List WriteMark) (r : Result WriteAllResult E)
    → writes x b y → writes y l z → OnlyWrites b → bytes_taken b ≡ p → bytes_taken l ≡ [] → IfOk r (λ v. FlushedUp l v)
    → (took : List WriteMark) × TakesFront writes x p took z × IfOk r (λ v. WrittenUp p took v)
flush_after laws x y z p b l r h k a all none up =
    let front = sym (append-nil (bytes_taken (b ++ l)) ∙ none_after p b l all none) in
    (b ++ l, (laws.follows x y z b l h k, ([], front)), written_wait p b l r a all none up)

no_error : (l : List WriteMark) → WritesAndFlushes l → NoError l
no_error [] h = tt
no_error (WriteMark.pending ∷ l) h = no_error l h
no_error (WriteMark.wrote (x ∷ xs) ∷ l) h = no_error l h
no_error (WriteMark.flushed ∷ l) h = no_error l h
no_error (_ ∷ l) h = absurd h

all_well : (p : List ℕ) (l : List WriteMark) (v : WriteAllResult) → IsOk v → WrittenUp p l v → WrittenUp p l (Ok tt)
all_well p l (Ok u) ok h = h
all_well p l (Err e) ok h = cc

module _ {W : Type 0} {writes : Runs WriteMark W} {alike : W → W → Type 0} {below : W → List ℕ}
    (s : SteadyWriteLaws writes alike below) where
  pub both_written : (x x' y y' : W) (p : List ℕ) (took more : List WriteMark) (v w : WriteAllResult) → alike x y
      → TakesFront writes x p took x' → TakesFront writes y p more y'
      → WrittenUp p took v → WrittenUp p more w → BothWritten alike below p took v x' more w y'
  both_written x x' y y' p took more v w e h k up again =
      record {
        first = up;
        second = again;
        same = λ ok well.
            let one = all_well p took v ok up in
            let two = all_well p more w well again in
            s.steady x y x' y' took more e h.0 k.0 (no_error took (once_flushes took one.0))
            (no_error more (once_flushes more two.0)) (one.0.0, one.0.2) (two.0.0, two.0.2) (one.1 ∙ sym two.1);
      }
