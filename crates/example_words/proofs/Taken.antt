-- What the output took before it failed.
use Rattle.std.proofs.Common.{◌≡◌, ℕ, ◌∙◌, List, [], ◌∷◌, ◌++◌, ap, append-nil, append_assoc, inl, inr, sym}
use Rattle.std.specs.declared.io.Error.{Error}
use Rattle.futures_lite.specs.Laws.Told.{front_follows, front_of_more}
use Rattle.futures_lite.specs.Marks.{WriteMark, bytes_taken}
use Rattle.futures_lite.specs.Own.{MarkLaws, Runs}
use Rattle.futures_lite.specs.Writers.{FailsAfter, FailsBy, OnlyWrites}
use Rattle.example_words.specs.Runs.{TextUnwritten, WritesText}
use Rattle.example_words.specs.declared.fault.WordsError.TheVariants.{Output}

pub writes_both : (l m : List WriteMark) → OnlyWrites l → OnlyWrites m → OnlyWrites (l ++ m)
writes_both [] m h k = k
writes_both (WriteMark.pending ∷ l) m h k = writes_both l m h k
writes_both (WriteMark.wrote (x ∷ xs) ∷ l) m h k = writes_both l m h k
writes_both (WriteMark.wrote [] ∷ l) m h k = absurd h
writes_both (WriteMark.fault kind ∷ l) m h k = absurd h
writes_both (WriteMark.flushed ∷ l) m h k = absurd h
writes_both (WriteMark.closed ∷ l) m h k = absurd h
writes_both (WriteMark.nothing ∷ l) m h k = absurd h

last_later : (b m : List WriteMark) (t : WriteMark) (l : List WriteMark) → l ≡ m ++ t ∷ [] → b ++ l ≡ (b ++ m) ++ t ∷ []
last_later b m t l e = ap (λ k. b ++ k) e ∙ sym (append_assoc b m (t ∷ []))

fails_by : (b m l : List WriteMark) (e : Error) → FailsBy m l e → FailsBy (b ++ m) (b ++ l) e
fails_by b m l e (inl h) = inl (last_later b m _ l h)
fails_by b m l e (inr h) = inr (last_later b m _ l h.0, h.1)

fails_after : (b l : List WriteMark) (e : Error) → OnlyWrites b → FailsAfter OnlyWrites l e → FailsAfter OnlyWrites (b ++ l) e
fails_after b l e p h =
    record {
      before = b ++ h.before;
      fine = writes_both b h.before p h.fine;
      last = fails_by b h.before l e h.last;
    }

module _ {O : Type 0} (writes : Runs WriteMark O) where
  -- It failed behind a text.
  pub fails_later : MarkLaws writes → (w u v : O) (p q : List ℕ) (e : Error) → WritesText writes w p u
      → TextUnwritten writes u q (Output e) v → TextUnwritten writes w (p ++ q) (Output e) v
  fails_later laws w u v p q e h k = (h.0 ++ k.0, front_follows writes laws w u v p q h.0 k.0 h.1 h.3 k.1, fails_after h.0 k.0 e h.2 k.2)

  -- A prefix of a text is one of a longer text.
  pub fails_sooner : (w v : O) (p q : List ℕ) (e : Error) → TextUnwritten writes w p (Output e) v → TextUnwritten writes w (p ++ q) (Output e) v
  fails_sooner w v p q e h = (h.0, front_of_more writes w v p q h.0 h.1, h.2)

  -- The flush behind a text failed.
  pub flush_fails : MarkLaws writes → (w u v : O) (p : List ℕ) (took : List WriteMark) (e : Error) → WritesText writes w p u
      → writes u took v → bytes_taken took ≡ [] → FailsAfter OnlyWrites took e → TextUnwritten writes w p (Output e) v
  flush_fails laws w u v p took e h ran none failed =
      rw (append-nil p) at
      (fails_later laws w u v p [] e h (took, (ran, ([], sym (append-nil (bytes_taken took) ∙ none))), failed))
