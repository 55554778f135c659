-- What the output took, call by call.
use Rattle.std.proofs.Common.{◌≡◌, ℕ, ◌∙◌, List, [], ◌∷◌, ◌++◌, ap, append-nil, append_assoc, inl, inr, refl, sym}
use Rattle.std.specs.declared.io.Error.{Error}
use Rattle.futures_lite.specs.Laws.Told.{front_follows, front_of_more, taken_both}
use Rattle.futures_lite.specs.Marks.{WriteMark, bytes_taken}
use Rattle.futures_lite.specs.Own.{MarkLaws, Runs}
use Rattle.futures_lite.specs.Writers.{FailsAfter, FailsBy, OnlyWrites}
use Rattle.example_pipeline.specs.Runs.{FailsFlush, FailsOutput, FailsTaking, TakesWholeText}
use Rattle.example_pipeline.specs.declared.fault.Cause.{Cause}
use Rattle.example_pipeline.specs.declared.fault.Cause.TheVariants.{Input, Memory, NotANumber, NotUtf8, Output, Overflow}

writes_both : (l m : List WriteMark) → OnlyWrites l → OnlyWrites m → OnlyWrites (l ++ m)
writes_both [] m h k = k
writes_both (WriteMark.pending ∷ l) m h k = writes_both l m h k
writes_both (WriteMark.wrote (x ∷ xs) ∷ l) m h k = writes_both l m h k
writes_both (WriteMark.wrote [] ∷ l) m h k = absurd h
writes_both (WriteMark.fault kind ∷ l) m h k = absurd h
writes_both (WriteMark.flushed ∷ l) m h k = absurd h
writes_both (WriteMark.closed ∷ l) m h k = absurd h
writes_both (WriteMark.nothing ∷ l) m h k = absurd h

last_later : (b m : List WriteMark) (t : WriteMark) (l : List WriteMark) → l ≡ m ++ t ∷ [] → b ++ l ≡ (b ++ m) ++ t ∷ []
last_later b m t l e = ap (λ k. b ++ k) e ∙ sym (append_assoc b m (t ∷ []))

fails_by : (b m l : List WriteMark) (e : Error) → FailsBy m l e → FailsBy (b ++ m) (b ++ l) e
fails_by b m l e (inl h) = inl (last_later b m _ l h)
fails_by b m l e (inr h) = inr (last_later b m _ l h.0, h.1)

fails_after : (b l : List WriteMark) (e : Error) → OnlyWrites b → FailsAfter OnlyWrites l e → FailsAfter OnlyWrites (b ++ l) e
fails_after b l e p h =
    record {
      before = b ++ h.before;
      fine = writes_both b h.before p h.fine;
      last = fails_by b h.before l e h.last;
    }

module _ {O : Type 0} (writes : Runs WriteMark O) (rules : MarkLaws writes) (w u v : O) where
  pub text_more : (p q : List ℕ) → TakesWholeText writes w p u → TakesWholeText writes u q v → TakesWholeText writes w (p ++ q) v
  text_more p q h k = (
    h.0 ++ k.0,
    rules.follows w u v h.0 k.0 h.1 k.1,
    writes_both h.0 k.0 h.2 k.2,
    rw (taken_both h.0 k.0, h.3, k.3) refl,
  )

  pub fails_more : (p q : List ℕ) (e : Error) → TakesWholeText writes w p u → FailsTaking writes u q e v → FailsTaking writes w (p ++ q) e v
  fails_more p q e h k = (h.0 ++ k.0, front_follows writes rules w u v p q h.0 k.0 h.1 h.3 k.1, fails_after h.0 k.0 e h.2 k.2)

  pub fails_sooner : (p q : List ℕ) (e : Error) → FailsTaking writes w p e v → FailsTaking writes w (p ++ q) e v
  fails_sooner p q e h = (h.0, front_of_more writes w v p q h.0 h.1, h.2)

  -- The flush failed behind a text.
  pub flush_fails : (text : List ℕ) (e : Cause) → TakesWholeText writes w text u → FailsOutput writes u [] e v → FailsOutput writes w text e v
  flush_fails text (Output e) h k = rw (append-nil text) at (fails_more text [] e h k)
  flush_fails text NotUtf8 h k = absurd k
  flush_fails text NotANumber h k = absurd k
  flush_fails text Overflow h k = absurd k
  flush_fails text Memory h k = absurd k
  flush_fails text (Input e) h k = absurd k

-- A flush that fails took a prefix of nothing.
pub flush_unwritten : {O : Type 0} (writes : Runs WriteMark O) (w v : O) (e : Error) → FailsFlush writes w e v → FailsTaking writes w [] e v
flush_unwritten writes w v e h = (h.0, (h.1, ([], sym (append-nil (bytes_taken h.0) ∙ h.2))), h.3)
