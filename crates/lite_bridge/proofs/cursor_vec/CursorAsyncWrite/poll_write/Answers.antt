use Rattle.std.specs.Prelude.{◌≡◌, ◌+◌, ℕ, List, [], ◌∷◌, Ok, length}
use Rattle.lite_bridge.specs.Uses.{refl, subst, sym, arith, Ready, WriteMark, write_marks}
use Rattle.std.proofs.Math.Seq.{take-length}
use Rattle.lite_bridge.specs.declared.cursor.Cursor.{Cursor}
use Rattle.lite_bridge.specs.Cursor.{CursorWrites}
use Rattle.lite_bridge.proofs.cursor_vec.CursorAsyncWrite.poll_write.Goals as goal

module _ {T : Type 0} (puts : T → ℕ → List ℕ → T → Type 0) (refuses : T → T → Type 0) where
  put_ran : (x y : Cursor T) (xs : List ℕ) → puts x.inner x.position xs y.inner
      → y.position ≡ x.position + length xs → CursorWrites puts refuses x (write_marks (Ready (Ok (length xs))) xs) y
  put_ran x y [] put at = (y, (put, omega (arith, at)), refl)
  put_ran x y (b ∷ bs) put at =
      subst (λ l. CursorWrites puts refuses x (WriteMark.wrote l ∷ []) y) (sym (take-length (b ∷ bs)))
      (y, (put, at), refl)

pub returns-in-Ok-clause-ran : goal.returns-in-Ok-clause-ran
returns-in-Ok-clause-ran g c =
    put_ran g.T.BytesLike.puts g.T.BytesLike.refuses c.args.self.now
    (record { inner = c.put.new.self; position = c.in-Ok.next }) c.args.buf.now c.in-Ok.ensures.ok c.in-Ok.ensures.next

pub returns-in-Err-clause-ran : goal.returns-in-Err-clause-ran
returns-in-Err-clause-ran g c = (
  record { inner = c.put.new.self; position = c.args.self.now.position },
  (c.from.ensures, c.in-Err.ensures.err, refl),
  refl,
)
