-- The runs of a future, stream, reader or writer of the toolchain, from what its own traits say of each call.
use Rattle.std.specs.Prelude.{◌≡◌, ◌⊎◌, ⊤, ℕ, Bool, true, false, List, [], ◌∷◌, ◌++◌, Option, Some, None}
use Rattle.compat.specs.Uses.{Answer, Error, Lasting, Passes, Pending, Poll, ReadMark, Ready, WriteMark, bytes, error_kind}
use Rattle.compat.specs.declared.compat.Compat.{Compat}
use Rattle.futures.specs.Runs.{After, Runs as Answers, Within}

-- What a `Pending` of the toolchain has registered: that the task is polled again, and each source that is needed.
abbrev pub Needs : (ℕ → Type 0) → Lasting → Type 0
Needs needs fact = (fact ≡ Lasting.armed) ⊎ ((s : ℕ) × needs s × (fact ≡ Lasting.hears s))

-- One poll of a future of the toolchain. A `Pending` leaves one that gives no other value. A value is one that it gives.
abbrev pub FutureStep : {F A : Type 0} → (F → Type 0) → (F → A → Type 0) → Compat F → Poll A → Compat F → Type 0
FutureStep {A = A} can_poll gives x Pending y = can_poll y.inner × ((v : A) → gives y.inner v → gives x.inner v)
FutureStep can_poll gives x (Ready v) y = gives x.inner v

-- It holds, unless the stream has ended.
abbrev pub Unended : Bool → Type 0 → Type 0
Unended true P = ⊤
Unended false P = P

-- One poll of a stream of the toolchain, until it has ended; then each poll returns the end.
abbrev pub StreamStep : {S A : Type 0} → (S → Type 0) → (S → Answers A) → Compat S → Answer A → Compat S → Type 0
StreamStep can_poll yields x Pending y =
    (x.ended ≡ false) × (y.ended ≡ false) × can_poll y.inner × Within (yields x.inner) (yields y.inner)
StreamStep can_poll yields x (Ready (Some v)) y =
    (x.ended ≡ false) × (y.ended ≡ false) × can_poll y.inner × yields x.inner [] (Some v)
    × After (yields x.inner) v (yields y.inner)
StreamStep can_poll yields x (Ready None) y =
    (y.ended ≡ true) × (((x.ended ≡ false) × yields x.inner [] None) ⊎ ((x.ended ≡ true) × (y ≡ x)))

-- Some items and one more answer fit the list: they are a prefix of it, and all of it at the end.
abbrev pub KitFits : {A : Type 0} → List A → Option A → List A → Type 0
KitFits ys None xs = ys ≡ xs
KitFits {A} ys (Some v) xs = (rest : List A) × (xs ≡ ys ++ v ∷ rest)

-- What a stream of the toolchain may yield is this list, or a part of it from the front on.
abbrev pub KitLists : {A : Type 0} → Answers A → List A → Type 0
KitLists {A} yields xs = (ys : List A) (last : Option A) → yields ys last → KitFits ys last xs

module _ {R : Type 0} (reads : Passes R) (is_at_end : R → Type 0) (fails : R → Error → Type 0) where
  -- One call on a reader of tokio, and the marks that it leaves.
  pub data KitReadCall (x : Compat R) : List ReadMark → Compat R → Type 0 where
    gave : {y : Compat R} (xs : List ℕ) → reads x.inner xs y.inner → KitReadCall x (bytes xs) y
    waited : {y : Compat R} → reads x.inner [] y.inner → KitReadCall x (ReadMark.pending ∷ []) y
    failed : {y : Compat R} (e : Error) → reads x.inner [] y.inner → fails y.inner e
        → KitReadCall x (ReadMark.fault (error_kind e) ∷ []) y
    ended : {y : Compat R} → reads x.inner [] y.inner → is_at_end y.inner → KitReadCall x (ReadMark.end ∷ []) y

module _ {W : Type 0} (writes : Passes W) (is_flushed is_shut_down : W → Type 0) (fails : W → Error → Type 0) where
  -- One call on a writer of tokio, by the mark that it leaves.
  abbrev pub KitWriteStep : Compat W → WriteMark → Compat W → Type 0
  KitWriteStep x (WriteMark.wrote xs) y = writes x.inner xs y.inner
  KitWriteStep x WriteMark.nothing y = writes x.inner [] y.inner
  KitWriteStep x WriteMark.pending y = writes x.inner [] y.inner
  KitWriteStep x (WriteMark.fault kind) y =
      writes x.inner [] y.inner × ((e : Error) × fails y.inner e × (error_kind e ≡ kind))
  KitWriteStep x WriteMark.flushed y = writes x.inner [] y.inner × is_flushed y.inner
  KitWriteStep x WriteMark.closed y = writes x.inner [] y.inner × is_shut_down y.inner
