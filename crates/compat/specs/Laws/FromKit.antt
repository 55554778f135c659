-- Laws of the toolchain's futures, streams, readers and writers as this library's.
use Rattle.std.specs.Prelude.{◌≡◌, ℕ, true, false, List, [], ◌∷◌, Option, None, Some, ◌≤◌, ◌<◌, ◌⊎◌, flat_map, length, take, Result, Ok, Err}
use Rattle.lite_io_base.specs.Marks.{moved_marks}
use Rattle.std.proofs.Common.{append-nil, arith, length-take-le}
use lib.Seq.{take-nil}
use Rattle.tokio.specs.Io.Moved.{IfReadyErr, OnReadyOk, PassesInOrder, PassesNothing, bytes_moved, count_moved}
use Rattle.lite_write.specs.Laws.Copy.{told_both}
use Rattle.lite_io_base.specs.Joined.{Joined}
use Rattle.lite_io_base.specs.Laws.Joined.{joined_one}
use Rattle.lite_io_base.specs.Laws.Marks.{taken_both}
use Rattle.lite_views.specs.Laws.Steps.{lists_as, lists_by_relation}
use Rattle.lite_views.specs.Views.{ItemsAfter, ListsAs}
use Rattle.compat.specs.Laws.ToKit.{told_bytes}
use Rattle.compat.specs.FromKit.{FutureStep, KitFits, KitLists, KitReadCall, StreamStep, Unended, KitWriteStep}
use Rattle.compat.specs.Uses.{Answer, Error, FoldsTo, Passes, Pending, Poll, ReadMark, Ready, Steps, WriteMark, ap, bytes_taken, bytes_told, inl, inr, done_marks, read_marks, refl, subst, sym, write_marks, ◌∙◌}
use Rattle.compat.specs.declared.compat.Compat.{Compat}
use Rattle.futures.specs.Poll.{IfReady, OnPending}
use Rattle.futures.specs.Runs.{Runs as Answers}
use Rattle.lite_theorems.specs.Futures.{StepsToValue}

kit_rest : {A : Type 0} (v : A) (ys rest : List A) (last : Option A) (xs : List A) → xs ≡ v ∷ rest
    → KitFits (v ∷ ys) last xs → KitFits ys last rest
kit_rest v ys rest None xs e h = cc
kit_rest v ys rest (Some u) xs e h = (h.0, cc h.1)

module _ {S A : Type 0} (can_poll : S → Type 0) (yields : S → Answers A) where
  -- What may be polled may be polled again.
  pub step_keeps : (x y : Compat S) (a : Answer A) → Unended x.ended (can_poll x.inner)
      → StreamStep can_poll yields x a y → Unended y.ended (can_poll y.inner)
  step_keeps x y Pending c h = rw h.1 h.2
  step_keeps x y (Ready (Some v)) c h = rw h.1 h.2
  step_keeps x y (Ready None) c h = rw h.0 tt

-- One poll of a future of the toolchain, by what the toolchain says of it.
pub future_ran : {F A : Type 0} (can_poll : F → Type 0) (gives : F → A → Type 0) (x y : Compat F) (r : Poll A)
    → IfReady r (gives x.inner) → OnPending r (can_poll y.inner) → OnPending r ((v : A) → gives y.inner v → gives x.inner v)
    → StepsToValue (FutureStep can_poll gives) x (r ∷ []) y
future_ran can_poll gives x y Pending value again same = (tt, (y, (again, same), refl))
future_ran can_poll gives x y (Ready v) value again same = (refl, (y, value, refl))

none_moved : (n : ℕ) (buf : List ℕ) → n ≤ length buf → take n buf ≡ [] → ◌≡◌ {A = Poll (Result ℕ Error)} (Ready (Ok n)) (Ready (Ok 0))
none_moved n buf fits e = ap (λ k. Ready (Ok k)) (sym (length-take-le n buf fits) ∙ ap length e)

module _ {R : Type 0} {reads : Passes R} {is_at_end : R → Type 0} {fails : R → Error → Type 0} where
  moved_ran : (x y : Compat R) (buf xs : List ℕ) → reads x.inner xs y.inner
      → (xs ≡ [] → 0 < length buf → is_at_end y.inner) → KitReadCall reads is_at_end fails x (moved_marks buf xs) y
  moved_ran x y buf (b ∷ xs) h end = KitReadCall.gave (b ∷ xs) h
  moved_ran x y [] [] h end = KitReadCall.gave [] h
  moved_ran x y (r ∷ room) [] h end = KitReadCall.ended h (end refl (omega arith))

  call_ran : (x y : Compat R) (r : Poll (Result ℕ Error)) (buf : List ℕ) → count_moved r ≤ length buf
      → reads x.inner (bytes_moved r buf) y.inner → (r ≡ Ready (Ok 0) → 0 < length buf → is_at_end y.inner)
      → IfReadyErr r (fails y.inner) → KitReadCall reads is_at_end fails x (read_marks r buf) y
  call_ran x y Pending buf fits h end failed = KitReadCall.waited h
  call_ran x y (Ready (Err e)) buf fits h end failed = KitReadCall.failed e h failed
  call_ran x y (Ready (Ok n)) buf fits h end failed =
      moved_ran x y buf (take n buf) h (λ e some. end (none_moved n buf fits e) some)

  -- One read of tokio, by what it says of it.
  pub read_ran : (x y : Compat R) (r : Poll (Result ℕ Error)) (buf : List ℕ) → count_moved r ≤ length buf
      → reads x.inner (bytes_moved r buf) y.inner → (r ≡ Ready (Ok 0) → 0 < length buf → is_at_end y.inner)
      → IfReadyErr r (fails y.inner) → Joined (KitReadCall reads is_at_end fails) x (read_marks r buf) y
  read_ran x y r buf fits h end failed = joined_one _ x y _ (call_ran x y r buf fits h end failed)

module _ {W : Type 0} (writes : Passes W) (is_flushed is_shut_down : W → Type 0) (fails : W → Error → Type 0) where
  -- One write of tokio, by what it says of it.
  pub write_ran : (x y : Compat W) (r : Poll (Result ℕ Error)) (buf : List ℕ) → writes x.inner (bytes_moved r buf) y.inner
      → IfReadyErr r (fails y.inner) → Steps (KitWriteStep writes is_flushed is_shut_down fails) x (write_marks r buf) y
  write_ran x y Pending buf h failed = (y, h, refl)
  write_ran x y (Ready (Err e)) buf h failed = (y, (h, (e, failed, refl)), refl)
  write_ran x y (Ready (Ok n)) [] h failed = (y, subst (λ l. writes x.inner l y.inner) (take-nil n) h, refl)
  write_ran x y (Ready (Ok n)) (b ∷ buf) h failed = (y, h, refl)

  -- One flush.
  pub flush_ran : (x y : Compat W) (r : Poll (Result (Unit {0}) Error)) → writes x.inner [] y.inner
      → OnReadyOk r (is_flushed y.inner) → IfReadyErr r (fails y.inner) → Steps (KitWriteStep writes is_flushed is_shut_down fails) x (done_marks WriteMark.flushed r) y
  flush_ran x y Pending h done failed = (y, h, refl)
  flush_ran x y (Ready (Err e)) h done failed = (y, (h, (e, failed, refl)), refl)
  flush_ran x y (Ready (Ok u)) h done failed = (y, (h, done), refl)

  -- One shutdown.
  pub close_ran : (x y : Compat W) (r : Poll (Result (Unit {0}) Error)) → writes x.inner [] y.inner
      → OnReadyOk r (is_shut_down y.inner) → IfReadyErr r (fails y.inner) → Steps (KitWriteStep writes is_flushed is_shut_down fails) x (done_marks WriteMark.closed r) y
  close_ran x y Pending h done failed = (y, h, refl)
  close_ran x y (Ready (Err e)) h done failed = (y, (h, (e, failed, refl)), refl)
  close_ran x y (Ready (Ok u)) h done failed = (y, (h, done), refl)

-- The bytes of the marks are those that tokio's calls moved.
module _ {R : Type 0} {reads : Passes R} (is_at_end : R → Type 0) (fails : R → Error → Type 0)
    (nothing : PassesNothing reads) (in_order : PassesInOrder reads) where
  call_told : (x y : Compat R) (l : List ReadMark) → KitReadCall reads is_at_end fails x l y
      → reads x.inner (bytes_told l) y.inner
  call_told x y l (KitReadCall.gave xs h) = subst (λ b. reads x.inner b y.inner) (sym (told_bytes xs)) h
  call_told x y l (KitReadCall.waited h) = h
  call_told x y l (KitReadCall.failed e h f) = h
  call_told x y l (KitReadCall.ended h e) = h

  calls_told : (x y : Compat R) (calls : List (List ReadMark)) → FoldsTo (KitReadCall reads is_at_end fails) x calls y
      → reads x.inner (bytes_told (flat_map (λ (call : List ReadMark). call) calls)) y.inner
  calls_told x y [] h = subst (λ z. reads x.inner [] (Compat.inner z)) h (nothing x.inner)
  calls_told x y (c ∷ calls) h =
      subst (λ b. reads x.inner b y.inner) (sym (told_both c (flat_map (λ (call : List ReadMark). call) calls)))
      (in_order x.inner (bytes_told c) h.0.inner _ y.inner (call_told x h.0 c h.1) (calls_told h.0 y calls h.2))

  pub reads_told : (x y : Compat R) (l : List ReadMark) → Joined (KitReadCall reads is_at_end fails) x l y
      → reads x.inner (bytes_told l) y.inner
  reads_told x y l h = subst (λ m. reads x.inner (bytes_told m) y.inner) h.2 (calls_told x y h.0 h.1)

module _ {W : Type 0} {writes : Passes W} (is_flushed is_shut_down : W → Type 0) (fails : W → Error → Type 0)
    (nothing : PassesNothing writes) (in_order : PassesInOrder writes) where
  step_taken : (x y : Compat W) (m : WriteMark) → KitWriteStep writes is_flushed is_shut_down fails x m y
      → writes x.inner (bytes_taken (m ∷ [])) y.inner
  step_taken x y (WriteMark.wrote xs) h = subst (λ b. writes x.inner b y.inner) (sym (append-nil xs)) h
  step_taken x y WriteMark.nothing h = h
  step_taken x y WriteMark.pending h = h
  step_taken x y (WriteMark.fault kind) h = h.0
  step_taken x y WriteMark.flushed h = h.0
  step_taken x y WriteMark.closed h = h.0

  pub writes_taken : (x y : Compat W) (l : List WriteMark) → Steps (KitWriteStep writes is_flushed is_shut_down fails) x l y
      → writes x.inner (bytes_taken l) y.inner
  writes_taken x y [] h = subst (λ z. writes x.inner [] (Compat.inner z)) (sym h) (nothing x.inner)
  writes_taken x y (m ∷ l) h =
      subst (λ b. writes x.inner b y.inner) (sym (taken_both (m ∷ []) l))
      (in_order x.inner (bytes_taken (m ∷ [])) h.0.inner _ y.inner (step_taken x h.0 m h.1) (writes_taken h.0 y l h.2))

-- If the stream of the toolchain has a list, this library's has it.
module _ {S A : Type 0} (can_poll : S → Type 0) (yields : S → Answers A) where
  -- What is left of the list: all of it, or none after the end.
  abbrev Left : Compat S → List A → Type 0
  Left x xs = ((x.ended ≡ false) × KitLists (yields x.inner) xs) ⊎ ((x.ended ≡ true) × (xs ≡ []))

  left_after : (x y : Compat S) (a : Answer A) (xs : List A) → KitLists (yields x.inner) xs → x.ended ≡ false
      → StreamStep can_poll yields x a y → ItemsAfter Left a y xs
  left_after x y Pending xs known running h = inl (h.1, λ ys last k. known ys last (h.3 ys last k))
  left_after x y (Ready None) xs known running (e, inl h) = sym (known [] None h.1)
  left_after x y (Ready None) xs known running (e, inr h) = absurd (let d = h.0 in cc)
  left_after x y (Ready (Some v)) xs known running h =
      let first = known [] (Some v) h.3 in
      (first.0, first.1, inl (h.1, λ ys last k. kit_rest v ys first.0 last xs first.1 (known (v ∷ ys) last (h.4 ys last k))))

  moves : (x y : Compat S) (a : Answer A) (xs : List A) → Left x xs → StreamStep can_poll yields x a y
      → ItemsAfter Left a y xs
  moves x y a xs (inl (running, known)) h = left_after x y a xs known running h
  moves x y Pending xs (inr (over, none)) h = absurd (let d = h.0 in cc)
  moves x y (Ready (Some v)) xs (inr (over, none)) h = absurd (let d = h.0 in cc)
  moves x y (Ready None) xs (inr (over, none)) h = none

  pub kit_lists : (x : Compat S) (xs : List A) → x.ended ≡ false → KitLists (yields x.inner) xs
      → ListsAs (FoldsTo (StreamStep can_poll yields)) x xs
  kit_lists x xs running known =
      lists_as _ x xs (lists_by_relation (StreamStep can_poll yields) Left moves x xs (inl (running, known)))
