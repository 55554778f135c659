-- Reading entries one behind another.
use Rattle.std.specs.Prelude.{◌≡◌, ℕ, List, [], ◌∷◌, ◌++◌, Option, Some, None, Result, Ok, Err, String}
use Rattle.std.specs.declared.alloc.Global.{Global}
use Rattle.std.specs.declared.vec.Vec.{Vec}
use Rattle.std.proofs.Common.{◌∙◌, ap, append-nil, append_assoc, arith, inl, inr, length-append, refl, subst, sym}
use Rattle.futures_lite.specs.Marks.{ReadMark, bytes}
use Rattle.futures_lite.specs.Own.{MarkLaws, Runs}
use Rattle.futures_lite.specs.Readers.{ToldStripped}
use Rattle.framed.specs.FrameLaws.{join_marks}
use Rattle.framed.specs.ToldLaws.{stripped_laws}
use Rattle.example_frames.specs.Entries.{EntriesOf, EntryOf, HeadOf, ReadsBody, ReadsEntries, ReadsEntry}
use Rattle.example_frames.specs.declared.entries.Entry.{Entry}
use Rattle.example_frames.specs.declared.entries.EntryError.{EntryError}
use Rattle.example_frames.specs.declared.entries.EntryError.TheVariants.{Body, CutOff, Memory, Name}

-- One more entry.
entries_push : (es : List Entry) (e : Entry) (xs ys : List ℕ) → EntriesOf es xs → EntryOf e ys
    → EntriesOf (es ++ e ∷ []) (xs ++ ys)
entries_push [] e xs ys none one = (ys, [], one, refl, ap (λ l. l ++ ys) none ∙ sym (append-nil ys))
entries_push (f ∷ es) e xs ys (front, rest, first, others, cut) one = (
  front,
  rest ++ ys,
  first,
  entries_push es e rest ys others one,
  ap (λ l. l ++ ys) cut ∙ append_assoc front rest ys,
)

-- What was read so far: the bytes of these entries.
abbrev pub HasRead : {T : Type 0} → Runs ReadMark T → T → List Entry → T → Type 0
HasRead reads x es y = (xs : List ℕ) × ToldStripped reads x (bytes xs) y × EntriesOf es xs

module _ {T : Type 0} (reads : Runs ReadMark T) (laws : MarkLaws reads) where
  -- More marks behind some bytes.
  then_marks : (x m y : T) (xs : List ℕ) (told : List ReadMark) → ToldStripped reads x (bytes xs) m → ToldStripped reads m told y
      → ToldStripped reads x (bytes xs ++ told) y
  then_marks x m y xs told h k = (stripped_laws laws).follows x m y (bytes xs) told h k

  then_bytes : (x m y : T) (xs ys : List ℕ) (last : List ReadMark) → ToldStripped reads x (bytes xs) m
      → ToldStripped reads m (bytes ys ++ last) y → ToldStripped reads x (bytes (xs ++ ys) ++ last) y
  then_bytes x m y xs ys last h k =
      subst (λ l. ToldStripped reads x l y) (join_marks xs ys last) (then_marks x m y xs (bytes ys ++ last) h k)

  then_only : (x m y : T) (xs ys : List ℕ) → ToldStripped reads x (bytes xs) m → ToldStripped reads m (bytes ys) y
      → ToldStripped reads x (bytes (xs ++ ys)) y
  then_only x m y xs ys h k =
      subst (λ l. ToldStripped reads x l y) (append-nil _)
      (then_bytes x m y xs ys [] h (subst (λ l. ToldStripped reads m l y) (sym (append-nil _)) k))

  -- The body behind its line.
  pub behind_line : (name : String Global) (x m y : T) (xs : List ℕ) (r : Result (Option Entry) EntryError)
      → ToldStripped reads x (bytes xs) m → HeadOf name xs → ReadsBody reads name m r y → ReadsEntry reads x r y
  behind_line name x m y xs (Ok (Some e)) h line (ys, k, is, frame) = (
    xs ++ ys,
    then_only x m y xs ys h k,
    record { head = xs; frame = ys; line = rw is line; body = frame; cut = refl },
  )
  behind_line name x m y xs (Ok None) h line k = absurd k
  behind_line name x m y xs (Err CutOff) h line k =
      (xs, then_marks x m y xs (ReadMark.end ∷ []) h k, (name, inr line))
  behind_line name x m y xs (Err (Name e)) h line k = absurd k
  behind_line name x m y xs (Err (Body e)) h line k = (xs, name, line, m, h, k)
  behind_line name x m y xs (Err Memory) h line k = absurd k

  pub none_read : (x : T) → HasRead reads x [] x
  none_read x = ([], (stripped_laws laws).rests x, refl)

  module _ (x m y : T) (es : List Entry) (so_far : HasRead reads x es m) where
    pub one_more : (e : Entry) → ReadsEntry reads m (Ok (Some e)) y → HasRead reads x (es ++ e ∷ []) y
    one_more e (ys, k, one) =
        (so_far.0 ++ ys, then_only x m y so_far.0 ys so_far.1 k, entries_push es e so_far.0 ys so_far.2 one)

    pub all_read : (all : Vec Entry Global) → all.items ≡ es → ReadsEntry reads m (Ok None) y → ReadsEntries reads x (Ok all) y
    all_read all is (ys, k, none) =
        (so_far.0, ys, then_bytes x m y so_far.0 ys (ReadMark.end ∷ []) so_far.1 k, rw is so_far.2, none)

    pub stopped : (e : EntryError) → ReadsEntry reads m (Err e) y → ReadsEntries reads x (Err e) y
    stopped e k = (so_far.0, m, so_far.1, es, so_far.2, inl k)

    -- Memory was refused for one entry more.
    pub no_room : (e : Entry) → ReadsEntry reads m (Ok (Some e)) y → ReadsEntries reads x (Err Memory) y
    no_room e k =
        let more = one_more e k in
        (more.0, y, more.1, es ++ e ∷ [], more.2, inr (refl, refl, omega (arith, length-append es (e ∷ []))))
