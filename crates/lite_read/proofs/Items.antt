-- The steps of a stream of the pieces of a reader.
use Rattle.std.specs.Prelude.{◌≡◌, ◌<◌, ◌≤◌, ◌+◌, ℕ, List, [], ◌∷◌, ◌++◌, Option, Some, None, Result, Ok, Err, length, take, ⊤, IfErr, IfOk}
use Rattle.lite_read.specs.Uses.{inl, inr, refl, arith, error_kind, Error, OutOfMemory, Ready, Pending, IsFirstByte}
use Rattle.lite_read.specs.Uses.{is_byte, ReadMark, bytes, filled_marks, MarkLaws, Runs}
use Rattle.lite_read.specs.Pieces.{AtEnd, Cut, Itemised, pieces}
use Rattle.lite_read.specs.Segments.{Flows, StreamOver}
use Rattle.lite_read.specs.PollSteps.{TakesPieceIn}
use Rattle.lite_read.proofs.Cutting.{concludes_at, concludes_piece, fill_then, flow_one, found_at, found_none, takes_all, waits_here}

module _ {X S K A : Type 0} {over : StreamOver X S (List ℕ) K} {byte : K → ℕ}
    {whole final : List ℕ → Result A Error → Type 0} {m : List ℕ → Type 0} {reads : Runs ReadMark S}
    (laws : MarkLaws reads) {x y : X} (same : over.kept y ≡ over.kept x) where
  module _ (held : over.held y ≡ over.held x) where
    pub item_waits : reads (over.reader x) (ReadMark.pending ∷ []) (over.reader y)
        → Flows over (λ k. pieces (byte k) m (Itemised whole final)) reads x (Pending ∷ []) y
    item_waits came =
        flow_one came (waits_here (byte _) m (Itemised whole final) _ _ held) same

    pub item_fails : (e : Error) → reads (over.reader x) (ReadMark.fault (error_kind e) ∷ []) (over.reader y)
        → Flows over (λ k. pieces (byte k) m (Itemised whole final)) reads x (Ready (Some (Err e)) ∷ []) y
    item_fails e came =
        flow_one came
        (concludes_at (byte _) m (Itemised whole final) _ _ (Cut.failed e) (Some _) _ (inl refl) (refl, held)) same

    pub item_refused : (e : Error) (mid : S) (shown : List ℕ) → reads (over.reader x) (filled_marks shown) mid
        → 0 < length shown → error_kind e ≡ OutOfMemory → over.reader y ≡ mid → m (over.held x)
        → Flows over (λ k. pieces (byte k) m (Itemised whole final)) reads x (Ready (Some (Err e)) ∷ []) y
    item_refused e mid shown fills some is unread full =
        let came = fill_then laws shown some fills (rw unread (laws.rests mid)) in
        flow_one came
        (concludes_at (byte _) m (Itemised whole final) _ [] (Cut.failed e) (Some _) _ (inr (refl, full, is))
        (refl, held)) same

  module _ (empty : over.held y ≡ []) where
    item_last : (r : Result A Error) → 0 < length (over.held x) → final (over.held x) r
        → reads (over.reader x) (ReadMark.end ∷ []) (over.reader y)
        → Flows over (λ k. pieces (byte k) m (Itemised whole final)) reads x (Ready (Some r) ∷ []) y
    item_last r some is came =
        flow_one came
        (concludes_at (byte _) m (Itemised whole final) _ _ (Cut.last _) _ _ (refl, some, refl) (is, empty)) same

    item_ends : over.held x ≡ [] → reads (over.reader x) (ReadMark.end ∷ []) (over.reader y)
        → Flows over (λ k. pieces (byte k) m (Itemised whole final)) reads x (Ready None ∷ []) y
    item_ends none came =
        flow_one came
        (concludes_at (byte _) m (Itemised whole final) _ _ Cut.nothing None _ (refl, none) empty) same

    pub item_at_end : (r : Option (Result A Error)) → AtEnd final (over.held x) r
        → reads (over.reader x) (ReadMark.end ∷ []) (over.reader y)
        → Flows over (λ k. pieces (byte k) m (Itemised whole final)) reads x (Ready r ∷ []) y
    item_at_end (Some r) is came = item_last r is.0 is.1 came
    item_at_end None is came = item_ends is came

    pub item_cut : (mid : S) (shown : List ℕ) (k : ℕ) (r : Result A Error) → reads (over.reader x) (filled_marks shown) mid
        → IsFirstByte (is_byte (byte (over.kept x))) shown (Some k)
        → whole (over.held x ++ take k shown) r → reads mid (bytes (take (k + 1) shown)) (over.reader y)
        → Flows over (λ k. pieces (byte k) m (Itemised whole final)) reads x (Ready (Some r) ∷ []) y
    item_cut mid shown k r fills first is took =
        let at = found_at (byte _) shown k first in
        let came = fill_then laws shown (omega (arith, at.0)) fills took in
        let piece = concludes_piece (byte _) m (Itemised whole final) _ _ _ _ at.1 (is, empty) in
        flow_one came (rw at.2 piece) same

  -- what became of the delimiter at k
  pub item_found : (mid : S) (shown : List ℕ) (k : ℕ) (r : Result A Error) → reads (over.reader x) (filled_marks shown) mid
      → IsFirstByte (is_byte (byte (over.kept x))) shown (Some k)
      → IfOk r (λ v. whole (over.held x ++ take k shown) r × reads mid (bytes (take (k + 1) shown)) (over.reader y)
      × (over.held y ≡ []))
      → IfErr r (λ e. (error_kind e ≡ OutOfMemory) × (over.reader y ≡ mid) × (over.held y ≡ over.held x))
      → IfErr r (λ e. over.room x < length (over.held x) + k)
      → (over.reader y ≡ mid → over.held y ≡ over.held x → over.room x < length (over.held x) + k → m (over.held x))
      → Flows over (λ k. pieces (byte k) m (Itemised whole final)) reads x (Ready (Some r) ∷ []) y
  item_found mid shown k (Ok v) fills first ok err full lacks = item_cut ok.2 mid shown k _ fills first ok.0 ok.1
  item_found mid shown k (Err e) fills first ok err full lacks =
      item_refused err.2 e mid shown fills (omega (arith, (found_at (byte _) shown k first).0)) err.0 err.1
      (lacks err.1 err.2 full)

-- all was taken in
module _ {X S K A : Type 0} {over : StreamOver X S (List ℕ) K} (byte : K → ℕ)
    {whole final : List ℕ → Result A Error → Type 0} {reads : Runs ReadMark S} (laws : MarkLaws reads)
    {x y : X} (same : over.kept y ≡ over.kept x) (grows : over.room x ≤ over.room y) where
  pub item_more : (mid : S) (shown : List ℕ) → reads (over.reader x) (filled_marks shown) mid
      → IsFirstByte (is_byte (byte (over.kept x))) shown None → 0 < length shown
      → over.held y ≡ over.held x ++ shown → reads mid (bytes shown) (over.reader y)
      → TakesPieceIn over (λ k. pieces (byte k) (λ held. ⊤) (Itemised whole final)) reads x y
  item_more mid shown fills first some is took =
      let all = takes_all (byte _) (λ held. ⊤) (Itemised whole final) _ shown (found_none (byte _) shown first) in
      record {
        taken = shown;
        some = some;
        came = fill_then laws shown some fills took;
        folds = rw is all;
        stays = (same, grows);
      }
