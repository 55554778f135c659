-- `take`: the first bytes of a reader, and then end of file forever.
use Rattle.std.specs.Prelude.{◌≡◌, ℕ, zero, suc, List, [], ◌∷◌, ◌++◌, ⊤}
use Rattle.lite_buffered.specs.Uses.{ReadMark, Runs}
use Rattle.lite_buffered.specs.declared.take.Take.{Take}

-- The reader that is read.
abbrev pub take_inner : {R : Type 0} → Take R → R
take_inner x = x.inner

-- How many more bytes may be read.
abbrev pub limit_of : {R : Type 0} → Take R → ℕ
limit_of x = x.limit

-- The marks come while the limit is not used up. Each byte uses one of the limit, and `rest` is left.
abbrev pub WithinLimit : Runs ReadMark ℕ
WithinLimit limit [] rest = rest ≡ limit
WithinLimit zero (m ∷ ms) rest = ⊥
WithinLimit (suc n) (ReadMark.byte b ∷ ms) rest = WithinLimit n ms rest
WithinLimit (suc n) (_ ∷ ms) rest = WithinLimit (suc n) ms rest

-- The marks are ends of file. If any comes, the limit is used up.
abbrev pub LimitEnds : ℕ → List ReadMark → Type 0
LimitEnds rest [] = ⊤
LimitEnds rest (m ∷ ms) = (rest ≡ 0) × (m ≡ ReadMark.end) × LimitEnds rest ms

-- The run of `take`: the inner reader's marks through the limit's last byte, and then ends of file. Once the limit is
-- 0, the inner reader is not polled, and nothing changes.
pub record ReadsWithin {R : Type 0} (reads : Runs ReadMark R) (x : Take R) (ms : List ReadMark)
    (y : Take R) : Type 0 where
  pub front : List ReadMark
  pub ends : List ReadMark
  pub cut : ms ≡ front ++ ends
  pub ran : reads x.inner front y.inner
  pub fits : WithinLimit x.limit front y.limit
  pub used_up : LimitEnds y.limit ends
  pub still : x.limit ≡ 0 → y ≡ x
