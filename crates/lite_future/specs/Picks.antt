-- Two futures of which each poll polls one first, and the other only if that one is pending.
use Rattle.std.specs.Prelude.{◌≡◌, List, [], ◌∷◌, Bool}
use Rattle.lite_future.specs.Uses.{Poll, Ready, Pending, UpToValue, Runs}
use Rattle.lite_base.specs.Segments.{Rows}

-- One row of the lists `i` and `j`. If `i` begins with a value, that is the row's result `c`, and `j` stays as it is.
-- Otherwise `c` is the first result of `j`. The lists `i'` and `j'` are left.
abbrev pub PickRow : {A : Type 0} (i j : List (Poll A)) (c : Poll A) (i' j' : List (Poll A)) → Type 0
PickRow [] j c i' j' = ⊥
PickRow (Ready x ∷ i) j c i' j' = (c ≡ Ready x) × (i' ≡ i) × (j' ≡ j)
PickRow (Pending ∷ i) [] c i' j' = ⊥
PickRow (Pending ∷ i) (b ∷ j) c i' j' = (c ≡ b) × (i' ≡ i) × (j' ≡ j)

-- The lists `i` and `j` are read row by row. For each row `order` says which is read first: the first list if it is
-- true.
abbrev pub PickRows : {A : Type 0} (order : List Bool) (i j out : List (Poll A)) → Type 0
PickRows = Rows PickRow

-- The two futures returned the results `i` and `j`, and `out` has the result of each of their rows, up to the first
-- value.
pub record Picks {F G A : Type 0} (run_first : Runs (Poll A) F) (run_second : Runs (Poll A) G)
    (order : List Bool) (f : F) (g : G) (out : List (Poll A)) (f' : F) (g' : G) : Type 0 where
  pub i : List (Poll A)
  pub j : List (Poll A)
  pub first : run_first f i f'
  pub second : run_second g j g'
  pub rows : PickRows order i j out
  pub ends : UpToValue out
