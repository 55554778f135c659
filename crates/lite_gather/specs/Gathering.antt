-- Collections, seen as the items that were put into them: `holds c l` says that `c` is what comes of putting in the
-- items `l` in order. A `Vec` and a `VecDeque` have these items. A `String` has the bytes of these characters. A
-- `BTreeMap` and a `BTreeSet` have the entries of inserting them one after the other.
use Rattle.std.specs.Prelude.{List, [], ◌∷◌, ◌++◌}

module _ {C T : Type 0} (holds : C → List T → Type 0) where
  -- The collection `d` is `c` with the item `x` put in.
  abbrev pub Took : C → T → C → Type 0
  Took c x d = (l : List T) → holds c l → holds d (l ++ x ∷ [])

  -- The collection `d` holds what `c` holds.
  abbrev pub Kept : C → C → Type 0
  Kept c d = (l : List T) → holds c l → holds d l

-- The collection `c` has no room for the item `x`, so it may refuse it. A vector has room below its capacity, and a
-- `String` if the bytes fit. A `BTreeMap` has room for a key that it has, and a `BTreeSet` for an item that it has. The
-- runs of the futures that collect use this.
abbrev pub LacksRoom : {C T : Type 0} → (C → T → Type 0) → C → T → Type 0
LacksRoom has_room c x = has_room c x → ⊥

-- No collection may refuse an item. The ample runs of the futures that collect use this, in which no allocation failed.
abbrev pub NeverRefuses : {C T : Type 0} → C → T → Type 0
NeverRefuses c x = ⊥
