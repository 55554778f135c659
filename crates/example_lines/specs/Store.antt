-- What the server keeps.
use Rattle.std.specs.Prelude.{◌+◌, ◌-◌, ℕ, List, Option, None, Some, if◌then◌else◌, length}
use Rattle.std.specs.BTreeMap.{get_by}
use Rattle.std.specs.Cmp.Lexicographic.{slice_cmp}
use Rattle.std.specs.Map.{update}
use Rattle.std.specs.Option.{is_some, option_map}
use Rattle.std.specs.Ordering.{nat_cmp}
use Rattle.std.specs.Str.{bytes_eq}
use Rattle.example_lines.specs.declared.store.Store.{Store}

-- The value at each key, or that there is none. And how many keys have one.
pub record KeyValues : Type 0 where
  pub at : List ℕ → Option (List ℕ)
  pub count : ℕ

-- What the map of a store has.
abbrev pub stored : Store → KeyValues
stored store = record {
  at = λ key. option_map (λ value. value.items) (get_by (λ k. slice_cmp nat_cmp key k.items) store.values);
  count = length store.values.entries;
}

-- No key has a value.
abbrev pub no_keys : KeyValues
no_keys = record { at = λ key. None; count = 0 }

-- With this value at a key.
abbrev pub with_value : KeyValues → List ℕ → List ℕ → KeyValues
with_value h key value = record {
  at = update bytes_eq h.at key (Some value);
  count = h.count + (if is_some (h.at key) then 0 else 1);
}

-- Without a value at a key.
abbrev pub without_key : KeyValues → List ℕ → KeyValues
without_key h key = record {
  at = update bytes_eq h.at key None;
  count = h.count - (if is_some (h.at key) then 1 else 0);
}
