-- What the server holds.
use Rattle.std.specs.Prelude.{◌+◌, ◌-◌, ℕ, Bool, false, List, Option, None, Some, if◌then◌else◌, length, nat_lt, not}
use Rattle.std.specs.BTreeMap.{get_by}
use Rattle.std.specs.Cmp.Lexicographic.{slice_cmp}
use Rattle.std.specs.Map.{update}
use Rattle.std.specs.Option.{is_some, option_map}
use Rattle.std.specs.Ordering.{nat_cmp}
use Rattle.std.specs.Str.{bytes_eq}
use Rattle.example_redis.specs.declared.store.Store.{Store}

-- The value at each key, or that there is none; how many keys have one, how many bytes they count as, and how many they may.
-- And whether a transaction is refused.
pub record HeldValues : Type 0 where
  pub at : List ℕ → Option (List ℕ)
  pub size : ℕ
  pub bytes : ℕ
  pub limit : ℕ
  pub refuses : Bool

-- What the store's map has.
abbrev pub held : Store → HeldValues
held store = record {
  at = λ key. option_map (λ value. value.items) (get_by (λ k. slice_cmp nat_cmp key k.items) store.values);
  size = length store.values.entries;
  bytes = store.bytes;
  limit = store.limit;
  refuses = store.refuses;
}

-- No key has a value.
abbrev pub no_values : ℕ → HeldValues
no_values limit = record { at = λ key. None; size = 0; bytes = 0; limit = limit; refuses = false }

-- How many bytes a key counts as: none without a value, and else its own and those of the value, and what an entry takes.
abbrev pub weight : List ℕ → Option (List ℕ) → ℕ
weight key None = 0
weight key (Some value) = 96 + length key + length value

-- Whether the bytes are no more than may be held.
abbrev pub fits : HeldValues → Bool
fits h = not (nat_lt h.limit h.bytes)

-- With this value at a key, and without a value there.
abbrev pub put : HeldValues → List ℕ → List ℕ → HeldValues
put h key value = record {
  at = update bytes_eq h.at key (Some value);
  size = h.size + (if is_some (h.at key) then 0 else 1);
  bytes = h.bytes - weight key (h.at key) + weight key (Some value);
  limit = h.limit;
  refuses = h.refuses;
}

-- Without a value at a key.
abbrev pub without : HeldValues → List ℕ → HeldValues
without h key = record {
  at = update bytes_eq h.at key None;
  size = h.size - (if is_some (h.at key) then 1 else 0);
  bytes = h.bytes - weight key (h.at key);
  limit = h.limit;
  refuses = h.refuses;
}

-- With a transaction that is refused from now on, or not any more.
abbrev pub refusing : HeldValues → Bool → HeldValues
refusing h refuses = record { at = h.at; size = h.size; bytes = h.bytes; limit = h.limit; refuses = refuses }
