-- Counting in the entries of a map.
use Rattle.std.proofs.Common.{◌≡◌, ℕ, ◌+◌, ◌<◌, ◌∙◌, Bool, true, false, cond, List, [], ◌∷◌, None, Some, arith, map, refl, rules, sym}
use Rattle.std.proofs.lemmas.Map.Text.{is_eq-slice_cmp}
use Rattle.std.proofs.lemmas.List.Elements.{All-from_recursion, recursion_from_All}
use Rattle.std.proofs.lemmas.Slice.Eq.{bytes_eq-Decides}
use Rattle.std.specs.BTreeMap.{insert_entry}
use Rattle.std.specs.Cmp.Lexicographic.{slice_cmp}
use Rattle.std.specs.Global.{Vec}
use Rattle.std.specs.List.{All, AllByRecursion}
use Rattle.std.specs.List.Sorted.{IsStrictlySortedBy}
use Rattle.std.specs.Map.{lookup, set_value}
use Rattle.std.specs.Ordering.{is_eq, match_ordering, nat_cmp}
use Rattle.std.specs.Prelude.{if◌then◌else◌}
use Rattle.std.specs.Str.{bytes_eq}
use Rattle.std.specs.declared.cmp.Ordering.{Ordering}
use Rattle.std.specs.declared.cmp.Ordering.TheVariants.{Equal, Greater, Less}
use Rattle.example_words.specs.Laws.{absent, present, total_cons, total_none}
use Rattle.example_words.specs.Records.{Counted, total_count}

-- The records of entries.
abbrev pub records_of : List (Vec ℕ × ℕ) → List Counted
records_of es = map (λ e. (e.0.items, e.1)) es

-- Whether a word is the one of a key.
abbrev pub at_word : List ℕ → Vec ℕ → Bool
at_word word k = is_eq (slice_cmp nat_cmp word k.items)

-- The order of the keys.
abbrev pub by_items : Vec ℕ → Vec ℕ → Ordering
by_items a b = slice_cmp nat_cmp a.items b.items

same_word : (word : List ℕ) (k : Vec ℕ) → at_word word k ≡ true → word ≡ k.items
same_word word k h = (bytes_eq-Decides word k.items).0 (sym (is_eq-slice_cmp word k.items) ∙ h)

one_more : (b : Bool) (n : ℕ) → (if b then n + 1 else 0) ≡ (if b then n else 0) + (if b then 1 else 0)
one_more true n = refl
one_more false n = refl

-- A word that is counted is counted once more.
pub total_set : (word : List ℕ) (es : List (Vec ℕ × ℕ)) (v : ℕ) (u : List ℕ) → Some v ≡ lookup (at_word word) es
    → total_count (records_of (set_value (at_word word) es (v + 1))) u ≡ total_count (records_of es) u + (if bytes_eq u word then 1 else 0)
total_set word [] v u h = search rules
total_set word (e ∷ es) v u h = at (total_set word es v u) (at_word word e.0) refl h
  where
    at : (Some v ≡ lookup (at_word word) es → total_count (records_of (set_value (at_word word) es (v + 1))) u
        ≡ total_count (records_of es) u + (if bytes_eq u word then 1 else 0))
        → (b : Bool) → at_word word e.0 ≡ b → Some v ≡ cond b (Some e.1) (lookup (at_word word) es)
        → total_count (records_of (cond b ((e.0, v + 1) ∷ es) (e ∷ set_value (at_word word) es (v + 1)))) u
        ≡ total_count (records_of (e ∷ es)) u + (if bytes_eq u word then 1 else 0)
    at rest true is found =
        let same : word ≡ e.0.items = same_word word e.0 is in
        let count : e.1 ≡ v = search rules in
        let more = one_more (bytes_eq u e.0.items) v in
        rw (same, total_cons (e.0.items, v + 1) (records_of es) u, total_cons (e.0.items, e.1) (records_of es) u, count) (omega (arith, more))
    at rest false is found =
        rw (total_cons (e.0.items, e.1) (records_of (set_value (at_word word) es (v + 1))) u, total_cons (e.0.items, e.1) (records_of es) u)
        (omega (arith, rest found))

-- A new word is counted once.
pub total_insert : (key : Vec ℕ) (es : List (Vec ℕ × ℕ)) (u : List ℕ) → lookup (λ k. is_eq (by_items key k)) es ≡ None
    → total_count (records_of (insert_entry by_items es key 1)) u ≡ total_count (records_of es) u + (if bytes_eq u key.items then 1 else 0)
total_insert key [] u h = rw (total_cons (key.items, 1) [] u) (omega arith)
total_insert key (e ∷ es) u h = at (total_insert key es u) (by_items key e.0) h
  where
    at : (lookup (λ k. is_eq (by_items key k)) es ≡ None → total_count (records_of (insert_entry by_items es key 1)) u
        ≡ total_count (records_of es) u + (if bytes_eq u key.items then 1 else 0))
        → (o : Ordering) → cond (is_eq o) (Some e.1) (lookup (λ k. is_eq (by_items key k)) es) ≡ None
        → total_count (records_of (match_ordering o ((key, 1) ∷ e ∷ es) ((e.0, 1) ∷ es) (e ∷ insert_entry by_items es key 1))) u
        ≡ total_count (records_of (e ∷ es)) u + (if bytes_eq u key.items then 1 else 0)
    at rest Less none = rw (total_cons (key.items, 1) (records_of (e ∷ es)) u) (omega arith)
    at rest Equal none = search rules
    at rest Greater none =
        rw (total_cons (e.0.items, e.1) (records_of (insert_entry by_items es key 1)) u, total_cons (e.0.items, e.1) (records_of es) u)
        (omega (arith, rest none))

abbrev Positive : List Counted → Type 0
Positive rs = AllByRecursion (λ r. 0 < r.1) rs

set_positive : (word : List ℕ) (es : List (Vec ℕ × ℕ)) (v : ℕ) → Positive (records_of es)
    → Positive (records_of (set_value (at_word word) es (v + 1)))
set_positive word [] v h = tt
set_positive word (e ∷ es) v h = at (set_positive word es v h.1) (at_word word e.0)
  where
    at : Positive (records_of (set_value (at_word word) es (v + 1))) → (b : Bool)
        → Positive (records_of (cond b ((e.0, v + 1) ∷ es) (e ∷ set_value (at_word word) es (v + 1))))
    at rest true = (omega arith, h.1)
    at rest false = (h.0, rest)

insert_positive : (key : Vec ℕ) (es : List (Vec ℕ × ℕ)) → Positive (records_of es)
    → Positive (records_of (insert_entry by_items es key 1))
insert_positive key [] h = (omega arith, tt)
insert_positive key (e ∷ es) h = at (insert_positive key es h.1) (by_items key e.0)
  where
    at : Positive (records_of (insert_entry by_items es key 1)) → (o : Ordering)
        → Positive (records_of (match_ordering o ((key, 1) ∷ e ∷ es) ((e.0, 1) ∷ es) (e ∷ insert_entry by_items es key 1)))
    at rest Less = (omega arith, h)
    at rest Equal = (omega arith, h.1)
    at rest Greater = (h.0, rest)

pub positive_set : (word : List ℕ) (es : List (Vec ℕ × ℕ)) (v : ℕ) → All (λ r. 0 < r.1) (records_of es)
    → All (λ r. 0 < r.1) (records_of (set_value (at_word word) es (v + 1)))
positive_set word es v h =
    All-from_recursion (λ r. 0 < r.1) (records_of (set_value (at_word word) es (v + 1)))
    (set_positive word es v (recursion_from_All (λ r. 0 < r.1) (records_of es) h))

pub positive_insert : (key : Vec ℕ) (es : List (Vec ℕ × ℕ)) → All (λ r. 0 < r.1) (records_of es)
    → All (λ r. 0 < r.1) (records_of (insert_entry by_items es key 1))
positive_insert key es h =
    All-from_recursion (λ r. 0 < r.1) (records_of (insert_entry by_items es key 1))
    (insert_positive key es (recursion_from_All (λ r. 0 < r.1) (records_of es) h))

words_less : (k : Vec ℕ) (es : List (Vec ℕ × ℕ)) → AllByRecursion (λ y. by_items k y ≡ Less) (map (λ e. e.0) es)
    → AllByRecursion (λ y. slice_cmp nat_cmp k.items y ≡ Less) (map (λ r. r.0) (records_of es))
words_less k [] h = tt
words_less k (e ∷ es) h = (h.0, words_less k es h.1)

-- The words of a map are sorted.
pub words_sorted : (es : List (Vec ℕ × ℕ)) → IsStrictlySortedBy by_items (map (λ e. e.0) es)
    → IsStrictlySortedBy (slice_cmp nat_cmp) (map (λ r. r.0) (records_of es))
unfolding IsStrictlySortedBy
words_sorted [] h = tt
words_sorted (e ∷ es) h = (words_less e.0 es h.0, words_sorted es h.1)

-- A word of a map was counted as often as its value says.
pub total_found : (word : List ℕ) (es : List (Vec ℕ × ℕ)) (v : ℕ) → IsStrictlySortedBy by_items (map (λ e. e.0) es)
    → Some v ≡ lookup (at_word word) es → total_count (records_of es) word ≡ v
unfolding IsStrictlySortedBy
total_found word [] v sorted found = search rules
total_found word (e ∷ es) v sorted found = at (total_found word es v sorted.1) (at_word word e.0) refl found
  where
    at : (Some v ≡ lookup (at_word word) es → total_count (records_of es) word ≡ v) → (b : Bool) → at_word word e.0 ≡ b
        → Some v ≡ cond b (Some e.1) (lookup (at_word word) es) → total_count (records_of (e ∷ es)) word ≡ v
    at rest true is found =
        let same : word ≡ e.0.items = same_word word e.0 is in
        let count : e.1 ≡ v = search rules in
        let none = absent e.0.items (records_of es) (words_less e.0 es sorted.0) in
        rw same (omega (arith, present (e.0.items, e.1) (records_of es), none, count))
    at rest false is found =
        let other : bytes_eq word e.0.items ≡ false = sym (is_eq-slice_cmp word e.0.items) ∙ is in
        rw (total_cons (e.0.items, e.1) (records_of es) word, other) (omega (arith, rest found))

-- Any other word was not counted.
pub total_missing : (word : List ℕ) (es : List (Vec ℕ × ℕ)) → lookup (at_word word) es ≡ None → total_count (records_of es) word ≡ 0
total_missing word [] none = total_none word
total_missing word (e ∷ es) none = at (total_missing word es) (at_word word e.0) refl none
  where
    at : (lookup (at_word word) es ≡ None → total_count (records_of es) word ≡ 0) → (b : Bool) → at_word word e.0 ≡ b
        → cond b (Some e.1) (lookup (at_word word) es) ≡ None → total_count (records_of (e ∷ es)) word ≡ 0
    at rest true is none = search rules
    at rest false is none =
        let other : bytes_eq word e.0.items ≡ false = sym (is_eq-slice_cmp word e.0.items) ∙ is in
        rw (total_cons (e.0.items, e.1) (records_of es) word, other) (omega (arith, rest none))
