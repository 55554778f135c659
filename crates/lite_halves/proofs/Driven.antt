-- What a loop over calls has come to: so many were made, and their answers appended.
use Rattle.std.specs.Prelude.{◌≡◌, ◌≤◌, ◌<◌, ◌+◌, ℕ, List, [], ◌∷◌, ◌++◌, length, map, true, false, Result, Ok, Err}
use Rattle.lite_halves.specs.Uses.{get_or, refl, sym, ap, append-nil, append_assoc, length-append, add-zero, arith, map-append, sum_by-append}
use Rattle.lite_halves.specs.Uses.{AllocError, ReadMark, WriteMark, Runs}
use Rattle.std.proofs.lemmas.List.{get_or_default, length-map}
use Rattle.std.specs.Result.{IsErr}
use Rattle.lite_halves.specs.declared.entry.Answer.{Answer}
use Rattle.lite_halves.specs.declared.entry.Call.{Call}
use Rattle.lite_halves.specs.Counts.{CountsOn, HalfCounts, HalfDrives, Makes, count_moved, moved_by}
use Rattle.lite_halves.specs.Drive.{AsksAt, CallsAnswered, Drives, pairs}
use Rattle.lite_halves.specs.Entry.{AllFit, FitsCall, Note, Request, Told, asked_of, told_in, told_of}
use Rattle.lite_halves.specs.Journal.{Adds, AddsAll, AsksMemory, Chronicle}
use Rattle.lite_halves.specs.Laws.Entry.{fit_both}
use Rattle.lite_halves.specs.Laws.Journal.{adds_both, adds_none, adds_one}

pairs_none : (xs : List Request) → pairs xs [] ≡ []
pairs_none [] = refl
pairs_none (x ∷ xs) = refl

pairs_at : {C : Type 0} (ask : C → Request) (xs : List C) (ts : List Told) (t : Told) (d : C) → length ts < length xs
    → pairs (map ask xs) (ts ++ t ∷ []) ≡ pairs (map ask xs) ts ++
    (let n : Note = record { asked = ask (get_or xs (length ts) d); told = t } in n) ∷ []
pairs_at ask [] ts t d inside = absurd (omega (arith, inside))
pairs_at ask (x ∷ []) [] t d inside = refl
pairs_at ask (x ∷ y ∷ xs) [] t d inside = refl
pairs_at ask (x ∷ xs) (u ∷ ts) t d inside =
    ap (λ (l : List Note). record { asked = ask x; told = u } ∷ l) (pairs_at ask xs ts t d (omega (arith, inside)))

-- one call more, the n-th, and its answer
pairs_more : {C : Type 0} (ask : C → Request) (xs : List C) (ts : List Told) (t : Told) (x d : C) (n : ℕ)
    → length ts ≡ n → n < length xs → get_or xs n d ≡ x
    → pairs (map ask xs) (ts ++ t ∷ []) ≡ pairs (map ask xs) ts ++
    (let e : Note = record { asked = ask x; told = t } in e) ∷ []
pairs_more ask xs ts t x d n many inside is = rw (← is, ← many) (pairs_at ask xs ts t d (omega arith))

-- so many answers, of calls that made what `Made` says, were appended to those in `before`
pub record Driven (Made : List Told → Type 0) (before after : List Answer) (n : ℕ) : Type 0 where
  pub told : List Told
  pub out : told_in after ≡ told_in before ++ told
  pub many : length told ≡ n
  pub made : Made told

driven_none : {Made : List Told → Type 0} (out : List Answer) → Made [] → Driven Made out out 0
driven_none out h = record { told = []; out = sym (append-nil (told_in out)); many = refl; made = h }

driven_more : {Made Next : List Told → Type 0} (before out more after : List Answer) (answer : Answer) (n : ℕ)
    (d : Driven Made before out n) → Next (d.told ++ told_of answer ∷ []) → more ≡ out
    → after ≡ more ++ answer ∷ [] → Driven Next before after (n + 1)
driven_more before out more after answer n d next same pushed = record {
  told = d.told ++ told_of answer ∷ [];
  out = rw (pushed, map-append told_of more (answer ∷ []), same, d.out, append_assoc);
  many = omega (arith, d.many, length-append d.told (told_of answer ∷ []));
  made = next;
}

no_error : false ≡ true → ⊥
no_error is = cc

module _ {C : Type 0} (ask : C → Request) (xs : List C) (told : List Told) (n : ℕ) (many : length told ≡ n) where
  -- an allocation failed at the n-th call
  fewer_answered : (r : Result (Unit {0}) AllocError) → IsErr r → n < length xs → CallsAnswered r (map ask xs) told
  fewer_answered (Ok u) fails inside = absurd (no_error fails)
  fewer_answered (Err e) fails inside = omega (arith, many, length-map xs ask)

  all_answered : length xs ≤ n → n ≤ length xs → CallsAnswered (Ok tt) (map ask xs) told
  all_answered most all = omega (arith, many, length-map xs ask)

-- a half's calls with these answers fit, and were counted from a to b
abbrev pub HalfMade : List Request → HalfCounts → HalfCounts → List Told → Type 0
HalfMade asked a b told = AllFit (pairs asked told) × (b.calls ≡ a.calls + length told)
    × (b.bytes ≡ a.bytes + count_moved told) × (b.made ≡ a.made ++ pairs asked told)

module _ {C : Type 0} (ask : C → Request) (xs : List C) where
  pub half_none : (a : HalfCounts) (out : List Answer) → Driven (HalfMade (map ask xs) a a) out out 0
  half_none a out = driven_none out (
    rw pairs_none tt,
    sym (add-zero a.calls),
    sym (add-zero a.bytes),
    rw pairs_none (sym (append-nil a.made)),
  )

  -- one call more, of x
  pub half_more : (a b c : HalfCounts) (before out more after : List Answer) (answer : Answer) (n : ℕ) (x d : C)
      → Driven (HalfMade (map ask xs) a b) before out n → n < length xs → get_or xs n d ≡ x
      → FitsCall (ask x) (told_of answer) → CountsOn 1 (moved_by (told_of answer)) b c
      → Makes b (record { asked = ask x; told = told_of answer }) c
      → more ≡ out → after ≡ more ++ answer ∷ [] → Driven (HalfMade (map ask xs) a c) before after (n + 1)
  half_more a b c before out more after answer n x d so_far inside is fits counts makes =
      let t = told_of answer in
      let made = so_far.made in
      driven_more before out more after answer n so_far (
        rw (pairs_more ask xs so_far.told t x d n so_far.many inside is) (fit_both _ (_ ∷ []) made.0 (fits, tt)),
        omega (arith, counts.0, made.1, length-append so_far.told (t ∷ [])),
        omega (arith, counts.1, made.2, sum_by-append moved_by so_far.told (t ∷ [])),
        rw (pairs_more ask xs so_far.told t x d n so_far.many inside is, makes, made.3, append_assoc),
      )

  -- an allocation failed at the n-th call
  pub half_fails : (r : Result (Unit {0}) AllocError) (a b c : HalfCounts) (before out after : List Answer) (n : ℕ)
      → Driven (HalfMade (map ask xs) a b) before out n → n < length xs → IsErr r → c ≡ b → after ≡ out
      → HalfDrives (map ask xs) (told_in before) r a c (told_in after)
  half_fails r a b c before out after n d inside fails stays same =
      let made = d.made in
      let fewer = fewer_answered ask xs d.told n d.many r fails inside in
      rw (same, stays) (d.told, d.out, fewer, made.0, made.1, made.2, made.3)

  -- all calls were made
  pub half_ends : (a b : HalfCounts) (before out : List Answer) (n : ℕ)
      → Driven (HalfMade (map ask xs) a b) before out n → length xs ≤ n → n ≤ length xs
      → HalfDrives (map ask xs) (told_in before) (Ok tt) a b (told_in out)
  half_ends a b before out n d most all =
      let made = d.made in
      (d.told, d.out, all_answered ask xs d.told n d.many most all, made.0, made.1, made.2, made.3)

module _ {T : Type 0} (reads : Runs ReadMark T) (writes : Runs WriteMark T) {C : Type 0} (ask : C → Request)
    (xs : List C) where
  -- the journal's calls with these answers were added
  abbrev pub JournalMade : Chronicle T → Chronicle T → List Told → Type 0
  JournalMade a b told = AddsAll reads writes a (pairs (map ask xs) told) b

  pub journal_none : (a : Chronicle T) (out : List Answer) → Driven (JournalMade a a) out out 0
  journal_none a out = driven_none out (rw pairs_none (adds_none reads writes a))

  pub journal_more : (a b c : Chronicle T) (before out more after : List Answer) (answer : Answer) (n : ℕ) (x d : C)
      → Driven (JournalMade a b) before out n → n < length xs → get_or xs n d ≡ x
      → Adds reads writes b (record { asked = ask x; told = told_of answer }) c
      → more ≡ out → after ≡ more ++ answer ∷ [] → Driven (JournalMade a c) before after (n + 1)
  journal_more a b c before out more after answer n x d so_far inside is adds =
      driven_more before out more after answer n so_far
      (rw (pairs_more ask xs so_far.told (told_of answer) x d n so_far.many inside is)
      (adds_both reads writes so_far.made (adds_one reads writes adds)))

  pub journal_fails : (r : Result (Unit {0}) AllocError) (a b c : Chronicle T) (before out after : List Answer) (n : ℕ)
      → Driven (JournalMade a b) before out n → n < length xs → IsErr r → c ≡ b → after ≡ out
      → Drives reads writes a (map ask xs) (told_in before) r c (told_in after)
  journal_fails r a b c before out after n d inside fails stays same =
      rw (same, stays) (d.told, d.out, fewer_answered ask xs d.told n d.many r fails inside, d.made)

  pub journal_ends : (a b : Chronicle T) (before out : List Answer) (n : ℕ) → Driven (JournalMade a b) before out n
      → length xs ≤ n → n ≤ length xs → Drives reads writes a (map ask xs) (told_in before) (Ok tt) b (told_in out)
  journal_ends a b before out n d most all =
      (d.told, d.out, all_answered ask xs d.told n d.many most all, d.made)

-- a call that was refused, the n-th, asked for memory
pub asks_at : {T : Type 0} (j k : Chronicle T) (calls : List Call) (i n : ℕ) (x : Call) → AsksMemory j (asked_of x)
    → k ≡ j → x ≡ get_or calls i x → i < length calls → n ≡ i → AsksAt k calls n
asks_at j k calls i n x asks same is inside at = λ d. rw (same, at, get_or_default calls i d x inside, ← is) asks
