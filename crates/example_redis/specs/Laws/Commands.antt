-- Laws of what the commands do and say.
use Rattle.std.specs.Prelude.{◌≡◌, ◌≢◌, ◌≤◌, ◌<◌, ◌+◌, ℕ, Bool, true, false, List, [], ◌∷◌, Some, Result, Ok}
use Rattle.std.specs.Prelude.{◌++◌, ◌-◌, codes, drop, if◌then◌else◌, length, map, min, nat_lt, pos, take}
use Rattle.std.specs.Char.{to_ascii_lowercase}
use Rattle.std.specs.declared.alloc.AllocError.{AllocError}
use Rattle.std.specs.declared.alloc.Global.{Global}
use Rattle.std.specs.declared.vec.Vec.{Vec}
use Rattle.std.proofs.Common.{◌∙◌, ap, arith, get_or, inl, inr, refl, subst, sym}
use Rattle.std.proofs.lemmas.Bool.{cases_lt, eqb-true}
use Rattle.std.proofs.lemmas.List.{length-map, take_all}
use Rattle.example_redis.specs.Commands.{IsDone, Said, answer, answer_or_refuse, delete_all, does, perform, refuse_in, said, set_done, shown_words, takes, texts, verb, wrong_count}
use Rattle.example_redis.specs.Laws.Replies.{array_count}
use Rattle.example_redis.specs.Store.{HeldValues, fits, put}
use Rattle.example_redis.specs.declared.commands.Outcome.{Outcome}
use Rattle.example_redis.specs.declared.reply.Reply.{Reply}
use Rattle.example_redis.specs.declared.reply.Reply.TheVariants.{Array}
use Rattle.example_redis.specs.declared.verb.Verb.{Verb}
use Rattle.example_redis.specs.declared.verb.Verb.TheVariants.{Client, Config, Delete, Describe, Discard, Echo, Exec, Get, Multi, Ping, Quit, Select, Set, Size, Unknown, Web}

-- Words behind a key and its value.
pub set_many : (h g : HeldValues) (name : List ℕ) (r : Result Outcome AllocError) (ws : List (Vec ℕ Global))
    → 2 < length ws → IsDone h (Said.wrong (codes "ERR syntax error"), true, h) r g → IsDone h (does h name Set (texts ws)) r g
set_many h g name r [] many d = absurd (omega (arith, many))
set_many h g name r (a ∷ []) many d = absurd (omega (arith, many))
set_many h g name r (a ∷ b ∷ []) many d = absurd (omega (arith, many))
set_many h g name r (a ∷ b ∷ e ∷ ws) many d = d

-- A number of words that a command does not take.
pub not_taken : (h g : HeldValues) (name : List ℕ) (v : Verb) (ws : List (Vec ℕ Global)) (r : Result Outcome AllocError)
    → takes v (length ws) ≡ false → IsDone h (wrong_count v, true, h) r g → IsDone h (answer h name v (texts ws)) r g
not_taken h g name v ws r other d =
    subst (λ (b : Bool). IsDone h (if b then does h name v (texts ws) else (wrong_count v, true, h)) r g)
    (sym (ap (takes v) (length-map ws (λ w. w.items)) ∙ other)) d

-- As many bytes as are shown.
pub first_bytes : (xs : List ℕ) (m n : ℕ) → m ≡ min (length xs) n → take m xs ≡ take n xs
first_bytes xs m n is =
    elim (cases_lt (length xs) n) [
      | inl short ↦ take_all m xs (omega (arith, is, short)) ∙ sym (take_all n xs (omega (arith, short)))
      | inr long ↦ let same : m ≡ n = omega (arith, is, long) in ap (λ k. take k xs) same
    ]

-- The first word of a request names its command.
pub performed : (h g : HeldValues) (ws : List (Vec ℕ Global)) (a : Vec ℕ Global) (name : List ℕ) (v : Verb) (r : Result Outcome AllocError)
    → (length ws ≡ 0 → ⊥) → a ≡ get_or ws 0 a → name ≡ a.items → v ≡ verb (map to_ascii_lowercase name)
    → IsDone h (answer_or_refuse h name v (texts (take (length ws - 1) (drop 1 ws)))) r g → IsDone h (perform h (texts ws)) r g
performed h g [] a name v r some first named is d = absurd (some refl)
performed h g (x ∷ ws) a name v r some first named is d =
    let all : take (length (x ∷ ws) - 1) ws ≡ ws = take_all (length (x ∷ ws) - 1) ws (omega arith) in
    let same : name ≡ x.items = named ∙ ap (λ w. w.items) first in
    rw (← same, ← is) (subst (λ l. IsDone h (answer_or_refuse h name v (texts l)) r g) all d)

-- The value is set, or there is no room for it.
pub set_both : (h g : HeldValues) (name : List ℕ) (a b : Vec ℕ Global) (r : Result Outcome AllocError) (ws : List (Vec ℕ Global))
    → takes Set (length ws) ≡ true → length ws ≤ 2 → a ≡ get_or ws 0 a → b ≡ get_or ws 1 b
    → IsDone h (set_done h a.items b.items) r g → IsDone h (does h name Set (texts ws)) r g
set_both h g name a b r [] taken few first second d = absurd (cc taken)
set_both h g name a b r (x ∷ []) taken few first second d = absurd (cc taken)
set_both h g name a b r (x ∷ y ∷ []) taken few first second d = rw (← first, ← second) d
set_both h g name a b r (x ∷ y ∷ z ∷ ws) taken few first second d = absurd (omega (arith, few))

-- There is no room for a value.
pub set_refused : (h g : HeldValues) (key value : List ℕ) (r : Result Outcome AllocError) → fits (put h key value) ≡ false → g ≡ h
    → IsDone h (Said.wrong (codes "OOM command not allowed when used memory > 'maxmemory'."), true, h) r h
    → IsDone h (set_done h key value) r g
set_refused h g key value r full same d = rw (full, same) d

-- A transaction is refused.
pub multi_alone : (h g : HeldValues) (name : List ℕ) (r : Result Outcome AllocError) (ws : List (Vec ℕ Global))
    → takes Multi (length ws) ≡ true → IsDone h (does h name Multi []) r g → IsDone h (does h name Multi (texts ws)) r g
multi_alone h g name r [] taken d = d
multi_alone h g name r (a ∷ ws) taken d =
    let none : length (a ∷ ws) ≡ 0 = eqb-true (length (a ∷ ws)) 0 taken in
    absurd (omega (arith, none))

-- A command within a transaction that is refused, but those that end it or the session.
pub not_performed : (h g : HeldValues) (v : Verb) (r : Result Outcome AllocError) → v ≢ Exec → v ≢ Discard → v ≢ Quit → v ≢ Web
    → IsDone h (Said.wrong (codes "ERR not performed, since MULTI was refused"), true, h) r g → IsDone h (refuse_in h v) r g
not_performed h g Exec r a b c e d = absurd (a refl)
not_performed h g Discard r a b c e d = absurd (b refl)
not_performed h g Quit r a b c e d = absurd (c refl)
not_performed h g Web r a b c e d = absurd (e refl)
not_performed h g Ping r a b c e d = d
not_performed h g Echo r a b c e d = d
not_performed h g Set r a b c e d = d
not_performed h g Get r a b c e d = d
not_performed h g Delete r a b c e d = d
not_performed h g Size r a b c e d = d
not_performed h g Select r a b c e d = d
not_performed h g Describe r a b c e d = d
not_performed h g Config r a b c e d = d
not_performed h g Client r a b c e d = d
not_performed h g Multi r a b c e d = d
not_performed h g Unknown r a b c e d = d

-- No more words are shown.
pub shown_enough : (shown : List ℕ) (words : List (List ℕ)) → nat_lt (length shown) 128 ≡ false → shown_words shown words ≡ shown
shown_enough shown [] enough = refl
shown_enough shown (word ∷ words) enough = rw enough refl

-- A further word is shown.
pub shown_more : (shown word : List ℕ) (words : List (List ℕ)) → nat_lt (length shown) 128 ≡ true
    → shown_words shown (word ∷ words) ≡ shown_words (shown ++ codes "'" ++ take (128 - length shown) word ++ codes "' ") words
shown_more shown word words few = rw few refl

-- An array is said by its length.
pub said_array : (items : Vec Reply Global) → said (Some (Array items)) ≡ Said.array (length items.items)
said_array items = ap Said.array (array_count items)

-- All keys were gone through.
pub delete_right : (h g : HeldValues) (name : List ℕ) (ws rest : List (Vec ℕ Global)) (count : ℕ) (o : Outcome)
    → (length ws ≡ 0 → ⊥) → rest ≡ [] → (delete_all h (texts ws)).0 ≡ count + (delete_all g (texts rest)).0
    → (delete_all h (texts ws)).1 ≡ (delete_all g (texts rest)).1 → said o.reply ≡ Said.number (pos count) → o.goes_on ≡ true
    → IsDone h (does h name Delete (texts ws)) (Ok o) g
delete_right h g name [] rest count o some none total left reply on = absurd (some refl)
delete_right h g name (a ∷ ws) rest count o some none total left reply on =
    let amount : (delete_all h (texts (a ∷ ws))).0 ≡ count =
    total ∙ ap (λ l. count + (delete_all g (texts l)).0) none ∙ omega arith in
    let held_then : (delete_all h (texts (a ∷ ws))).1 ≡ g = left ∙ ap (λ l. (delete_all g (texts l)).1) none in
    (reply ∙ ap (λ n. Said.number (pos n)) (sym amount), on, sym held_then)
