-- A word at the front of some bytes is the only one.
use Rattle.std.specs.Prelude.{◌≡◌, ◌≢◌, ◌≤◌, ◌<◌, ◌+◌, ◌-◌, ◌^◌, ℕ, List, [], ◌∷◌, ◌++◌, Option}
use Rattle.std.specs.Prelude.{Some, None, Result, Ok, Err, drop, length, replicate, take}
use Rattle.std.proofs.Common.{◌∙◌, ap, append_assoc, arith, get_or, length-append, refl, sym}
use Rattle.std.proofs.lemmas.List.{drop_all, drop_more, get_or-drop, get_or_append_left, get_or-append-add}
use Rattle.std.proofs.lemmas.List.{length-drop, length-replicate, length-take-le, take-append-drop, take_all}
use Rattle.framed.specs.Pieces.{same_fronts}
use Rattle.example_redis.specs.Bytes.{number_line, word_bytes}
use Rattle.example_redis.specs.Laws.Numbers.{line_short, one_number}
use Rattle.example_redis.specs.Reading.{EndsWord, HasNumber, HasWord, ReadsWord}
use Rattle.example_redis.specs.declared.error.RequestError.{RequestError}
use Rattle.example_redis.specs.declared.error.RequestError.TheVariants.{Malformed}
use Rattle.example_redis.specs.declared.limits.Limits.{Limits}
use Rattle.example_redis.specs.declared.word.Place.{Place}

-- A word's first line, and what is behind it.
pub word_here : (n : ℕ) (body word rest : List ℕ) → n < 2 ^ 64 → length word < 2 ^ 64 → 36 ∷ (number_line n ++ body) ≡ word_bytes word ++ rest
    → (n ≡ length word) × (body ≡ word ++ 13 ∷ 10 ∷ rest)
word_here n body word rest small short e =
    let tails : number_line n ++ body ≡ (number_line (length word) ++ (word ++ 13 ∷ 10 ∷ [])) ++ rest = cc e in
    let parts = one_number n (length word) body ((word ++ 13 ∷ 10 ∷ []) ++ rest) small short
    (tails ∙ append_assoc (number_line (length word)) (word ++ 13 ∷ 10 ∷ []) rest) in
    (parts.0, parts.1 ∙ append_assoc word (13 ∷ 10 ∷ []) rest)

pub one_word : (v w p q : List ℕ) → length v < 2 ^ 64 → length w < 2 ^ 64 → word_bytes v ++ p ≡ word_bytes w ++ q → (v ≡ w) × (p ≡ q)
one_word v w p q small short e =
    let parts = word_here (length v) ((v ++ 13 ∷ 10 ∷ []) ++ p) w q small short
    (ap (λ l. 36 ∷ l) (sym (append_assoc (number_line (length v)) (v ++ 13 ∷ 10 ∷ []) p)) ∙ e) in
    let both = same_fronts v w (13 ∷ 10 ∷ p) (13 ∷ 10 ∷ q) parts.0 (sym (append_assoc v (13 ∷ 10 ∷ []) p) ∙ parts.1) in
    (both.0, cc both.1)

module _ (xs : List ℕ) (n start : ℕ) (small : n < 2 ^ 64) (line : xs ≡ 36 ∷ (number_line n ++ drop start xs)) where
  here : (more : List ℕ) → xs ++ more ≡ 36 ∷ (number_line n ++ (drop start xs ++ more))
  here more = ap (λ l. l ++ more) line ∙ ap (λ l. 36 ∷ l) (append_assoc (number_line n) (drop start xs) more)

  -- With this word behind the first line.
  there : (word more : List ℕ) → length word ≡ n → drop start xs ++ more ≡ word ++ 13 ∷ 10 ∷ [] → xs ++ more ≡ word_bytes word
  there word more long is =
      here more ∙ ap (λ l. 36 ∷ (number_line n ++ l)) is ∙ ap (λ m. 36 ∷ (number_line m ++ (word ++ 13 ∷ 10 ∷ []))) (sym long)

  pub word_short : length xs ≤ start + n
      → (word more : List ℕ) × (length word ≡ n) × (0 < length more) × (xs ++ more ≡ word_bytes word) × (length xs < start + n + 2)
  word_short short =
      let body = drop start xs in
      let missing : List ℕ = replicate (n - length body) 0 in
      let long : length (body ++ missing) ≡ n =
      omega (arith, length-drop start xs, length-append body missing, length-replicate {A = ℕ} (n - length body) 0) in (
        body ++ missing,
        missing ++ 13 ∷ 10 ∷ [],
        long,
        omega (arith, length-append missing (13 ∷ 10 ∷ [])),
        there (body ++ missing) (missing ++ 13 ∷ 10 ∷ []) long (sym (append_assoc body missing (13 ∷ 10 ∷ []))),
        omega (arith, short),
      )

  byte_here : (k : ℕ) (more word rest : List ℕ) → length word < 2 ^ 64 → xs ++ more ≡ word_bytes word ++ rest → start + n + k < length xs
      → get_or xs (start + n + k) 0 ≡ get_or (13 ∷ 10 ∷ rest) k 0
  byte_here k more word rest short e inside =
      let parts = word_here n (drop start xs ++ more) word rest small short (sym (here more) ∙ e) in
      let same : start + (n + k) ≡ start + n + k = omega arith in
      ap (λ i. get_or xs i 0) (sym same) ∙ sym (get_or-drop start xs (n + k) 0)
      ∙ sym (get_or_append_left (drop start xs) more 0 (n + k) (omega (arith, length-drop start xs)))
      ∙ ap (λ l. get_or l (n + k) 0) parts.1 ∙ ap (λ m. get_or (word ++ 13 ∷ 10 ∷ rest) (m + k) 0) parts.0
      ∙ get_or-append-add word (13 ∷ 10 ∷ rest) k 0

  pub no_return : start + n < length xs → get_or xs (start + n) 0 ≢ 13 → (more : List ℕ) → HasWord (xs ++ more) → ⊥
  no_return inside other more (word, rest, short, e) =
      let same : start + n + 0 ≡ start + n = omega arith in
      other (ap (λ i. get_or xs i 0) (sym same) ∙ byte_here 0 more word rest short e (omega arith))

  pub no_feed : start + n + 1 < length xs → get_or xs (start + n + 1) 0 ≢ 10 → (more : List ℕ) → HasWord (xs ++ more) → ⊥
  no_feed inside other more (word, rest, short, e) = other (byte_here 1 more word rest short e inside)

  module _ (inside : start + n < length xs) (return : get_or xs (start + n) 0 ≡ 13) where
    -- The word.
    abbrev word : List ℕ
    word = take n (drop start xs)

    long : length word ≡ n
    long = length-take-le n (drop start xs) (omega (arith, length-drop start xs))

    body_is : drop start xs ≡ word ++ 13 ∷ drop (n + 1) (drop start xs)
    body_is =
        sym (take-append-drop n (drop start xs))
        ∙ ap (λ l. word ++ l) (drop_more (drop start xs) n 0 (omega (arith, length-drop start xs)))
        ∙ ap (λ b. word ++ b ∷ drop (n + 1) (drop start xs)) (get_or-drop start xs n 0 ∙ return)

    pub return_last : length xs ≡ start + n + 1
        → (word more : List ℕ) × (length word ≡ n) × (0 < length more) × (xs ++ more ≡ word_bytes word) × (length xs < start + n + 2)
    return_last last = (
      word,
      10 ∷ [],
      long,
      omega arith,
      there word (10 ∷ []) long (
          ap (λ l. l ++ 10 ∷ []) body_is
          ∙ append_assoc word (13 ∷ drop (n + 1) (drop start xs)) (10 ∷ [])
          ∙ ap (λ l. word ++ 13 ∷ (l ++ 10 ∷ [])) (drop_all (n + 1) (drop start xs) (omega (arith, length-drop start xs, last)))
          ),
      omega (arith, last),
    )

    pub word_whole : start + n + 1 < length xs → get_or xs (start + n + 1) 0 ≡ 10
        → (v rest : List ℕ) × (xs ≡ word_bytes v ++ rest) × (length v ≡ n) × (v ≡ take n (drop start xs))
    word_whole more feed =
        let rest = drop (n + 1 + 1) (drop start xs) in
        let behind : drop start xs ≡ word ++ 13 ∷ 10 ∷ rest =
        body_is ∙ ap (λ l. word ++ 13 ∷ l) (
        drop_more (drop start xs) (n + 1) 0 (omega (arith, length-drop start xs))
        ∙ ap (λ b. b ∷ rest) (get_or-drop start xs (n + 1) 0 ∙ ap (λ i. get_or xs i 0) (omega arith) ∙ feed)
        ) in (
          word,
          rest,
          line ∙ ap (λ l. 36 ∷ (number_line n ++ l)) (behind ∙ sym (append_assoc word (13 ∷ 10 ∷ []) rest))
              ∙ ap (λ l. 36 ∷ l) (sym (append_assoc (number_line n) (word ++ 13 ∷ 10 ∷ []) rest))
              ∙ ap (λ m. 36 ∷ ((number_line m ++ (word ++ 13 ∷ 10 ∷ [])) ++ rest)) (sym long),
          long,
          refl,
        )

-- A word whose first line is not whole.
pub word_begun : (xs : List ℕ) (max room : ℕ) → length xs ≡ 0
    → (word more : List ℕ) × (length word ≤ max) × (length word < 2 ^ 64) × (0 < length more) × (xs ++ more ≡ word_bytes word)
    × (length xs ≤ room + 12)
word_begun [] max room none = ([], word_bytes [], omega arith, omega arith, omega arith, refl, omega arith)
word_begun (b ∷ xs) max room none = absurd (omega (arith, none))

pub line_begun : (xs tail more : List ℕ) (max room n : ℕ) → xs ≡ 36 ∷ tail → n ≤ max → n < 2 ^ 32 → 0 < length more → tail ++ more ≡ number_line n
    → (word more : List ℕ) × (length word ≤ max) × (length word < 2 ^ 64) × (0 < length more) × (xs ++ more ≡ word_bytes word)
    × (length xs ≤ room + 12)
line_begun xs tail more max room n first low small some is =
    let word : List ℕ = replicate n 0 in
    let long : length word ≡ n = length-replicate n 0 in
    let behind = word ++ 13 ∷ 10 ∷ [] in
    let short = line_short tail more n small some is in (
      word,
      more ++ behind,
      omega (arith, long, low),
      omega (arith, long, small),
      omega (arith, some, length-append more behind),
      ap (λ l. l ++ (more ++ behind)) first ∙ ap (λ l. 36 ∷ l) (sym (append_assoc tail more behind) ∙ ap (λ l. l ++ behind) is)
          ∙ ap (λ m. 36 ∷ (number_line m ++ behind)) (sym long),
      omega (arith, short, ap length first),
    )

pub no_line_no_word : (xs tail : List ℕ) → xs ≡ 36 ∷ tail → ((more : List ℕ) → HasNumber (tail ++ more) → ⊥)
    → (more : List ℕ) → HasWord (xs ++ more) → ⊥
no_line_no_word xs tail first none more (word, rest, short, e) =
    let both : 36 ∷ (tail ++ more) ≡ word_bytes word ++ rest = sym (ap (λ l. l ++ more) first) ∙ e in
    let tails : tail ++ more ≡ (number_line (length word) ++ (word ++ 13 ∷ 10 ∷ [])) ++ rest = cc both in
    none more (length word, (word ++ 13 ∷ 10 ∷ []) ++ rest, short, tails ∙ append_assoc (number_line (length word)) (word ++ 13 ∷ 10 ∷ []) rest)

pub length_word : (word : List ℕ) → length (word_bytes word) ≡ length (number_line (length word)) + length word + 3
length_word word =
    omega (arith, length-append (number_line (length word)) (word ++ 13 ∷ 10 ∷ []), length-append word (13 ∷ 10 ∷ []))

-- What is found at the end of a word says what the word is.
pub word_by_end : (limits : Limits) (room : ℕ) (place : Place) (xs : List ℕ) (r : Result (Option Place) RequestError)
    → place.len ≤ limits.word → place.len < 2 ^ 32 → place.start ≡ length (number_line place.len) + 1 → place.start + place.len + 2 ≤ room
    → EndsWord place xs r → ReadsWord limits room xs r
word_by_end limits room place xs (Ok (Some found)) low small start fits (same, word, rest, is, long, front) =
    let line : length (number_line (length word)) ≡ length (number_line place.len) = ap (λ n. length (number_line n)) long in
    let len : found.len ≡ place.len = ap (λ p. p.len) same in
    let from : found.start ≡ place.start = ap (λ p. p.start) same in (
      word,
      rest,
      is,
      omega (arith, long, low),
      omega (arith, length_word word, long, line, start, fits),
      omega (arith, long, len),
      omega (arith, long, small),
      front ∙ ap (λ p. take p.len (drop p.start xs)) (sym same),
      omega (arith, length_word word, long, line, start, len, from),
    )
word_by_end limits room place xs (Ok None) low small start fits (word, more, long, some, is, short) =
    (word, more, omega (arith, long, low), omega (arith, long, small), some, is, omega (arith, short, fits))
word_by_end limits room place xs (Err Malformed) low small start fits h = h
word_by_end limits room place xs (Err e) low small start fits h = absurd h

-- The first byte, and the others.
pub first_and_others : (b : ℕ) (xs : List ℕ) → 0 < length xs → get_or xs 0 0 ≡ b → xs ≡ b ∷ take (length xs - 1) (drop 1 xs)
first_and_others b [] some is = absurd (omega (arith, some))
first_and_others b (x ∷ xs) some is =
    let all : take (length (x ∷ xs) - 1) xs ≡ xs = take_all (length (x ∷ xs) - 1) xs (omega arith) in
    ap (λ c. c ∷ xs) is ∙ ap (λ l. b ∷ l) (sym all)
