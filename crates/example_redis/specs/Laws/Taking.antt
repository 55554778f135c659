-- What is at the front of the bytes of a request.
use Rattle.std.specs.Prelude.{◌≡◌, ◌≤◌, ◌<◌, ◌+◌, ◌-◌, ◌^◌, ℕ, zero, suc, Bool, false, List, [], ◌∷◌, ◌++◌, None, Result, Ok, Err, length, map, replicate}
use Rattle.std.specs.List.{AllByRecursion, flat_map}
use Rattle.std.specs.Result.{IsErrAnd}
use Rattle.std.proofs.Common.{◌∙◌, ap, append_assoc, arith, length-append, refl, subst, sym}
use Rattle.std.proofs.lemmas.List.{length-map, length-replicate}
use Rattle.example_redis.specs.Bytes.{Message, message_bytes, message_words, number_line, request_bytes, request_front, word_bytes}
use Rattle.example_redis.specs.Laws.Requests.{AreShort, all_short, front_joins, front_split, no_star}
use Rattle.example_redis.specs.Laws.Numbers.{length_line, line_short}
use Rattle.example_redis.specs.Reading.{HasNumber, HasWord, ReadsWord}
use Rattle.example_redis.specs.Requests.{FitsRoom, IsBegun, IsHopeless, IsMessage, IsRequestOf, RefusesRequest, taken, words_length, words_of}
use Rattle.example_redis.specs.Taking.{TakenOn, TakesWord, whole_front, whole_room}
use Rattle.example_redis.specs.declared.error.RequestError.{RequestError}
use Rattle.example_redis.specs.declared.error.RequestError.TheVariants.{Cut, Io, LongLine, LongRequest, LongWord, Malformed, Memory, TooManyWords}
use Rattle.example_redis.specs.declared.limits.Limits.{Limits}
use Rattle.example_redis.specs.declared.requests.Request.{Request}
use Rattle.example_redis.specs.declared.requests.Requests.{Requests}

-- Words without bytes.
abbrev no_words : ℕ → List (List ℕ)
no_words n = replicate n []

empty_words : (n limit : ℕ) → AllByRecursion (λ w. length w ≤ limit) (no_words n) × AreShort (no_words n)
empty_words zero limit = (tt, tt)
empty_words (suc n) limit = let others = empty_words n limit in ((omega arith, others.0), (omega arith, others.1))

module _ (limits : Limits) (xs : List ℕ) where
  module _ (tail : List ℕ) (first : xs ≡ 42 ∷ tail) where
    pub line_begun : (n : ℕ) (more : List ℕ) → n ≤ limits.words → n < 2 ^ 32 → 0 < length more → tail ++ more ≡ number_line n
        → IsBegun limits limits.request xs
    line_begun n more few small some is =
        let words = no_words n in
        let long : length words ≡ n = length-replicate {A = List ℕ} n [] in
        let good = empty_words n limits.word in
        let behind = flat_map word_bytes words in
        let brief = line_short tail more n small some is in (
          Message.array words,
          more ++ behind,
          (omega (arith, long, few), good.0, (omega (arith, long, small), good.1)),
          omega (arith, some, length-append more behind),
          ap (λ l. l ++ (more ++ behind)) first ∙ ap (λ l. 42 ∷ l) (sym (append_assoc tail more behind) ∙ ap (λ l. l ++ behind) is)
              ∙ ap (λ m. 42 ∷ (number_line m ++ behind)) (sym long),
          omega (arith, brief, ap length first),
        )

    pub line_hopeless : ((more : List ℕ) → HasNumber (tail ++ more) → ⊥) → IsHopeless xs
    line_hopeless none (Message.line text) more rest one e =
        no_star text (tail ++ more) rest one.1 (sym (ap (λ l. l ++ more) first) ∙ e ∙ append_assoc text (10 ∷ []) rest)
    line_hopeless none (Message.array words) more rest sized e =
        let both : 42 ∷ (tail ++ more) ≡ request_bytes words ++ rest = sym (ap (λ l. l ++ more) first) ∙ e in
        let tails : tail ++ more ≡ (number_line (length words) ++ flat_map word_bytes words) ++ rest = cc both in
        let is = tails ∙ append_assoc (number_line (length words)) (flat_map word_bytes words) rest in
        none more (length words, flat_map word_bytes words ++ rest, sized.0, is)

-- With some words of a request, behind which at least one is missing.
module _ (limits : Limits) (ws : List (List ℕ)) (missing : ℕ) (xs : List ℕ) (some : 0 < missing)
    (few : length ws + missing ≤ limits.words) (small : length ws + missing < 2 ^ 32)
    (fit : AllByRecursion (λ w. length w ≤ limits.word) ws) (short : AreShort ws) where
  -- How many words the request has.
  abbrev total : ℕ
  total = length ws + missing

  -- The bytes of the request so far.
  abbrev front : List ℕ
  front = request_front total ws

  joined : (P : List ℕ → Type 0) (vs us : List (List ℕ)) → AllByRecursion P vs → AllByRecursion P us → AllByRecursion P (vs ++ us)
  joined P [] us a b = b
  joined P (v ∷ vs) us a b = (a.0, joined P vs us a.1 b)

  behind_short : (vs us : List (List ℕ)) → AreShort (vs ++ us) → AreShort us
  behind_short [] us a = a
  behind_short (v ∷ vs) us a = behind_short vs us a.1

  brief_front : (room : ℕ) → length xs ≤ room + 12 → length (front ++ xs) ≤ (words_length ws + room) + 25
  brief_front room brief =
      omega (arith, brief, length_line total small, length-append front xs, length-append (number_line total) (flat_map word_bytes ws))

  pub word_begun : (room : ℕ) (word more : List ℕ) → length word ≤ limits.word → length word < 2 ^ 64 → 0 < length more → xs ++ more ≡ word_bytes word
      → length xs ≤ room + 12 → IsBegun limits (words_length ws + room) (front ++ xs)
  word_begun room word more low sized any is brief =
      let others = no_words (missing - 1) in
      let good = empty_words (missing - 1) limits.word in
      let rest = word ∷ others in
      let words = ws ++ rest in
      let behind = flat_map word_bytes others in
      let count : total ≡ length words = omega (arith, length-append ws rest, length-replicate {A = List ℕ} (missing - 1) [], some) in (
        Message.array words,
        more ++ behind,
        (
          omega (arith, count, few),
          joined (λ w. length w ≤ limits.word) ws rest fit (low, good.0),
          (omega (arith, count, small), joined (λ w. length w < 2 ^ 64) ws rest short (sized, good.1)),
        ),
        omega (arith, any, length-append more behind),
        append_assoc front xs (more ++ behind) ∙ ap (λ l. front ++ l) (sym (append_assoc xs more behind) ∙ ap (λ l. l ++ behind) is)
            ∙ front_joins ws rest total ∙ ap (λ m. request_front m words) count,
        brief_front room brief,
      )

  pub word_hopeless : ((more : List ℕ) → HasWord (xs ++ more) → ⊥) → IsHopeless (front ++ xs)
  word_hopeless none (Message.line text) more rest one e =
      no_star text _ rest one.1 (sym (append_assoc front xs more) ∙ e ∙ append_assoc text (10 ∷ []) rest)
  word_hopeless none (Message.array words) more rest sized e =
      let (count, others, is, behind) =
      front_split total ws words (xs ++ more) rest (omega (arith, small)) short sized (omega arith) (sym (append_assoc front xs more) ∙ e) in
      first others (omega (arith, count, ap length is, length-append ws others)) is behind
    where
      first : (others : List (List ℕ)) → 0 < length others → words ≡ ws ++ others → xs ++ more ≡ flat_map word_bytes others ++ rest → ⊥
      first [] any is behind = omega (arith, any)
      first (w ∷ others) any is behind =
          let sizes = behind_short ws (w ∷ others) (subst AreShort is sized.1) in
          none more (w, flat_map word_bytes others ++ rest, sizes.0, behind ∙ append_assoc (word_bytes w) (flat_map word_bytes others) rest)

  pub word_refused : (room : ℕ) (e : RequestError) → ReadsWord limits room xs (Err e) → RefusesRequest limits (words_length ws + room) (front ++ xs) e
  word_refused room Malformed none = word_hopeless none
  word_refused room LongWord (n, rest, long, sized, is) =
      (total, n, ws, rest, omega (arith, some), long, sized, ap (λ l. front ++ l) is)
  word_refused room LongRequest (n, rest, sized, long, is) =
      (total, n, ws, rest, omega (arith, some), sized, omega (arith, long), ap (λ l. front ++ l) is)
  word_refused room TooManyWords h = absurd h
  word_refused room LongLine h = absurd h
  word_refused room Cut h = h
  word_refused room (Io e) h = h
  word_refused room Memory h = absurd h

-- What a decoder with an open request does at the next word.
module _ (s : Requests) (xs : List ℕ) where
  sizes : AllByRecursion (λ w. length w ≤ s.limits.word) (taken s) × AreShort (taken s)
  sizes = all_short s.limits.word s.words.items s.short

  count : length (taken s) ≡ length s.words.items
  count = length-map s.words.items (λ w. w.items)

  pub same : TakenOn s xs s xs
  same = (refl, refl, refl, refl)

  module _ (some : 0 < s.missing) where
    pub not_whole : ReadsWord s.limits s.room xs (Ok None) → TakesWord s xs (Ok false) s xs
    not_whole (word, more, low, sized, any, is, brief) = (
      same,
      refl,
      word_begun s.limits (taken s) s.missing xs some (omega (arith, s.few.0, count)) (omega (arith, s.few.1, count)) sizes.0 sizes.1
          s.room word more low sized any is brief,
    )

    pub refused : (e : RequestError) → ReadsWord s.limits s.room xs (Err e) → TakesWord s xs (Err e) s xs
    refused e h = (
      same,
      refl,
      word_refused s.limits (taken s) s.missing xs some (omega (arith, s.few.0, count)) (omega (arith, s.few.1, count)) sizes.0 sizes.1
          s.room e h,
    )

-- An error that is handed on.
pub refused_as : (s : Requests) (xs : List ℕ) (r : Result Bool RequestError) (e : RequestError) → 0 < s.missing → IsErrAnd r (λ x. x ≡ e)
    → ReadsWord s.limits s.room xs (Err e) → TakesWord s xs r s xs
refused_as s xs (Ok b) e some is h = absurd is
refused_as s xs (Err x) e some is h = refused s xs some x (subst (λ y. ReadsWord s.limits s.room xs (Err y)) (sym is) h)

-- All words are there.
pub all_taken : (s t : Requests) (xs ys : List ℕ) (v : Request) → TakenOn s xs t ys → t.missing ≡ 0 → v.words ≡ t.words
    → (m : Message) × IsMessage s.limits m × FitsRoom (whole_room s) m × (words_of v ≡ message_words m) × (whole_front s ++ xs ≡ message_bytes m ++ ys)
all_taken s t xs ys v (limits, room, bytes, line) none words =
    let here : taken t ≡ words_of v = ap (λ ws. map (λ w. w.items) ws.items) (sym words) in
    let long = length-map t.words.items (λ w. w.items) in
    let short = all_short t.limits.word t.words.items t.short in
    let total : length (taken t) + t.missing ≡ length (taken t) = omega (arith, none) in (
      Message.array (taken t),
      subst (λ (l : Limits). IsRequestOf l (taken t)) limits (omega (arith, t.few.0, long), short.0, (omega (arith, t.few.1, long), short.1)),
      omega (arith, room),
      sym here,
      sym bytes ∙ ap (λ m. request_front m (taken t) ++ ys) total,
    )
