-- A request at the front of some bytes is the only one, and the laws of `Decoder`.
use Rattle.std.specs.Prelude.{◌≡◌, ◌≢◌, ◌≤◌, ◌<◌, ◌+◌, ◌^◌, ℕ, zero, suc, List, [], ◌∷◌, ◌++◌, Some, None, Ok, Err, decimal, length, map, slice_index}
use Rattle.std.specs.List.{All, AllByRecursion, flat_map}
use Rattle.std.specs.declared.alloc.Global.{Global}
use Rattle.std.specs.declared.vec.Vec.{Vec}
use Rattle.std.proofs.Common.{◌∙◌, ap, append_assoc, arith, length-append, refl, subst, sym}
use Rattle.std.proofs.lemmas.Grind.{flat_map-append}
use Rattle.std.proofs.lemmas.List.{append-nil, length-map}
use Rattle.tokio_util.specs.Codec.Next.{EndIsPartial, IsStable, PartialHasNoFrame, at_end, decoded}
use Rattle.example_redis.specs.Bytes.{IsSized, HasWrittenForm, Message, message_bytes, number_line, request_bytes, request_front, word_bytes}
use Rattle.example_redis.specs.Laws.Numbers.{one_number}
use Rattle.example_redis.specs.Laws.Words.{one_word}
use Rattle.example_redis.specs.Requests.{IsBegun, IsMessage, RefusesRequest, allowed, gives_requests, open_bytes, open_front, taken}
use Rattle.example_redis.specs.declared.error.RequestError.{RequestError}
use Rattle.example_redis.specs.declared.error.RequestError.TheVariants.{Cut, Io, LongLine, LongRequest, LongWord, Malformed, Memory, TooManyWords}
use Rattle.example_redis.specs.declared.limits.Limits.{Limits}
use Rattle.example_redis.specs.declared.requests.Request.{Request}
use Rattle.example_redis.specs.declared.requests.Requests.{Requests}

-- Each word has a length that fits.
abbrev pub AreShort : List (List ℕ) → Type 0
AreShort words = AllByRecursion (λ w. length w < 2 ^ 64) words

-- Words at the front of other words.
pub words_split : (ws words : List (List ℕ)) (p q : List ℕ) → AreShort ws → AreShort words → length ws ≤ length words
    → flat_map word_bytes ws ++ p ≡ flat_map word_bytes words ++ q
    → (rest : List (List ℕ)) × (words ≡ ws ++ rest) × (p ≡ flat_map word_bytes rest ++ q)
words_split [] words p q a b few e = (words, refl, e)
words_split (w ∷ ws) [] p q a b few e = absurd (omega (arith, few))
words_split (w ∷ ws) (v ∷ words) p q a b few e =
    let both = one_word w v (flat_map word_bytes ws ++ p) (flat_map word_bytes words ++ q) a.0 b.0
    (sym (append_assoc (word_bytes w) (flat_map word_bytes ws) p) ∙ e ∙ append_assoc (word_bytes v) (flat_map word_bytes words) q) in
    let (rest, is, behind) = words_split ws words p q a.1 b.1 (omega (arith, few)) both.1 in
    (rest, ap (λ x. x ∷ words) (sym both.0) ∙ ap (λ l. w ∷ l) is, behind)

-- The beginning of a request at the front of a request.
pub front_split : (total : ℕ) (ws words : List (List ℕ)) (p q : List ℕ) → total < 2 ^ 64 → AreShort ws → IsSized words → length ws ≤ total
    → request_front total ws ++ p ≡ request_bytes words ++ q
    → (total ≡ length words) × (rest : List (List ℕ)) × (words ≡ ws ++ rest) × (p ≡ flat_map word_bytes rest ++ q)
front_split total ws words p q small a b few e =
    let tails : (number_line total ++ flat_map word_bytes ws) ++ p ≡ (number_line (length words) ++ flat_map word_bytes words) ++ q = cc e in
    let both = one_number total (length words) (flat_map word_bytes ws ++ p) (flat_map word_bytes words ++ q) small b.0
    (sym (append_assoc (number_line total) (flat_map word_bytes ws) p) ∙ tails
    ∙ append_assoc (number_line (length words)) (flat_map word_bytes words) q) in
    let (rest, is, behind) = words_split ws words p q a b.1 (omega (arith, few, both.0)) both.1 in
    (both.0, rest, is, behind)

nothing_behind : (words rest : List (List ℕ)) → length (words ++ rest) ≡ length words → rest ≡ []
nothing_behind words [] e = refl
nothing_behind words (w ∷ rest) e = absurd (omega (arith, e, length-append words (w ∷ rest)))

pub one_request : (v w : List (List ℕ)) (p q : List ℕ) → IsSized v → IsSized w → request_bytes v ++ p ≡ request_bytes w ++ q → (v ≡ w) × (p ≡ q)
one_request v w p q a b e =
    let (total, rest, is, behind) = front_split (length v) v w p q a.0 a.1 b (omega arith) e in
    let none = nothing_behind v rest (sym (ap length is) ∙ sym total) in (
      sym (is ∙ ap (λ r. v ++ r) none ∙ append-nil v),
      behind ∙ ap (λ r. flat_map word_bytes r ++ q) none,
    )

-- A line at the front of a line.
pub line_split : (l text p q : List ℕ) → AllByRecursion (λ b. b ≢ 10) l → l ++ p ≡ text ++ 10 ∷ q
    → (rest : List ℕ) × (text ≡ l ++ rest) × (p ≡ rest ++ 10 ∷ q)
line_split [] text p q a e = (text, refl, e)
line_split (b ∷ l) [] p q a e = absurd (a.0 (cc e))
line_split (b ∷ l) (d ∷ text) p q a e =
    let first : b ≡ d = cc e in
    let others : l ++ p ≡ text ++ 10 ∷ q = cc e in
    let (rest, is, behind) = line_split l text p q a.1 others in
    (rest, ap (λ x. x ∷ text) (sym first) ∙ ap (λ t. b ∷ t) is, behind)

no_feed : (l rest : List ℕ) → AllByRecursion (λ b. b ≢ 10) (l ++ rest) → AllByRecursion (λ b. b ≢ 10) rest
no_feed [] rest a = a
no_feed (b ∷ l) rest a = no_feed l rest a.1

one_line : (l text p q : List ℕ) → AllByRecursion (λ b. b ≢ 10) l → AllByRecursion (λ b. b ≢ 10) text → l ++ 10 ∷ p ≡ text ++ 10 ∷ q
    → (l ≡ text) × (p ≡ q)
one_line l text p q a b e =
    let (rest, is, behind) = line_split l text (10 ∷ p) q a e in
    by rest is behind (no_feed l rest (subst (AllByRecursion (λ b. b ≢ 10)) is b))
  where
    by : (rest : List ℕ) → text ≡ l ++ rest → 10 ∷ p ≡ rest ++ 10 ∷ q → AllByRecursion (λ b. b ≢ 10) rest → (l ≡ text) × (p ≡ q)
    by [] is behind a = (sym (is ∙ append-nil l), cc behind)
    by (x ∷ rest) is behind a = absurd (a.0 (sym (cc behind)))

-- A line does not begin as an array does.
pub no_star : (text p q : List ℕ) → slice_index text 0 ≢ 42 → 42 ∷ p ≡ text ++ 10 ∷ q → ⊥
no_star [] p q other e = absurd (cc e)
no_star (b ∷ text) p q other e = other (sym (cc e))

line_on : (text q : List ℕ) → (text ++ 10 ∷ []) ++ q ≡ text ++ 10 ∷ q
line_on text q = append_assoc text (10 ∷ []) q

pub one_message : (m k : Message) (p q : List ℕ) → HasWrittenForm m → HasWrittenForm k → message_bytes m ++ p ≡ message_bytes k ++ q → (m ≡ k) × (p ≡ q)
one_message (Message.array v) (Message.array w) p q a b e = let both = one_request v w p q a b e in (ap Message.array both.0, both.1)
one_message (Message.array v) (Message.line t) p q a b e = absurd (no_star t _ q b.1 (e ∙ line_on t q))
one_message (Message.line t) (Message.array v) p q a b e = absurd (no_star t _ p a.1 (sym e ∙ line_on t p))
one_message (Message.line t) (Message.line u) p q a b e =
    let both = one_line t u p q a.0 b.0 (sym (line_on t p) ∙ e ∙ line_on u q) in
    (ap Message.line both.0, both.1)

pub written : (limits : Limits) (m : Message) → IsMessage limits m → HasWrittenForm m
written limits (Message.array words) h = h.2
written limits (Message.line text) h = h.0

-- More bytes behind.
more_behind : (start xs more front ys : List ℕ) → start ++ xs ≡ front ++ ys → start ++ (xs ++ more) ≡ front ++ (ys ++ more)
more_behind start xs more front ys e = sym (append_assoc start xs more) ∙ ap (λ l. l ++ more) e ∙ append_assoc front ys more

module _ (limits : Limits) (room : ℕ) (bs more : List ℕ) where
  refuses_on : (e : RequestError) → RefusesRequest limits room bs e → RefusesRequest limits room (bs ++ more) e
  refuses_on Malformed none = λ m after rest sized e. none m (more ++ after) rest sized (sym (append_assoc bs more after) ∙ e)
  refuses_on TooManyWords (n, rest, many, small, is) =
      (n, rest ++ more, many, small, ap (λ l. l ++ more) is ∙ ap (λ l. 42 ∷ l) (append_assoc (decimal n) rest more))
  refuses_on LongWord (total, n, words, rest, few, long, small, is) = (
    total,
    n,
    words,
    rest ++ more,
    few,
    long,
    small,
    ap (λ l. l ++ more) is ∙ append_assoc (request_front total words) (36 ∷ (decimal n ++ rest)) more
        ∙ ap (λ l. request_front total words ++ 36 ∷ l) (append_assoc (decimal n) rest more),
  )
  refuses_on LongRequest (total, n, words, rest, few, small, long, is) = (
    total,
    n,
    words,
    rest ++ more,
    few,
    small,
    long,
    ap (λ l. l ++ more) is ∙ append_assoc (request_front total words) (36 ∷ (number_line n ++ rest)) more
        ∙ ap (λ l. request_front total words ++ 36 ∷ l) (append_assoc (number_line n) rest more),
  )
  refuses_on LongLine (text, rest, one, long, is) = (text, rest ++ more, one, long, ap (λ l. l ++ more) is ∙ append_assoc text rest more)
  refuses_on Memory h = h
  refuses_on Cut h = h
  refuses_on (Io e) h = h

pub requests_stable : IsStable gives_requests
requests_stable s xs (Ok v) t ys more (idle, m, fits, room, same, is) =
    (idle, m, fits, room, same, more_behind (open_bytes s) xs more (message_bytes m) ys is)
requests_stable s xs (Err e) t ys more (kept, why) = (
  (kept.0, kept.1, sym (more_behind (open_bytes s) xs more (open_bytes t) ys (sym kept.2))),
  subst (λ bs. RefusesRequest s.limits (allowed s) bs e) (append_assoc (open_bytes s) xs more)
      (refuses_on s.limits (allowed s) (open_bytes s ++ xs) more e why),
)

pub requests_partial : PartialHasNoFrame gives_requests
requests_partial s xs v t ys (k, more, good, some, begun, few) (idle, m, fits, room, same, is) =
    let both = one_message m k (ys ++ more) [] (written s.limits m fits) (written s.limits k good)
    (sym (append_assoc (message_bytes m) ys more) ∙ ap (λ l. l ++ more) (sym is) ∙ begun ∙ sym (append-nil (message_bytes k))) in
    omega (arith, some, ap length both.1, length-append ys more)

pub nothing_begun : (limits : Limits) (room : ℕ) (bs : List ℕ) → bs ≡ [] → IsBegun limits room bs
nothing_begun limits room bs none = (
  Message.array [],
  request_bytes [],
  (omega arith, tt, (omega arith, tt)),
  omega arith,
  ap (λ l. l ++ request_bytes []) none,
  omega (arith, ap length none),
)

pub requests_end : EndIsPartial gives_requests
requests_end s xs (Ok (Some v)) t ys h = absurd h
requests_end s xs (Ok None) t ys (idle, none, left) = nothing_begun s.limits (allowed s) (open_bytes s ++ xs) none
requests_end s xs (Err e) t ys (cut, some, begun, kept) = begun

-- Where a request goes on behind its beginning.
pub front_joins : (ws rest : List (List ℕ)) (total : ℕ)
    → request_front total ws ++ flat_map word_bytes rest ≡ request_front total (ws ++ rest)
front_joins ws rest total =
    ap (λ l. 42 ∷ l) (
    append_assoc (number_line total) (flat_map word_bytes ws) (flat_map word_bytes rest)
    ∙ ap (λ l. number_line total ++ l) (sym (flat_map-append word_bytes ws rest))
    )

some_bytes : (rest : List (List ℕ)) → 0 < length rest → 0 < length (flat_map word_bytes rest)
some_bytes [] some = absurd (omega (arith, some))
some_bytes (w ∷ rest) some = omega arith

-- What a request takes of the bytes behind those of its beginning.
takes_words : (missing : ℕ) (ws words : List (List ℕ)) (xs ys : List ℕ) → 0 < missing → length ws + missing < 2 ^ 64 → AreShort ws → IsSized words
    → request_front (length ws + missing) ws ++ xs ≡ request_bytes words ++ ys
    → (used : List ℕ) × (0 < length used) × (xs ≡ used ++ ys) × (request_front (length ws + missing) ws ++ used ≡ request_bytes words ++ [])
takes_words missing ws words xs ys some small short sized e =
    let (total, rest, is, behind) = front_split (length ws + missing) ws words xs ys small short sized (omega arith) e in (
      flat_map word_bytes rest,
      some_bytes rest (omega (arith, some, total, ap length is, length-append ws rest)),
      behind,
      front_joins ws rest (length ws + missing) ∙ ap (λ m. request_front m (ws ++ rest)) total
          ∙ ap (λ l. request_front (length words) l) (sym is) ∙ sym (append-nil (request_bytes words)),
    )

takes_line : (l text xs ys : List ℕ) → AllByRecursion (λ b. b ≢ 10) l → l ++ xs ≡ (text ++ 10 ∷ []) ++ ys
    → (used : List ℕ) × (0 < length used) × (xs ≡ used ++ ys) × (l ++ used ≡ (text ++ 10 ∷ []) ++ [])
takes_line l text xs ys one e =
    let (rest, is, behind) = line_split l text xs ys one (e ∙ line_on text ys) in (
      rest ++ 10 ∷ [],
      omega (arith, length-append rest (10 ∷ [])),
      behind ∙ sym (line_on rest ys),
      sym (append_assoc l rest (10 ∷ [])) ∙ ap (λ t. t ++ 10 ∷ []) (sym is) ∙ sym (append-nil (text ++ 10 ∷ [])),
    )

takes_array : (l : List ℕ) (words : List (List ℕ)) (xs ys : List ℕ) → slice_index l 0 ≢ 42 → l ++ xs ≡ request_bytes words ++ ys
    → (used : List ℕ) × (0 < length used) × (xs ≡ used ++ ys) × (l ++ used ≡ request_bytes words ++ [])
takes_array [] words xs ys other e = (request_bytes words, omega arith, e, sym (append-nil (request_bytes words)))
takes_array (b ∷ l) words xs ys other e = absurd (other (cc e))

takes_front : (missing : ℕ) (ws : List (List ℕ)) (l : List ℕ) (m : Message) (xs ys : List ℕ) → length ws + missing < 2 ^ 64 → AreShort ws
    → AllByRecursion (λ b. b ≢ 10) l → slice_index l 0 ≢ 42 → HasWrittenForm m → open_front missing ws l ++ xs ≡ message_bytes m ++ ys
    → (used : List ℕ) × (0 < length used) × (xs ≡ used ++ ys) × (open_front missing ws l ++ used ≡ message_bytes m ++ [])
takes_front zero ws l (Message.array words) xs ys small short one other sized e = takes_array l words xs ys other e
takes_front zero ws l (Message.line text) xs ys small short one other sized e = takes_line l text xs ys one e
takes_front (suc n) ws l (Message.array words) xs ys small short one other sized e = takes_words (suc n) ws words xs ys (omega arith) small short sized e
takes_front (suc n) ws l (Message.line text) xs ys small short one other sized e = absurd (no_star text _ ys sized.1 (e ∙ line_on text ys))

pub all_by_recursion : {X : Type 0} (P : X → Type 0) (xs : List X) → All P xs → AllByRecursion P xs
all_by_recursion P [] all = tt
all_by_recursion P (x ∷ xs) all = (all 0 x (omega arith), all_by_recursion P xs (λ k d less. all (suc k) d (omega (arith, less))))

pub all_short : (limit : ℕ) (ws : List (Vec ℕ Global)) → All (λ w. (length w.items ≤ limit) × (length w.items < 2 ^ 32)) ws
    → AllByRecursion (λ w. length w ≤ limit) (map (λ w. w.items) ws) × AreShort (map (λ w. w.items) ws)
all_short limit [] all = (tt, tt)
all_short limit (w ∷ ws) all =
    let first = all 0 w (omega arith) in
    let others = all_short limit ws (λ k d less. all (suc k) d (omega (arith, less))) in
    ((first.0, others.0), (omega (arith, first.1), others.1))

-- A request takes at least a byte, and is there at its last byte.
pub requests_whole : (s : Requests) (xs : List ℕ) (v : Request) (t : Requests) (ys : List ℕ) → gives_requests s xs (decoded (Ok v) t ys)
    → (used : List ℕ) × (0 < length used) × (xs ≡ used ++ ys) × gives_requests s used (decoded (Ok v) t [])
requests_whole s xs v t ys (idle, m, fits, room, same, is) =
    let sizes = all_short s.limits.word s.words.items s.short in
    let (used, some, there, whole) =
    takes_front s.missing (taken s) s.line.items m xs ys
    (omega (arith, s.few.1, length-map s.words.items (λ w. w.items))) sizes.1
    (all_by_recursion (λ b. b ≢ 10) s.line.items s.one_line) s.no_array (written s.limits m fits) is in
    (used, some, there, (idle, m, fits, room, same, whole))

-- No request is given at the end of the input alone.
pub requests_last : (s : Requests) (xs : List ℕ) (v : Request) (t : Requests) (ys : List ℕ) → gives_requests s xs (at_end (Ok (Some v)) t ys)
    → length ys < length xs
requests_last s xs v t ys none = absurd none
