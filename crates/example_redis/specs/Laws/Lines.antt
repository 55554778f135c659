-- What is taken of a line.
use Rattle.std.specs.Prelude.{◌≡◌, ◌≢◌, ◌≤◌, ◌<◌, ◌+◌, ℕ, zero, suc, List, [], ◌∷◌, ◌++◌, drop, length, slice_index, take, ◌==◌, Bool, true, false, not, Ok}
use Rattle.std.specs.List.{All, AllByRecursion}
use Rattle.std.proofs.Common.{◌∙◌, ap, append_assoc, arith, eqb-true, length-append, refl, subst, sym}
use Rattle.std.proofs.lemmas.List.{append-nil, drop_more, length-take-le, take-append-drop}
use Rattle.example_redis.specs.Bytes.{IsLine, Message, line_words, message_bytes, message_words}
use Rattle.example_redis.specs.Laws.Decoding.{kept_closed}
use Rattle.example_redis.specs.Laws.Requests.{all_by_recursion}
use Rattle.example_redis.specs.Requests.{FitsRoom, IsBegun, IsKept, IsMessage, words_of}
use Rattle.example_redis.specs.Taking.{KeepsLine, TakesText}
use Rattle.example_redis.specs.declared.limits.Limits.{Limits}
use Rattle.example_redis.specs.declared.requests.Request.{Request}
use Rattle.example_redis.specs.declared.requests.Requests.{Requests}

all_append : (P : ℕ → Type 0) (xs ys : List ℕ) → AllByRecursion P xs → AllByRecursion P ys → AllByRecursion P (xs ++ ys)
all_append P [] ys a b = b
all_append P (x ∷ xs) ys a b = (a.0, all_append P xs ys a.1 b)

-- Fewer bytes begin with the same one.
begins_same : (l xs : List ℕ) (n : ℕ) → slice_index (l ++ xs) 0 ≢ 42 → slice_index (l ++ take n xs) 0 ≢ 42
begins_same [] [] zero other = other
begins_same [] [] (suc n) other = other
begins_same [] (x ∷ xs) zero other = λ e. absurd (omega (arith, e))
begins_same [] (x ∷ xs) (suc n) other = other
begins_same (b ∷ l) xs n other = other

module _ (l xs : List ℕ) (n : ℕ) where
  pub text_joined : (l ++ take n xs) ++ drop n xs ≡ l ++ xs
  text_joined = append_assoc l (take n xs) (drop n xs) ∙ ap (λ t. l ++ t) (take-append-drop n xs)

  pub text_is_line : All (λ b. b ≢ 10) l → All (λ b. b ≢ 10) (take n xs) → slice_index (l ++ xs) 0 ≢ 42 → IsLine (l ++ take n xs)
  text_is_line one all other = (
    all_append (λ b. b ≢ 10) l (take n xs) (all_by_recursion (λ b. b ≢ 10) l one) (all_by_recursion (λ b. b ≢ 10) (take n xs) all),
    begins_same l xs n other,
  )

  pub text_long : (limit : ℕ) → All (λ b. b ≢ 10) l → All (λ b. b ≢ 10) (take n xs) → slice_index (l ++ xs) 0 ≢ 42 → n ≤ length xs
      → limit < length l + n → (text rest : List ℕ) × IsLine text × (limit < length text) × (l ++ xs ≡ text ++ rest)
  text_long limit one all other within long = (
    l ++ take n xs,
    drop n xs,
    text_is_line one all other,
    omega (arith, long, length-append l (take n xs), length-take-le n xs within),
    sym text_joined,
  )

  pub feed_next : n < length xs → slice_index xs n ≡ 10 → (rest : List ℕ) × (drop n xs ≡ 10 ∷ rest)
  feed_next inside feed = (drop (n + 1) xs, drop_more xs n 0 inside ∙ ap (λ b. b ∷ drop (n + 1) xs) feed)

-- Whether bytes are left says whether a line feed is next.
pub text_taken : (s t : Requests) (xs ys : List ℕ) (empty : Bool) → empty ≡ (length ys == 0) → KeepsLine s xs t ys
    → (0 < length ys → (rest : List ℕ) × (ys ≡ 10 ∷ rest)) → TakesText s xs (Ok (not empty)) t ys
text_taken s t xs [] true is kept feed = (kept, refl)
text_taken s t xs [] false is kept feed = absurd (cc is)
text_taken s t xs (y ∷ ys) true is kept feed = absurd (omega (arith, eqb-true (length (y ∷ ys)) 0 (sym is)))
text_taken s t xs (y ∷ ys) false is kept feed = let next = feed (omega arith) in (kept, next.0, next.1)

-- A decoder that took the bytes of a line.
module _ (s t : Requests) (xs ys : List ℕ) (kept : KeepsLine s xs t ys) (closed : s.missing ≡ 0) where
  pub line_kept : IsKept s.limits s.limits.request (s.line.items ++ xs) t ys
  line_kept = kept_closed s.limits t (s.line.items ++ xs) ys kept.0 (kept.1 ∙ closed) kept.2

  message : IsMessage s.limits (Message.line t.line.items)
  message = (
    (all_by_recursion (λ b. b ≢ 10) t.line.items t.one_line, t.no_array),
    subst (λ (l : Limits). length t.line.items ≤ l.line) kept.0 t.line_fits,
  )

  pub line_more : ys ≡ [] → IsKept s.limits s.limits.request (s.line.items ++ xs) t ys × IsBegun s.limits s.limits.request (s.line.items ++ xs)
  line_more none =
      let all : s.line.items ++ xs ≡ t.line.items = sym kept.2 ∙ ap (λ l. t.line.items ++ l) none ∙ append-nil t.line.items in (
        line_kept,
        (
          Message.line t.line.items,
          10 ∷ [],
          message,
          omega arith,
          ap (λ l. l ++ 10 ∷ []) all,
          subst (λ (l : List ℕ). length l ≤ s.limits.line) (sym all) message.1,
        ),
      )

  pub line_whole : (v : Request) (rest zs : List ℕ) → ys ≡ 10 ∷ rest → zs ≡ drop 1 ys → words_of v ≡ line_words t.line.items
      → (m : Message) × IsMessage s.limits m × FitsRoom s.limits.request m × (words_of v ≡ message_words m)
      × (s.line.items ++ xs ≡ message_bytes m ++ zs)
  line_whole v rest zs feed left words = (
    Message.line t.line.items,
    message,
    tt,
    words,
    sym kept.2 ∙ ap (λ l. t.line.items ++ l) feed ∙ sym (append_assoc t.line.items (10 ∷ []) rest)
        ∙ ap (λ l. (t.line.items ++ 10 ∷ []) ++ l) (ap (drop 1) (sym feed) ∙ sym left),
  )
