-- What is taken of some bytes is what the decoder gives.
use Rattle.std.specs.Prelude.{◌≡◌, ◌<◌, ◌+◌, ℕ, zero, suc, List, [], ◌∷◌, ◌++◌, Option, Some, None, Result, Ok, Err, drop, length, map}
use Rattle.std.proofs.Common.{◌∙◌, ap, append_assoc, arith, length-append, refl, subst, sym}
use Rattle.std.proofs.lemmas.List.{append-nil, drop_at, nil_from_length}
use Rattle.tokio_util.specs.Codec.Next.{Decodes, Resumes, at_end}
use Rattle.example_redis.specs.Bytes.{number_line, request_front}
use Rattle.example_redis.specs.Requests.{IsBegun, IsKept, Says, allowed, gives_requests, open_bytes, open_front, room_for_words, taken, words_length}
use Rattle.example_redis.specs.Taking.{TakesRequest, whole_front, whole_room}
use Rattle.example_redis.specs.declared.error.RequestError.{RequestError}
use Rattle.example_redis.specs.declared.error.RequestError.TheVariants.{Cut}
use Rattle.example_redis.specs.declared.limits.Limits.{Limits}
use Rattle.example_redis.specs.declared.requests.Request.{Request}
use Rattle.example_redis.specs.declared.requests.Requests.{Requests}

-- A decoder that stands for the same bytes goes on in the same way.
pub resumes : (s t : Requests) (xs ys : List ℕ) → IsKept s.limits (allowed s) (open_bytes s ++ xs) t ys → Resumes gives_requests s xs t ys
resumes s t xs ys (limits, room, bytes) more next h =
    let here : open_bytes t ++ (ys ++ more) ≡ open_bytes s ++ (xs ++ more) =
    sym (append_assoc (open_bytes t) ys more) ∙ ap (λ l. l ++ more) bytes ∙ append_assoc (open_bytes s) xs more in
    subst (λ (l : Limits). Says l (allowed s) (open_bytes s ++ (xs ++ more)) next) limits (
    subst (λ (r : ℕ). Says t.limits r (open_bytes s ++ (xs ++ more)) next) room (
    subst (λ (bs : List ℕ). Says t.limits (allowed t) bs next) here h
    )
    )

pub decodes : (s t : Requests) (xs ys : List ℕ) (r : Result (Option Request) RequestError)
    → TakesRequest s.limits (allowed s) (open_bytes s ++ xs) r t ys → Decodes gives_requests s xs r t ys
decodes s t xs ys (Ok (Some v)) h = h
decodes s t xs ys (Ok None) (kept, begun) = (
  subst (λ (l : Limits). IsBegun l (allowed t) (open_bytes t ++ ys)) (sym kept.0) (
      subst (λ (m : ℕ). IsBegun s.limits m (open_bytes t ++ ys)) (sym kept.1) (subst (IsBegun s.limits (allowed s)) (sym kept.2) begun)
      ),
  resumes s t xs ys kept,
)
decodes s t xs ys (Err e) h = h

-- A request is open.
open_is : (missing : ℕ) (words : List (List ℕ)) (text : List ℕ) (limit room : ℕ) → 0 < missing
    → (open_front missing words text ≡ request_front (length words + missing) words) × (room_for_words limit missing words room ≡ words_length words + room)
open_is zero words text limit room some = absurd (omega (arith, some))
open_is (suc n) words text limit room some = (refl, refl)

pub decodes_open : (s t : Requests) (xs ys : List ℕ) (r : Result (Option Request) RequestError) → 0 < s.missing
    → TakesRequest s.limits (whole_room s) (whole_front s ++ xs) r t ys → Decodes gives_requests s xs r t ys
decodes_open s t xs ys r some h =
    let same = open_is s.missing (taken s) s.line.items s.limits.request s.room some in
    decodes s t xs ys r (
    subst (λ (bs : List ℕ). TakesRequest s.limits (allowed s) (bs ++ xs) r t ys) (sym same.0)
    (subst (λ (m : ℕ). TakesRequest s.limits m (whole_front s ++ xs) r t ys) (sym same.1) h)
    )

-- No array is open.
closed_is : (missing : ℕ) (words : List (List ℕ)) (text : List ℕ) (limit room : ℕ) → missing ≡ 0
    → (open_front missing words text ≡ text) × (room_for_words limit missing words room ≡ limit)
closed_is zero words text limit room none = (refl, refl)
closed_is (suc n) words text limit room none = absurd (omega (arith, none))

pub decodes_closed : (s t : Requests) (xs ys : List ℕ) (r : Result (Option Request) RequestError) → s.missing ≡ 0
    → TakesRequest s.limits s.limits.request (s.line.items ++ xs) r t ys → Decodes gives_requests s xs r t ys
decodes_closed s t xs ys r none h =
    let same = closed_is s.missing (taken s) s.line.items s.limits.request s.room none in
    decodes s t xs ys r (
    subst (λ (bs : List ℕ). TakesRequest s.limits (allowed s) (bs ++ xs) r t ys) (sym same.0)
    (subst (λ (m : ℕ). TakesRequest s.limits m (s.line.items ++ xs) r t ys) (sym same.1) h)
    )

-- Without an open array a decoder stands for its line.
pub kept_closed : (limits : Limits) (t : Requests) (bs ys : List ℕ) → t.limits ≡ limits → t.missing ≡ 0 → t.line.items ++ ys ≡ bs
    → IsKept limits limits.request bs t ys
kept_closed limits t bs ys same none is =
    let here = closed_is t.missing (taken t) t.line.items t.limits.request t.room none in
    (same, here.1 ∙ ap (λ l. l.request) same, ap (λ l. l ++ ys) here.0 ∙ is)

-- A request was begun.
pub decodes_begun : (s u t : Requests) (xs zs ys : List ℕ) (r : Result (Option Request) RequestError) (n : ℕ) → s.missing ≡ 0
    → s.line.items ≡ [] → u.limits ≡ s.limits → u.words.items ≡ [] → u.missing ≡ n → u.room ≡ s.limits.request → xs ≡ 42 ∷ (number_line n ++ zs)
    → TakesRequest u.limits (whole_room u) (whole_front u ++ zs) r t ys → Decodes gives_requests s xs r t ys
decodes_begun s u t xs zs ys r n none no_line limits empty missing room is h =
    let no_words : taken u ≡ [] = ap (map (λ w. w.items)) empty in
    let front : whole_front u ++ zs ≡ xs =
    ap (λ l. request_front (length l + u.missing) l ++ zs) no_words
    ∙ ap (λ m. request_front m [] ++ zs) (omega (arith, missing))
    ∙ ap (λ l. 42 ∷ (l ++ zs)) (append-nil (number_line n)) ∙ sym is in
    let rooms : whole_room u ≡ s.limits.request = ap (λ l. words_length l + u.room) no_words ∙ omega (arith, room) in
    decodes_closed s t xs ys r none (
    subst (λ (l : Limits). TakesRequest l s.limits.request (s.line.items ++ xs) r t ys) limits (
    subst (λ (m : ℕ). TakesRequest u.limits m (s.line.items ++ xs) r t ys) rooms (
    subst (λ (bs : List ℕ). TakesRequest u.limits (whole_room u) bs r t ys) (front ∙ sym (ap (λ l. l ++ xs) no_line)) h
    )
    )
    )

pub behind_front : (xs zs rest : List ℕ) (n size : ℕ) → xs ≡ 42 ∷ (number_line n ++ rest) → size ≡ length (number_line n) + 1 → zs ≡ drop size xs
    → xs ≡ 42 ∷ (number_line n ++ zs)
behind_front xs zs rest n size is long left =
    let behind : zs ≡ rest = left ∙ ap (λ l. drop size l) is ∙ drop_at (42 ∷ number_line n) rest size (omega (arith, long)) in
    is ∙ ap (λ l. 42 ∷ (number_line n ++ l)) (sym behind)

-- The request that was open is still open.
pub decodes_on : (s u t : Requests) (xs zs ys : List ℕ) (r : Result (Option Request) RequestError) → (s.missing ≡ 0 → ⊥) → u ≡ s → zs ≡ xs
    → TakesRequest u.limits (whole_room u) (whole_front u ++ zs) r t ys → Decodes gives_requests s xs r t ys
decodes_on s u t xs zs ys r some same left h =
    decodes_open s t xs ys r (positive s.missing some) (
    subst (λ (l : List ℕ). TakesRequest s.limits (whole_room s) (whole_front s ++ l) r t ys) left
    (subst (λ (v : Requests). TakesRequest v.limits (whole_room v) (whole_front v ++ zs) r t ys) same h)
    )
  where
    positive : (n : ℕ) → (n ≡ 0 → ⊥) → 0 < n
    positive zero other = absurd (other refl)
    positive (suc n) other = omega arith

-- The end of the input, where no request is open and no byte is left.
pub ended : (t : Requests) (ys : List ℕ) → t.missing ≡ 0 → length t.line.items ≡ 0 → length ys ≡ 0 → gives_requests t ys (at_end (Ok None) t ys)
ended t ys none no_line left =
    let empty = nil_from_length ys left in
    let line = nil_from_length t.line.items no_line in (
      (refl, none, line),
      ap (λ l. l ++ ys) ((closed_is t.missing (taken t) t.line.items t.limits.request t.room none).0 ∙ line) ∙ empty,
      empty,
    )

some_open : (missing : ℕ) (words : List (List ℕ)) (text ys : List ℕ) → (missing ≡ 0 → 0 < length text + length ys)
    → 0 < length (open_front missing words text ++ ys)
some_open zero words text ys some = omega (arith, some refl, length-append text ys)
some_open (suc n) words text ys some = omega arith

-- The end of the input within a request.
pub cut_off : (t : Requests) (ys : List ℕ) → (t.missing ≡ 0 → 0 < length t.line.items + length ys) → IsBegun t.limits (allowed t) (open_bytes t ++ ys)
    → gives_requests t ys (at_end (Err Cut) t ys)
cut_off t ys some begun = (refl, some_open t.missing (taken t) t.line.items ys some, begun, (refl, refl, refl))
