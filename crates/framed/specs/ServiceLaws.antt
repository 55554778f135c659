-- The replies of services of plain functions.
use Rattle.std.specs.Prelude.{◌≡◌, true, List, [], ◌∷◌, flat_map, map, refl}
use Rattle.std.specs.List.{AllByRecursion}
use Rattle.std.proofs.Common.{ap, sym}
use Rattle.framed.specs.Dialogues.{answers_from}
use Rattle.framed.specs.Services.{AnswersAll, AnswerOf, RepliesBy, ServesAs, ServesBy, all_of}

-- The replies of a service of a function are those of the function, one list for each request.
pub replies_by : {L A B : Type 0} (reply : A → AnswerOf B) (x y : L) (requests : List A) (replies : List (List B))
    → AnswersAll (RepliesBy reply) x requests replies y → replies ≡ map (λ request. (reply request).0) requests
replies_by reply x y [] [] h = refl
replies_by reply x y (request ∷ requests) (r ∷ more) h =
    rw (ap (λ o. o.0) h.1, replies_by reply h.0 y requests more h.2) refl
replies_by reply x y [] (r ∷ more) h = absurd h
replies_by reply x y (request ∷ requests) [] h = absurd h

flat : {A B : Type 0} (f : A → List B) (requests : List A) → all_of (map f requests) ≡ flat_map f requests
flat f [] = refl
flat f (request ∷ requests) = rw (flat f requests) refl

-- The same, one behind another.
pub all_replies_by : {L A B : Type 0} (reply : A → AnswerOf B) (x y : L) (requests : List A) (replies : List (List B))
    → AnswersAll (RepliesBy reply) x requests replies y → all_of replies ≡ flat_map (λ request. (reply request).0) requests
all_replies_by reply x y requests replies h =
    rw (replies_by reply x y requests replies h) (flat (λ request. (reply request).0) requests)

-- The function says of each of these requests that the service goes on.
pub goes_on_by : {L A B : Type 0} (reply : A → AnswerOf B) (x y : L) (requests : List A) (replies : List (List B))
    → AnswersAll (RepliesBy reply) x requests replies y → AllByRecursion (λ request. (reply request).1 ≡ true) requests
goes_on_by reply x y [] [] h = tt
goes_on_by reply x y (request ∷ requests) (r ∷ more) h =
    (sym (ap (λ o. o.1) h.1), goes_on_by reply h.0 y requests more h.2)
goes_on_by reply x y [] (r ∷ more) h = absurd h
goes_on_by reply x y (request ∷ requests) [] h = absurd h

-- Answers behind each of which the service goes on, by their replies.
abbrev pub going_on : {B : Type 0} → List (List B) → List (AnswerOf B)
going_on replies = map (λ r. (r, true)) replies

-- The answers of a service of a step are those of its steps from what the state holds, which leave what is held then.
pub serves_by : {L S A B : Type 0} (holds : L → S) (step : S → A → AnswerOf B × S) (x y : L) (requests : List A)
    (replies : List (List B)) → AnswersAll (ServesBy holds step) x requests replies y
    → (going_on replies, holds y) ≡ answers_from step (holds x) requests
serves_by holds step x y [] [] h = rw h refl
serves_by holds step x y (request ∷ requests) (r ∷ more) h =
    let rest = serves_by holds step h.0 y requests more h.2 in
    rw (← h.1) (rw (← rest) refl)
serves_by holds step x y [] (r ∷ more) h = absurd h
serves_by holds step x y (request ∷ requests) [] h = absurd h

-- The same, of what the replies tell.
pub serves_as : {L S A B P Q : Type 0} (asked : A → P) (told : B → Q) (holds : L → S) (step : S → P → AnswerOf Q × S)
    (x y : L) (requests : List A) (replies : List (List B)) → AnswersAll (ServesAs asked told holds step) x requests replies y
    → (going_on (map (map told) replies), holds y) ≡ answers_from step (holds x) (map asked requests)
serves_as asked told holds step x y [] [] h = rw h refl
serves_as asked told holds step x y (request ∷ requests) (r ∷ more) h =
    let rest = serves_as asked told holds step h.0 y requests more h.2 in
    rw (← h.1) (rw (← rest) refl)
serves_as asked told holds step x y [] (r ∷ more) h = absurd h
serves_as asked told holds step x y (request ∷ requests) [] h = absurd h
