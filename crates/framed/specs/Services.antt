-- What a service answers, and services of plain functions.
use Rattle.std.specs.Prelude.{◌≡◌, Bool, true, List, [], ◌∷◌, ◌++◌, Option, Some, None, Result, Ok, Err, map, ⊤}
use Rattle.std.specs.Global.{Vec}
use Rattle.framed.specs.declared.service.Answer.{Answer}

-- The replies to a request, in order, and whether the service goes on behind them.
abbrev pub AnswerOf : Type 0 → Type 0
AnswerOf B = List B × Bool

-- A step of a service: in a state it answers a request, and goes to a state. `None` says that memory was refused.
abbrev pub ServiceStep : Type 0 → Type 0 → Type 0 → Type 1
ServiceStep L A B = L → A → Option (AnswerOf B) → L → Type 0

-- The last words of a service to the error of a malformed request. `None` says that memory was refused.
abbrev pub LastWords : Type 0 → Type 0 → Type 0 → Type 1
LastWords L E B = L → E → Option (List B) → L → Type 0

-- What a call of a service answered.
abbrev pub outcome : {B M : Type 0} → Result (Answer B) M → Option (AnswerOf B)
outcome (Ok a) = Some (a.replies.items, a.goes_on)
outcome (Err e) = None

-- What it returned as its last words.
abbrev pub last_words : {B M : Type 0} → Result (Vec B) M → Option (List B)
last_words (Ok replies) = Some replies.items
last_words (Err e) = None

-- The service of a function from a request to what is answered. It says nothing of states.
abbrev pub RepliesBy : {L A B : Type 0} → (A → AnswerOf B) → ServiceStep L A B
RepliesBy reply x request None y = ⊤
RepliesBy reply x request (Some out) y = out ≡ reply request

-- The service of a function from what a state holds and a request to what is answered and what is held then. A refusal
-- changes nothing of that.
abbrev pub ServesBy : {L S A B : Type 0} → (L → S) → (S → A → AnswerOf B × S) → ServiceStep L A B
ServesBy holds step x request None y = holds y ≡ holds x
ServesBy holds step x request (Some out) y = (out, holds y) ≡ step (holds x) request

-- The same, of values that hold more than a plain function can return, such as a vector's memory. `asked` says what a
-- request asks, and `told` what a reply tells.
abbrev pub ServesAs : {L S A B P Q : Type 0} → (A → P) → (B → Q) → (L → S) → (S → P → AnswerOf Q × S) → ServiceStep L A B
ServesAs asked told holds step x request None y = holds y ≡ holds x
ServesAs asked told holds step x request (Some out) y = ((map told out.0, out.1), holds y) ≡ step (holds x) (asked request)

-- The last words of a function from the error. They leave what a state holds as it is.
abbrev pub RefusesBy : {L S E B : Type 0} → (L → S) → (E → List B) → LastWords L E B
RefusesBy holds words x e None y = holds y ≡ holds x
RefusesBy holds words x e (Some replies) y = (replies ≡ words e) × (holds y ≡ holds x)

-- The replies to all requests, one behind another.
abbrev pub all_of : {B : Type 0} → List (List B) → List B
all_of [] = []
all_of (replies ∷ more) = replies ++ all_of more

module _ {L A B : Type 0} (answers : ServiceStep L A B) where
  -- The requests were answered in turn, from the state `x` to the state `z`, each by the replies that stand in its place,
  -- and behind each the service goes on.
  abbrev pub AnswersAll : L → List A → List (List B) → L → Type 0
  AnswersAll x [] [] z = z ≡ x
  AnswersAll x (request ∷ requests) (replies ∷ more) z =
      (y : L) × answers x request (Some (replies, true)) y × AnswersAll y requests more z
  AnswersAll x [] (replies ∷ more) z = ⊥
  AnswersAll x (request ∷ requests) [] z = ⊥
