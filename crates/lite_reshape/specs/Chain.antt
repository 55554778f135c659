-- `chain`: the first stream's results before its first end, then the second's before its first end, and then the end of
-- the stream at every poll.
use Rattle.std.specs.Prelude.{◌≡◌, ◌⊎◌, List, [], ◌∷◌, ◌++◌, Some, None, ℕ, ◌+◌, length, replicate}
use Rattle.lite_reshape.specs.Uses.{Ready, Pending, Answer, Endless, end, Runs, Cuts, Lasting, Ranks}
use Rattle.lite_reshape.specs.declared.chain.Chain.{Chain}
use Rattle.lite_reshape.specs.Ended.Turn.{First, Second, Done}
use Rattle.lite_reshape.specs.Ended.{Turn}

-- Both streams have ended.
abbrev pub is_done : Turn → Type 0
is_done part = part ≡ Done

module _ {A : Type 0} where
  -- The part of a `chain` after a result of the second stream: `Done` after its end, and unchanged otherwise.
  abbrev pub second_after : Answer A → Turn → Turn
  second_after Pending part = part
  second_after (Ready None) part = Done
  second_after (Ready (Some x)) part = part

  -- The first stream ended, and its end is left out. Its results before the end are followed by at least one result of
  -- the second stream. That one's first end is passed on, and after it every poll returns the end of the stream.
  pub record CrossesOver (firsts seconds out : List (Answer A)) (to : Turn) : Type 0 where
    pub own : List (Answer A)
    pub endless : Endless own
    pub through_end : firsts ≡ own ++ end ∷ []
    pub next : Answer A
    pub later : List (Answer A)
    pub joined : out ≡ own ++ next ∷ later
    pub followed : Cuts is_done second_after Second seconds (next ∷ later) to

  -- The results of both streams, joined. Either the first stream has not ended and all results are its own, or they
  -- cross over to the second. A stream is not polled again after its first end.
  abbrev pub Joins : Turn → List (Answer A) → List (Answer A) → List (Answer A) → Turn → Type 0
  Joins First firsts seconds out to =
      (Endless firsts × (seconds ≡ []) × (out ≡ firsts) × (to ≡ First)) ⊎ CrossesOver firsts seconds out to
  Joins Second firsts seconds out to = (firsts ≡ []) × Cuts is_done second_after Second seconds out to
  Joins Done firsts seconds out to = (firsts ≡ []) × Cuts is_done second_after Done seconds out to

-- The first stream's results before its first end, then the second's before its first end, and then the end of the
-- stream at every poll. The poll that meets the first's end returns the second's next result.
pub record Chains {S U A : Type 0} (run : Runs (Answer A) S) (run' : Runs (Answer A) U)
    (x : Chain S U) (out : List (Answer A)) (y : Chain S U) : Type 0 where
  pub firsts : List (Answer A)
  pub seconds : List (Answer A)
  pub came : run x.first firsts y.first
  pub then_came : run' x.second seconds y.second
  pub joined : Joins x.part firsts seconds out y.part

-- The first stream is polled, and then its end makes it the second's turn. If it has ended, the result is the end.
abbrev pub AsksFirst : {A : Type 0} → Turn → List (Answer A) → Answer A → Turn → Type 0
AsksFirst First firsts (Ready None) to = (firsts ≡ end ∷ []) × (to ≡ Second)
AsksFirst First firsts a to = (firsts ≡ a ∷ []) × (to ≡ First)
AsksFirst part firsts a to = (firsts ≡ []) × (a ≡ end) × (to ≡ part)

-- The first stream's turn in a poll of a `chain`, with the result `a`.
abbrev pub FirstAnswers : {S U A : Type 0} → Runs (Answer A) S → Chain S U → Answer A → Chain S U → Type 0
FirstAnswers {A = A} run x a y =
    (firsts : List (Answer A)) × run x.first firsts y.first × AsksFirst x.part firsts a y.part

-- The second stream's turn, with the result `a`: its own, or the end once it has ended.
abbrev pub SecondAnswers : {S U A : Type 0} → Runs (Answer A) U → Chain S U → Answer A → Chain S U → Type 0
SecondAnswers {A = A} run x a y =
    (seconds : List (Answer A)) × run x.second seconds y.second
    × Cuts is_done second_after x.part seconds (a ∷ []) y.part

-- What a poll that returns `Pending` registers: what the stream of the current part registers.
abbrev pub PartRegisters : {S U : Type 0} → (S → Lasting → Type 0) → (U → Lasting → Type 0) → Turn → S → U → Lasting
    → Type 0
PartRegisters registers registers' First s u fact = registers s fact
PartRegisters registers registers' Second s u fact = registers' u fact
PartRegisters registers registers' Done s u fact = ⊥

-- What a `chain` registers when it returns `Pending`: what the stream that it polled registers.
abbrev pub ChainRegisters : {S U : Type 0} → (S → Lasting → Type 0) → (U → Lasting → Type 0) → Chain S U → Lasting
    → Type 0
ChainRegisters registers registers' m fact = PartRegisters registers registers' m.part m.first m.second fact

-- A list of zeros, as long as the list of numbers.
abbrev pub zeros : List ℕ → List ℕ
zeros xs = replicate (length xs) 0

-- The second stream's rank, or zeros once that has ended.
abbrev pub second_rank : Turn → List ℕ → List ℕ
second_rank First ys = ys
second_rank Second ys = ys
second_rank Done ys = zeros ys

-- The first stream's rank followed by the second's, with zeros for a stream that has ended.
abbrev pub chain_rank : Turn → List ℕ → List ℕ → List ℕ
chain_rank First xs ys = xs ++ ys
chain_rank Second xs ys = zeros xs ++ ys
chain_rank Done xs ys = zeros xs ++ zeros ys

-- The rank of a `chain` over two streams with ranks. It counts if both streams do, and is firm if both are.
abbrev pub chain_ranks : {S U : Type 0} → Ranks S → Ranks U → Ranks (Chain S U)
chain_ranks r r' =
    record {
      width = r.width + r'.width;
      rank = λ m. chain_rank m.part (r.rank m.first) (r'.rank m.second);
      counts = λ m. r.counts m.first × r'.counts m.second;
      firm = λ m. r.firm m.first × r'.firm m.second;
    }
