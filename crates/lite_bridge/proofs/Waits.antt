-- Laws of calls that wait.
use Rattle.std.specs.Prelude.{◌≡◌, ◌≤◌, ℕ, suc, List, [], ◌∷◌, ◌++◌, length, ◌⊎◌, Result, Ok, Err, IfOk, replicate}
use Rattle.lite_bridge.specs.Uses.{◌∙◌, length-take-le, ap, inl, inr, sym, ReadsAtMost, WritesAtMost, Error, Poll, Pending, Ready, Gives, Runs, MarkLaws}
use Rattle.lite_bridge.specs.Uses.{PolledByCalls}
use Rattle.lite_bridge.specs.Waits.{Blocks, GaveOrRefused, NoMemoryToWait}

module _ {F A : Type 0} (call : F → Poll (Result A Error) → F → Type 0) where
  polled_last : (ins : List (Poll (Result A Error))) (x y : F) (r : Result A Error) → Gives ins r
      → PolledByCalls call x ins y → (m : F) × call m (Ready r) y
  polled_last [] x y r g h = absurd g
  polled_last (Pending ∷ ins) x y r g h = polled_last ins h.0 y r g h.2
  polled_last (Ready a ∷ ins) x y r g h = (x, rw (← g.0) h.0)

  polled_stays : {G : Type 0} (name : F → G) → ((x y : F) (c : Poll (Result A Error)) → call x c y → name y ≡ name x)
      → (ins : List (Poll (Result A Error))) (x y : F) → PolledByCalls call x ins y → name y ≡ name x
  polled_stays name same [] x y h = ap name h
  polled_stays name same (Pending ∷ ins) x y h = polled_stays name same ins h.0 y h.2 ∙ same x h.0 Pending h.1
  polled_stays name same (Ready a ∷ ins) x y h = same x y (Ready a) h.0

  -- what each poll keeps
  pub gave_stays : {unused G : Type 0} (name : F → G) → ((x y : F) (c : Poll (Result A Error)) → call x c y → name y ≡ name x)
      → (x y : F) (r : Result A Error) → GaveOrRefused unused (PolledByCalls call) x r y → name y ≡ name x
  gave_stays name same x y r (inl h) = polled_stays name same h.0 x y h.2
  gave_stays name same x y r (inr h) = ap name h.1

  -- what the last poll answered, unless no memory was found
  pub gave_last : {unused : Type 0} (x y : F) (r : Result A Error) → GaveOrRefused unused (PolledByCalls call) x r y
      → ((m : F) × call m (Ready r) y) ⊎ (NoMemoryToWait unused r × (y ≡ x))
  gave_last x y r (inl h) = inl (polled_last h.0 x y r h.1 h.2)
  gave_last x y r (inr h) = inr h

  module _ {M S : Type 0} {run : Runs M S} (laws : MarkLaws run) (part : F → S) (pending : M)
      (marks : Poll (Result A Error) → F → List M)
      (same : (y : F) → marks Pending y ≡ pending ∷ [])
      (came : (x y : F) (c : Poll (Result A Error)) → call x c y → run (part x) (marks c y) (part y)) where
    polled_blocks : (ins : List (Poll (Result A Error))) (x y : F) (r : Result A Error) → Gives ins r
        → PolledByCalls call x ins y
        → (n : ℕ) × run (part x) (replicate n pending ++ marks (Ready r) y) (part y)
    polled_blocks [] x y r g h = absurd g
    polled_blocks (Pending ∷ ins) x y r g h =
        let rest = polled_blocks ins h.0 y r g h.2 in
        let first = rw (same h.0) at (came x h.0 Pending h.1) in (
          suc rest.0,
          laws.follows (part x) (part h.0) (part y) (pending ∷ [])
              (replicate rest.0 pending ++ marks (Ready r) y) first rest.1,
        )
    polled_blocks (Ready a ∷ ins) x y r g h =
        (0, rw (← g.0) (came x y (Ready a) h.0))

    -- what the future's part did
    pub gave_blocks : {unused : Type 0} (x y : F) (r : Result A Error) → GaveOrRefused unused (PolledByCalls call) x r y
        → Blocks unused run pending (λ c. marks c y) (part x) r (part y)
    gave_blocks x y r (inl h) = inl (polled_blocks h.0 x y r h.1 h.2)
    gave_blocks x y r (inr h) = inr (h.0, ap part h.1)

pub refused_reads : {unused : Type 0} (r : Result ℕ Error) (buf : List ℕ) → NoMemoryToWait unused r → ReadsAtMost r buf
refused_reads (Ok n) buf h = absurd h.1
refused_reads (Err e) buf h = tt

pub read_at_most : (r : Result ℕ Error) (buf : List ℕ) → IfOk r (λ n. n ≤ length buf) → ReadsAtMost r buf
read_at_most (Ok n) buf h = (h, sym (length-take-le n buf h))
read_at_most (Err e) buf h = tt

pub refused_writes : {unused : Type 0} (r : Result ℕ Error) (buf : List ℕ) → NoMemoryToWait unused r → WritesAtMost r buf
refused_writes (Ok n) buf h = absurd h.1
refused_writes (Err e) buf h = tt
