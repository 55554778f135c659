-- What the closures of the pipes compute, over whole lists.
use Rattle.std.proofs.Common.{◌≡◌, ℕ, ℤ, ◌+ℤ◌, Bool, true, false, List, [], ◌∷◌, ◌++◌, length, map, refl, ap, Option}
use Rattle.std.proofs.Common.{Some, None, Result, Ok, Err, IfOk, Global, subst}
use Rattle.std.specs.Fmt.{signed_decimal}
use Rattle.std.specs.Prelude.{string_bytes}
use Rattle.std.specs.declared.string.String.{String}
use Rattle.futures.specs.declared.task.Poll.TheVariants.{Ready, Pending}
use Rattle.lite_base.specs.Answers.{Answer}
use Rattle.lite_base.specs.Calling.{Accepts, Always}
use Rattle.lite_base.specs.Runs.{Question}
use Rattle.lite_reshape.specs.Laws.Leaving.{leaves_as}
use Rattle.lite_reshape.specs.Leaving.{LeavesOut}
use Rattle.lite_stream.specs.Pointwise.{Replaces}
use Rattle.pollrun.specs.Served.{PipeAnswers, Prints, doubled, is_even}
use Rattle.pollrun.specs.Spelling.{spelled_list}
use Rattle.pollrun.specs.declared.request.Pipe.TheVariants.{One}
use Rattle.pollrun.specs.declared.request.Single.{Single}

pub on_ok : {T E : Type 0} {P Q : T → Type 0} (r : Result T E) → ((x : T) → P x → Q x) → IfOk r P → IfOk r Q
on_ok (Ok x) to h = to x h
on_ok (Err e) to h = tt

-- what is printed of a nest over one script, where its answers are the pipe's
pub printed : {S E : Type 0} (ran : List (Answer ℤ) → S → Type 0) (script : List (Answer ℤ)) (polls : ℕ) (pipe : Single)
    (r : Result (String Global) E)
    → IfOk r (λ line. (out : List (Answer ℤ)) × (t : S) × ran out t × (length out ≡ polls)
    × (string_bytes line ≡ spelled_list signed_decimal out ++ 10 ∷ []))
    → ((out : List (Answer ℤ)) (t : S) → ran out t → PipeAnswers (One pipe) (script ∷ []) out)
    → IfOk r (λ line. Prints (One pipe) (script ∷ []) polls (string_bytes line))
printed ran script polls pipe (Ok line) h answers =
    record { out = h.0; answers = answers h.0 h.1 h.2; all_polls = h.3; spells = h.4 }
printed ran script polls pipe (Err e) h answers = tt

-- what a call always answers, and only an item
item_doubled : {F : Type 0} (call : Question F ℤ ℤ) → ((p q : F) (x y : ℤ) → call p x y q → y ≡ x +ℤ x)
    → (p q : F) (x : ℤ) (o : Option ℤ) → Always call p x o q → o ≡ Some (x +ℤ x)
item_doubled call twice p q x None h = absurd h
item_doubled call twice p q x (Some y) h = ap Some (twice p q x y h)

pub Replaces-doubled : {F : Type 0} (call : Question F ℤ ℤ) → ((p q : F) (x y : ℤ) → call p x y q → y ≡ x +ℤ x)
    → (f g : F) (ins out : List (Answer ℤ)) → Replaces call f ins out g → out ≡ map doubled ins
Replaces-doubled call twice f g [] [] h = refl
Replaces-doubled call twice f g [] (b ∷ out) h = absurd h
Replaces-doubled call twice f g (a ∷ ins) [] h = absurd h
Replaces-doubled call twice f g (Pending ∷ ins) (b ∷ out) h =
    let rest = Replaces-doubled call twice f g ins out h.1 in let same = h.0 in cc (rest, same)
Replaces-doubled call twice f g (Ready None ∷ ins) (b ∷ out) h =
    let rest = Replaces-doubled call twice f g ins out h.1 in let same = h.0 in cc (rest, same)
Replaces-doubled call twice f g (Ready (Some x) ∷ ins) (b ∷ out) h =
    let rest = Replaces-doubled call twice h.1 g ins out h.4 in
    let same = h.2 in
    let value = item_doubled call twice f h.1 x h.0 h.3 in
    cc (rest, same, value)

-- only what is asked about the item matters, where it is what `is_even` says
module _ {F : Type 0} (call : Question F ℤ (Option ℤ))
    (rejects : (p q : F) (x : ℤ) → call p x None q → false ≡ is_even x)
    (keeps : (p q : F) (x y : ℤ) → call p x (Some y) q → (y ≡ x) × (true ≡ is_even x)) where
  abbrev plain : Unit {0} → ℤ → Bool → Unit {0} → Type 0
  plain p z b q = b ≡ is_even z

  pub Leaves-plainly : (f g : F) (ins out : List (Answer ℤ)) → LeavesOut call f ins out g
      → LeavesOut (Accepts plain) tt ins out tt
  Leaves-plainly f g ins out h =
      let plainly = leaves_as call (Accepts plain) (λ p n. n ≡ tt) asked f g tt ins out refl h in
      subst (λ n. LeavesOut (Accepts plain) tt ins out n) plainly.1 plainly.2
    where
      asked : (p q : F) (n : Unit {0}) (x : ℤ) (o : Option ℤ) → n ≡ tt → call p x o q → (m : Unit {0}) × (m ≡ tt)
          × Accepts plain n x o m
      asked p q n x None e t = (tt, refl, rejects p q x t)
      asked p q n x (Some y) e t = (tt, refl, keeps p q x y t)
