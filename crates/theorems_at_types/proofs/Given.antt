-- A script gives the items before its first end whole, and the last answer of a future that was polled is its value.
use Rattle.std.proofs.Common.{◌≡◌, ◌∙◌, List, [], ◌∷◌, ◌++◌, Option, Some, None, Result, Ok, Err}
use Rattle.std.proofs.Common.{map, refl, ap, subst, sym}
use Rattle.std.specs.Prelude.{IfOk, IfSome}
use Rattle.futures.specs.declared.task.Poll.{Poll}
use Rattle.futures.specs.declared.task.Poll.TheVariants.{Ready, Pending}
use Rattle.lite_base.specs.Answers.{Answer, Gives, UpToValue, end, strip}
use Rattle.lite_theorems.specs.Interleaving.{GivesWhole, Interleaves, items_given}
use Rattle.lite_source.specs.Script.{GivesScript as Scripts}

none_left : {A : Type 0} (own t : List (Answer A)) (l : List A) → Scripts [] (own ++ end ∷ []) t
    → strip own ≡ map Some l → l ≡ []
none_left own t [] h e = refl
none_left [] t (x ∷ l) h e = absurd (cc e)
none_left (Pending ∷ own) t (x ∷ l) h e = absurd (cc h.0)
none_left (Ready None ∷ own) t (x ∷ l) h e = absurd (cc e)
none_left (Ready (Some y) ∷ own) t (x ∷ l) h e = absurd (cc h.0)

script_given : {A : Type 0} (s own t : List (Answer A)) (l : List A) → Scripts s (own ++ end ∷ []) t
    → strip own ≡ map Some l → l ≡ items_given s
script_given [] own t l h e = none_left own t l h e
script_given (Ready None ∷ s) [] t [] h e = refl
script_given (Pending ∷ s) (Pending ∷ own) t l h e = script_given s own t l h.1 e
script_given (Ready (Some y) ∷ s) (Ready (Some z) ∷ own) t (x ∷ l) h e =
    let same : x ≡ y = (let d = h.0 in cc) in
    rw (sym same) (ap (λ k. x ∷ k) (script_given s own t l h.1 (cc e)))
script_given (_ ∷ s) (Ready None ∷ own) t [] h e = cc
script_given (_ ∷ s) own t l h e = cc

script_whole : {A : Type 0} (s t : List (Answer A)) (l : List A) → GivesWhole Scripts s l t → l ≡ items_given s
script_whole s t l h = script_given s h.0 t l h.1 h.2

-- a value that comes last is the one that was given
given_last : {A : Type 0} (l : List (Poll A)) (x : A) → UpToValue (l ++ Ready x ∷ []) → Gives (l ++ Ready x ∷ []) x
given_last [] x u = (refl, refl)
given_last (Pending ∷ l) x u = given_last l x u
given_last (Ready y ∷ []) x u = absurd (cc u)
given_last (Ready y ∷ b ∷ l) x u = absurd (cc u)

-- what holds all items of two scripts holds those of each before its first end
pub both_held : {C A : Type 0} (items : C → List A) {s u t v : List (Answer A)} (c : C)
    → (firsts seconds all : List A) × GivesWhole Scripts s firsts t × GivesWhole Scripts u seconds v
    × Interleaves firsts seconds all × (items c ≡ all)
    → Interleaves (items_given s) (items_given u) (items c)
both_held items {s} {u} {t} {v} c h =
    rw (h.6, sym (script_whole s t h.0 h.3), sym (script_whole u v h.1 h.4)) h.5

-- a value that was popped off all answers is the one that was given
pub given_popped : {A : Type 0} (all l : List (Poll A)) (a : Poll A) (x : A) → all ≡ l ++ a ∷ [] → a ≡ Ready x
    → UpToValue all → Gives all x
given_popped all l a x e is u =
    let last : all ≡ l ++ Ready x ∷ [] = e ∙ ap (λ b. l ++ b ∷ []) is in
    subst (λ k. Gives k x) (sym last) (given_last l x (subst (λ k. UpToValue k) last u))

-- what is known of a value that was given, in other words
pub given_as : {A E : Type 0} {P Q : A → Type 0} → ((x : A) → P x → Q x) → (r : Result (Option A) E)
    → IfOk r (λ given. IfSome given P) → IfOk r (λ given. IfSome given Q)
given_as told (Ok (Some x)) h = told x h
given_as told (Ok None) h = tt
given_as told (Err e) h = tt
