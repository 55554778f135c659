-- Laws about facts that hold of each item that a source may still yield.
use Rattle.std.specs.Prelude.{◌≡◌, List, [], ◌∷◌, ◌++◌, Some, None, refl}
use Rattle.lite_base.specs.Uses.{FoldsTo, Pending, Ready, ap, append_assoc}
use Rattle.lite_base.specs.Answers.{Answer, end, item}
use Rattle.lite_base.specs.EachItem.{AtEachItem, items_in}
use Rattle.lite_base.specs.Laws.Calling.{folds_follow}
use Rattle.lite_base.specs.Runs.{Hints, Question, Runs}
use Rattle.lite_base.specs.StreamLaws.{StreamLaws}

items_in_join : {A : Type 0} (l m : List (Answer A)) → items_in (l ++ m) ≡ items_in l ++ items_in m
items_in_join [] m = refl
items_in_join (Pending ∷ l) m = items_in_join l m
items_in_join (Ready None ∷ l) m = items_in_join l m
items_in_join (Ready (Some x) ∷ l) m = ap (λ k. x ∷ k) (items_in_join l m)

-- The fact goes on to hold after any run, once the closure was called with its items.
pub each_along : {S F A O : Type 0} {run : Runs (Answer A) S} {call : Question F A O} {P : F → A → Type 0}
    {can_poll : S → Type 0} {hints : Hints S} {s t : S} {f g : F} → StreamLaws can_poll run hints → (ins : List (Answer A)) → AtEachItem run call P s f
    → run s ins t → FoldsTo (λ p x q. (o : O) × call p x o q) f (items_in ins) g → AtEachItem run call P t g
each_along {run} {s} {t} {f} {g} laws ins h came called =
    record {
      at = λ more x u p ran asked.
          h.at (ins ++ more) x u p (rw append_assoc (laws.follows s t u ins (more ++ item x ∷ []) came ran))
          (rw (items_in_join ins more) (folds_follow _ f g p (items_in ins) (items_in more) called asked));
    }

-- The fact holds of the item that the source has just yielded.
module _ {S F A O : Type 0} {run : Runs (Answer A) S} {call : Question F A O} {P : F → A → Type 0} {s t : S}
    {f : F} where
  pub each_here : {a : Answer A} {x : A} → AtEachItem run call P s f → run s (a ∷ []) t → a ≡ item x → P f x
  each_here {x} h came is = h.at [] x t f (rw (← is) came) refl

  -- The fact goes on to hold after an item, once the closure was called with it.
  module _ {can_poll : S → Type 0} {hints : Hints S} {g : F} {a : Answer A} {x : A} {o : O} (laws : StreamLaws can_poll run hints) where
    pub each_asked : AtEachItem run call P s f → run s (a ∷ []) t → a ≡ item x → call f x o g
        → AtEachItem run call P t g
    each_asked h came is called =
        record {
          at = λ ins y u p more asked.
              h.at (item x ∷ ins) y u p (laws.follows s t u (item x ∷ []) _ (rw (← is) came) more)
              (g, (o, called), asked);
        }

    -- The same, together with another fact.
    pub each_again : {Q : Type 0} → AtEachItem run call P s f → run s (a ∷ []) t → a ≡ item x → call f x o g → Q
        → Q × AtEachItem run call P t g
    each_again h came is called again = (again, each_asked h came is called)

module _ {S F A O : Type 0} (run : Runs (Answer A) S) (call : Question F A O) (P : F → A → Type 0)
    (follows : (x y z : S) (l m : List (Answer A)) → run x l y → run y m z → run x (l ++ m) z) where
  -- The fact goes on to hold after a `Pending` or an end of stream.
  module _ (s t : S) (f : F) (h : AtEachItem run call P s f) where
    pub each_pending : run s (Pending ∷ []) t → AtEachItem run call P t f
    each_pending came =
        record {
          at = λ ins x u p more. h.at (Pending ∷ ins) x u p
              (follows s t u _ _ came more);
        }

    pub each_end : run s (end ∷ []) t → AtEachItem run call P t f
    each_end came =
        record {
          at = λ ins x u p more. h.at (end ∷ ins) x u p (follows s t u _ _ came more);
        }

-- What still holds after a poll that yields no item.
pub ruleset each_rules = (each_pending, each_end)
