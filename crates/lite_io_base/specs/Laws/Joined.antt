-- Laws of runs that are joined.
use Rattle.std.specs.Prelude.{List, [], ◌∷◌, ◌++◌, flat_map, refl}
use Rattle.std.specs.List.{FoldsTo}
use Rattle.std.proofs.lemmas.List.Concat.{flat_map-append}
use Rattle.lite_base.specs.Laws.Calling.{folds_follow}
use Rattle.lite_io_base.specs.Uses.{◌∙◌, append-nil, subst, Runs}
use Rattle.lite_io_base.specs.Joined.{Joined}
use Rattle.lite_io_base.specs.Runs.{MarkLaws}

module _ {A S : Type 0} (run : Runs A S) where
  -- Joined runs join, whatever the runs are.
  pub joined_laws : MarkLaws (Joined run)
  joined_laws =
      record {
        rests = λ x. ([], refl, refl);
        follows = λ x y z l m h k. (
          h.0 ++ k.0,
          folds_follow run x y z h.0 k.0 h.1 k.1,
          flat_map-append (λ (part : List A). part) h.0 k.0 ∙ rw (h.2, k.2) refl,
        );
      }

  -- One run is joined of itself.
  pub joined_one : (x y : S) (l : List A) → run x l y → Joined run x l y
  joined_one x y l h = (l ∷ [], (y, h, refl), append-nil l)

  folds_by : MarkLaws run → (x y : S) (parts : List (List A)) → FoldsTo run x parts y
      → run x (flat_map (λ (part : List A). part) parts) y
  folds_by laws x y [] f = subst (run x []) f (laws.rests x)
  folds_by laws x y (part ∷ parts) f =
      laws.follows x f.0 y part (flat_map (λ (part : List A). part) parts) f.1 (folds_by laws f.0 y parts f.2)

  -- Where the runs join, a joined run is one of them: nothing is lost.
  pub joined_by : MarkLaws run → (x y : S) (l : List A) → Joined run x l y → run x l y
  joined_by laws x y l h = subst (λ v. run x v y) h.2 (folds_by laws x y h.0 h.1)
