-- What comes of answers in the place of the first end: what `fuse`, `chain` and `flatten` share.
use Rattle.std.specs.Prelude.{List, [], ◌∷◌, ◌++◌, Some, None}
use Rattle.lite_views.specs.Uses.{append-nil, Ready, Pending, Answer, Endless, end}
use Rattle.lite_views.specs.Views.{Fits}

-- of answers before the first end: what fits behind them in place of others fits the list with ys behind it
module _ {A : Type 0} where
  pub replaced_fits : (own l m : List (Answer A)) (xs ys : List A) → Endless own
      → ((rest : List A) → Fits l rest → Fits m (rest ++ ys)) → Fits (own ++ l) xs → Fits (own ++ m) (xs ++ ys)
  replaced_fits [] l m xs ys n to e = to xs e
  replaced_fits (Pending ∷ own) l m xs ys n to e = replaced_fits own l m xs ys (cc n) to e
  replaced_fits (Ready None ∷ own) l m xs ys n to e = cc
  replaced_fits (Ready (Some x) ∷ own) l m [] ys n to e = absurd e
  replaced_fits (Ready (Some x) ∷ own) l m (y ∷ xs) ys n to e = (e.0, replaced_fits own l m xs ys (cc n) to e.1)

  -- answers without an end fit a longer list too
  pub endless_fits : (l : List (Answer A)) (xs ys : List A) → Endless l → Fits l xs → Fits l (xs ++ ys)
  endless_fits l xs ys n e = rw append-nil at (replaced_fits l [] [] xs ys n (λ rest h. tt) (rw append-nil e))

  -- what stands in the place of the end fits the list behind
  pub continued_fits : (own m : List (Answer A)) (xs ys : List A) → Endless own → Fits (own ++ end ∷ []) xs
      → Fits m ys → Fits (own ++ m) (xs ++ ys)
  continued_fits own m xs ys n e d = replaced_fits own (end ∷ []) m xs ys n (λ rest h. rw h d) e
