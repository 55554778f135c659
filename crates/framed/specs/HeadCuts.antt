-- Cutters of frames with a head.
use Rattle.std.specs.Prelude.{◌≡◌, ◌≤◌, ◌<◌, ◌+◌, ◌-◌, ℕ, List, ◌∷◌, [], ◌++◌, drop, length, slice_range, take}
use Rattle.std.proofs.Common.{◌∙◌, ap, append-nil, append_assoc, arith, inl, inr, length-append, length-drop, length-take-le, refl, subst, sym, take-add, take-append-drop}
use Rattle.lent_frames.specs.Cutting.{CutFound, NoneEmpty, OneFrame, OpenUntil}
use Rattle.lent_frames.specs.declared.cut.Cut.{Cut}
use Rattle.lent_frames.specs.declared.cut.Cut.TheVariants.{More, Refused, Whole}
use Rattle.framed.specs.FrameErrors.{as_frame_error}
use Rattle.framed.specs.Heads.{CutsBody, FindsDelimiter, HeadForm, HeadedFrame, IsOpen, RefusesHeaded}
use Rattle.framed.specs.Heads.{frame_behind, is_head, none_empty, open_body, open_head, text_length, up_to_text, with_delimiter}
use Rattle.framed.specs.Pieces.{by_bytes, same_fronts, up_to_delimiter}
use Rattle.framed.specs.declared.cut_error.CutError.{CutError}
use Rattle.framed.specs.declared.cut_error.CutError.TheVariants as small
use Rattle.framed.specs.declared.delimiter.Delimiter.TheVariants.{At, Missing, TooFar}

module _ {C : Type 0} (f : HeadForm C) where
  -- Why bytes begin no frame.
  abbrev pub RefusesHeadedCut : C → List ℕ → CutError → Type 0
  RefusesHeadedCut c xs e = RefusesHeaded f c xs (as_frame_error e)

  -- The laws of a `Cutter`.
  pub headed_some : NoneEmpty (HeadedFrame f)
  headed_some = none_empty f

  pub headed_one : OneFrame (HeadedFrame f)
  headed_one c v w front other rest more (text, head, number, is) there same =
      let (line, before, _, found) = there in
      let behind = v ++ (f.tail ++ rest) in
      let at_front : text ++ f.delimiter ∷ behind ≡ front ++ rest =
      ap (λ l. text ++ f.delimiter ∷ l) (sym (append_assoc v f.tail rest))
      ∙ sym (append_assoc text (f.delimiter ∷ (v ++ f.tail)) rest) ∙ ap (λ l. l ++ rest) (sym is) in
      let parts = frame_behind f c text (length v) head number behind other more (at_front ∙ same) w there in
      let bodies = same_fronts v w (f.tail ++ rest) (f.tail ++ more) (sym parts.0) parts.1 in
      let texts = up_to_delimiter f.delimiter text line behind ((w ++ f.tail) ++ more) head.1 before.1
      (at_front ∙ same ∙ ap (λ l. l ++ more) found ∙ append_assoc line (f.delimiter ∷ (w ++ f.tail)) more) in (
        bodies.0,
        is ∙ ap (λ l. l ++ f.delimiter ∷ (v ++ f.tail)) texts.0
            ∙ ap (λ l. line ++ f.delimiter ∷ (l ++ f.tail)) bodies.0 ∙ sym found,
      )

  module _ (c : C) (xs : List ℕ) where
    open_still : (least : ℕ) → ((more : List ℕ) → length (xs ++ more) < least → IsOpen f c (xs ++ more))
        → OpenUntil (HeadedFrame f) RefusesHeadedCut c least xs
    open_still least h more less = by_bytes (HeadedFrame f) (RefusesHeaded f) as_frame_error c (xs ++ more) (h more less)

    -- What is found in bytes without a delimiter, in a head that is too long, and in one that is denied.
    pub head_cut_missing : FindsDelimiter f.delimiter (f.longest c) xs Missing
        → CutFound (HeadedFrame f) RefusesHeadedCut c xs (More (length xs + 1))
    head_cut_missing (none, short) = (
      omega arith,
      open_still (length xs + 1) (λ more less.
          let none_more : more ≡ [] = no_more more (omega (arith, less, length-append xs more)) in
          rw none_more (subst (IsOpen f c) (sym (append-nil xs)) (open_head f c xs none short))),
    )
      where
        no_more : (more : List ℕ) → length more < 1 → more ≡ []
        no_more [] less = refl
        no_more (x ∷ l) less = absurd (omega (arith, less))

    pub head_cut_long : FindsDelimiter f.delimiter (f.longest c) xs TooFar
        → CutFound (HeadedFrame f) RefusesHeadedCut c xs (Refused small.Malformed)
    head_cut_long (text, rest, long, none, is) = (text, rest, is, inl (none, long, refl))

    module _ (at : ℕ) (found : FindsDelimiter f.delimiter (f.longest c) xs (At at)) where
      pub head_cut_denied : (e : CutError) → f.denies c (take at xs) (as_frame_error e)
          → CutFound (HeadedFrame f) RefusesHeadedCut c xs (Refused e)
      head_cut_denied e denied = (
        take at xs ++ f.delimiter ∷ [],
        found.2,
        up_to_text f.delimiter (f.longest c) xs at found ∙ sym (append_assoc (take at xs) (f.delimiter ∷ []) found.2),
        inr (inl (take at xs, is_head f c xs at found, denied, refl)),
      )

      -- What is found where a body is looked for behind the head.
      module _ (n : ℕ) (number : f.says c (take at xs) n) where
        -- How many bytes the frame has.
        abbrev size : ℕ
        size = at + 1 + n + length f.tail

        -- The body.
        abbrev body : List ℕ
        body = take n (drop (at + 1) xs)

        -- What stands in the place of the tail.
        abbrev other : List ℕ
        other = take (length f.tail) (drop (at + 1 + n) xs)

        front_is : take size xs ≡ take at xs ++ f.delimiter ∷ (body ++ other)
        front_is =
            take-add (at + 1 + n) (length f.tail) xs ∙ ap (λ l. l ++ other) (take-add (at + 1) n xs)
            ∙ append_assoc (take (at + 1) xs) body other
            ∙ ap (λ l. l ++ (body ++ other)) (with_delimiter f.delimiter (f.longest c) xs at found)
            ∙ append_assoc (take at xs) (f.delimiter ∷ []) (body ++ other)

        body_long : size ≤ length xs → length body ≡ n
        body_long fits = length-take-le n (drop (at + 1) xs) (omega (arith, fits, length-drop (at + 1) xs))

        open_here : (more : List ℕ) → length (xs ++ more) < size → IsOpen f c (xs ++ more)
        open_here more less =
            let there = up_to_text f.delimiter (f.longest c) xs at found in
            let long = text_length f.delimiter (f.longest c) xs at found in
            let whole : xs ++ more ≡ take at xs ++ f.delimiter ∷ (found.2 ++ more) =
            ap (λ l. l ++ more) there ∙ append_assoc (take at xs) (f.delimiter ∷ found.2) more in
            subst (IsOpen f c) (sym whole) (open_body f c (take at xs) (found.2 ++ more) n (is_head f c xs at found) number
            (omega (arith, less, long, ap length whole, length-append (take at xs) (f.delimiter ∷ (found.2 ++ more)))))

        pub body_cut : (r : Cut CutError) → CutsBody (at + 1) n f.tail xs r → CutFound (HeadedFrame f) RefusesHeadedCut c xs r
        body_cut (Whole s) (is, fits, tail_is) = rw is (
          (omega arith, omega arith, fits),
          subst (λ l. HeadedFrame f c l (take size xs)) body_is framed,
        )
          where
            framed : HeadedFrame f c body (take size xs)
            framed = (take at xs, is_head f c xs at found, rw (body_long fits) number, rw tail_is at front_is)

            body_is : body ≡ slice_range xs (at + 1) (at + 1 + n)
            body_is = ap (λ m. take m (drop (at + 1) xs)) (omega arith)
        body_cut (More least) (less, most) =
            (less, open_still least (λ more short. open_here more (omega (arith, short, most))))
        body_cut (Refused e) (is, fits, differs) = rw is (
          take size xs,
          drop size xs,
          sym (take-append-drop size xs),
          inr (inr (take at xs, body, other, is_head f c xs at found, rw (body_long fits) number, other_long, differs, refl, front_is)),
        )
          where
            other_long : length other ≡ length f.tail
            other_long = length-take-le (length f.tail) (drop (at + 1 + n) xs) (omega (arith, fits, length-drop (at + 1 + n) xs))
