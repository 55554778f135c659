-- What `read_line` and `read_to_string` share, of a reader of which it is known what bytes are to come; and the latter.
use Rattle.std.specs.Prelude.{◌≡◌, ℕ, List, [], ◌∷◌, ◌++◌, refl, ⊤, Result, Ok, Err, IfOk}
use Rattle.lite_views.specs.Uses.{ReadMark, Runs, Known, Knows, ◌∙◌, length, inl, inr, ap, sym, arith, FoldsTo, Error, ReadFold, appends, Reading, in_text}
use Rattle.lite_read.specs.Holding.{TextOver, TextStays}
use Rattle.lite_read.specs.Texts.{AppendsText, ReadsText, ValueOf, reading}
use Rattle.lite_views.specs.Answering.{WhenLeft}
use Rattle.lite_views.proofs.Futures.{TakenUp, all_appended, gathered_left}

module _ (fold : ReadFold (List ℕ) (Result ℕ Error)) where
  folds_under : (xs : List ℕ) (p q : Reading) → FoldsTo (in_text fold).takes p xs q
      → FoldsTo fold.takes p.read xs q.read × (q.text ≡ p.text)
  folds_under [] p q h = (ap (λ (z : Reading). z.read) h, ap (λ (z : Reading). z.text) (sym h))
  folds_under (x ∷ xs) p q h = let rest = folds_under xs h.0 q h.2 in ((h.0.read, h.1.0, rest.0), rest.1 ∙ h.1.1)

  module _ (n : ℕ) where
    given_under : (v : Result ℕ Error) (all before after : List ℕ) → ValueOf all v (Ok n)
        → AppendsText all before after → (v ≡ Ok n) × (after ≡ before ++ all)
    given_under (Err e) all before after v g = cc
    given_under (Ok k) all before after v (inl g) = (ap Ok (sym v.1), g.1)
    given_under (Ok k) all before after v (inr g) = absurd (g.0 v.0)

    -- what was read for a text, where the value is Ok
    pub under_text : (p q : Reading) (bs ys : List ℕ) → TakenUp (in_text fold) p bs ys (Ok n) q → (all : List ℕ)
        × TakenUp fold p.read bs ys (Ok n) all × (q.text ≡ p.text ++ all)
    under_text p q bs ys t =
        let f = folds_under t.taken p t.between t.folds in
        let w = t.given in
        let end = given_under w.0 w.1 t.between.text q.text w.3 w.4 in (
          w.1,
          record {
            taken = t.taken;
            rest = t.rest;
            last = t.last;
            between = t.between.read;
            came = t.came;
            folds = f.0;
            told = t.told;
            given = rw (← end.0) w.2;
          },
          rw (← f.1) end.1,
        )

-- a future that reads for a text: its references stay, and Q holds wherever a value was given
pub text_left : {X R A E : Type 0} (over : TextOver X R A) (fold : ReadFold (List ℕ) (Result ℕ Error))
    (reads : Runs ReadMark R) (known : Known R) (Q : X → Result ℕ Error → Type 0) (x : X)
    → Knows reads known (over.reader x).now
    → ((y : X) (v : Result ℕ Error) → TakenUp (in_text fold) (reading over x) (known.left (over.reader x).now)
    (known.left (over.reader y).now) v (reading over y) → Q y v)
    → WhenLeft E (ReadsText over fold reads) x (λ y. ((over.text y).ghost_name ≡ (over.text x).ghost_name)
    × ((over.reader y).ghost_name ≡ (over.reader x).ghost_name)) Q
text_left over fold reads known Q x knows value =
    gathered_left (λ y. (over.reader y).now) (reading over) (λ y. in_text fold) (TextStays over) reads known
    (λ y. ((over.text y).ghost_name ≡ (over.text x).ghost_name)
    × ((over.reader y).ghost_name ≡ (over.reader x).ghost_name)) Q x knows (refl, refl)
    (λ y s. rw (s.text, s.reader) (refl, refl)) (λ y v s. value y v)

-- `read_to_string`
pub all_read_text : (v : Result ℕ Error) (p q : Reading) (bs ys : List ℕ)
    → TakenUp (in_text (appends ⊤ 0)) p bs ys v q → p.read ≡ []
    → IfOk v (λ n. (q.text ≡ p.text ++ bs) × (n ≡ length bs))
all_read_text (Ok n) p q bs ys t none =
    let r = under_text (appends ⊤ 0) n p q bs ys t in
    let all = all_appended 0 n p.read r.0 bs ys r.1 in
    let whole : r.0 ≡ bs = all.0 ∙ rw none refl in
    (rw (← whole) r.2, omega (arith, all.1, ap length whole))
all_read_text (Err e) p q bs ys t none = tt
