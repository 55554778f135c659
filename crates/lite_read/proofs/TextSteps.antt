-- Answers of futures that read for a text.
use Rattle.std.specs.Prelude.{◌≡◌, ℕ, List, [], ◌∷◌, Result, ⊤, string_bytes}
use Rattle.lite_read.specs.Uses.{refl, subst, sym, Error, Poll, Ready, Pending, OnPending, Reaches, Ranks, ReadCounting}
use Rattle.lite_read.specs.Uses.{ReadMark, MarkLaws, up_to_one, segment_alone, segments_one, Runs, goes_again, steps_answer}
use denote.MutBor.{MutBor}
use Rattle.lite_read.specs.ReadFold.{AnswerMarks, ReadFold}
use Rattle.lite_read.specs.Laws.Refusals.{takes_alike}
use Rattle.lite_read.specs.Holding.{TextOver, TextStays}
use Rattle.lite_read.specs.Laws.Texts.{TextRoom, folds_in, stays_join, step_before, text_weaker_run}
use Rattle.lite_read.specs.Texts.{AppendsText, FinishesText, ReadsText, ValueOf, in_text, reading}
use Rattle.lite_read.specs.PollSteps.{AnswersText, AnswersTextByRoom, TakesTextIn}

module _ {X R A : Type 0} (over : TextOver X R A) (fold : ReadFold (List ℕ) (Result ℕ Error)) (reads : Runs ReadMark R)
    (x y : X) (stays : TextStays over x y) where
  one : (marks : List ReadMark) (a : Poll (Result ℕ Error)) → reads (over.reader x).now marks (over.reader y).now
      → AnswerMarks (in_text fold) (reading over x) marks a (reading over y)
      → ReadsText over fold reads x (a ∷ []) y
  one marks a came answer =
      record {
        folded = record {
          marks = marks;
          came = came;
          cut = segments_one (AnswerMarks _) _ _ marks a answer;
        };
        ends = up_to_one a;
        stays = stays;
        idle = λ e. absurd (cc e);
      }

  pub text_waits : over.read y ≡ over.read x → string_bytes (over.text y).now ≡ string_bytes (over.text x).now
      → fold.asks (over.read x)
      → reads (over.reader x).now (ReadMark.pending ∷ []) (over.reader y).now
      → ReadsText over fold reads x (Pending ∷ []) y
  text_waits read text asks came =
      let same : reading over y ≡ reading over x = cc (read, text) in
      one (ReadMark.pending ∷ []) Pending came (segment_alone _ _ (ReadMark.pending ∷ []) Pending (refl, asks, same))

  -- reading the bytes gives a value, and they go into the text
  pub text_given : (marks : List ReadMark) (v r : Result ℕ Error) (all : List ℕ)
      → AnswerMarks fold (over.read x) marks (Ready v) all → ValueOf all v r
      → AppendsText all (string_bytes (over.text x).now) (string_bytes (over.text y).now) → over.read y ≡ []
      → reads (over.reader x).now marks (over.reader y).now
      → ReadsText over fold reads x (Ready r ∷ []) y
  text_given marks v r all h value gains empty came =
      let text = string_bytes (over.text x).now in
      one marks _ came (record {
        taken = h.taken;
        last = h.last;
        cut = h.cut;
        between = record { read = h.between; text = text };
        folds = folds_in fold text _ h.between h.taken h.folds;
        given = (v, all, h.given, value, gains, empty);
      })

kept_ref : {S : Type 0} (a b : MutBor S) → b ≡ a → b ≡ record a { now = b.now }
kept_ref a b e = rw e refl

module _ {X R A : Type 0} (over : TextOver X R A) (fold : ReadFold (List ℕ) (Result ℕ Error)) (reads : Runs ReadMark R)
    (x w y : X) (stays : TextStays over x w)
    (text : string_bytes (over.text w).now ≡ string_bytes (over.text x).now) where
  -- more was read, and then it goes into the text
  pub text_finished : {marks : List ReadMark} {v r : Result ℕ Error} → FinishesText over w v r y
      → AnswerMarks fold (over.read x) marks (Ready v) (over.read w)
      → reads (over.reader x).now marks (over.reader w).now
      → AnswersText over fold reads x (Ready r) y
  text_finished {marks} {v} {r} f h came =
      let end : reads (over.reader x).now marks (over.reader y).now =
      subst (λ (b : MutBor R). reads (over.reader x).now marks b.now) (sym f.reader) came in
      let all = stays_join over x w y stays (record { reader = kept_ref _ _ f.reader; text = f.text }) in
      let into : AppendsText (over.read w) (string_bytes (over.text x).now) (string_bytes (over.text y).now) =
      subst (λ l. AppendsText (over.read w) l (string_bytes (over.text y).now)) text f.gains in
      (text_given over fold reads x y all marks v r _ h f.value into f.empty end, f.holds)

module _ {X R A : Type 0} (over : TextOver X R A) (fold : (List ℕ → Type 0) → ReadFold (List ℕ) (Result ℕ Error))
    (lacks : X → X → List ℕ → Type 0) {reads : Runs ReadMark R} where
  -- a value
  pub text_value : (x y : X) (v : Result ℕ Error) → AnswersText over (fold (lacks x y)) reads x (Ready v) y
      → AnswersTextByRoom over fold lacks reads x (Ready v) y
  text_value x y v h = (record { gathered = h.0; grows = λ w. absurd w }, h.1)

  -- a pending
  pub text_pending : (x y : X) → over.grows x y → AnswersText over (fold (lacks x y)) reads x Pending y
      → AnswersTextByRoom over fold lacks reads x Pending y
  text_pending x y grows h = (record { gathered = h.0; grows = λ w. (grows, λ k. h.1) }, h.1)

  -- an answer after some steps
  pub text_ran : TextRoom over fold lacks → MarkLaws reads → {x z : X} {a : Poll (Result ℕ Error)}
      → (y : X) × Reaches (TakesTextIn over (fold (λ read. ⊤)) reads) x y
      × AnswersTextByRoom over fold lacks reads y a z → AnswersTextByRoom over fold lacks reads x a z
  text_ran r laws =
      steps_answer {answers = AnswersTextByRoom over fold lacks reads} (λ x y z a t h.
      let ran =
      step_before over (fold (lacks x z)) laws x y z a
      (takes_alike (λ v. r.alike.takes (λ read. ⊤) (lacks x z)) x y t)
      (text_weaker_run r.alike (lacks y z) (lacks x z) (r.sooner x y z t.stays.3) y z (a ∷ []) h.0.gathered, h.1) in
      (record { gathered = ran.0; grows = λ w. (r.join x y z t.stays.3 (h.0.grows w).0, λ k. ran.1) }, ran.1))

  -- after a pending the future can be polled again
  pub text_on : {r : Ranks R} → ReadCounting reads r → (x z : X) (a : Poll (Result ℕ Error))
      → r.counts (over.reader x).now → AnswersTextByRoom over fold lacks reads x a z
      → OnPending a (r.counts (over.reader z).now × over.holds z)
  text_on c x z a k ran =
      let told = ran.0.gathered.folded in
      goes_again a (c.counts_on _ _ told.marks k told.came, ran.1)
