-- What each word says that is shut unless a proof opens it: one lemma for each, over imports of `futures_lite` alone.
use Rattle.std.specs.Prelude.{◌≡◌, ℕ, List, ◌∷◌, Result, Ok}
use Rattle.futures_lite.specs.Answers.{Answer, Front, Gives, Poll, Ready, Waiting, items_in}
use Rattle.futures_lite.specs.Futures.{Finishes}
use Rattle.futures_lite.specs.Lists.{AtOnce, EachIs, Fits, Fronts, GoesOn, HasValue, LeftAs, LeftSeen, Lists, NeverReady, OkFits}
use Rattle.futures_lite.specs.Lists.{OkLists, OkSeen, Seen, Waited}
use Rattle.futures_lite.specs.Marks.{ReadMark, WriteMark}
use Rattle.futures_lite.specs.Own.{Runs}
use Rattle.futures_lite.specs.Readers.{EachByte, YieldsOn}
use Rattle.futures_lite.specs.Writers.{AcceptsAll, AllAccepted}

-- Of a future.
module _ {F A : Type 0} (run : Runs (Poll A) F) (f : F) (v : A) where
  pub at_once_says : (a : Poll A) (l : List (Poll A)) (g : F) → AtOnce run f v → run f (a ∷ l) g → a ≡ Ready v
  unfolding AtOnce
  at_once_says a l g once = once a l g

  pub has_value_says : (l : List (Poll A)) (w : A) → HasValue run f v → Finishes run f l w → w ≡ v
  unfolding HasValue
  has_value_says l w value = value l w

  pub waited_says : (E : Type 0) → Waited {E = E} run f (Ok v) → (l : List (Poll A)) × Finishes run f l v
  unfolding Waited
  waited_says E waited = waited

  pub left_as_says : (E : Type 0) (g : F) → LeftAs {E = E} run f (Ok v) g → (l : List (Poll A)) × Gives l v × run f l g
  unfolding LeftAs
  left_as_says E g left = left.0

module _ {F A : Type 0} (run : Runs (Poll A) F) (f : F) where
  pub never_ready_says : (l : List (Poll A)) (g : F) → NeverReady run f → run f l g → Waiting l
  unfolding NeverReady
  never_ready_says l g never = never l g

-- Of a stream.
module _ {S A : Type 0} (run : Runs (Answer A) S) (s : S) (l : List (Answer A)) (t : S) where
  pub lists_say : (xs : List A) → Lists run s xs → run s l t → Fits l xs
  unfolding Lists
  lists_say xs lists = lists l t

  pub fronts_say : (xs : List A) → Fronts run s xs → run s l t → Front (items_in l) xs
  unfolding Fronts
  fronts_say xs fronts = fronts l t

  pub goes_on_says : (x : A) → GoesOn run s x → run s l t → EachIs x l
  unfolding GoesOn
  goes_on_says x on = on l t

module _ {S T E Y : Type 0} (run : Runs (Answer (Result T E)) S) (s : S) (f : T → Y) (xs : List Y) where
  pub ok_lists_say : (l : List (Answer (Result T E))) (t : S) → OkLists run s f xs → run s l t → OkFits f l xs
  unfolding OkLists
  ok_lists_say l t lists = lists l t

-- Of a reader, and of a writer.
module _ {R : Type 0} (reads : Runs ReadMark R) (x : R) (b : ℕ) where
  pub yields_on_says : (l : List ReadMark) (y : R) → YieldsOn reads x b → reads x l y → EachByte b l
  unfolding YieldsOn
  yields_on_says l y on = on l y

module _ {W : Type 0} (writes : Runs WriteMark W) (x : W) where
  pub accepts_all_says : (l : List WriteMark) (y : W) → AcceptsAll writes x → writes x l y → AllAccepted l
  unfolding AcceptsAll
  accepts_all_says l y all = all l y

-- Three are true of all.
pub seen_all : {X Y : Type 0} (x : X) (y : Y) → Seen x y
unfolding Seen
seen_all x y = tt

pub ok_seen_all : {S T Y : Type 0} (s : S) (f : T → Y) (xs : List Y) → OkSeen s f xs
unfolding OkSeen
ok_seen_all s f xs = tt

pub left_seen_all : {F R : Type 0} (f : F) (r : R) (g : F) → LeftSeen f r g
unfolding LeftSeen
left_seen_all f r g = tt
