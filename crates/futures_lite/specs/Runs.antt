-- Runs: what those of each stream and each reader meet, and when two runs agree.
pub use Rattle.lite_base.specs.StreamLaws.{PollsOn, RunLaws, StreamLaws}
pub use Rattle.lite_base.specs.Laws.StreamLaws.{laws_of, runs_of}
pub use Rattle.lite_base.specs.Alike.{Alike, AlikeBy, Either, MadeOf, OptionBy, Optional, Pairwise, SameAnswer, SameErr}
pub use Rattle.lite_base.specs.Alike.{SameHeld, SameItem, SameList, SameOk, Sameness}
pub use Rattle.lite_base.specs.Armed.{Arms}
pub use Rattle.lite_base.specs.Calm.{CalmLaws}
pub use Rattle.lite_base.specs.Steady.{Steadiness, SteadinessBy, SteadyLaws, SteadyLawsBy, TakesNone}
pub use Rattle.lite_base.specs.Runs.{Lent}
pub use Rattle.lite_base.specs.Laws.Lent.{lent_counting, lent_laws}
pub use Rattle.lite_laws.specs.Both.{Agreed, Fewer}
-- of folders and of collections
pub use Rattle.lite_consume.specs.Agreeing.{FoldSteadyLaws, SameDecision, Within, WithinWhere, AgreeBeside, AgreeDeciding, AgreeOrKin, Giving, KinGive}
pub use Rattle.lite_consume.specs.TryNext.{SameNext, next_item_of}
pub use Rattle.lite_gather.specs.Agreeing.{HoldsParts, HoldsSame, HoldsSameBoth, HoldsSameParts, NeverMixed, SameCollected, TrySameCollected, Unmixed}
