-- What two or more files of this crate take from other crates. The prelude, and a name that two modules have, are imported from where they are.
pub use Rattle.futures.specs.Task.{Keeps, Lasting}
pub use Rattle.futures.specs.declared.task.Poll.{Poll}
pub use Rattle.futures.specs.declared.task.Poll.TheVariants.{Pending, Ready}
pub use Rattle.lite_base.specs.Alike.{Alike, OptionBy, Pairwise, SameItem, Sameness}
pub use Rattle.lite_base.specs.Answers.{Gives, UpToValue, Waiting, strip}
pub use Rattle.lite_base.specs.Calm.{CalmLaws, NoPending}
pub use Rattle.lite_base.specs.Pollers.{AlwaysObeys, NeverPends, Polled}
pub use Rattle.lite_base.specs.Spent.{Finishes, Spends}
pub use Rattle.lite_base.specs.FutureLaws.{FutureLaws, FutureRunLaws, WaitsOn}
pub use Rattle.lite_base.specs.Laws.Alike.{alike_agrees, by_value}
pub use Rattle.lite_base.specs.Laws.Answers.{up_to_once, up_to_one, waiting_once, waiting_strip, waiting_up_to, waiting_waiting}
pub use Rattle.lite_base.specs.Laws.Calling.{folds_follow}
pub use Rattle.lite_base.specs.Laws.Calm.{calm_both, no_pending_join}
pub use Rattle.lite_base.specs.Laws.FutureLaws.{future_laws_of, future_runs_of}
pub use Rattle.lite_base.specs.Laws.Steady.{future_steady_always}
pub use Rattle.lite_base.specs.Registered.{Registered}
pub use Rattle.lite_base.specs.Runs.{Runs}
pub use Rattle.lite_base.specs.Segments.{is_first}
pub use Rattle.lite_base.specs.Steady.{FutureSteadyLaws, FutureSteadyLawsBy}
pub use Rattle.rand_core.specs.Stream.{Stream}
pub use Rattle.std.proofs.Common.{ap, append_assoc, arith, inl, inr, subst, sym, ◌∙◌}
pub use Rattle.std.proofs.lemmas.List.{map-append}
pub use Rattle.std.specs.List.{AllByRecursion}
