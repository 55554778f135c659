-- Futures: what their runs meet, and what it is to be polled to the value.
pub use Rattle.lite_base.specs.FutureLaws.{FutureLaws, FutureRunLaws, WaitsOn}
pub use Rattle.lite_base.specs.Laws.FutureLaws.{future_laws_of, future_runs_of}
pub use Rattle.lite_base.specs.Spent.{Finishes}
pub use Rattle.lite_base.specs.Pollers.{CallAnswers, CallRegisters, NeverPends, Obeys, Polled, Poller}
pub use Rattle.lite_future.specs.Together.{Together}
pub use Rattle.lite_future.specs.Picks.{Picks}
pub use Rattle.lite_laws.specs.Both.{OneValue}
-- what a budget of polls makes of a future's results
pub use Rattle.lite_future.specs.PollLimited.{LimitsPolls, SpendsPolls}
