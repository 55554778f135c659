-- Contexts: what a poll keeps in one, and what a pending poll registers.
pub use Rattle.futures.specs.Poll.{IfReady, OnPending}
pub use Rattle.futures.specs.Task.{Holds, Keeps, Lasting}
pub use Rattle.futures.specs.declared.task.context.Context.{Context}
pub use Rattle.lite_base.specs.Registered.{Registered, HoldsWoken}
pub use Rattle.lite_laws.specs.Waits.{HoldsEach, IfWaits}
