-- What two or more files of this crate take from other crates. The prelude, and a name that two modules have, are imported from where they are.
pub use Rattle.futures.specs.Poll.{OnPending}
pub use Rattle.futures.specs.Task.{Keeps}
pub use Rattle.futures.specs.declared.task.Poll.{Poll}
pub use Rattle.lite_base.specs.Answers.{Answer}
pub use Rattle.std.proofs.Common.{rules}
