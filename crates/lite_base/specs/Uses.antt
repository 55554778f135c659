-- What two or more files of this crate take from other crates. The prelude, and a name that two modules have, are imported from where they are.
pub use Rattle.futures.specs.Poll.{OnPending}
pub use Rattle.futures.specs.Task.{Holds, Keeps, Lasting}
pub use Rattle.futures.specs.declared.task.Poll.{Poll}
pub use Rattle.futures.specs.declared.task.Poll.TheVariants.{Pending, Ready}
pub use Rattle.futures.specs.declared.task.context.Context.{Context}
pub use Rattle.std.proofs.Common.{ap, append_assoc, arith, inl, inr, rules, subst, sym, ◌∙◌}
pub use Rattle.std.proofs.lemmas.List.{map-append}
pub use Rattle.std.specs.Fn.{Called, Mut}
pub use Rattle.std.specs.List.{AllByRecursion, FoldsTo}
pub use denote.MutBor.{MutBor}
pub use denote.RattleType.{RattleType}
