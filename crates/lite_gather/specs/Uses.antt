-- What two or more files of this crate take from other crates. The prelude, and a name that two modules have, are imported from where they are.
pub use Rattle.lite_base.specs.Alike.{OptionBy, SameErr, SameItem, SameOk, Sameness}
pub use Rattle.lite_base.specs.Calling.{AgreeFrom}
pub use Rattle.lite_base.specs.Runs.{Question}
pub use Rattle.lite_consume.specs.Consuming.{Fold, fold_of}
pub use Rattle.lite_consume.specs.Laws.Agreeing.{part_steady}
pub use Rattle.lite_consume.specs.Laws.Returning.{returns_counted}
pub use Rattle.std.proofs.Common.{ap, subst, sym, ◌∙◌}
pub use Rattle.std.specs.List.{fold}
