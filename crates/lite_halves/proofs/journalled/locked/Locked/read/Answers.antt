use Rattle.lite_halves.specs.Uses.{sym, ◌∙◌}
use Rattle.lite_halves.proofs.Booked.{read_belongs, other_books, own_books, tally_fits}
use Rattle.lite_halves.proofs.journalled.locked.Locked.read.Goals as goal

pub count-requires-2 : goal.count-requires-2
count-requires-2 g c =
    let there = sym (rw c.unwrap.ensures at c.as_mut.ensures.value) in
    let belongs = read_belongs c.in_ok-polled.polled c.step_read.new.buf c.in_ok-polled.ensures.bound in
    tally_fits g.T.ReadSpec.reads g.T.WriteSpec.writes _ _ _ _ there c.in_ok-polled.ensures.added
    belongs _ _ _ c.args.self.now.reading_is c.audit.ensures.whole c.audit.ensures.tally c.in_ok-polled.ensures.small

pub invariant_of-self-2 : goal.invariant_of-self-2
invariant_of-self-2 g c =
    let there = sym (rw c.unwrap.ensures at c.as_mut.ensures.value) in
    let belongs = read_belongs c.in_ok-polled.polled c.step_read.new.buf c.in_ok-polled.ensures.bound in
    record {
      reading_is = own_books g.T.ReadSpec.reads g.T.WriteSpec.writes _ _ _ _ there c.in_ok-polled.ensures.added
          belongs _ _ _ (c.audit.ensures.counters ∙ c.args.self.now.reading_is) c.count.ensures c.count-2.ensures.counters;
      writing_is = other_books g.T.ReadSpec.reads g.T.WriteSpec.writes _ _ _ _ there c.in_ok-polled.ensures.added
          belongs _ c.args.self.now.writing_is;
    }
