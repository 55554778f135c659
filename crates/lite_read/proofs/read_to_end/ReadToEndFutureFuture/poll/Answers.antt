use Rattle.std.specs.Prelude.{length}
use Rattle.lite_read.specs.Uses.{◌∙◌, ap, length-take-le}
use Rattle.lite_read.proofs.Appending.{cut_off, polls_on, to_end_full, vector_grows}
use Rattle.lite_read.specs.Laws.Refusals.{appends_weaker, gathers_weaker}
use Rattle.lite_read.proofs.read_to_end.ReadToEndFutureFuture.poll.Goals as goal

pub returns-clause-ran : goal.returns-clause-ran
returns-clause-ran g c =
    let x = c.args.self.now in
    let z = c.drive-answer.new.t in
    let all = c.len-self.ensures ∙ x.buf.now.ok.0 in
    let cut = c.truncate.ensures in
    let told = to_end_full g.R.ReadSpec.read_laws c.drive-answer.ensures.stepped in
    let ran = cut_off _ g.R.ReadSpec.read_laws x z c.len-self.result c.truncate.new.self c.drive-answer.result all
    cut.items told.0.gathered in
    let long = ap length cut.items ∙ length-take-le z.filled z.buf.now.items told.1 in
    record {
      gathered = gathers_weaker (λ v. appends_weaker v.start _ _ (λ g full. rw (← all, long) full)) _ _ _ ran;
      grows = λ w. vector_grows x z c.len-self.result c.truncate.new.self all cut.items cut.capacity (told.0.grows w);
    }

pub returns-clause-again : goal.returns-clause-again
returns-clause-again g c =
    let x = c.args.self.now in
    let z = c.drive-answer.new.t in
    let all = c.len-self.ensures ∙ x.buf.now.ok.0 in
    let told = to_end_full g.R.ReadSpec.read_laws c.drive-answer.ensures.stepped in
    let next = polls_on _ g.R.ReadSpec.read_laws g.met.R.CountedRead.counting x z c.drive-answer.result c.len-self.result
    all c.requires.0 c.requires.1 told.0.gathered in
    rw c.truncate.ensures.items next
