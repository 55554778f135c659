use Rattle.std.proofs.Common.{◌≡◌, ℕ, ℤ, List, sym, subst}
use Rattle.lite_base.specs.Answers.{Answer}
use Rattle.lite_reshape.specs.Chain.{Joins}
use Rattle.lite_reshape.specs.Ended.Turn.{First}
use Rattle.lite_merge.specs.Zip.{Pairs}
use Rattle.pollrun.proofs.Ended.{given_fused}
use Rattle.pollrun.proofs.Piped.{on_ok}
use Rattle.pollrun.specs.Served.{Prints}
use Rattle.pollrun.specs.declared.request.Paired.{Paired}
use Rattle.pollrun.specs.declared.request.Paired.TheVariants.{Chain, Or, Zip}
use Rattle.pollrun.specs.declared.request.Pipe.TheVariants.{Two}
use Rattle.pollrun.proofs.serve.line_of_two.Goals as goal

-- what is printed, where the pipe is the one that the arm names
named : (pipe own : Paired) (scripts : List (List (Answer ℤ))) (polls : ℕ) (line : List ℕ) → pipe ≡ own
    → Prints (Two own) scripts polls line → Prints (Two pipe) scripts polls line
named pipe own scripts polls line is h = subst (λ (p : Paired). Prints (Two p) scripts polls line) (sym is) h

pub returns-in-Chain : goal.returns-in-Chain
returns-in-Chain c =
    on_ok c.polled.result (λ line h.
    let first = rw (c.chain.ensures, c.script.ensures) at h.2.came in
    let second = rw (c.chain.ensures, c.script-in-Chain.ensures) at h.2.then_came in
    let joined : Joins First h.2.firsts h.2.seconds h.0 h.1.part = rw c.chain.ensures at h.2.joined in
    named c.args.pipe Chain _ _ _ c.in-Chain.is
    (record {
      out = h.0;
      answers = (h.2.firsts, h.2.seconds, h.1.first, h.1.second, first, second, (h.1.part, joined));
      all_polls = h.3;
      spells = h.4;
    })) c.polled.ensures

pub returns-in-Or : goal.returns-in-Or
returns-in-Or c =
    on_ok c.polled-in-Or.result (λ line h.
    let came = rw (c.or.ensures, c.script-in-Or.ensures) at h.2.came in
    let then_came = rw (c.or.ensures, c.script-in-Or-2.ensures) at h.2.then_came in
    let first = given_fused c.args.first.items h.2.firsts h.1.stream1.stream h.1.stream1.done came in
    let second = given_fused c.args.second.items h.2.seconds h.1.stream2.stream h.1.stream2.done then_came in
    named c.args.pipe Or _ _ _ c.in-Or.is
    (record {
      out = h.0;
      answers = (h.2.firsts, h.2.seconds, first.0, second.0, first.1, second.1, h.2.rows);
      all_polls = h.3;
      spells = h.4;
    })) c.polled-in-Or.ensures

pub returns-in-Zip : goal.returns-in-Zip
returns-in-Zip c =
    on_ok c.polled-in-Zip.result (λ line h.
    let first = rw (c.zip.ensures, c.script-in-Zip.ensures) at h.2.came in
    let second = rw (c.zip.ensures, c.script-in-Zip-2.ensures) at h.2.then_came in
    let paired : Pairs h.2.firsts h.2.seconds h.0 h.1.item_slot = rw c.zip.ensures at h.2.paired in
    named c.args.pipe Zip _ _ _ c.in-Zip.is
    (record {
      out = h.0;
      answers =
          (h.2.firsts, h.2.seconds, h.1.first, h.1.second, first, second, (h.1.item_slot, paired));
      all_polls =
          h.3;
      spells = h.4;
    })) c.polled-in-Zip.ensures
