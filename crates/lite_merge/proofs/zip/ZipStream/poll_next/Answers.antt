use Rattle.std.specs.Prelude.{◌≡◌, [], ◌∷◌, Some, None}
use Rattle.lite_merge.specs.Uses.{refl, Pending}
use Rattle.lite_merge.proofs.zip.ZipStream.poll_next.Goals as goal

pub returns-in-None-clause-ran : goal.returns-in-None-clause-ran
returns-in-None-clause-ran g c =
    let is : c.poll_next.result ≡ Pending = cc in
    let none : c.args.self.now.item_slot ≡ None = cc in
    record {
      firsts = Pending ∷ [];
      seconds = [];
      came = rw is at c.poll_next.ensures.ran;
      then_came = g.met.B.Stream.laws.rests _;
      paired = rw (none, c.take.ensures.after) (refl, (refl, refl, refl));
    }

pub returns-in-Some-clause-ran : goal.returns-in-Some-clause-ran
returns-in-Some-clause-ran g c =
    let held : c.args.self.now.item_slot ≡ Some c.in-Some.held = cc in
    let met = c.poll_pair.ensures.met in
    record {
      firsts = [];
      seconds = met.0;
      came = rw c.poll_pair.ensures.first (g.met.A.Stream.laws.rests _);
      then_came = met.1;
      paired = rw held met.2;
    }
