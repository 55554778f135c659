use Rattle.std.specs.Prelude.{◌≡◌, Ok}
use Rattle.lite_buffered.specs.Uses.{rules, ap, inl, Ready, by_kind}
use Rattle.lite_buffered.proofs.buf_reader.BufReader.seek_twice.Goals as goal

pub returns-in-Ok-clause-sought : goal.returns-in-Ok-clause-sought
returns-in-Ok-clause-sought g c =
    let n = c.in-Ok.field-0 in
    let got : c.seek_once.result ≡ Ready (Ok n) = search rules in
    let found : by_kind c.seek_once.result ≡ Ready (Ok n) = ap by_kind got in
    inl (n, c.seek_once.new.self, rw found at c.seek_once.ensures.sought, c.seek_once-in-Ok.ensures.sought)
