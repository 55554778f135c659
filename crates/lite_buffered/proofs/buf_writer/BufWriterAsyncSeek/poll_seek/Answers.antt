use Rattle.std.specs.Prelude.{◌≡◌, Ok, Err}
use Rattle.lite_buffered.specs.Uses.{rules, refl, error_kind, Ready, Pending, by_kind}
use Rattle.lite_buffered.proofs.Seeking.{seek_fails, seek_follows, seek_waits}
use Rattle.lite_buffered.proofs.buf_writer.BufWriterAsyncSeek.poll_seek.Goals as goal

pub returns-clause-sought : goal.returns-clause-sought
returns-clause-sought g c =
    let got : c.flush_buf.result ≡ Pending = search rules in
    seek_waits g.W.WriteSpec.writes g.W.AsyncSeek.seeks c.args.self.now c.flush_buf.new.self c.args.pos
    (rw got at c.flush_buf.ensures.ran)

pub returns-2-clause-sought : goal.returns-2-clause-sought
returns-2-clause-sought g c =
    let got : c.flush_buf.result ≡ Ready (Ok tt) = search rules in
    let ran = rw got at c.flush_buf.ensures.ran in
    seek_follows g.W.WriteSpec.writes g.W.AsyncSeek.seeks c.args.self.now c.flush_buf.new.self _
    c.args.pos (by_kind c.poll_seek.result) ran c.poll_seek.ensures.sought refl refl

pub returns-in-Err-clause-sought : goal.returns-in-Err-clause-sought
returns-in-Err-clause-sought g c =
    let got : c.flush_buf.result ≡ Ready (Err c.in-Err.e) = search rules in
    seek_fails g.W.WriteSpec.writes g.W.AsyncSeek.seeks c.args.self.now c.flush_buf.new.self
    c.args.pos (error_kind c.in-Err.e) (rw got at c.flush_buf.ensures.ran)
