use Rattle.std.proofs.Common.{◌∙◌, ap, sym}
use Rattle.std.proofs.lemmas.List.{nil_from_length}
use Rattle.example_redis.specs.Laws.Decoding.{behind_front, decodes_begun, decodes_closed, decodes_on}
use Rattle.example_redis.proofs.requests.decoding.RequestsDecoder.decode.Goals as goal
use Rattle.example_redis.proofs.requests.decoding.RequestsDecoder.decode.Goals.{then-self-eq0+else-not-is_array+in_ok-front+in-Some, else-self-eq0}

pub returns-then-not-is_array : goal.returns-then-not-is_array
returns-then-not-is_array c =
    let t = c.take_line.new in
    decodes_closed c.args.self.now t.self c.args.src.now.items t.src.items c.take_line.result c.if-self-eq0.true c.take_line.ensures

pub returns : goal.returns
returns c =
    let s = c.args.self.now in
    let xs = c.args.src.now.items in
    let u = c.if-self-eq0.self in
    let zs = c.if-self-eq0.src.items in
    let t = c.take_words.new in
    elim c.if-self-eq0.branch [
      | then-self-eq0+else-not-is_array+in_ok-front+in-Some w ↦
          let front = w.in-Some.front in
          let (few, small, size, rest, is) = rw w.in-Some.is at w.in_ok-front.ensures in
          let left = ap (λ b. b.items) w.src-is ∙ w.advance.ensures.items in
          let no_line = nil_from_length s.line.items (w.is_array.ensures.array w.if-not-is_array.false).0 in
          decodes_begun s u t.self xs zs t.src.items c.take_words.result front.words w.if-self-eq0.true no_line (ap (λ v. v.limits) w.self-is)
          (ap (λ v. v.words.items) w.self-is ∙ w.new.ensures.items) (ap (λ v. v.missing) w.self-is) (ap (λ v. v.room) w.self-is)
          (behind_front xs zs rest front.words front.size (sym w.as_slice-then-self-eq0.ensures ∙ is) size left) c.take_words.ensures
      | else-self-eq0 w ↦
          decodes_on s u t.self xs zs t.src.items c.take_words.result w.if-self-eq0.false w.self-is (ap (λ b. b.items) w.src-is) c.take_words.ensures
    ]
