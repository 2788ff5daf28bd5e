-- Reading into a buffer: what one read more brings stands behind what was read. Assumes nothing.
use Rattle.std.proofs.Common.{◌-◌, ◌≤◌, ◌∙◌, length, drop, length-take, arith}
use borrow.Rule.Slice.PartMut.{same_len_mid}
use Rattle.standard_input.proofs.ReadLaws.{consumes_more, read_so_far}
use Rattle.standard_input.proofs.read_input.Goals as goal

pub loop-n-preserved : goal.loop-n-preserved
loop-n-preserved g c =
    let l = c.loop-n in
    let kept = same_len_mid l.n (length l.buf - l.n) l.buf c.read.new.buf c.read.auto.buf in
    let fits : c.in-Ok.got ≤ length c.read.new.buf = omega (arith, c.in-Ok.ensures.bound) in
    let room : length c.read.new.buf ≤ length l.buf - l.n = omega (arith, c.read.auto.buf, length-take (length l.buf - l.n) (drop l.n l.buf)) in
    record {
      inside = omega (arith, kept, room, fits, l.invariant.inside);
      kept = kept ∙ l.invariant.kept;
      front =
          consumes_more
          (g.R.Read.remaining c.args.reader.now)
          (g.R.Read.remaining l.reader)
          (g.R.Read.remaining c.read.new.self)
          _
          _
          _
          l.invariant.front
          c.in-Ok.ensures.bytes.0
          (read_so_far l.n (length l.buf - l.n) c.in-Ok.got l.buf c.read.new.buf l.invariant.inside fits);
    }
