-- Bytes put into a buffer: one byte more. Assumes nothing.
use Rattle.std.proofs.Common.{arith, refl}
use Rattle.writers.proofs.PutLaws.{sets_more}
use Rattle.writers.proofs.put.Page.put_bytes.Goals as goal

pub loop-k-init : goal.loop-k-init
loop-k-init c = record { same = refl; stays = refl; written = refl }

pub loop-k-preserved : goal.loop-k-preserved
loop-k-preserved c =
    let a = c.args.self.now in
    record {
      same = c.loop-k.invariant.same;
      stays = c.loop-k.invariant.stays;
      written = rw c.loop-k.invariant.written (sets_more a.out.now a.at c.args.w.now c.loop-k.k (omega arith));
    }
