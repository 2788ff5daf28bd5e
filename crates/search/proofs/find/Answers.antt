-- The first pool row with a free base has the least of all, as rows of a domain are in order. Assumes nothing.
use Rattle.std.proofs.Common.{arith, below_more}
use Rattle.search.specs.Asks.{need_of}
use Rattle.search.proofs.CoreLaws.{barren_tried, lowest_here, lowest_none}
use Rattle.search.proofs.FoundLaws.{span_at, order_used, found_rows}
use Rattle.search.proofs.TurnLaws.{turns_fall}
use Rattle.search.proofs.PoolRowLaws.{bases_hold}
use Rattle.search.proofs.find.Goals as goal

pub loop-c-smaller : goal.loop-c-smaller
loop-c-smaller g c = turns_fall _ _ _ _ _ _ c.loop-c-test.true c.in-Some.ensures

pub loop-i-preserved : goal.loop-i-preserved
loop-i-preserved g c = below_more _ _ c.loop-i.invariant (barren_tried (span_at c.args.pools.now) _ _ _ _ _ _ c.bases_of-stop.ensures c.loop-c-test.false c.loop-c.invariant.2)

pub returns-in_default : goal.returns-in_default
returns-in_default g c =
    let p = c.args.pools.now in
    let o = c.args.owners.now in
    let n = need_of c.args.need in
    let r = g.met.T.Owners.rows o c.requires.rows in
    let s = g.met.T.Owners.some c.args.need c.requires.served in
    let t = c.loop-c-test.true in
    let v = c.loop-c.invariant in
    let u = c.bases_of-stop.ensures in
    record {
      is = found_rows p (g.T.Owners.view o) (g.T.Owners.row_at o) n _ c.requires.pools r
          (lowest_here (span_at p) (g.T.Owners.row_at o) (g.T.Owners.view o).count n p.n s.1 c.loop-i.i c.loop-c.c (order_used p c.requires.pools) c.loop-i-test.true c.loop-i.invariant
          v.2 (bases_hold _ _ _ _ u (v.0 t) t) (v.1 t) c.in_default.ensures);
      ends = u.fits c.loop-c.c t;
    }

pub returns-after-loop-i : goal.returns-after-loop-i
returns-after-loop-i g c =
    let p = c.args.pools.now in
    let o = c.args.owners.now in
    let n = need_of c.args.need in
    let u = g.met.T.Owners.rows o c.requires.rows in
    let s = g.met.T.Owners.some c.args.need c.requires.served in
    record {
      is = found_rows p (g.T.Owners.view o) (g.T.Owners.row_at o) n _ c.requires.pools u
          (lowest_none (span_at p) (g.T.Owners.row_at o) (g.T.Owners.view o).count n p.n s.1 (λ k l. c.loop-i.invariant k (omega (arith, c.loop-i-test.false))));
      ends = tt;
    }
