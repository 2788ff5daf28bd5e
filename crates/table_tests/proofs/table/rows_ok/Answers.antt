-- A row that fails decides; one that passes may reach higher. Assumes nothing.
use Rattle.std.proofs.Common.{arith, sym}
use Rattle.tables.proofs.BelowLaws.{all_stop, all_more}
use Rattle.table_tests.proofs.HighLaws.{high_more}
use Rattle.table_tests.proofs.table.rows_ok.Goals as goal

pub returns-then-not-row_ok : goal.returns-then-not-row_ok
returns-then-not-row_ok g c = sym (all_stop _ c.loop-k.k _ (cc) (omega arith))

pub loop-k-preserved : goal.loop-k-preserved
loop-k-preserved g c = record {
  passed = all_more _ _ c.loop-k.invariant.passed (cc);
  highest = high_more _ _ _ _ c.loop-k.invariant.highest (cc);
}
