-- The loop keeps that each row passed is sound with those before it, and how high they reach. Assumes nothing.
use Rattle.std.proofs.Common.{◌≡◌, true}
use Rattle.tables.specs.Below.{all_below, row_ok}
use Rattle.table_tests.specs.Rows.{NoneAbove}
use Rattle.table_tests.proofs.table.rows_ok.Given as goal

abbrev pub invariant-loop-k : goal.invariant-loop-k
invariant-loop-k g l = record {
  passed : all_below (row_ok (g.R.Rule.good l.rule) (g.R.Rule.fits l.rule) (g.T.Table.at l.t)) l.k ≡ true;
  highest : NoneAbove l.high (λ j. g.R.Rule.reach (g.T.Table.at l.t j)) l.k;
}
