-- The loop keeps whether each row passed is zero. Assumes nothing.
use Rattle.std.proofs.Common.{◌≡◌}
use Rattle.tables.specs.Below.{all_from}
use Rattle.table_tests.proofs.table.unused_zero.Given as goal

abbrev pub invariant-loop-k : goal.invariant-loop-k
invariant-loop-k g l = l.zeros ≡ all_from (λ j. g.T.Table.blank (g.T.Table.at l.t j)) l.n l.k
