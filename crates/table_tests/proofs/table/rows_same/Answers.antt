-- Each row is asked. Assumes nothing.
use Rattle.std.proofs.Common.{rules}
use Rattle.tables.proofs.ChainLaws.{all_rows}
use Rattle.table_tests.proofs.table.rows_same.Goals as goal

pub returns : goal.returns
returns g c = all_rows _ _ _ _ _ c.all.ensures.ran (λ x b p h. search rules)
