-- Each row is asked up to the first that meets. Assumes nothing.
use Rattle.std.proofs.Common.{rules}
use Rattle.tables.proofs.ChainLaws.{find_first}
use Rattle.table_tests.proofs.range.first_overlap.Goals as goal

pub returns : goal.returns
returns c = find_first _ _ _ _ _ c.find.ensures.ran (λ x b p h. search rules)
