-- `find` over the rows is the first that meets the run. Assumes nothing.
use Rattle.std.proofs.Common.{rules}
use Rattle.tables.proofs.ChainLaws.{find_first}
use Rattle.search.proofs.range.first_overlap.Goals as goal

pub returns : goal.returns
returns c = find_first _ _ _ _ _ c.find.ensures.ran (λ x b p h. search rules)
