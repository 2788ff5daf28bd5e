-- `find` over the rows is the first on the input. Assumes nothing.
use Rattle.std.proofs.Common.{rules}
use Rattle.tables.proofs.ChainLaws.{find_first}
use Rattle.search.proofs.input.first_on.Goals as goal

pub returns : goal.returns
returns c = find_first _ _ _ _ _ c.find.ensures.ran (λ x b p h. search rules)
