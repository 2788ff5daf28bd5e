-- Each row is asked up to the first that passes. Assumes nothing.
use Rattle.std.proofs.Common.{rules}
use Rattle.tables.proofs.ChainLaws.{find_first}
use Rattle.insert.proofs.wired.first_input.Goals as goal

pub returns : goal.returns
returns c = find_first _ _ _ _ _ c.find.ensures.ran (λ x b p h. search rules)
