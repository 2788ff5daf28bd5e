-- `any` over the rows, as the definition's over the used ones. Assumes nothing.
use Rattle.std.proofs.Common.{rules}
use Rattle.definition.specs.Request.{holds}
use Rattle.tables.proofs.ChainLaws.{any_row}
use Rattle.search.specs.Asks.{need_of}
use Rattle.search.proofs.FoundLaws.{span_at}
use Rattle.search.proofs.PoolRowLaws.{any_used}
use Rattle.search.proofs.held_by_one.Goals as goal

pub returns : goal.returns
returns c =
    let a = c.args in
    any_used a.pools.now (holds (need_of a.need) a.b) c.requires.0 _ (any_row (λ k. holds (need_of a.need) a.b (span_at a.pools.now k)) _ _ _ _ c.any.ensures.ran (λ x b p h. search rules))
