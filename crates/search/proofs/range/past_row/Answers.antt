-- A row in the way puts the base past its end; any other leaves it. Assumes nothing.
use Rattle.std.proofs.Common.{inl, inr, refl, sym, ◌∙◌}
use Rattle.definition.specs.Tables.{meets}
use Rattle.definition.specs.Request.{row_at}
use Rattle.search.proofs.range.past_row.Goals as goal

pub returns-then-is_in_way : goal.returns-then-is_in_way
unfolding row_at meets
returns-then-is_in_way c = inr (sym c.is_in_way.ensures ∙ c.if-is_in_way.true, c.align_up.ensures)

pub returns-else-is_in_way : goal.returns-else-is_in_way
unfolding row_at meets
returns-else-is_in_way c = inl (sym c.is_in_way.ensures ∙ c.if-is_in_way.false, refl)
