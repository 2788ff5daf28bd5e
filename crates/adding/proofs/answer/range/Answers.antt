-- The table that is asked answers. Assumes nothing.
use Rattle.std.proofs.Common.{sym, ◌∙◌}
use Rattle.adding.proofs.answer.range.Goals as goal

pub returns-in-Some-clause-tells : goal.returns-in-Some-clause-tells
returns-in-Some-clause-tells c = rw (sym c.range.ensures ∙ c.in-Some.is) c.pool.ensures

pub returns-in-Some-row-clause-tells : goal.returns-in-Some-row-clause-tells
returns-in-Some-row-clause-tells c =
    rw (sym c.range.ensures ∙ c.in_default.is, sym c.row.ensures ∙ c.in-Some-row.is)
    (c.refuse_range.ensures.told, c.refuse_range.ensures.room)

pub returns-clause-tells : goal.returns-clause-tells
returns-clause-tells c = rw (sym c.range.ensures ∙ c.in_default.is, sym c.row.ensures ∙ c.in_default-row.is) tt
