-- The table that is asked answers. Assumes nothing.
use Rattle.std.proofs.Common.{sym, ◌∙◌}
use Rattle.adding.proofs.answer.input.Goals as goal

pub returns-in-Some-clause-tells : goal.returns-in-Some-clause-tells
returns-in-Some-clause-tells c = rw (sym c.range.ensures ∙ c.in-Some.is) c.pool.ensures

pub returns-in-Some-input-clause-tells : goal.returns-in-Some-input-clause-tells
returns-in-Some-input-clause-tells c =
    rw (sym c.range.ensures ∙ c.in_default.is, sym c.input.ensures ∙ c.in-Some-input.is)
    (c.refuse_input.ensures.told, c.refuse_input.ensures.room)

pub returns-clause-tells : goal.returns-clause-tells
returns-clause-tells c = rw (sym c.range.ensures ∙ c.in_default.is, sym c.input.ensures ∙ c.in_default-input.is) tt
