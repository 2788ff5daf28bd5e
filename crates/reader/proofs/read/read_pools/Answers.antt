-- Behind `pool` a use and a range are read, or none of them says a call. Assumes nothing.
use Rattle.std.proofs.Common.{sym, ◌∙◌}
use Rattle.reader.proofs.LineLaws.{pool_no_use, pool_said}
use Rattle.reader.proofs.ReadLaws.{no_pool}
use Rattle.reader.proofs.read.read_pools.Goals as goal

pub returns-in_err-user : goal.returns-in_err-user
returns-in_err-user c = rw c.from_residual.ensures (sym (pool_no_use _ _ _ (sym c.in_err-user.ensures)))

pub returns-in_err-of : goal.returns-in_err-of
returns-in_err-of c = rw c.from_residual-in_err-of.ensures (sym (pool_said _ _ _ _ (sym c.in_ok-user.ensures) ∙ no_pool _ _ c.in_err-of.ensures _))

pub returns-in_err-range : goal.returns-in_err-range
returns-in_err-range c = rw c.from_residual-in_err-range.ensures (sym (pool_said _ _ _ _ (sym c.in_ok-user.ensures) ∙ rw c.in_ok-of.ensures (sym (c.in_err-range.ensures _))))

pub returns : goal.returns
returns c = sym (pool_said _ _ _ _ (sym c.in_ok-user.ensures) ∙ rw c.in_ok-of.ensures (sym (c.in_ok-range.ensures _)))
