-- A number that doesn't fit its field: what the way out by `?` says. Assumes nothing.
use Rattle.definition.specs.Base.{all_of}
use Rattle.flat.proofs.ReadLaws.{none_read, some_read}
use Rattle.numbers.specs.Coding.{pool_in, narrow}
use Rattle.numbers.proofs.coding.pools.pool_of.Goals as goal

pub returns-in_err-port-in-2 : goal.returns-in_err-port-in-2
unfolding pool_in narrow all_of
returns-in_err-port-in-2 c = rw (c.from_residual.ensures, c.in-2.is, none_read _ _ c.in_err-port-in-2.ensures, narrow)

pub returns-in_err-port-in-2-2 : goal.returns-in_err-port-in-2-2
unfolding pool_in narrow all_of
returns-in_err-port-in-2-2 c = rw (c.from_residual-in_err-port-in-2-2.ensures, c.in-2.is, (some_read _ _ _ c.in_ok-port-in-2.ensures).0, none_read _ _ c.in_err-port-in-2-2.ensures, narrow)

pub returns-in_err-narrow-in-3 : goal.returns-in_err-narrow-in-3
unfolding pool_in narrow all_of
returns-in_err-narrow-in-3 c = rw (c.from_residual-in_err-narrow-in-3.ensures, c.in-3.is, none_read _ _ c.in_err-narrow-in-3.ensures, narrow)
