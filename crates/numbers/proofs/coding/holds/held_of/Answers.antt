-- A number that doesn't fit its field: what the way out by `?` says. Assumes nothing.
use Rattle.definition.specs.Base.{all_of}
use Rattle.flat.proofs.ReadLaws.{none_read, some_read}
use Rattle.numbers.specs.Coding.{held_in, narrow}
use Rattle.numbers.proofs.coding.holds.held_of.Goals as goal

pub returns-in_err-port-in-2 : goal.returns-in_err-port-in-2
unfolding held_in narrow all_of
returns-in_err-port-in-2 c = rw (c.from_residual.ensures, c.in-2.is, none_read _ _ c.in_err-port-in-2.ensures, narrow)

pub returns-in_err-port-in-2-2 : goal.returns-in_err-port-in-2-2
unfolding held_in narrow all_of
returns-in_err-port-in-2-2 c = rw (c.from_residual-in_err-port-in-2-2.ensures, c.in-2.is, (some_read _ _ _ c.in_ok-port-in-2.ensures).0, none_read _ _ c.in_err-port-in-2-2.ensures, narrow)

pub returns-in_err-narrow-in-3 : goal.returns-in_err-narrow-in-3
unfolding held_in narrow all_of
returns-in_err-narrow-in-3 c = rw (c.from_residual-in_err-narrow-in-3.ensures, c.in-3.is, none_read _ _ c.in_err-narrow-in-3.ensures, narrow)

pub returns-in_err-narrow-in-3-2 : goal.returns-in_err-narrow-in-3-2
unfolding held_in narrow all_of
returns-in_err-narrow-in-3-2 c = rw (c.from_residual-in_err-narrow-in-3-2.ensures, c.in-3.is, (some_read _ _ _ c.in_ok-narrow-in-3.ensures).0, none_read _ _ c.in_err-narrow-in-3-2.ensures, narrow)

pub returns-in_err-narrow-in-3-3 : goal.returns-in_err-narrow-in-3-3
unfolding held_in narrow all_of
returns-in_err-narrow-in-3-3 c = rw (c.from_residual-in_err-narrow-in-3-3.ensures, c.in-3.is, (some_read _ _ _ c.in_ok-narrow-in-3.ensures).0, (some_read _ _ _ c.in_ok-narrow-in-3-2.ensures).0, none_read _ _ c.in_err-narrow-in-3-3.ensures, narrow)

pub returns-in_err-narrow-in-5 : goal.returns-in_err-narrow-in-5
unfolding held_in narrow all_of
returns-in_err-narrow-in-5 c = rw (c.from_residual-in_err-narrow-in-5.ensures, c.in-5.is, none_read _ _ c.in_err-narrow-in-5.ensures, narrow)

pub returns-in_err-narrow-in-5-2 : goal.returns-in_err-narrow-in-5-2
unfolding held_in narrow all_of
returns-in_err-narrow-in-5-2 c = rw (c.from_residual-in_err-narrow-in-5-2.ensures, c.in-5.is, (some_read _ _ _ c.in_ok-narrow-in-5.ensures).0, none_read _ _ c.in_err-narrow-in-5-2.ensures, narrow)

pub returns-in_err-ids-in-5 : goal.returns-in_err-ids-in-5
unfolding held_in narrow all_of
returns-in_err-ids-in-5 c = rw (c.from_residual-in_err-ids-in-5.ensures, c.in-5.is, (some_read _ _ _ c.in_ok-narrow-in-5.ensures).0, (some_read _ _ _ c.in_ok-narrow-in-5-2.ensures).0, none_read _ _ c.in_err-ids-in-5.ensures, narrow)

pub returns-in_err-narrow-in-7 : goal.returns-in_err-narrow-in-7
unfolding held_in narrow all_of
returns-in_err-narrow-in-7 c = rw (c.from_residual-in_err-narrow-in-7.ensures, c.in-7.is, none_read _ _ c.in_err-narrow-in-7.ensures, narrow)

pub returns-in_err-ids-in-7 : goal.returns-in_err-ids-in-7
unfolding held_in narrow all_of
returns-in_err-ids-in-7 c = rw (c.from_residual-in_err-ids-in-7.ensures, c.in-7.is, (some_read _ _ _ c.in_ok-narrow-in-7.ensures).0, none_read _ _ c.in_err-ids-in-7.ensures, narrow)

pub returns-in_err-narrow-in-8 : goal.returns-in_err-narrow-in-8
unfolding held_in narrow all_of
returns-in_err-narrow-in-8 c = rw (c.from_residual-in_err-narrow-in-8.ensures, c.in-8.is, none_read _ _ c.in_err-narrow-in-8.ensures, narrow)

pub returns-in_err-narrow-in-8-2 : goal.returns-in_err-narrow-in-8-2
unfolding held_in narrow all_of
returns-in_err-narrow-in-8-2 c = rw (c.from_residual-in_err-narrow-in-8-2.ensures, c.in-8.is, (some_read _ _ _ c.in_ok-narrow-in-8.ensures).0, none_read _ _ c.in_err-narrow-in-8-2.ensures, narrow)
