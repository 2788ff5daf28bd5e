-- Behind `hold` an owner and what is held are read, or none of them says a call. Assumes nothing.
use Rattle.std.proofs.Common.{sym, ◌∙◌}
use Rattle.reader.proofs.LineLaws.{hold_no_owner, hold_said}
use Rattle.reader.proofs.ReadLaws.{no_hold}
use Rattle.reader.proofs.read.read_holds.Goals as goal

pub returns-in_err-owner : goal.returns-in_err-owner
returns-in_err-owner c = rw c.from_residual.ensures (sym (hold_no_owner _ _ _ (sym c.in_err-owner.ensures)))

pub returns-in_err-of : goal.returns-in_err-of
returns-in_err-of c = rw c.from_residual-in_err-of.ensures (sym (hold_said _ _ _ _ (sym c.in_ok-owner.ensures) ∙ no_hold _ _ c.in_err-of.ensures _))

pub returns-in_err-hold : goal.returns-in_err-hold
returns-in_err-hold c = rw c.from_residual-in_err-hold.ensures (sym (hold_said _ _ _ _ (sym c.in_ok-owner.ensures) ∙ rw c.in_ok-of.ensures (sym (c.in_err-hold.ensures _))))

pub returns : goal.returns
returns c = sym (hold_said _ _ _ _ (sym c.in_ok-owner.ensures) ∙ rw c.in_ok-of.ensures (sym (c.in_ok-hold.ensures _)))
