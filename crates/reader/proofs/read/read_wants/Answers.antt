-- Behind `want` a requester, a slot and what is wanted are read, or none of them says a call. Assumes nothing.
use Rattle.std.proofs.Common.{sym, ◌∙◌}
use Rattle.reader.proofs.LineLaws.{want_no_requester, want_no_slot, want_alone, want_said}
use Rattle.reader.proofs.ReadLaws.{no_want}
use Rattle.reader.proofs.read.read_wants.Goals as goal

pub returns-in_err-requester : goal.returns-in_err-requester
returns-in_err-requester c = rw c.from_residual.ensures (sym (want_no_requester _ _ _ (sym c.in_err-requester.ensures)))

pub returns-in_err-slot : goal.returns-in_err-slot
returns-in_err-slot c = rw c.from_residual-in_err-slot.ensures (sym (want_no_slot _ _ _ (sym c.in_ok-requester.ensures) _ (sym c.in_err-slot.ensures)))

pub returns-in_err-kind : goal.returns-in_err-kind
returns-in_err-kind c = rw c.from_residual-in_err-kind.ensures (sym (want_alone _ _ _ (sym c.in_ok-requester.ensures) _ c.in_err-kind.ensures))

pub returns-in_err-of : goal.returns-in_err-of
returns-in_err-of c = rw c.from_residual-in_err-of.ensures (sym (want_said _ _ _ (sym c.in_ok-requester.ensures) _ _ _ _ (sym c.in_ok-slot.ensures) c.in_ok-kind.ensures ∙ no_want _ _ c.in_err-of.ensures _ _))

pub returns-in_err-want : goal.returns-in_err-want
returns-in_err-want c = rw c.from_residual-in_err-want.ensures (sym (want_said _ _ _ (sym c.in_ok-requester.ensures) _ _ _ _ (sym c.in_ok-slot.ensures) c.in_ok-kind.ensures ∙ rw c.in_ok-of.ensures (sym (c.in_err-want.ensures _ _))))

pub returns : goal.returns
returns c = sym (want_said _ _ _ (sym c.in_ok-requester.ensures) _ _ _ _ (sym c.in_ok-slot.ensures) c.in_ok-kind.ensures ∙ rw c.in_ok-of.ensures (sym (c.in_ok-want.ensures _ _)))
