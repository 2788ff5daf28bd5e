-- The trigger before the sharing, and the request's before the row's. Assumes nothing.
use Rattle.std.proofs.Common.{arith}
use Rattle.choose.proofs.SharingLaws.{differ, alone, taken, joined}
use Rattle.choose.proofs.wired.validate_sharing.Goals.{then-need-ne1-via-then-need-ne1, then-need-ne1-via-else-need-ne1+then-held-ne1}
use Rattle.choose.proofs.wired.validate_sharing.Goals as goal

pub returns-then-need-held : goal.returns-then-need-held
returns-then-need-held c = λ b. differ _ b _ c.if-need-held.true

pub returns-then-need-ne1 : goal.returns-then-need-ne1
returns-then-need-ne1 c = λ b. elim c.then-need-ne1.branch [
  | then-need-ne1-via-then-need-ne1 w ↦ alone _ b _ (omega arith) w.if-need-ne1.true
  | then-need-ne1-via-else-need-ne1+then-held-ne1 w ↦ taken _ b _ (omega arith) (omega arith) w.if-held-ne1.true
]

pub returns : goal.returns
returns c = λ b. joined _ b _ (omega arith) (omega arith) (omega arith)
