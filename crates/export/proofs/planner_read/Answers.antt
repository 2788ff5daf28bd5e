-- What is read of a state of the right size is told; another says 1. Assumes nothing.
use Rattle.std.proofs.Common.{ap, ◌∙◌, ℕ}
use Rattle.export.proofs.SizeLaws.{is_size, no_size, right_read, wrong_read}
use Rattle.numbers.specs.Rows.{told}
use Rattle.export.proofs.planner_read.Goals as goal

pub returns-then-size-eq-STATE : goal.returns-then-size-eq-STATE
returns-then-size-eq-STATE c = right_read c.args.size _ _ _ (is_size c.args.size c.if-size-eq-STATE.true) (ap (λ (n : ℕ). told n c.read.new.out) c.code.ensures ∙ c.read.ensures)

pub returns : goal.returns
returns c = wrong_read c.args.size _ _ (no_size c.args.size c.if-size-eq-STATE.false)
