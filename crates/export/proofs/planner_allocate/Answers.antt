-- A request on a state of the right size answers with the number that it leaves there; another is left. Assumes nothing.
use Rattle.std.proofs.Common.{ap}
use Rattle.export.proofs.SizeLaws.{is_size, no_size, right_size, wrong_size, both}
use Rattle.inplace.specs.declared.marks.Marks.{Marks}
use Rattle.export.proofs.planner_allocate.Goals as goal

pub returns-then-size-eq-STATE : goal.returns-then-size-eq-STATE
returns-then-size-eq-STATE c = right_size c.args.size _ _ _ _ (is_size c.args.size c.if-size-eq-STATE.true) (both _ _ _ c.allocate_in.ensures (ap (λ (m : Marks). m.number) c.peek-m.ensures))

pub returns : goal.returns
returns c = wrong_size c.args.size _ _ _ (no_size c.args.size c.if-size-eq-STATE.false)
