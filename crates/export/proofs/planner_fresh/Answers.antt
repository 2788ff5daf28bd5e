-- By its size a state is made fresh, or left. Assumes nothing.
use Rattle.export.proofs.SizeLaws.{is_size, no_size, right_fresh, wrong_fresh}
use Rattle.export.proofs.planner_fresh.Goals as goal

pub returns-then-size-eq-STATE : goal.returns-then-size-eq-STATE
returns-then-size-eq-STATE c = right_fresh c.args.size c.args.state.now c.fresh.result (is_size c.args.size c.if-size-eq-STATE.true) c.fresh.ensures

pub returns : goal.returns
returns c = wrong_fresh c.args.size c.args.state.now (no_size c.args.size c.if-size-eq-STATE.false)
