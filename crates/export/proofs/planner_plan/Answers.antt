-- A plan on a state of the right size answers with how many numbers it has filled; another is left. Assumes nothing.
use Rattle.std.proofs.Common.{ap, ◌∙◌, length}
use Rattle.export.proofs.SizeLaws.{is_size, no_size, right_size, wrong_size, counts}
use Rattle.inplace.specs.declared.marks.Marks.{Marks}
use Rattle.numbers.specs.Lent.{filled_by}
use Rattle.export.proofs.planner_plan.Goals as goal

pub returns-then-size-eq-STATE : goal.returns-then-size-eq-STATE
returns-then-size-eq-STATE c =
    right_size c.args.size _ _ _ _ (is_size c.args.size c.if-size-eq-STATE.true)
    (counts _ _ _ _ c.plan_in.ensures (c.filled_by.ensures ∙ ap (λ (m : Marks). filled_by m.number m.index (length c.args.requests.now)) c.peek-m.ensures))

pub returns : goal.returns
returns c = wrong_size c.args.size _ _ _ (no_size c.args.size c.if-size-eq-STATE.false)
