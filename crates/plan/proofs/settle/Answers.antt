-- Where no request was refused nothing is done, else the owner tables are cut back. Assumes nothing.
use Rattle.std.proofs.Common.{ap, ◌∙◌}
use Rattle.tables.specs.Views.{state_view}
use Rattle.plan.proofs.BackLaws.{back_quiet, back_cut}
use Rattle.plan.proofs.settle.Goals as goal

pub returns-then-s-ne0 : goal.returns-then-s-ne0
returns-then-s-ne0 c = ap state_view c.take_out.ensures ∙ back_cut c.args.m c.args.s.now c.if-s-ne0.true

pub returns-else-s-ne0 : goal.returns-else-s-ne0
returns-else-s-ne0 c = back_quiet c.args.m c.args.s.now c.if-s-ne0.false
