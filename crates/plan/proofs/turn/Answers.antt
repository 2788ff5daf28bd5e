-- A request in its turn is answered in place and its record written, else nothing is done. Assumes nothing.
use Rattle.std.proofs.Common.{sym, ◌∙◌}
use Rattle.definition.proofs.BaseLaws.{true_T}
use Rattle.tables.specs.Views.{state_view}
use Rattle.request.specs.Asked.{request_of}
use Rattle.plan.proofs.StepLaws.{turned_skips}
use Rattle.plan.proofs.TurnLaws.{ready, answered_in_place}
use Rattle.plan.proofs.turn.Goals as goal

pub returns-then-goes : goal.returns-then-goes
returns-then-goes c =
    let a = c.args in
    answered_in_place a.s.now a.r a.i a.results.now c.requires (ready a.s.now a.r a.i a.results.now c.goes.result c.goes.ensures (true_T _ c.if-goes.true))
    c.resolve-granted.new.s c.resolve-granted.result c.index-s.result c.write.new.results c.resolve-granted.ensures c.index-s.ensures c.write.ensures

pub returns-else-goes : goal.returns-else-goes
returns-else-goes c = let a = c.args in turned_skips a.i (request_of a.r) (state_view a.s.now) a.results.now (sym c.goes.ensures ∙ c.if-goes.false)
