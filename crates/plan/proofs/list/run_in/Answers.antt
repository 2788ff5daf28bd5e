-- Turn by turn what is left of the plan equals the whole, and settled it is the definition's. Assumes nothing.
use Rattle.std.proofs.Common.{ap, sym, ◌∙◌, map}
use Rattle.std.proofs.Math.ListN.{length-map, get_or-map}
use Rattle.tables.specs.Views.{state_view}
use Rattle.request.specs.Asked.{request_of}
use Rattle.plan.specs.Nobody.{nobody}
use Rattle.plan.proofs.InPlaceLaws.{starts, goes_on}
use Rattle.plan.proofs.RunLaws.{run_ends}
use Rattle.plan.proofs.list.run_in.Goals as goal

pub loop-i-init : goal.loop-i-init
loop-i-init c =
    let a = c.args in
    starts (map request_of a.requests.now) (request_of nobody) (state_view a.state.now) a.results.now a.n c.turns-turns.result (state_view c.open.new.s) c.open.ensures.said (c.turns-turns.ensures ∙ c.open.ensures.turns)

pub loop-i-preserved : goal.loop-i-preserved
loop-i-preserved c =
    let a = c.args in
    let l = c.loop-i in
    goes_on (map request_of a.requests.now) (request_of nobody) (state_view a.state.now) a.results.now a.n (length-map a.requests.now request_of ∙ sym c.requires) c.turns-turns.result l.i (state_view l.state) l.results (request_of c.read-r.result)
    (state_view c.turn.new.s) c.turn.new.results c.loop-i-test.true l.invariant (ap request_of c.read-r.ensures ∙ sym (get_or-map request_of a.requests.now l.i nobody)) c.turn.ensures

pub returns : goal.returns
returns c =
    let a = c.args in
    let l = c.loop-i in
    run_ends (map request_of a.requests.now) (request_of nobody) a.state.now a.results.now a.n c.peek-m.result c.turns-turns.result l.i (state_view l.state) l.results (state_view c.settle.new.s)
    (length-map a.requests.now request_of ∙ sym c.requires) c.peek-m.ensures c.loop-i-test.false l.invariant c.settle.ensures
