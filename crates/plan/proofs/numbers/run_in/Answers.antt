-- Turn by turn what is left of the plan equals the whole, and settled it is the definition's. Assumes nothing.
use Rattle.std.proofs.Common.{arith, sym, ◌∙◌, length}
use Rattle.tables.specs.Views.{state_view}
use Rattle.request.specs.Asked.{request_of}
use Rattle.flat.specs.Flat.{bad, requests_from}
use Rattle.plan.proofs.NumbersLaws.{taken_length, taken_is, taken_inside}
use Rattle.plan.proofs.InPlaceLaws.{starts, goes_on, few, inside}
use Rattle.plan.proofs.RunLaws.{run_ends}
use Rattle.plan.proofs.numbers.run_in.Goals as goal

pub loop-i-init : goal.loop-i-init
loop-i-init c =
    let a = c.args in
    starts (requests_from a.requests.now 0 a.n) bad (state_view a.state.now) a.results.now a.n c.turns-turns.result (state_view c.open.new.s) c.open.ensures.said (c.turns-turns.ensures ∙ c.open.ensures.turns)

pub request_at-r-requires : goal.request_at-r-requires
request_at-r-requires c =
    let a = c.args in
    let l = c.loop-i in
    taken_inside a.n (length a.requests.now) l.i c.requires (few (requests_from a.requests.now 0 a.n) bad (state_view a.state.now) a.results.now a.n c.turns-turns.result l.i (state_view l.state) l.results c.loop-i-test.true l.invariant)
    (omega (arith, taken_length a.requests.now a.n, inside (requests_from a.requests.now 0 a.n) bad (state_view a.state.now) a.results.now a.n (taken_length a.requests.now a.n) c.turns-turns.result l.i (state_view l.state) l.results c.loop-i-test.true l.invariant))

pub loop-i-preserved : goal.loop-i-preserved
loop-i-preserved c =
    let a = c.args in
    let l = c.loop-i in
    goes_on (requests_from a.requests.now 0 a.n) bad (state_view a.state.now) a.results.now a.n (taken_length a.requests.now a.n) c.turns-turns.result l.i (state_view l.state) l.results (request_of c.request_at-r.result)
    (state_view c.turn.new.s) c.turn.new.results c.loop-i-test.true l.invariant (c.request_at-r.ensures ∙ sym (taken_is a.requests.now a.n l.i bad (omega (arith, taken_length a.requests.now a.n, inside (requests_from a.requests.now 0 a.n) bad (state_view a.state.now) a.results.now a.n (taken_length a.requests.now a.n) c.turns-turns.result l.i (state_view l.state) l.results c.loop-i-test.true l.invariant)))) c.turn.ensures

pub returns : goal.returns
returns c =
    let a = c.args in
    let l = c.loop-i in
    run_ends (requests_from a.requests.now 0 a.n) bad a.state.now a.results.now a.n c.peek-m.result c.turns-turns.result l.i (state_view l.state) l.results (state_view c.settle.new.s)
    (taken_length a.requests.now a.n) c.peek-m.ensures c.loop-i-test.false l.invariant c.settle.ensures
