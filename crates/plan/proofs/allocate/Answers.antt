-- A plan of one is opened, and its request is answered in place. Assumes nothing.
use Rattle.tables.specs.Views.{state_view}
use Rattle.request.specs.Asked.{request_of}
use Rattle.plan.proofs.IntoLaws.{unserved, ready, served}
use Rattle.plan.proofs.allocate.Goals as goal

pub resolve-requires : goal.resolve-requires
resolve-requires c = ready (request_of c.args.r) (state_view c.args.s.now) (state_view c.open.new.s) 1 c.in-Ok.ensures.said c.in-Ok.ensures.turns tt

pub returns-in-Ok : goal.returns-in-Ok
returns-in-Ok c = served (request_of c.args.r) (state_view c.args.s.now) (state_view c.open.new.s) 1 c.in-Ok.ensures.said c.in-Ok.ensures.turns tt (state_view c.resolve.new.s) c.resolve.ensures.0

pub returns-in_default : goal.returns-in_default
returns-in_default c = unserved (request_of c.args.r) (state_view c.args.s.now) (state_view c.open.new.s) 0 c.in_default.ensures.said c.in_default.ensures.turns tt
