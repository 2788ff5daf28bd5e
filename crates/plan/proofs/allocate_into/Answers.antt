-- A plan of one is opened, and its request has its turn. Assumes nothing.
use Rattle.std.proofs.Common.{ap, sym, ◌∙◌, subst, length}
use Rattle.definition.specs.Calls as C
use Rattle.tables.specs.Views.{state_view}
use Rattle.request.specs.Asked.{request_of}
use Rattle.plan.specs.Steps.{Steady, turned}
use Rattle.plan.proofs.PlanLaws.{opened_steady}
use Rattle.plan.proofs.IntoLaws.{turn_is_into}
use Rattle.plan.proofs.allocate_into.Goals as goal

pub turn-requires : goal.turn-requires
turn-requires c = subst Steady (sym c.open-judged.ensures.said) (opened_steady 1 (length c.args.out.now) (state_view c.args.s.now))

pub returns : goal.returns
returns c =
    let a = c.args in
    c.turn.ensures ∙ ap (λ (t : C.State). turned 0 (request_of a.r) t a.out.now) c.open-judged.ensures.said ∙ turn_is_into (request_of a.r) (state_view a.s.now) a.out.now
