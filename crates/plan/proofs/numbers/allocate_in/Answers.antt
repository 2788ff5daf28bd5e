-- As many requests as are asked for, each whole. Assumes nothing.
use Rattle.std.proofs.Common.{ap, sym, ◌∙◌, ℕ, length, subst}
use Rattle.definition.specs.Plan.{plan}
use Rattle.tables.specs.Views.{state_view}
use Rattle.flat.specs.Flat.{requests_from}
use Rattle.plan.specs.Turns.{Within}
use Rattle.plan.proofs.NumbersLaws.{one_within, run_one}
use Rattle.plan.proofs.numbers.allocate_in.Goals as goal

pub run_in-requires : goal.run_in-requires
run_in-requires c = subst (λ (n : ℕ). Within n (length c.args.request.now)) (sym c.one-n.ensures) (one_within (length c.args.request.now))

pub returns : goal.returns
returns c =
    let a = c.args in
    c.run_in.ensures ∙ ap (λ (n : ℕ). plan (requests_from a.request.now 0 n) (state_view a.state.now) a.out.now) c.one-n.ensures ∙ run_one a.request.now (state_view a.state.now) a.out.now
