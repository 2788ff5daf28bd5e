-- As many requests as are asked for, each whole. Assumes nothing.
use Rattle.std.proofs.Common.{ap, sym, ◌∙◌, ℕ, length, subst}
use Rattle.definition.specs.Plan.{plan}
use Rattle.tables.specs.Views.{state_view}
use Rattle.flat.specs.Flat.{requests_from}
use Rattle.plan.specs.Turns.{Within}
use Rattle.plan.proofs.NumbersLaws.{whole_within, run_flat}
use Rattle.plan.proofs.numbers.plan_in.Goals as goal

pub run_in-requires : goal.run_in-requires
run_in-requires c = subst (λ (n : ℕ). Within n (length c.args.requests.now)) (sym c.count-n.ensures) (whole_within (length c.args.requests.now))

pub returns : goal.returns
returns c =
    let a = c.args in
    c.run_in.ensures ∙ ap (λ (n : ℕ). plan (requests_from a.requests.now 0 n) (state_view a.state.now) a.results.now) c.count-n.ensures ∙ run_flat a.requests.now (state_view a.state.now) a.results.now
