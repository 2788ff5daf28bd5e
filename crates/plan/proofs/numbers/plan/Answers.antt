-- The plan, then the front part that its answer names. Assumes nothing.
use Rattle.std.proofs.Common.{ap, ◌∙◌, length}
use Rattle.definition.specs.Plan.{Lent}
use Rattle.tables.specs.Views.{state_view}
use Rattle.flat.specs.Flat.{flat_plan}
use Rattle.plan.specs.Turns.{whole_count}
use Rattle.plan.proofs.FilledLaws.{answer_front, flat_front}
use Rattle.plan.proofs.numbers.plan.Goals as goal

pub returns : goal.returns
returns c =
    let a = c.args in
    let p : Lent = flat_plan a.requests.now (state_view a.state.now) a.results.now in (
      ap (λ (x : Lent). x.state) c.plan_in.ensures,
      c.front.ensures.0 ∙ answer_front c.plan_in.new.state c.plan_in.new.results p c.peek-m.result c.count.result (whole_count (length a.requests.now)) c.plan_in.ensures c.peek-m.ensures c.count.ensures
          ∙ flat_front a.requests.now (state_view a.state.now) a.results.now,
      c.front.ensures.1,
    )
