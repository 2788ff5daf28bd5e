-- The plan, then the front part that its answer names. Assumes nothing.
use Rattle.std.proofs.Common.{ap, refl, sym, ◌∙◌, map, length, List}
use Rattle.std.proofs.Math.ListN.{length-map}
use Rattle.definition.specs.Request as R
use Rattle.definition.specs.Plan.{Lent, plan}
use Rattle.tables.specs.Views.{state_view}
use Rattle.request.specs.Asked.{request_of}
use Rattle.plan.specs.Front.{front_of}
use Rattle.plan.proofs.FrontLaws.{plan_front}
use Rattle.plan.proofs.FilledLaws.{answer_front}
use Rattle.plan.proofs.list.plan.Goals as goal

pub returns : goal.returns
returns c =
    let a = c.args in
    let qs : List R.Request = map request_of a.requests.now in
    let p : Lent = plan qs (state_view a.state.now) a.results.now in (
      ap (λ (x : Lent). x.state) c.plan_in.ensures,
      c.front.ensures.0 ∙ answer_front c.plan_in.new.state c.plan_in.new.results p c.peek-m.result (length a.requests.now) (length a.requests.now) c.plan_in.ensures c.peek-m.ensures refl
          ∙ (ap (front_of p) (sym (length-map a.requests.now request_of)) ∙ plan_front qs (state_view a.state.now) a.results.now),
      c.front.ensures.1,
    )
