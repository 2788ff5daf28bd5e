-- Each expectation holds: the state is the definition's, by what the calls promise. Assumes nothing.
use Rattle.std.proofs.Common.{◌≡◌, ℕ, eqb, ap, ◌∙◌}
use Rattle.definition.specs.Calls.{State}
use Rattle.tables.specs.Views.{state_view}
use Rattle.tables.proofs.FreshLaws.{fresh_view}
use Rattle.worked.proofs.WorkedLaws.{next, answers}
use Rattle.worked.proofs.main.Goals as goal

number : (n : ℕ) {v w : State} → v ≡ w → eqb v.said.number n ≡ eqb w.said.number n
number n e = ap (λ (s : State). eqb s.said.number n) e

owner : (n : ℕ) {v w : State} → v ≡ w → eqb v.said.owner n ≡ eqb w.said.owner n
owner n e = ap (λ (s : State). eqb s.said.owner n) e

pub expect-requires : goal.expect-requires
expect-requires c = number 0 (next _ c.add_auto_mmio-pooled.ensures (ap state_view c.fresh-begun.ensures ∙ fresh_view)) ∙ answers.pooled_number

pub expect-requires-2 : goal.expect-requires-2
expect-requires-2 c = number 0 (next _ c.reserve_mmio-held.ensures (next _ c.add_auto_mmio-pooled.ensures (ap state_view c.fresh-begun.ensures ∙ fresh_view))) ∙ answers.held_number

pub expect-requires-3 : goal.expect-requires-3
expect-requires-3 c = number 5 (next _ c.reserve_mmio-over.ensures (next _ c.reserve_mmio-held.ensures (next _ c.add_auto_mmio-pooled.ensures (ap state_view c.fresh-begun.ensures ∙ fresh_view)))) ∙ answers.over_number

pub expect-requires-4 : goal.expect-requires-4
expect-requires-4 c = owner 7 (next _ c.reserve_mmio-over.ensures (next _ c.reserve_mmio-held.ensures (next _ c.add_auto_mmio-pooled.ensures (ap state_view c.fresh-begun.ensures ∙ fresh_view)))) ∙ answers.over_owner

pub expect-requires-5 : goal.expect-requires-5
expect-requires-5 c = number 0 (next _ c.reserve_host_irq-irq.ensures (next _ c.reserve_mmio-over.ensures (next _ c.reserve_mmio-held.ensures (next _ c.add_auto_mmio-pooled.ensures (ap state_view c.fresh-begun.ensures ∙ fresh_view))))) ∙ answers.irq_number

pub expect-requires-6 : goal.expect-requires-6
expect-requires-6 c = number 5 (next _ c.reserve_wired_host_irq-pair.ensures (next _ c.reserve_host_irq-irq.ensures (next _ c.reserve_mmio-over.ensures (next _ c.reserve_mmio-held.ensures (next _ c.add_auto_mmio-pooled.ensures (ap state_view c.fresh-begun.ensures ∙ fresh_view)))))) ∙ answers.pair_number

pub expect-requires-7 : goal.expect-requires-7
expect-requires-7 c = owner 4 (next _ c.reserve_wired_host_irq-pair.ensures (next _ c.reserve_host_irq-irq.ensures (next _ c.reserve_mmio-over.ensures (next _ c.reserve_mmio-held.ensures (next _ c.add_auto_mmio-pooled.ensures (ap state_view c.fresh-begun.ensures ∙ fresh_view)))))) ∙ answers.pair_owner

pub expect-requires-8 : goal.expect-requires-8
expect-requires-8 c = number 0 (next _ c.reserve_controller_input-again.ensures (next _ c.reserve_wired_host_irq-pair.ensures (next _ c.reserve_host_irq-irq.ensures (next _ c.reserve_mmio-over.ensures (next _ c.reserve_mmio-held.ensures (next _ c.add_auto_mmio-pooled.ensures (ap state_view c.fresh-begun.ensures ∙ fresh_view))))))) ∙ answers.again_number

pub expect-requires-9 : goal.expect-requires-9
expect-requires-9 c = number 0 (next _ c.start-started.ensures (next _ c.reserve_controller_input-again.ensures (next _ c.reserve_wired_host_irq-pair.ensures (next _ c.reserve_host_irq-irq.ensures (next _ c.reserve_mmio-over.ensures (next _ c.reserve_mmio-held.ensures (next _ c.add_auto_mmio-pooled.ensures (ap state_view c.fresh-begun.ensures ∙ fresh_view)))))))) ∙ answers.started_number
