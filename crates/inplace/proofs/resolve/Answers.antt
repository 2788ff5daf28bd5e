-- What is said of a refusal is what the definition's answer leaves. Assumes nothing.
use Rattle.std.proofs.Common.{sym, ap, ◌∙◌}
use Rattle.definition.specs.Calls.{saying}
use Rattle.tables.specs.Views.{state_view}
use Rattle.decide.proofs.QueryLaws.{refusal_told}
use Rattle.inplace.proofs.resolve.Goals as goal

pub returns-in-Err : goal.returns-in-Err
returns-in-Err c = (
  ap state_view c.keep-in-Err.ensures ∙ ap (λ w. saying w (state_view c.args.s.now)) (c.from.ensures ∙ sym (refusal_told c.in-Err.refusal)) ∙ c.in-Err.ensures.state,
  c.in-Err.ensures.bases,
)
