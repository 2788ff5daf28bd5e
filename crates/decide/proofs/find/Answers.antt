-- What makes no sense is refused; of what does, the kind decides. Assumes nothing.
use Rattle.std.proofs.Common.{sym, ◌∙◌}
use Rattle.choose.specs.declared.Refusal.TheVariants.{BadInput}
use Rattle.definition.specs.Calls.{pools_of, owners_of}
use Rattle.tables.specs.Views.{state_view}
use Rattle.request.specs.Asked.{request_of}
use Rattle.decide.proofs.AnswerLaws.{resolve_bad}
use Rattle.decide.proofs.KeptLaws.{refused_finds}
use Rattle.decide.proofs.find.Goals as goal

pub returns-else-good_request : goal.returns-else-good_request
returns-else-good_request c =
    let v = state_view c.args.s.now in
    refused_finds _ _ BadInput (sym (resolve_bad (pools_of v) (owners_of v) (request_of c.args.r) (sym c.good_request.ensures ∙ c.if-good_request.false)))
