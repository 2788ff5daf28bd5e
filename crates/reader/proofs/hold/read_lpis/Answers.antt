-- A `hold` line, from its kind's word on: the form that the word and the fields are of says it. Assumes nothing.
use Rattle.std.proofs.Common.{refl, ◌∙◌, ap}
use Rattle.definition.specs.Base.{all_of}
use Rattle.lines.specs.Base.{same, when, ◌or_else◌}
use Rattle.lines.specs.Forms.{form, tries, ◌gives◌}
use Rattle.lines.proofs.FormLaws.{counts}
use Rattle.reader.specs.Kinds.{hold_says}
use Rattle.reader.proofs.ReadLaws.{form_here, form_past}
use Rattle.reader.proofs.hold.read_lpis.Goals as goal

pub returns-in_err-controller : goal.returns-in_err-controller
unfolding same when form tries ◌gives◌ ◌or_else◌ counts all_of
returns-in_err-controller c = λ o. ap (hold_says o) c.from_residual.ensures ∙ form_past _ _ refl _ _ c.in_err-controller.ensures.says

pub returns : goal.returns
unfolding same when form tries ◌gives◌ ◌or_else◌ counts all_of
returns c = λ o. rw c.ids.ensures (form_here _ _ refl _ _ _ c.in_ok-controller.ensures.says)
