-- A `want` line, from its kind's word on: the form that the word and the fields are of says it. Assumes nothing.
use Rattle.std.proofs.Common.{refl, ◌∙◌, ap}
use Rattle.definition.specs.Base.{all_of}
use Rattle.lines.specs.Base.{same, when, ◌or_else◌}
use Rattle.lines.specs.Forms.{form, tries, ◌gives◌}
use Rattle.lines.proofs.FormLaws.{counts}
use Rattle.reader.specs.Kinds.{want_says}
use Rattle.reader.proofs.ReadLaws.{form_here, form_past}
use Rattle.reader.proofs.want.read_msi.Goals as goal

pub returns-in-Some : goal.returns-in-Some
unfolding same when form tries ◌gives◌ ◌or_else◌ counts all_of
returns-in-Some c = λ q s. form_here _ _ refl _ _ _ c.in-Some.ensures.says

pub returns-in_err-controller : goal.returns-in_err-controller
unfolding same when form tries ◌gives◌ ◌or_else◌ counts all_of
returns-in_err-controller c = λ q s. ap (want_says q s) c.from_residual.ensures ∙ form_past _ _ refl _ _ c.in_err-controller.ensures.says ∙ form_past _ _ refl _ _ c.in_default.ensures.says

pub returns : goal.returns
unfolding same when form tries ◌gives◌ ◌or_else◌ counts all_of
returns c = λ q s. form_here _ _ refl _ _ _ c.in_ok-controller.ensures.says ∙ form_past _ _ refl _ _ c.in_default.ensures.says
