-- A `pool` line, from its kind's word on: the form that the word and the fields are of says it. Assumes nothing.
use Rattle.std.proofs.Common.{refl, ◌∙◌, ap}
use Rattle.definition.specs.Base.{all_of}
use Rattle.lines.specs.Base.{same, when, ◌or_else◌}
use Rattle.lines.specs.Forms.{form, tries, ◌gives◌}
use Rattle.lines.proofs.FormLaws.{counts}
use Rattle.reader.specs.Kinds.{pool_says}
use Rattle.reader.proofs.ReadLaws.{form_here, form_past}
use Rattle.reader.proofs.pool.read_msi.Goals as goal

pub returns-in_err-controller : goal.returns-in_err-controller
unfolding same when form tries ◌gives◌ ◌or_else◌ counts all_of
returns-in_err-controller c = λ u. ap (pool_says u) c.from_residual.ensures ∙ form_past _ _ refl _ _ c.in_err-controller.ensures.says

pub returns : goal.returns
unfolding same when form tries ◌gives◌ ◌or_else◌ counts all_of
returns c = λ u. rw (c.ids.ensures, c.ids-2.ensures, c.ids-3.ensures) (form_here _ _ refl _ _ _ c.in_ok-controller.ensures.says)
