-- A `want` line, from its kind's word on: the form that the word and the fields are of says it. Assumes nothing.
use Rattle.std.proofs.Common.{ℕ, refl, ◌∙◌, ap}
use Rattle.definition.specs.Base.{all_of}
use Rattle.lines.specs.Base.{same, when, ◌or_else◌}
use Rattle.lines.specs.Forms.{form, tries, ◌gives◌}
use Rattle.lines.proofs.FormLaws.{counts}
use Rattle.definition.specs.Request.{Choice, input_want}
use Rattle.definition.specs.Calls.{Call, want}
use Rattle.reader.specs.Kinds.{want_says}
use Rattle.reader.proofs.ReadLaws.{choice_here, choice_past}
use Rattle.reader.proofs.want.read_input.Goals as goal

abbrev input : ℕ → ℕ → (ℕ → ℕ) → Choice → Call
input q s n c = want (record { requester = q; slot = s; want = input_want (n 0) (n 1) (n 2) c })

pub returns-in_err-controller : goal.returns-in_err-controller
unfolding same when form tries ◌gives◌ ◌or_else◌ counts all_of
returns-in_err-controller c = λ q s. ap (want_says q s) c.from_residual.ensures ∙ choice_past 4 _ _ refl refl (input q s) c.in_err-controller.ensures

pub returns : goal.returns
unfolding same when form tries ◌gives◌ ◌or_else◌ counts all_of
returns c = λ q s. choice_here 4 _ _ refl refl (input q s) _ _ c.in_ok-controller.ensures
