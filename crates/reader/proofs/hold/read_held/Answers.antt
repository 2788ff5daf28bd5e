-- A `hold` line, from its kind's word on: the form that the word and the fields are of says it. Assumes nothing.
use Rattle.std.proofs.Common.{refl}
use Rattle.definition.specs.Base.{all_of}
use Rattle.lines.specs.Base.{same, when, ◌or_else◌}
use Rattle.lines.specs.Forms.{form, tries, ◌gives◌}
use Rattle.lines.proofs.FormLaws.{counts}
use Rattle.reader.proofs.ReadLaws.{form_here, form_past}
use Rattle.reader.proofs.hold.read_held.Goals as goal

pub returns-in_err-start-in-Mmio : goal.returns-in_err-start-in-Mmio
unfolding same when form tries ◌gives◌ ◌or_else◌ counts all_of
returns-in_err-start-in-Mmio c = λ o. rw (c.from_residual.ensures, c.in-Mmio.is) (form_past _ _ refl _ _ c.in_err-start-in-Mmio.ensures.says)

pub returns-in_ok-start-in-Mmio : goal.returns-in_ok-start-in-Mmio
unfolding same when form tries ◌gives◌ ◌or_else◌ counts all_of
returns-in_ok-start-in-Mmio c = λ o. rw c.in-Mmio.is (form_here _ _ refl _ _ _ c.in_ok-start-in-Mmio.ensures.says)

pub returns-in_err-start-in-Pio : goal.returns-in_err-start-in-Pio
unfolding same when form tries ◌gives◌ ◌or_else◌ counts all_of
returns-in_err-start-in-Pio c = λ o. rw (c.from_residual-in_err-start-in-Pio.ensures, c.in-Pio.is) (form_past _ _ refl _ _ c.in_err-start-in-Pio.ensures.says)

pub returns-in_ok-start-in-Pio : goal.returns-in_ok-start-in-Pio
unfolding same when form tries ◌gives◌ ◌or_else◌ counts all_of
returns-in_ok-start-in-Pio c = λ o. rw c.in-Pio.is (form_here _ _ refl _ _ _ c.in_ok-start-in-Pio.ensures.says)

pub returns-in_err-start-in-Host : goal.returns-in_err-start-in-Host
unfolding same when form tries ◌gives◌ ◌or_else◌ counts all_of
returns-in_err-start-in-Host c = λ o. rw (c.from_residual-in_err-start-in-Host.ensures, c.in-Host.is) (form_past _ _ refl _ _ c.in_err-start-in-Host.ensures.says)

pub returns-in_ok-start-in-Host : goal.returns-in_ok-start-in-Host
unfolding same when form tries ◌gives◌ ◌or_else◌ counts all_of
returns-in_ok-start-in-Host c = λ o. rw c.in-Host.is (form_here _ _ refl _ _ _ c.in_ok-start-in-Host.ensures.says)

pub returns-in_err-controller-in-Input : goal.returns-in_err-controller-in-Input
unfolding same when form tries ◌gives◌ ◌or_else◌ counts all_of
returns-in_err-controller-in-Input c = λ o. rw (c.from_residual-in_err-controller-in-Input.ensures, c.in-Input.is) (form_past _ _ refl _ _ c.in_err-controller-in-Input.ensures.says)

pub returns-in_ok-controller-in-Input : goal.returns-in_ok-controller-in-Input
unfolding same when form tries ◌gives◌ ◌or_else◌ counts all_of
returns-in_ok-controller-in-Input c = λ o. rw c.in-Input.is (form_here _ _ refl _ _ _ c.in_ok-controller-in-Input.ensures.says)

pub returns-in-Msi : goal.returns-in-Msi
unfolding same when form tries ◌gives◌ ◌or_else◌ counts all_of
returns-in-Msi c = λ o. rw c.in-Msi.is
