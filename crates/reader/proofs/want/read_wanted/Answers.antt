-- A `want` line, from its kind's word on: the form that the word and the fields are of says it. Assumes nothing.
use Rattle.std.proofs.Common.{ℕ, refl, inl, inr}
use Rattle.definition.specs.Base.{all_of}
use Rattle.lines.specs.Base.{same, when, ◌or_else◌}
use Rattle.lines.specs.Forms.{form, tries, ◌gives◌}
use Rattle.lines.proofs.FormLaws.{counts}
use Rattle.definition.specs.Request.{Choice, mmio_want, pio_want, host_want}
use Rattle.definition.specs.Calls.{Call, want}
use Rattle.reader.proofs.ReadLaws.{choice_here, choice_past}
use Rattle.reader.proofs.want.read_wanted.Goals as goal

abbrev mmio : ℕ → ℕ → (ℕ → ℕ) → Choice → Call
mmio q s n c = want (record { requester = q; slot = s; want = mmio_want (n 0) (n 1) c })

pub returns-in_err-size-in-Mmio : goal.returns-in_err-size-in-Mmio
unfolding same when form tries ◌gives◌ ◌or_else◌ counts all_of
returns-in_err-size-in-Mmio c = λ q s. rw (c.from_residual.ensures, c.in-Mmio.is) (choice_past 3 _ _ refl refl (mmio q s) c.in_err-size-in-Mmio.ensures)

pub returns-in_ok-size-in-Mmio : goal.returns-in_ok-size-in-Mmio
unfolding same when form tries ◌gives◌ ◌or_else◌ counts all_of
returns-in_ok-size-in-Mmio c = λ q s. rw c.in-Mmio.is (choice_here 3 _ _ refl refl (mmio q s) _ _ c.in_ok-size-in-Mmio.ensures)

abbrev pio : ℕ → ℕ → (ℕ → ℕ) → Choice → Call
pio q s n c = want (record { requester = q; slot = s; want = pio_want (n 0) (n 1) c })

pub returns-in_err-size-in-Pio : goal.returns-in_err-size-in-Pio
unfolding same when form tries ◌gives◌ ◌or_else◌ counts all_of
returns-in_err-size-in-Pio c = λ q s. rw (c.from_residual-in_err-size-in-Pio.ensures, c.in-Pio.is) (choice_past 3 _ _ refl refl (pio q s) c.in_err-size-in-Pio.ensures)

pub returns-in_ok-size-in-Pio : goal.returns-in_ok-size-in-Pio
unfolding same when form tries ◌gives◌ ◌or_else◌ counts all_of
returns-in_ok-size-in-Pio c = λ q s. rw c.in-Pio.is (choice_here 3 _ _ refl refl (pio q s) _ _ c.in_ok-size-in-Pio.ensures)

abbrev host : ℕ → ℕ → (ℕ → ℕ) → Choice → Call
host q s n c = want (record { requester = q; slot = s; want = host_want c })

pub returns-in_err-choice-in-Host : goal.returns-in_err-choice-in-Host
unfolding same when form tries ◌gives◌ ◌or_else◌ counts all_of
returns-in_err-choice-in-Host c = λ q s. rw (c.from_residual-in_err-choice-in-Host.ensures, c.in-Host.is) (choice_past 1 _ _ refl refl (host q s) c.in_err-choice-in-Host.ensures)

pub returns-in_ok-choice-in-Host : goal.returns-in_ok-choice-in-Host
unfolding same when form tries ◌gives◌ ◌or_else◌ counts all_of
returns-in_ok-choice-in-Host c = λ q s. rw c.in-Host.is (choice_here 1 _ _ refl refl (host q s) _ _ c.in_ok-choice-in-Host.ensures)

pub returns-in-Device : goal.returns-in-Device
unfolding same when form tries ◌gives◌ ◌or_else◌ counts all_of
returns-in-Device c = λ q s. elim c.in-Device.is [ inl e ↦ rw e | inr h ↦ elim h [ inl e ↦ rw e | inr e ↦ rw e ] ]
