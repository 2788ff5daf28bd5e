-- Calls with lists lent beside the numbers: one law for each way out. Assumes nothing.
use mathlib.Core.Path.{◌≡◌, refl, ap, ◌∙◌}
use mathlib.Core.List.{List}
use Prim.Native.Nat.{ℕ, ◌≤◌, ◌<◌, ◌*◌, ◌/◌}
use borrow.Author.Tests.{le-leb, lt-leb, eq-eqb, ne_eqb}
use Rattle.definition.specs.Tables.{plan_limit, record_size}
use Rattle.definition.specs.Base.{Said}
use Rattle.definition.specs.Calls.{State, fresh, saying}
use Rattle.inplace.specs.declared.marks.Marks.{Marks}
use Rattle.numbers.specs.Reading.{said_by, told_by}
use Rattle.definition.specs.Plan.{lent}
use Rattle.flat.specs.Flat.{request_size}
use Rattle.numbers.specs.Face.{face_call}
use Rattle.numbers.specs.Rows.{Told, told, answer_told}
use Rattle.numbers.specs.Lent.{telling, call_told, filled_by}

-- the five numbers alone are told
pub told_alone : (t : State) (out : List ℕ) → answer_told (saying t.said fresh) out ≡ answer_told t out
unfolding answer_told
told_alone t out = refl

pub call_told_is : (xs : List ℕ) (s t : State) (m : Marks) (out zs : List ℕ) (y : ℕ) → t ≡ face_call xs s → said_by m ≡ t.said → told y zs ≡ answer_told (told_by m) out → lent t zs ≡ call_told xs s out
call_told_is xs s t m out zs y e w a =
    ap (λ (x : Told). lent t x.out) (a ∙ ap (λ (x : Said). answer_told (saying x fresh) out) w ∙ told_alone t out) ∙ ap (λ (v : State). telling v out) e

module _ (number index n : ℕ) where
  pub filled_all : number ≡ 0 → record_size * (n / request_size) ≡ filled_by number index n
  unfolding filled_by
  filled_all e = rw (eq-eqb number 0 e, filled_by)

  pub filled_far : (number ≡ 0 → ⊥) → plan_limit < index → 0 ≡ filled_by number index n
  unfolding filled_by
  filled_far f l = rw (ne_eqb number 0 f, lt-leb index plan_limit l, filled_by)

  pub filled_front : (number ≡ 0 → ⊥) → index ≤ plan_limit → record_size * index ≡ filled_by number index n
  unfolding filled_by
  filled_front f l = rw (ne_eqb number 0 f, le-leb index plan_limit l, filled_by)
