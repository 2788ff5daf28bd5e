-- The front part that a plan's answer names is its filled part, over plain numbers too. Assumes nothing.
use mathlib.Core.Path.{◌≡◌, refl, ap, ap₂, sym, ◌∙◌}
use mathlib.Core.Bool.{Bool, true, false}
use mathlib.Core.List.{List, []}
use Prim.Native.Nat.{ℕ, ◌*◌}
use lib.ListN.{length, take}
use Rattle.definition.specs.Tables.{record_size, kinds}
use Rattle.definition.specs.Base.{malformed, short, refused, require}
use Rattle.definition.specs.Calls.{State, sound, settle}
use Rattle.definition.specs.Plan.{Lent, lent}
use Rattle.tables.specs.Views.{state_view}
use Rattle.tables.specs.declared.State.{State as Tables}
use Rattle.inplace.specs.Marks.{marks_of}
use Rattle.inplace.specs.declared.marks.Marks.{Marks}
use Rattle.plan.specs.Front.{accepted_of, front_of, filled}
use Rattle.plan.proofs.FrontLaws.{refused_index, plan_front}
use Rattle.flat.specs.Flat.{requests_of, whole_requests, flat_plan}
use Rattle.flat.proofs.FlatLaws.{requests_length, flat_whole, flat_torn}
use Rattle.plan.specs.Turns.{whole_count}
use Rattle.plan.specs.Filled.{flat_filled}
use Rattle.plan.proofs.NumbersLaws.{count_whole}

-- 1 or 11 before any request: nothing is filled
torn : (s : State) (out : List ℕ) (n : ℕ) (b : Bool) → front_of (lent (settle s (require b malformed (refused short))) out) n ≡ []
unfolding require
torn s out n true = ap (λ (k : ℕ). take (record_size * k) out) (refused_index 0 n short)
torn s out n false = ap (λ (k : ℕ). take (record_size * k) out) (refused_index 0 n malformed)

pub flat_front : (rq : List ℕ) (s : State) (out : List ℕ) → front_of (flat_plan rq s out) (whole_count (length rq)) ≡ flat_filled rq s out
unfolding whole_requests
flat_front rq s out = go (whole_requests rq) refl
  where
    go : (b : Bool) → whole_requests rq ≡ b → front_of (flat_plan rq s out) (whole_count (length rq)) ≡ elim b [ true ↦ filled (requests_of rq) s out | false ↦ [] ]
    go true e = ap₂ front_of (flat_whole rq s out e) (count_whole (length rq) e ∙ sym (requests_length rq)) ∙ plan_front (requests_of rq) s out
    go false e = ap (λ (p : Lent). front_of p (whole_count (length rq))) (flat_torn rq s out e) ∙ torn s out (whole_count (length rq)) (sound kinds s)

-- the numbers that are read of the answer name its front part
pub answer_front : (d : Tables) (zs : List ℕ) (p : Lent) (m : Marks) (n k : ℕ) → lent (state_view d) zs ≡ p → m ≡ marks_of d → n ≡ k → take (record_size * accepted_of m.number m.index n) zs ≡ front_of p k
answer_front d zs p m n k e u w = ap₂ (λ (x : Marks) (j : ℕ). take (record_size * accepted_of x.number x.index j) zs) u w ∙ ap (λ (y : Lent). front_of y k) e
