-- A plan over plain numbers is a plan of the requests that they hold, and one request is a plan of one; numbers that end within a request are too many. Assumes nothing.
use mathlib.Core.Path.{◌≡◌, refl, sym, ap, subst, ◌∙◌}
use mathlib.Core.Bool.{Bool, true, false, ◌&&◌}
use mathlib.Core.List.{List}
use Prim.Native.Nat.{ℕ, zero, suc, ◌+◌, ◌*◌, ◌/◌, ◌<◌, ◌≤◌}
use native.Mathlib.Omega.{arith}
use native.Mathlib.Nat.{zero-add}
use lib.Dec.{leb, eqb}
use lib.ListN.{length, get_or}
use borrow.Author.Tests.{leb-true, leb-false}
use Rattle.definition.specs.Base.{Refusal, malformed, short, refused, require, tell}
use Rattle.definition.specs.Tables.{plan_limit, record_size, kinds}
use Rattle.definition.specs.Request.{Request}
use Rattle.definition.specs.Calls.{State, sound, saying, settle}
use Rattle.definition.specs.Plan.{Lent, lent, plan}
use Rattle.definition.proofs.PlanLaws.{tell_number}
use Rattle.definition.proofs.IntoPlanLaws.{into_plan}
use Rattle.flat.specs.Flat.{request_size, request_at, requests_from, requests_of, whole_requests, flat_plan, flat_allocate}
use Rattle.flat.proofs.FlatLaws.{requests_from_length, flat_whole, flat_torn, flat_one, flat_too_short}
use Rattle.plan.specs.Steps.{opened, turns, settled}
use Rattle.plan.proofs.StepLaws.{opened_unsound, opened_short, settled_refused}
use Rattle.plan.proofs.PlanLaws.{turns_skip}
use Rattle.plan.specs.Turns.{whole_count, one_count, Within}
use Rattle.plan.proofs.InPlaceLaws.{Ends, ends_plan}
use Rattle.plan.proofs.JudgeLaws.{one_is, one_not}

-- ---- the i-th of them

from_at : (rq : List ℕ) (i k j : ℕ) (none : Request) → j < k → get_or (requests_from rq i k) j none ≡ request_at rq (i + j)
unfolding requests_from
from_at rq i zero j none l = absurd (omega arith)
from_at rq i (suc k) zero none l = let e : i ≡ i + 0 = omega arith in ap (request_at rq) e
from_at rq i (suc k) (suc j) none l = let e : suc i + j ≡ i + suc j = omega arith in from_at rq (suc i) k j none (omega arith) ∙ ap (request_at rq) e

-- n of them are as many, and each is the one at its place
pub taken_length : (rq : List ℕ) (n : ℕ) → length (requests_from rq 0 n) ≡ n
taken_length rq n = requests_from_length rq 0 n

pub taken_is : (rq : List ℕ) (n i : ℕ) (none : Request) → i < n → get_or (requests_from rq 0 n) i none ≡ request_at rq i
taken_is rq n i none l = from_at rq 0 n i none l ∙ ap (request_at rq) (zero-add i)

pub taken_inside : (n long i : ℕ) → Within n long → n ≤ plan_limit → i < n → request_size * i + request_size ≤ long
taken_inside n long i within few l = omega (arith, within few, l)

-- ---- how many

abbrev counting : ℕ → Bool → ℕ
counting long b = elim b as (λ _. ℕ) [ true ↦ long / request_size | false ↦ plan_limit + 1 ]

module _ (long : ℕ) where
  pub count_whole : eqb (request_size * (long / request_size)) long ≡ true → whole_count long ≡ long / request_size
  unfolding whole_count
  count_whole e = ap (counting long) e

  count_torn : eqb (request_size * (long / request_size)) long ≡ false → whole_count long ≡ plan_limit + 1
  unfolding whole_count
  count_torn e = ap (counting long) e

  pub whole_within : Within (whole_count long) long
  whole_within = go (eqb (request_size * (long / request_size)) long) refl
    where
      go : (b : Bool) → eqb (request_size * (long / request_size)) long ≡ b → Within (whole_count long) long
      go true e few = omega (arith, count_whole e)
      go false e few = absurd (omega (arith, count_torn e, few))

-- ---- more than a plan has: 1 or 11, whatever is asked for

module _ (qs : List Request) (s : State) (zs₀ : List ℕ) (k : ℕ) (many : k ≡ plan_limit + 1) where
  refusing : (P : State → Type 0) → (sound kinds s ≡ false → P (saying (tell 0 malformed) s)) → (sound kinds s ≡ true → P (saying (tell 0 short) s)) → P (opened k (length zs₀) s)
  refusing P bad good = go (sound kinds s) refl
    where
      go : (b : Bool) → sound kinds s ≡ b → P (opened k (length zs₀) s)
      go false u = subst P (opened_unsound k (length zs₀) s u) (bad u)
      go true u = subst P (opened_short k (length zs₀) s u (ap (λ (m : ℕ). leb m plan_limit && leb (record_size * m) (length zs₀)) many)) (good u)

  abbrev after : State → Lent
  after t = let w : Lent = turns 0 qs t zs₀ in lent (settled s w.state) w.results

  stops : (x : Refusal) → after (saying (tell 0 x) s) ≡ lent (saying (tell 0 x) s) zs₀
  stops x = ap (λ (w : Lent). lent (settled s w.state) w.results) (turns_skip qs 0 (saying (tell 0 x) s) zs₀ (tell_number 0 x)) ∙ ap (λ (u : State). lent u zs₀) (sym (settled_refused s (saying (tell 0 x) s) (tell_number 0 x)))

  pub ends_short : Ends qs s zs₀ k ≡ lent (settle s (require (sound kinds s) malformed (refused short))) zs₀
  unfolding require
  ends_short = refusing (λ (t : State). after t ≡ lent (settle s (require (sound kinds s) malformed (refused short))) zs₀) (λ u. rw u (stops malformed)) (λ u. rw u (stops short))

-- ---- the plan

-- .. of so many
short_plan : (rq : List ℕ) (s : State) (zs₀ : List ℕ) (n : ℕ) → n ≡ plan_limit + 1 → plan (requests_from rq 0 n) s zs₀ ≡ lent (settle s (require (sound kinds s) malformed (refused short))) zs₀
short_plan rq s zs₀ n many = sym (ends_plan (requests_from rq 0 n) s zs₀) ∙ ends_short (requests_from rq 0 n) s zs₀ (length (requests_from rq 0 n)) (taken_length rq n ∙ many)

module _ (rq : List ℕ) (s : State) (zs₀ : List ℕ) where
  abbrev torn : Bool
  torn = eqb (request_size * (length rq / request_size)) (length rq)

  pub run_flat : plan (requests_from rq 0 (whole_count (length rq))) s zs₀ ≡ flat_plan rq s zs₀
  unfolding whole_requests requests_of
  run_flat = go torn refl
    where
      go : (b : Bool) → torn ≡ b → plan (requests_from rq 0 (whole_count (length rq))) s zs₀ ≡ flat_plan rq s zs₀
      go true e = ap (λ (n : ℕ). plan (requests_from rq 0 n) s zs₀) (count_whole (length rq) e) ∙ sym (flat_whole rq s zs₀ e)
      go false e = short_plan rq s zs₀ (whole_count (length rq)) (count_torn (length rq) e) ∙ sym (flat_torn rq s zs₀ e)

-- ---- one request

module _ (long : ℕ) where
  count_one : leb request_size long ≡ true → one_count long ≡ 1
  count_one e = sym (one_is long (leb-true request_size long e))

  count_none : leb request_size long ≡ false → one_count long ≡ plan_limit + 1
  count_none e = sym (one_not long (leb-false request_size long e))

  pub one_within : Within (one_count long) long
  one_within = go (leb request_size long) refl
    where
      go : (b : Bool) → leb request_size long ≡ b → Within (one_count long) long
      go true e few = omega (arith, count_one e, leb-true request_size long e)
      go false e few = absurd (omega (arith, count_none e, few))

pub run_one : (rq : List ℕ) (s : State) (zs₀ : List ℕ) → plan (requests_from rq 0 (one_count (length rq))) s zs₀ ≡ flat_allocate rq s zs₀
unfolding requests_from
run_one rq s zs₀ = go (leb request_size (length rq)) refl
  where
    go : (b : Bool) → leb request_size (length rq) ≡ b → plan (requests_from rq 0 (one_count (length rq))) s zs₀ ≡ flat_allocate rq s zs₀
    go true e = ap (λ (n : ℕ). plan (requests_from rq 0 n) s zs₀) (count_one (length rq) e) ∙ sym (into_plan (request_at rq 0) s zs₀) ∙ sym (flat_one rq s zs₀ e)
    go false e = short_plan rq s zs₀ (one_count (length rq)) (count_none (length rq) e) ∙ sym (flat_too_short rq s zs₀ e)
