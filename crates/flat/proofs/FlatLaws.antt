-- Laws of requests as plain numbers. Assumes nothing.
use mathlib.Core.Path.{◌≡◌, refl, sym, ap, ◌∙◌}
use mathlib.Core.Bool.{true, false}
use mathlib.Core.List.{List, [], ◌∷◌}
use Prim.Native.Nat.{ℕ, zero, suc, ◌+◌, ◌-◌, ◌*◌, ◌/◌, ◌<◌}
use native.Mathlib.Omega.{arith}
use lib.Dec.{leb}
use lib.ListN.{length, get_or}
use Rattle.definition.specs.Tables.{kinds}
use Rattle.definition.specs.Base.{malformed, short, refused, require}
use Rattle.definition.specs.Calls.{State, sound, settle}
use Rattle.definition.specs.Plan.{lent, allocate_into, plan}
use Rattle.flat.specs.Flat.{request_size, number_at, request_in, request_at, requests_from, requests_of, whole_requests, flat_plan, flat_allocate}

-- ---- reading

-- the first number stands at 12 * i itself
pub request_at_is : (rq : List ℕ) (i : ℕ)
    → request_at rq i
    ≡ request_in (get_or rq (request_size * i) 0) (number_at rq i 1) (number_at rq i 2) (number_at rq i 3) (number_at rq i 4) (number_at rq i 5)
    (number_at rq i 6) (number_at rq i 7) (number_at rq i 8) (number_at rq i 9) (number_at rq i 10) (number_at rq i 11)
unfolding request_at
request_at_is rq i =
    let e : request_size * i + 0 ≡ request_size * i = omega arith in
    ap
    (λ (k : ℕ). request_in (get_or rq k 0) (number_at rq i 1) (number_at rq i 2) (number_at rq i 3) (number_at rq i 4) (number_at rq i 5) (number_at rq i 6) (number_at rq i 7) (number_at rq i 8) (number_at rq i 9) (number_at rq i 10) (number_at rq i 11))
    e

-- a request reads its twelve numbers and no others: lists that agree on them hold the same request
pub request_reads : (rq rq' : List ℕ) (i i' : ℕ) → ((j : ℕ) → j < request_size → number_at rq i j ≡ number_at rq' i' j) → request_at rq i ≡ request_at rq' i'
unfolding request_at
request_reads rq rq' i i' f = λ t.
    request_in (f 0 (omega arith) t) (f 1 (omega arith) t) (f 2 (omega arith) t) (f 3 (omega arith) t) (f 4 (omega arith) t) (f 5 (omega arith) t)
    (f 6 (omega arith) t) (f 7 (omega arith) t) (f 8 (omega arith) t) (f 9 (omega arith) t) (f 10 (omega arith) t) (f 11 (omega arith) t)

-- ---- the list

pub requests_from_step : (rq : List ℕ) (i k : ℕ) → requests_from rq i (suc k) ≡ request_at rq i ∷ requests_from rq (suc i) k
unfolding requests_from
requests_from_step rq i k = refl

pub requests_from_none : (rq : List ℕ) (i : ℕ) → requests_from rq i 0 ≡ []
unfolding requests_from
requests_from_none rq i = refl

-- .. where some are left of n
pub requests_from_left : (rq : List ℕ) (i n : ℕ) → i < n → requests_from rq i (n - i) ≡ request_at rq i ∷ requests_from rq (suc i) (n - suc i)
unfolding requests_from
requests_from_left rq i n l = let e : n - i ≡ suc (n - suc i) = omega arith in ap (requests_from rq i) e

pub requests_from_length : (rq : List ℕ) (i k : ℕ) → length (requests_from rq i k) ≡ k
unfolding requests_from
requests_from_length rq i zero = refl
requests_from_length rq i (suc k) = ap suc (requests_from_length rq (suc i) k)

pub requests_length : (rq : List ℕ) → length (requests_of rq) ≡ length rq / request_size
unfolding requests_of
requests_length rq = requests_from_length rq 0 (length rq / request_size)

-- lists that agree on the numbers of so many requests from i on hold the same ones
pub requests_read : (rq rq' : List ℕ) (i i' k : ℕ) → ((h : ℕ) → h < k → (j : ℕ) → j < request_size → number_at rq (i + h) j ≡ number_at rq' (i' + h) j) → requests_from rq i k ≡ requests_from rq' i' k
unfolding requests_from
requests_read rq rq' i i' zero f = refl
requests_read rq rq' i i' (suc k) f =
    let here : request_at rq i ≡ request_at rq' i' = request_reads rq rq' i i' (λ j l. moved rq i 0 j ∙ f 0 (omega arith) j l ∙ sym (moved rq' i' 0 j)) in
    let more : requests_from rq (suc i) k ≡ requests_from rq' (suc i') k = requests_read rq rq' (suc i) (suc i') k (λ h l j m. next rq i h j ∙ f (suc h) (omega arith) j m ∙ sym (next rq' i' h j)) in
    λ t. here t ∷ more t
  where
    moved : (xs : List ℕ) (a h j : ℕ) → number_at xs a j ≡ number_at xs (a + 0) j
    moved xs a h j = let e : a ≡ a + 0 = omega arith in ap (λ (b : ℕ). number_at xs b j) e

    next : (xs : List ℕ) (a h j : ℕ) → number_at xs (suc a + h) j ≡ number_at xs (a + suc h) j
    next xs a h j = let e : suc a + h ≡ a + suc h = omega arith in ap (λ (b : ℕ). number_at xs b j) e

-- ---- the plan: whole requests, or 1 and 11

pub flat_whole : (rq : List ℕ) (s : State) (out : List ℕ) → whole_requests rq ≡ true → flat_plan rq s out ≡ plan (requests_of rq) s out
unfolding flat_plan
flat_whole rq s out e = rw (e, flat_plan)

pub flat_torn : (rq : List ℕ) (s : State) (out : List ℕ) → whole_requests rq ≡ false → flat_plan rq s out ≡ lent (settle s (require (sound kinds s) malformed (refused short))) out
unfolding flat_plan
flat_torn rq s out e = rw (e, flat_plan)

-- ---- one request: twelve numbers, or 1 and 11

pub flat_one : (xs : List ℕ) (s : State) (out : List ℕ) → leb request_size (length xs) ≡ true → flat_allocate xs s out ≡ allocate_into kinds (request_at xs 0) s out
unfolding flat_allocate
flat_one xs s out e = rw (e, flat_allocate)

pub flat_too_short : (xs : List ℕ) (s : State) (out : List ℕ) → leb request_size (length xs) ≡ false → flat_allocate xs s out ≡ lent (settle s (require (sound kinds s) malformed (refused short))) out
unfolding flat_allocate
flat_too_short xs s out e = rw (e, flat_allocate)
