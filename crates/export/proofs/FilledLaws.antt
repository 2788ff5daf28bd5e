-- What a plan answers with: how many numbers of its results it has filled, by the definition. Assumes nothing.
use mathlib.Core.Path.{◌≡◌, refl, sym, ap, ◌∙◌}
use mathlib.Core.Bool.{Bool, true, false}
use mathlib.Core.List.{List, [], ◌∷◌, map}
use Prim.Native.Nat.{ℕ, zero, suc, ◌≤◌, ◌*◌, ◌/◌}
use native.Mathlib.Omega.{arith}
use lib.Dec.{leb, leb→le}
use lib.ListN.{length, take}
use borrow.Author.Tests.{le-leb, ne_eqb}
use Rattle.definition.proofs.BaseLaws.{and_l, true_T}
use Rattle.definition.specs.Tables.{plan_limit, record_size, kinds}
use Rattle.definition.specs.Base.{Refusal, malformed, short, tell, accepted, require}
use Rattle.definition.specs.Pools.{Holders}
use Rattle.definition.specs.Request.{Request, Pools}
use Rattle.definition.specs.Calls.{State, pools_of, owners_of, sound}
use Rattle.definition.specs.Plan.{Grant, Run, done, stopped, run, records, roomy, at_once, plan_run, grants_of, ended, plan}
use Rattle.definition.proofs.PlanLaws.{tell_number, tell_index, plan_says}
use Rattle.definition.proofs.RunLaws.{run_requests, run_stopped, records_length}
use Rattle.flat.specs.Flat.{request_size, requests_of, whole_requests, flat_plan}
use Rattle.flat.proofs.FlatLaws.{requests_length, flat_whole}
use Rattle.numbers.specs.Lent.{filled_by, filled_in}

-- ---- as many grants as requests, or fewer

map_length : {A B : Type 0} (f : A → B) (xs : List A) → length (map f xs) ≡ length xs
map_length f [] = refl
map_length f (x ∷ xs) = ap suc (map_length f xs)

take_length : {A : Type 0} (n : ℕ) (xs : List A) → length (take n xs) ≤ length xs
take_length zero xs = omega arith
take_length (suc n) [] = omega arith
take_length (suc n) (x ∷ xs) = let h : length (take n xs) ≤ length xs = take_length n xs in omega arith

all_granted : (P : Pools) (rs : List Request) (S : Holders) (gs : List Grant) → run P S rs ≡ done gs → length gs ≡ length rs
all_granted P rs S gs e = sym (map_length (λ (g : Grant). g.request) gs) ∙ ap length (run_requests P rs S gs e)

some_granted : (P : Pools) (rs : List Request) (S : Holders) (gs : List Grant) (x : Refusal) → run P S rs ≡ stopped gs x → length gs ≤ length rs
some_granted P rs S gs x e =
    let h : length gs ≡ length (take (length gs) rs) = all_granted P (take (length gs) rs) S gs (run_stopped P rs S gs x e) in
    let l : length (take (length gs) rs) ≤ length rs = take_length (length gs) rs in
    omega arith

-- ---- a refusal's index

few : (a b : Bool) (v : Run) (gs : List Grant) (x : Refusal) → at_once (require a malformed (require b short (accepted v))) ≡ stopped gs x → (b ≡ true → v ≡ stopped gs x → length gs ≤ plan_limit) → length gs ≤ plan_limit
unfolding require
few false b v gs x e f = let z : 0 ≡ length gs = ap (λ (w : Run). length (grants_of w)) e in omega arith
few true false v gs x e f = let z : 0 ≡ length gs = ap (λ (w : Run). length (grants_of w)) e in omega arith
few true true v gs x e f = f refl e

few_granted : (rs : List Request) (s : State) (out : List ℕ) (gs : List Grant) (x : Refusal) → plan_run rs s out ≡ stopped gs x → length gs ≤ plan_limit
unfolding plan_run roomy
few_granted rs s out gs x e =
    few (sound kinds s) (roomy rs out) (run (pools_of s) (owners_of s) rs) gs x e (λ r v.
    let l : length gs ≤ length rs = some_granted (pools_of s) rs (owners_of s) gs x v in
    let m : length rs ≤ plan_limit = leb→le (length rs) plan_limit (and_l (leb (length rs) plan_limit) (leb (record_size * length rs) (length out)) (true_T _ r)) in
    omega arith)

-- ---- the count

module _ (rs : List Request) (s : State) (out : List ℕ) (n : ℕ) (asked : length rs ≡ n / request_size) where
  counted_run : (v : Run) → plan_run rs s out ≡ v → filled_in (ended s v) n ≡ length (records (grants_of v))
  unfolding filled_by
  counted_run (done gs) e = ap (λ (m : ℕ). record_size * m) (sym asked ∙ sym (all_granted (pools_of s) rs (owners_of s) gs (plan_says rs s out gs e).ran)) ∙ sym (records_length gs)
  counted_run (stopped gs x) e =
      rw (ne_eqb (tell (length gs) x).number 0 (tell_number (length gs) x), tell_index (length gs) x, le-leb (length gs) plan_limit (few_granted rs s out gs x e), filled_by) (ap (λ (m : ℕ). record_size * m) (tell_index (length gs) x) ∙ sym (records_length gs))

-- THE COUNT: a plan of whole requests answers with the length of the records that it has written
pub filled_is : (rq : List ℕ) (s : State) (out : List ℕ) → whole_requests rq ≡ true
    → filled_in (flat_plan rq s out).state (length rq) ≡ length (records (grants_of (plan_run (requests_of rq) s out)))
unfolding plan
filled_is rq s out w = rw (flat_whole rq s out w) (counted_run (requests_of rq) s out (length rq) (requests_length rq) (plan_run (requests_of rq) s out) refl)
