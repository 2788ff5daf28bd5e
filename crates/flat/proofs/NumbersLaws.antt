-- A request's twelve numbers read back as the request, and a list of them as the plan that was meant. Assumes nothing.
use mathlib.Core.Path.{◌≡◌, refl, ap, ◌∙◌}
use mathlib.Core.Bool.{Bool, true, false, ◌&&◌}
use mathlib.Core.List.{List, [], ◌∷◌, Memᴰ}
use Prim.Native.Nat.{ℕ, ◌*◌, ◌/◌, ◌≤◌}
use native.Mathlib.Omega.{arith}
use lib.Dec.{T, leb, ltb, leb→le, le→leb}
use lib.ListN.{length, length-append}
use Rattle.definition.proofs.BaseLaws.{and_l, and_r, and_i, T_true, eq→eqb}
use Rattle.definition.specs.Tables.{top, last_trigger, shared, nature, input, device, event, lpi}
use Rattle.definition.specs.Request.{Choice, auto, at, Want, mmio_want, pio_want, input_want, host_want, msi_want, Request, good_choice, good_want, good_request}
use Rattle.definition.specs.Calls.{State}
use Rattle.definition.specs.Plan.{plan}
use Rattle.flat.specs.Flat.{request_size, known, choice_at, fits, all_fit, named, readable, want_at, or_bad, request_in, code_of, number_in, numbers_of_want, numbers_of, numbers_of_all, request_at, requests_of, requests_from, whole_requests, flat_plan}
use Rattle.flat.proofs.FlatLaws.{flat_whole}
use Rattle.flat.proofs.StoreLaws.{requests_cons}

-- ---- how many they are

length_want : (q slot : ℕ) (w : Want) → length (numbers_of_want q slot w) ≡ request_size
length_want q slot (mmio_want size a c) = refl
length_want q slot (pio_want size a c) = refl
length_want q slot (input_want k t s c) = refl
length_want q slot (host_want c) = refl
length_want q slot (msi_want k i n d e l) = refl

length_one : (r : Request) → length (numbers_of r) ≡ request_size
unfolding numbers_of
length_one r = length_want r.requester r.slot r.want

pub length_numbers : (rs : List Request) → length (numbers_of_all rs) ≡ request_size * length rs
unfolding numbers_of_all
length_numbers [] = refl
length_numbers (r ∷ rs) = omega (arith, length-append (numbers_of r) (numbers_of_all rs), length_one r, length_numbers rs)

-- ---- one request

choice_back : (c : Choice) → choice_at (code_of c) (number_in c) ≡ c
choice_back auto = refl
choice_back (at n) = refl

code_known : (c : Choice) → T (known (code_of c))
code_known auto = tt
code_known (at n) = tt

number_named : (most : ℕ) (c : Choice) → most ≤ top 32 → T (good_choice most c) → T (named (code_of c) (number_in c))
unfolding good_choice
number_named most auto l g = tt
number_named most (at n) l g = le→leb n (top 32) (omega (arith, leb→le n most g))

-- what can be read is read as it stands
taken : (b : Bool) (r : Request) → T b → or_bad b r ≡ r
taken true r t = refl
taken false r t = absurd t

module _ (q slot : ℕ) (fq : T (fits q)) (fs : T (fits slot)) where
  abbrev asks : Want → Request
  asks w = record { requester = q; slot = slot; want = w }

  headed : (b : Bool) → T b → T (fits q && (fits slot && b))
  headed b t = and_i (fits q) (fits slot && b) fq (and_i (fits slot) b fs t)

  -- a code of at most a few bits has 32
  small : (n most : ℕ) → most ≤ top 32 → T (leb n most) → T (fits n)
  small n most l t = le→leb n (top 32) (omega (arith, leb→le n most t))

  three : (a b c : ℕ) → T (fits a) → T (fits b) → T (fits c) → T (all_fit a b c)
  three a b c x y z = and_i (fits a) (fits b && fits c) x (and_i (fits b) (fits c) y z)

  want_read : (w : Want) → T (good_want w) → request_at (numbers_of_want q slot w) 0 ≡ asks w
  unfolding request_at request_in readable want_at good_want
  want_read (mmio_want size a c) g = taken (fits q && (fits slot && known (code_of c))) _ (headed (known (code_of c)) (code_known c)) ∙ ap (λ x. asks (mmio_want size a x)) (choice_back c)
  want_read (pio_want size a c) g = taken (fits q && (fits slot && known (code_of c))) _ (headed (known (code_of c)) (code_known c)) ∙ ap (λ x. asks (pio_want size a x)) (choice_back c)
  want_read (input_want k t s c) g =
      let g₁ : T (leb t last_trigger && (leb s shared && good_choice (nature input).top c)) = and_r (leb k (top 32)) _ g in
      let g₂ : T (leb s shared && good_choice (nature input).top c) = and_r (leb t last_trigger) _ g₁ in
      let fit : T (all_fit k t s) = three k t s (and_l (leb k (top 32)) _ g) (small t last_trigger (omega arith) (and_l (leb t last_trigger) _ g₁)) (small s shared (omega arith) (and_l (leb s shared) _ g₂)) in
      taken (fits q && (fits slot && (all_fit k t s && known (code_of c)))) _ (headed (all_fit k t s && known (code_of c)) (and_i (all_fit k t s) (known (code_of c)) fit (code_known c)))
      ∙ ap (λ x. asks (input_want k t s x)) (choice_back c)
  want_read (host_want c) g = taken (fits q && (fits slot && known (code_of c))) _ (headed (known (code_of c)) (code_known c)) ∙ ap (λ x. asks (host_want x)) (choice_back c)
  want_read (msi_want k i n d e l) g =
      let g₁ = and_r (leb k (top 32)) _ g in
      let g₂ = and_r (leb i (top 32)) _ g₁ in
      let g₃ = and_r (ltb 0 n) _ g₂ in
      let g₄ = and_r (leb n (top 32)) _ g₃ in
      let g₅ = and_r (good_choice (nature device).top d) _ g₄ in
      let fit : T (all_fit k i n) = three k i n (and_l (leb k (top 32)) _ g) (and_l (leb i (top 32)) _ g₁) (and_l (leb n (top 32)) _ g₃) in
      let nd : T (named (code_of d) (number_in d)) = number_named (nature device).top d (omega arith) (and_l (good_choice (nature device).top d) _ g₄) in
      let ne : T (named (code_of e) (number_in e)) = number_named (nature event).top e (omega arith) (and_l (good_choice (nature event).top e) _ g₅) in
      let nl : T (named (code_of l) (number_in l)) = number_named (nature lpi).top l (omega arith) (and_r (good_choice (nature event).top e) _ g₅) in
      let all : T (all_fit k i n && (named (code_of d) (number_in d) && (named (code_of e) (number_in e) && named (code_of l) (number_in l)))) = and_i (all_fit k i n) _ fit (and_i (named (code_of d) (number_in d)) _ nd (and_i (named (code_of e) (number_in e)) _ ne nl)) in
      taken (fits q && (fits slot && (all_fit k i n && (named (code_of d) (number_in d) && (named (code_of e) (number_in e) && named (code_of l) (number_in l)))))) _ (headed _ all)
      ∙ (λ t. asks (msi_want k i n (choice_back d t) (choice_back e t) (choice_back l t)))

pub request_back : (r : Request) → T (good_request r) → request_at (numbers_of r) 0 ≡ r
unfolding numbers_of good_request
request_back r g =
    let g₁ = and_r (ltb 0 r.requester) _ g in
    let g₂ = and_r (leb r.requester (top 32)) _ g₁ in
    want_read r.requester r.slot (and_l (leb r.requester (top 32)) _ g₁) (and_l (leb r.slot (top 32)) _ g₂) r.want (and_r (leb r.slot (top 32)) _ g₂)

-- ---- a list of them

pub requests_back : (rs : List Request) → ((r : Request) → Memᴰ r rs → T (good_request r)) → requests_of (numbers_of_all rs) ≡ rs
unfolding numbers_of_all requests_of requests_from
requests_back [] good = refl
requests_back (r ∷ rs) good =
    requests_cons (numbers_of r) (numbers_of_all rs) (length_one r)
    ∙ (λ t. request_back r (good r (Memᴰ.head refl)) t ∷ requests_back rs (λ x m. good x (Memᴰ.tail m)) t)

numbers_whole : (rs : List Request) → whole_requests (numbers_of_all rs) ≡ true
unfolding whole_requests
numbers_whole rs =
    let n : length (numbers_of_all rs) / request_size ≡ length rs = omega (arith, length_numbers rs) in
    T_true _ (eq→eqb (request_size * (length (numbers_of_all rs) / request_size)) (length (numbers_of_all rs)) (omega (arith, length_numbers rs)))

-- THE PLAN THAT WAS MEANT: what planner_plan makes of the numbers is the plan of the requests
pub numbers_plan : (rs : List Request) → ((r : Request) → Memᴰ r rs → T (good_request r)) → (s : State) (out : List ℕ) → flat_plan (numbers_of_all rs) s out ≡ plan rs s out
numbers_plan rs good s out = flat_whole (numbers_of_all rs) s out (numbers_whole rs) ∙ ap (λ xs. plan xs s out) (requests_back rs good)
