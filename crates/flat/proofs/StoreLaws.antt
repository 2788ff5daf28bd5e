-- Requests that are stored into a list, or put one behind the other. Assumes nothing.
use mathlib.Core.Path.{◌≡◌, refl, ap, ◌∙◌}
use mathlib.Core.List.{List, [], ◌∷◌, ◌++◌}
use Prim.Native.Nat.{ℕ, zero, suc, ◌+◌, ◌*◌, ◌/◌, ◌≤◌, ◌<◌}
use native.Mathlib.Omega.{arith}
use lib.ListN.{length, get_or, set, length-set, length-append, get_or-append}
use lib.Seq.{sets, get_or-set_same, get_or-set_other, get_or-append-add}
use Rattle.flat.specs.Flat.{request_size, number_at, request_in, request_at, requests_from, requests_of}
use Rattle.flat.proofs.FlatLaws.{request_reads, requests_read}

-- ---- a run of stores

pub sets_before : (l vs : List ℕ) (i k : ℕ) → k < i → get_or (sets l i vs) k 0 ≡ get_or l k 0
sets_before l [] i k h = refl
sets_before l (v ∷ vs) i k h = sets_before (set l i v) vs (suc i) k (omega arith) ∙ get_or-set_other l i k v 0 (λ e. omega arith)

pub sets_behind : (l vs : List ℕ) (i k : ℕ) → i + length vs ≤ k → get_or (sets l i vs) k 0 ≡ get_or l k 0
sets_behind l [] i k h = refl
sets_behind l (v ∷ vs) i k h = sets_behind (set l i v) vs (suc i) k (omega arith) ∙ get_or-set_other l i k v 0 (λ e. omega arith)

pub sets_here : (l vs : List ℕ) (i j : ℕ) → i + length vs ≤ length l → j < length vs → get_or (sets l i vs) (i + j) 0 ≡ get_or vs j 0
sets_here l [] i j h m = absurd (omega arith)
sets_here l (v ∷ vs) i zero h m =
    let e : i + 0 ≡ i = omega arith in
    ap (λ (k : ℕ). get_or (sets (set l i v) (suc i) vs) k 0) e ∙ sets_before (set l i v) vs (suc i) i (omega arith) ∙ get_or-set_same l i v 0 (omega arith)
sets_here l (v ∷ vs) i (suc j) h m =
    let e : i + suc j ≡ suc i + j = omega arith in
    ap (λ (k : ℕ). get_or (sets (set l i v) (suc i) vs) k 0) e ∙ sets_here (set l i v) vs (suc i) j (omega (arith, length-set l i v)) (omega arith)

pub first_number : (xs : List ℕ) (j : ℕ) → get_or xs j 0 ≡ number_at xs 0 j
first_number xs j = let e : j ≡ request_size * 0 + j = omega arith in ap (λ (k : ℕ). get_or xs k 0) e

-- twelve numbers stored at the i-th place are the i-th request ..
pub request_stored : (rq : List ℕ) (i kind requester slot a b c x n y m z l : ℕ) → request_size * i + request_size ≤ length rq
    → request_at (sets rq (request_size * i) (kind ∷ requester ∷ slot ∷ a ∷ b ∷ c ∷ x ∷ n ∷ y ∷ m ∷ z ∷ l ∷ [])) i ≡ request_in kind requester slot a b c x n y m z l
unfolding request_at
request_stored rq i kind requester slot a b c x n y m z l h =
    request_reads
    (sets rq (request_size * i) (kind ∷ requester ∷ slot ∷ a ∷ b ∷ c ∷ x ∷ n ∷ y ∷ m ∷ z ∷ l ∷ []))
    (kind ∷ requester ∷ slot ∷ a ∷ b ∷ c ∷ x ∷ n ∷ y ∷ m ∷ z ∷ l ∷ [])
    i
    0
    (λ j s. sets_here rq (kind ∷ requester ∷ slot ∷ a ∷ b ∷ c ∷ x ∷ n ∷ y ∷ m ∷ z ∷ l ∷ []) (request_size * i) j h s ∙ first_number (kind ∷ requester ∷ slot ∷ a ∷ b ∷ c ∷ x ∷ n ∷ y ∷ m ∷ z ∷ l ∷ []) j)

-- .. and those before it and behind it stay
pub request_before : (rq vs : List ℕ) (i h : ℕ) → h < i → request_at (sets rq (request_size * i) vs) h ≡ request_at rq h
request_before rq vs i h l = request_reads (sets rq (request_size * i) vs) rq h h (λ j s. sets_before rq vs (request_size * i) (request_size * h + j) (omega arith))

pub request_behind : (rq vs : List ℕ) (i h : ℕ) → length vs ≡ request_size → i < h → request_at (sets rq (request_size * i) vs) h ≡ request_at rq h
request_behind rq vs i h e l = request_reads (sets rq (request_size * i) vs) rq h h (λ j s. sets_behind rq vs (request_size * i) (request_size * h + j) (omega arith))

-- ---- lists one behind the other

pub requests_front : (xs ys : List ℕ) (i k : ℕ) → request_size * (i + k) ≤ length xs → requests_from (xs ++ ys) i k ≡ requests_from xs i k
requests_front xs ys i k l = requests_read (xs ++ ys) xs i i k (λ h m j s. get_or-append xs ys 0 (request_size * (i + h) + j) (omega arith))

pub requests_behind : (xs ys : List ℕ) (n i k : ℕ) → length xs ≡ request_size * n → requests_from (xs ++ ys) (n + i) k ≡ requests_from ys i k
requests_behind xs ys n i k e = requests_read (xs ++ ys) ys (n + i) i k (λ h m j s. moved h j ∙ get_or-append-add xs ys (request_size * (i + h) + j) 0)
  where
    moved : (h j : ℕ) → number_at (xs ++ ys) (n + i + h) j ≡ get_or (xs ++ ys) (length xs + (request_size * (i + h) + j)) 0
    moved h j = let z : request_size * (n + i + h) + j ≡ length xs + (request_size * (i + h) + j) = omega arith in ap (λ (k : ℕ). get_or (xs ++ ys) k 0) z

-- one whole request in front of others
pub requests_cons : (xs ys : List ℕ) → length xs ≡ request_size → requests_of (xs ++ ys) ≡ request_at xs 0 ∷ requests_of ys
unfolding requests_of requests_from
requests_cons xs ys e =
    let n : length (xs ++ ys) / request_size ≡ suc (length ys / request_size) = omega (arith, length-append xs ys) in
    let here : request_at (xs ++ ys) 0 ≡ request_at xs 0 = request_reads (xs ++ ys) xs 0 0 (λ j s. get_or-append xs ys 0 (request_size * 0 + j) (omega arith)) in
    ap (requests_from (xs ++ ys) 0) n ∙ (λ t. here t ∷ requests_behind xs ys 1 0 (length ys / request_size) e t)
