-- Laws of a number's digits: how many, and a number of several is the number without its last digit, and that digit. Assumes nothing.
use mathlib.Core.Path.{◌≡◌, refl, sym, ◌∙◌, ap}
use mathlib.Core.Bool.{Bool, true, false}
use mathlib.Core.List.{List, [], ◌∷◌, ◌++◌}
use Prim.Native.Nat.{ℕ, zero, suc, ◌+◌, ◌*◌, ◌/◌, ◌%◌, ◌<◌, ◌≤◌}
use native.Mathlib.Omega.{arith}
use lib.Dec.{ltb}
use lib.ListN.{length, length-append}
use borrow.Author.Tests.{lt-ltb, le-ltb}
use Rattle.definition.specs.Tables.{top}
use Rattle.lines.specs.Base.{pick}
use Rattle.lines.specs.Numbers.{digit_limit, digits_up_to, digits}

-- 10 to the k
unfoldable pub tens : ℕ → ℕ
tens zero = 1
tens (suc k) = tens k * 10

up_to_length : (k n : ℕ) → length (digits_up_to k n) ≤ k
unfolding digits_up_to
up_to_length zero n = omega arith
up_to_length (suc k) n = go (ltb n 10) (up_to_length k (n / 10))
  where
    go : (t : Bool) → length (digits_up_to k (n / 10)) ≤ k → length (pick t ((48 + n) ∷ []) (digits_up_to k (n / 10) ++ ((48 + n % 10) ∷ []))) ≤ suc k
    go true h = omega arith
    go false h = omega (arith, length-append (digits_up_to k (n / 10)) ((48 + n % 10) ∷ []))

-- room for one digit more changes nothing once there is enough
up_to_enough : (k n : ℕ) → n < tens (suc k) → digits_up_to (suc (suc k)) n ≡ digits_up_to (suc k) n
unfolding digits_up_to tens
up_to_enough zero n l = rw (lt-ltb n 10 (omega arith))
up_to_enough (suc k) n l = ap (λ (x : List ℕ). pick (ltb n 10) ((48 + n) ∷ []) (x ++ ((48 + n % 10) ∷ []))) (up_to_enough k (n / 10) (omega arith))

pub digits_small : (n : ℕ) → n < 10 → digits n ≡ (48 + n) ∷ []
unfolding digits digits_up_to
digits_small n l = rw (lt-ltb n 10 l)

pub digits_small_length : (n : ℕ) → n < 10 → length (digits n) ≡ 1
digits_small_length n l = ap length (digits_small n l)

up_to_more : (k n : ℕ) → 10 ≤ n → digits_up_to (suc k) n ≡ digits_up_to k (n / 10) ++ ((48 + n % 10) ∷ [])
unfolding digits_up_to
up_to_more k n l = rw (le-ltb n 10 l)

tens_19 : tens 19 ≡ 10000000000000000000
unfolding tens
tens_19 = refl

pub digits_more : (n : ℕ) → 10 ≤ n → n ≤ top 64 → digits n ≡ digits (n / 10) ++ ((48 + n % 10) ∷ [])
unfolding digits
digits_more n l h =
    up_to_more 19 n l ∙ ap (λ (x : List ℕ). x ++ ((48 + n % 10) ∷ [])) (sym (up_to_enough 18 (n / 10) (omega (arith, tens_19))))

pub digits_more_length : (n : ℕ) → 10 ≤ n → n ≤ top 64 → length (digits n) ≡ length (digits (n / 10)) + 1
digits_more_length n l h = ap length (digits_more n l h) ∙ length-append (digits (n / 10)) ((48 + n % 10) ∷ [])

pub digits_length : (n : ℕ) → length (digits n) ≤ digit_limit
unfolding digits
digits_length n = up_to_length digit_limit n
