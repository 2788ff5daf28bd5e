-- Reading what was written: the digits of a number are read as the number. Assumes nothing.
use mathlib.Core.Path.{◌≡◌, refl, ◌∙◌}
use mathlib.Core.Bool.{Bool, true, false, not, ◌&&◌}
use mathlib.Core.List.{List, [], ◌∷◌, ◌++◌}
use mathlib.Core.Option.{some}
use Prim.Native.Nat.{ℕ, zero, suc, ◌+◌, ◌*◌, ◌-◌, ◌/◌, ◌%◌, ◌<◌, ◌≤◌}
use native.Mathlib.Omega.{arith}
use native.Mathlib.Nat.{mod-lt}
use lib.Dec.{eqb, ltb}
use borrow.Author.Tests.{lt-ltb, le-leb, ne_eqb, ltb-true, ltb-false}
use Rattle.definition.specs.Tables.{top}
use Rattle.definition.specs.Base.{all_of}
use Rattle.lines.specs.Base.{pick, when}
use Rattle.lines.specs.Numbers.{digit, value_from, plain, number, digit_limit, digits_up_to, digits}
use Rattle.lines.proofs.DigitLaws.{tens}

value_last : (v : ℕ) (a : List ℕ) (b : ℕ) → value_from v (a ++ (b ∷ [])) ≡ value_from v a * 10 + (b - 48)
unfolding value_from
value_last v [] b = refl
value_last v (x ∷ a) b = value_last (v * 10 + (x - 48)) a b

pub all_append : {A : Type 0} (p : A → Bool) (a b : List A) → all_of p a ≡ true → all_of p b ≡ true → all_of p (a ++ b) ≡ true
unfolding all_of
all_append p [] b s t = t
all_append p (x ∷ a) b s t = go (p x) s (all_append p a b)
  where
    go : (q : Bool) → (q && all_of p a) ≡ true → (all_of p a ≡ true → all_of p b ≡ true → all_of p (a ++ b) ≡ true) → (q && all_of p (a ++ b)) ≡ true
    go true e f = f e t
    go false e f = e

-- the digits say the number
value_up_to : (k n : ℕ) → n < tens (suc k) → value_from 0 (digits_up_to (suc k) n) ≡ n
unfolding digits_up_to tens value_from
value_up_to zero n l = rw (lt-ltb n 10 (omega arith)) (omega arith)
value_up_to (suc k) n l = go (ltb n 10) (value_up_to k (n / 10) (omega arith))
  where
    go : (t : Bool) → value_from 0 (digits_up_to (suc k) (n / 10)) ≡ n / 10 → value_from 0 (pick t ((48 + n) ∷ []) (digits_up_to (suc k) (n / 10) ++ ((48 + n % 10) ∷ []))) ≡ n
    go true e = omega arith
    go false e = value_last 0 (digits_up_to (suc k) (n / 10)) (48 + n % 10) ∙ rw e (omega arith)

ten : 0 < 10
ten = omega arith

-- they are digits
digits_up_to_is : (k n : ℕ) → all_of digit (digits_up_to k n) ≡ true
unfolding digits_up_to all_of
digits_up_to_is zero n = refl
digits_up_to_is (suc k) n = go (ltb n 10) refl (digits_up_to_is k (n / 10))
  where
    go : (t : Bool) → ltb n 10 ≡ t → all_of digit (digits_up_to k (n / 10)) ≡ true → all_of digit (pick t ((48 + n) ∷ []) (digits_up_to k (n / 10) ++ ((48 + n % 10) ∷ []))) ≡ true
    go true e h = rw (le-leb 48 (48 + n) (omega arith), le-leb (48 + n) 57 (omega (arith, ltb-true n 10 e)))
    go false e h = all_append digit (digits_up_to k (n / 10)) ((48 + n % 10) ∷ []) h (rw (le-leb 48 (48 + n % 10) (omega arith), le-leb (48 + n % 10) 57 (omega (arith, mod-lt n ten))))

-- the first is no 0, but in 0 itself
unfoldable leads : List ℕ → Bool
leads [] = false
leads (b ∷ bs) = not (eqb b 48)

leads_last : (a : List ℕ) (b : ℕ) → leads a ≡ true → leads (a ++ (b ∷ [])) ≡ true
unfolding leads
leads_last [] b e = absurd (let z : ◌≡◌ {A = ℕ} 0 1 = cc in omega arith)
leads_last (x ∷ a) b e = e

leads_plain : (a : List ℕ) → leads a ≡ true → plain a ≡ true
unfolding leads plain
leads_plain [] e = e
leads_plain (x ∷ []) e = refl
leads_plain (x ∷ y ∷ a) e = e

up_to_leads : (k n : ℕ) → 0 < n → n < tens (suc k) → leads (digits_up_to (suc k) n) ≡ true
unfolding digits_up_to tens leads
up_to_leads zero n p l = rw (lt-ltb n 10 (omega arith), ne_eqb (48 + n) 48 (λ e. omega arith))
up_to_leads (suc k) n p l = go (ltb n 10) refl (up_to_leads k (n / 10))
  where
    go : (t : Bool) → ltb n 10 ≡ t → (0 < n / 10 → n / 10 < tens (suc k) → leads (digits_up_to (suc k) (n / 10)) ≡ true) → leads (pick t ((48 + n) ∷ []) (digits_up_to (suc k) (n / 10) ++ ((48 + n % 10) ∷ []))) ≡ true
    go true e f = rw (ne_eqb (48 + n) 48 (λ q. omega arith))
    go false e f = leads_last (digits_up_to (suc k) (n / 10)) (48 + n % 10) (f (omega (arith, ltb-false n 10 e)) (omega arith))

tens_20 : tens 20 ≡ 100000000000000000000
unfolding tens
tens_20 = refl

digits_plain : (n : ℕ) → n ≤ top 64 → plain (digits n) ≡ true
unfolding digits digits_up_to plain
digits_plain zero l = refl
digits_plain (suc n) l = leads_plain (digits_up_to digit_limit (suc n)) (up_to_leads 19 (suc n) (omega arith) (omega (arith, tens_20)))

digits_value : (n : ℕ) → n ≤ top 64 → value_from 0 (digits n) ≡ n
unfolding digits
digits_value n l = value_up_to 19 n (omega (arith, tens_20))

pub digits_digits : (n : ℕ) → all_of digit (digits n) ≡ true
unfolding digits
digits_digits n = digits_up_to_is digit_limit n

-- THE ROUND TRIP: what is written of a number of 64 bits is read as that number, in every field that is wide enough
pub number_digits : (most n : ℕ) → n ≤ top 64 → n ≤ most → number most (digits n) ≡ some n
unfolding number when
number_digits most n l m = rw (digits_plain n l, digits_digits n, digits_value n l, le-leb n most m)
