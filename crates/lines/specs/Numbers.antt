-- Decimal numbers without sign or leading zeros: read from a field, and written. Assumes nothing.
use Rattle.std.specs.Prelude.{Bool, true, false, not, ◌&&◌, List, [], ◌∷◌, ◌++◌, ℕ, zero, suc, ◌+◌, ◌*◌, ◌-◌, ◌/◌, ◌%◌, eqb, leb, ltb}
use Rattle.std.proofs.Math.Option.{Option, some}
use Rattle.definition.specs.Base.{all_of}
use Rattle.lines.specs.Base.{pick, when}

-- ---- read

-- '0' to '9'
abbrev pub digit : ℕ → Bool
digit b = leb 48 b && leb b 57

-- what the digits say, after those that said v
unfoldable pub value_from : ℕ → List ℕ → ℕ
value_from v [] = v
value_from v (b ∷ bs) = value_from (v * 10 + (b - 48)) bs

-- not empty, and no 0 before other digits
unfoldable pub plain : List ℕ → Bool
plain [] = false
plain (b ∷ []) = true
plain (b ∷ c ∷ bs) = not (eqb b 48)

-- the number that a field is, which is at most the largest that the field holds
unfoldable pub number : ℕ → List ℕ → Option ℕ
number most f = when (plain f && (all_of digit f && leb (value_from 0 f) most)) (some (value_from 0 f))

-- ---- written

-- the last k digits of n, or all of them where there are fewer
unfoldable pub digits_up_to : ℕ → ℕ → List ℕ
digits_up_to zero n = []
digits_up_to (suc k) n = pick (ltb n 10) ((48 + n) ∷ []) (digits_up_to k (n / 10) ++ ((48 + n % 10) ∷ []))

-- as many digits as a number of 64 bits can have
abbrev pub digit_limit : ℕ
digit_limit = 20

unfoldable pub digits : ℕ → List ℕ
digits n = digits_up_to digit_limit n
