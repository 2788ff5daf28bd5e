-- What holds of each row below n, and the first row that passes: the forms that a loop computes. Assumes nothing.
use Rattle.std.specs.Prelude.{Bool, true, false, ◌&&◌, ◌||◌, List, [], ◌∷◌, ℕ, zero, suc, ltb, Option, Some, None}

-- f 0, f 1 .. up to and without f n
unfoldable pub listed : {A : Type 0} → (ℕ → A) → ℕ → List A
listed f zero = []
listed f (suc n) = f 0 ∷ listed (λ k. f (suc k)) n

-- each row below n passes
unfoldable pub all_below : (ℕ → Bool) → ℕ → Bool
all_below q zero = true
all_below q (suc n) = all_below q n && q n

-- each row from n on, below size, passes
abbrev pub all_from : (ℕ → Bool) → ℕ → ℕ → Bool
all_from q n size = all_below (λ k. ltb k n || q k) size

-- a hit before row n stands; else row n itself, where it passes
abbrev pub or_at : Option ℕ → Bool → ℕ → Option ℕ
or_at (Some k) b n = Some k
or_at None true n = Some n
or_at None false n = None

unfoldable pub first : (ℕ → Bool) → ℕ → Option ℕ
first q zero = None
first q (suc n) = or_at (first q n) (q n) n

abbrev pub is_clear : Option ℕ → Bool
is_clear (Some k) = false
is_clear None = true

-- row k is good and fits each row before it
abbrev pub row_ok : {A : Type 0} → (A → Bool) → (A → A → Bool) → (ℕ → A) → ℕ → Bool
row_ok good fit f k = good (f k) && all_below (λ j. fit (f j) (f k)) k
