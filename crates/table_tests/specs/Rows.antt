-- The tests of a table, row by row, whatever its rows are: the forms that code computes. Assumes nothing.
use Rattle.std.specs.Prelude.{Bool, ◌&&◌, ℕ, ◌<◌, ◌≤◌, leb, min}
use Rattle.tables.specs.Below.{all_below, all_from}

-- no number of the first so many rows is above h
unfoldable pub NoneAbove : ℕ → (ℕ → ℕ) → ℕ → Type 0
NoneAbove h f n = (j : ℕ) → j < n → f j ≤ h

module _ {A : Type 0} (size : ℕ) where
  -- the count is within the size, and unused rows are zero
  abbrev pub rows_tidy : (A → Bool) → (ℕ → A) → ℕ → Bool
  rows_tidy blank f n = leb n size && all_from (λ k. blank (f k)) n size

  -- the first rows are those of another table
  abbrev pub rows_begin : (A → A → Bool) → (ℕ → A) → (ℕ → A) → ℕ → ℕ → Bool
  rows_begin same f g m n = leb (min m size) (min n size) && all_below (λ k. same (f k) (g k)) (min m size)
