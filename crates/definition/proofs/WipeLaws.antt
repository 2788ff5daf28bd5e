-- Laws of rows made blank, row by row: which stay, and one row at a time. Assumes nothing.
use Rattle.std.specs.Prelude.{◌≡◌, length, get_or, set}
use Rattle.std.proofs.Math.Path.{refl, ap}
use mathlib.Core.List.{List, [], ◌∷◌, map}
use Prim.Native.Nat.{ℕ, zero, suc, ◌≤◌, ◌<◌}
use Rattle.std.proofs.Common.{arith}
use Rattle.definition.specs.Cut.{wiped}

module _ {A : Type 0} (b : A) where
  pub wiped_length : (m n : ℕ) (rows : List A) → length (wiped m n b rows) ≡ length rows
  unfolding wiped
  wiped_length m zero rows = refl
  wiped_length m (suc n) [] = refl
  wiped_length zero (suc n) (r ∷ rows) = ap suc (wiped_length zero n rows)
  wiped_length (suc m) (suc n) (r ∷ rows) = ap suc (wiped_length m n rows)

  -- row j, for every j: below m it stays, from m up to n it is blank, from n on it stays
  pub wiped_below : (m n : ℕ) (rows : List A) (j : ℕ) → j < m → get_or (wiped m n b rows) j b ≡ get_or rows j b
  unfolding wiped
  wiped_below m zero rows j h = refl
  wiped_below m (suc n) [] j h = refl
  wiped_below zero (suc n) (r ∷ rows) j h = absurd (omega arith)
  wiped_below (suc m) (suc n) (r ∷ rows) zero h = refl
  wiped_below (suc m) (suc n) (r ∷ rows) (suc j) h = wiped_below m n rows j (omega arith)

  pub wiped_within : (m n : ℕ) (rows : List A) (j : ℕ) → m ≤ j → j < n → get_or (wiped m n b rows) j b ≡ b
  unfolding wiped
  wiped_within m zero rows j h l = absurd (omega arith)
  wiped_within m (suc n) [] j h l = refl
  wiped_within zero (suc n) (r ∷ rows) zero h l = refl
  wiped_within zero (suc n) (r ∷ rows) (suc j) h l = wiped_within zero n rows j (omega arith) (omega arith)
  wiped_within (suc m) (suc n) (r ∷ rows) zero h l = absurd (omega arith)
  wiped_within (suc m) (suc n) (r ∷ rows) (suc j) h l = wiped_within m n rows j (omega arith) (omega arith)

  pub wiped_above : (m n : ℕ) (rows : List A) (j : ℕ) → n ≤ j → get_or (wiped m n b rows) j b ≡ get_or rows j b
  unfolding wiped
  wiped_above m zero rows j h = refl
  wiped_above m (suc n) [] j h = refl
  wiped_above zero (suc n) (r ∷ rows) zero h = absurd (omega arith)
  wiped_above zero (suc n) (r ∷ rows) (suc j) h = wiped_above zero n rows j (omega arith)
  wiped_above (suc m) (suc n) (r ∷ rows) zero h = absurd (omega arith)
  wiped_above (suc m) (suc n) (r ∷ rows) (suc j) h = wiped_above m n rows j (omega arith)

  -- nothing between m and n: all stay
  pub wiped_none : (m n : ℕ) (rows : List A) → n ≤ m → wiped m n b rows ≡ rows
  unfolding wiped
  wiped_none m zero rows h = refl
  wiped_none m (suc n) [] h = refl
  wiped_none zero (suc n) (r ∷ rows) h = absurd (omega arith)
  wiped_none (suc m) (suc n) (r ∷ rows) h = ap {B = List A} (λ rs. r ∷ rs) (wiped_none m n rows (omega arith))

  -- one row at a time, upwards from m: the next row is made blank
  pub wiped_up : (m n : ℕ) (rows : List A) → m ≤ n → wiped m (suc n) b rows ≡ set (wiped m n b rows) n b
  unfolding wiped
  wiped_up m zero [] h = refl
  wiped_up zero zero (r ∷ rows) h = refl
  wiped_up (suc m) zero (r ∷ rows) h = absurd (omega arith)
  wiped_up m (suc n) [] h = refl
  wiped_up zero (suc n) (r ∷ rows) h = ap {B = List A} (λ rs. b ∷ rs) (wiped_up zero n rows (omega arith))
  wiped_up (suc m) (suc n) (r ∷ rows) h = ap {B = List A} (λ rs. r ∷ rs) (wiped_up m n rows (omega arith))

  -- .. or downwards from n: the last row is made blank first
  pub wiped_down : (m n : ℕ) (rows : List A) → m ≤ n → wiped m (suc n) b rows ≡ wiped m n b (set rows n b)
  unfolding wiped
  wiped_down m zero [] h = refl
  wiped_down zero zero (r ∷ rows) h = refl
  wiped_down (suc m) zero (r ∷ rows) h = absurd (omega arith)
  wiped_down m (suc n) [] h = refl
  wiped_down zero (suc n) (r ∷ rows) h = ap {B = List A} (λ rs. b ∷ rs) (wiped_down zero n rows (omega arith))
  wiped_down (suc m) (suc n) (r ∷ rows) h = ap {B = List A} (λ rs. r ∷ rs) (wiped_down m n rows (omega arith))

-- .. of one number of each row: a column is made blank where the rows are
pub wiped_map : {A B : Type 0} (f : A → B) (b : A) (m n : ℕ) (rows : List A) → map f (wiped m n b rows) ≡ wiped m n (f b) (map f rows)
unfolding wiped
wiped_map f b m zero rows = refl
wiped_map f b m (suc n) [] = refl
wiped_map {B = B} f b zero (suc n) (r ∷ rows) = ap {B = List B} (λ rs. f b ∷ rs) (wiped_map f b zero n rows)
wiped_map {B = B} f b (suc m) (suc n) (r ∷ rows) = ap {B = List B} (λ rs. f r ∷ rs) (wiped_map f b m n rows)
