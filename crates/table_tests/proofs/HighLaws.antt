-- The highest number so far, as a loop carries it: no row passed is above it, and a row beyond it fits behind each. Assumes nothing.
use mathlib.Core.Bool.{Bool, true}
use mathlib.Core.Logic.{⊎_elim}
use mathlib.Core.Path.{◌≡◌, sym, subst}
use Prim.Native.Nat.{ℕ, ◌+◌, ◌<◌, ◌≤◌, max}
use native.Mathlib.Nat.{eq-or-lt_of_le}
use native.Mathlib.Omega.{arith}
use Rattle.tables.specs.Below.{all_below, row_ok}
use Rattle.tables.proofs.BelowLaws.{all_every}
use Rattle.table_tests.specs.Rows.{NoneAbove}

pub high_start : (h : ℕ) (f : ℕ → ℕ) → NoneAbove h f 0
unfolding NoneAbove
high_start h f j l = absurd (omega arith)

pub high_more : (h h' : ℕ) (f : ℕ → ℕ) (k : ℕ) → NoneAbove h f k → h' ≡ max h (f k) → NoneAbove h' f (k + 1)
unfolding NoneAbove
high_more h h' f k a r j p =
    let l : h ≤ h' = omega arith in
    let m : f k ≤ h' = omega arith in
    ⊎_elim (λ (e : j ≡ k). subst (λ (i : ℕ). f i ≤ h') (sym e) m) (λ (q : j < k). omega (arith, a j q)) (eq-or-lt_of_le (omega arith))

module _ {A : Type 0} (good : A → Bool) (fit : A → A → Bool) (f : ℕ → A) (k : ℕ) (ok : good (f k) ≡ true) where
  pub row_beyond : (reach : A → ℕ) (h : ℕ) → NoneAbove h (λ j. reach (f j)) k → ((a : A) → reach a ≤ h → fit a (f k) ≡ true) → row_ok good fit f k ≡ true
  unfolding NoneAbove
  row_beyond reach h a c = rw ok (all_every (λ j. fit (f j) (f k)) k (λ j l. c (f j) (a j l)))

  pub row_rest : row_ok good fit f k ≡ all_below (λ j. fit (f j) (f k)) k
  row_rest = rw ok
