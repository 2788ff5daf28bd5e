-- Some row of a list, and the first that passes, by index. Assumes nothing.
use mathlib.Core.Path.{◌≡◌, refl, sym, ◌∙◌, ap, subst}
use mathlib.Core.Bool.{Bool, true, false}
use mathlib.Core.Logic.{⊎_elim}
use mathlib.Core.Option.{Option, none, some}
use Prim.Native.Nat.{ℕ, zero, suc, ◌<◌}
use native.Mathlib.Nat.{eq-or-lt_of_le, le_of_suc-le-suc}
use native.Mathlib.Omega.{arith}
use lib.Dec.{T}
use Rattle.std.specs.Prelude.{Option as Hit, Some, None}
use Rattle.definition.specs.Base.{any_of, first_of}
use Rattle.definition.proofs.BaseLaws.{or_cases, or_l, or_r, first_at, first_past, true_T, false_T}
use Rattle.tables.specs.Below.{listed, first, or_at}

module _ {A : Type 0} (p : A → Bool) where
  pub any_out : (f : ℕ → A) (n : ℕ) → T (any_of p (listed f n)) → (k : ℕ) × (k < n) × T (p (f k))
  unfolding any_of listed
  any_out f zero t = absurd t
  any_out f (suc n) t =
      ⊎_elim
      (λ h. (0, omega arith, h))
      (λ h. let (k, l, q) = any_out (λ j. f (suc j)) n h in (suc k, omega arith, q))
      (or_cases (p (f 0)) (any_of p (listed (λ j. f (suc j)) n)) t)

  pub any_in : (f : ℕ → A) (n k : ℕ) → k < n → T (p (f k)) → T (any_of p (listed f n))
  unfolding any_of listed
  any_in f zero k l t = absurd (omega arith)
  any_in f (suc n) zero l t = or_l (p (f 0)) (any_of p (listed (λ j. f (suc j)) n)) t
  any_in f (suc n) (suc k) l t =
      or_r (p (f 0)) (any_of p (listed (λ j. f (suc j)) n)) (any_in (λ j. f (suc j)) n k (omega arith) t)

  -- a row that passes after rows that fail is the first
  pub first_row : (f : ℕ → A) (n k : ℕ) → k < n → p (f k) ≡ true → ((j : ℕ) → j < k → p (f j) ≡ false) → first_of p (listed f n) ≡ some (f k)
  unfolding listed
  first_row f zero k l e h = absurd (omega arith)
  first_row f (suc n) zero l e h = first_at p (f 0) (listed (λ j. f (suc j)) n) (true_T (p (f 0)) e)
  first_row f (suc n) (suc k) l e h =
      first_past p (f 0) (listed (λ j. f (suc j)) n) (false_T (p (f 0)) (h 0 (omega arith)))
      ∙ first_row (λ j. f (suc j)) n k (omega arith) e (λ j m. h (suc j) (omega arith))

  pub first_no_row : (f : ℕ → A) (n : ℕ) → ((j : ℕ) → j < n → p (f j) ≡ false) → first_of p (listed f n) ≡ none
  unfolding listed first_of
  first_no_row f zero h = refl
  first_no_row f (suc n) h =
      first_past p (f 0) (listed (λ j. f (suc j)) n) (false_T (p (f 0)) (h 0 (omega arith)))
      ∙ first_no_row (λ j. f (suc j)) n (λ j m. h (suc j) (omega arith))

-- what `first` says: row k passes and no row before it does, or no row passes
abbrev pub FirstIs : (ℕ → Bool) → ℕ → Hit ℕ → Type 0
FirstIs q n (Some k) = (k < n) × (q k ≡ true) × ((j : ℕ) → j < k → q j ≡ false)
FirstIs q n None = (k : ℕ) → k < n → q k ≡ false

module _ (q : ℕ → Bool) where
  step : (n : ℕ) (h : Hit ℕ) (b : Bool) → FirstIs q n h → q n ≡ b → FirstIs q (suc n) (or_at h b n)
  step n (Some k) b f e = (omega arith, f.1, f.2)
  step n None true f e = (omega arith, e, f)
  step n None false f e = λ k l. ⊎_elim (λ p. ap q p ∙ e) (λ p. f k p) (eq-or-lt_of_le (le_of_suc-le-suc l))

  pub first_is : (n : ℕ) → FirstIs q n (first q n)
  unfolding first
  first_is zero = λ k l. absurd (omega arith)
  first_is (suc n) = step n (first q n) (q n) (first_is n) refl

  -- what is known of an answer that is `first`
  pub first_tells : (n : ℕ) (r : Hit ℕ) → r ≡ first q n → FirstIs q n r
  first_tells n r e = subst (λ (h : Hit ℕ). FirstIs q n h) (sym e) (first_is n)

-- the hit as the definition says it
abbrev pub row_hit : {A : Type 0} → (ℕ → A) → Hit ℕ → Option A
row_hit f (Some k) = some (f k)
row_hit f None = none

pub first_listed : {A : Type 0} (p : A → Bool) (f : ℕ → A) (n : ℕ) (r : Hit ℕ) → r ≡ first (λ k. p (f k)) n → first_of p (listed f n) ≡ row_hit f r
first_listed p f n r e = go r (first_tells (λ k. p (f k)) n r e)
  where
    go : (h : Hit ℕ) → FirstIs (λ k. p (f k)) n h → first_of p (listed f n) ≡ row_hit f h
    go (Some k) h = first_row p f n k h.0 h.1 h.2
    go None h = first_no_row p f n h
