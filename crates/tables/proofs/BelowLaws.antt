-- Laws of `all_below` and `first`: what a loop over rows keeps, and what it says at its end. Assumes nothing.
use mathlib.Core.Path.{◌≡◌, refl, sym, ◌∙◌, ap, subst}
use mathlib.Core.Bool.{Bool, true, false, not, ◌&&◌, ◌||◌}
use mathlib.Core.Logic.{⊎_elim}
use Prim.Native.Nat.{ℕ, zero, suc, ◌+◌, ◌<◌, ◌≤◌}
use native.Mathlib.Nat.{eq-or-lt_of_le, le_of_suc-le-suc}
use native.Mathlib.Numerals.{add-one}
use native.Mathlib.Omega.{arith}
use lib.Dec.{T, ltb}
use borrow.Author.Tests.{lt-ltb, le-ltb}
use Rattle.std.specs.Prelude.{Option, Some, None}
use Rattle.tables.specs.Below.{all_below, all_from, first, or_at, is_clear}
use Rattle.definition.proofs.BaseLaws.{and_l, and_r, and_i, t_ext, T_true, T_false, true_T, false_T}

module _ (q : ℕ → Bool) where
  pub all_start : all_below q 0 ≡ true
  unfolding all_below
  all_start = refl

  pub all_more : (i : ℕ) → all_below q i ≡ true → q i ≡ true → all_below q (i + 1) ≡ true
  unfolding all_below
  all_more i a h = rw (add-one, a, h)

  pub all_out : (n : ℕ) → T (all_below q n) → (k : ℕ) → k < n → T (q k)
  unfolding all_below
  all_out zero t k l = absurd (omega arith)
  all_out (suc n) t k l =
      ⊎_elim
      (λ (e : k ≡ n). subst (λ (j : ℕ). T (q j)) (sym e) (and_r (all_below q n) (q n) t))
      (λ p. all_out n (and_l (all_below q n) (q n) t) k p)
      (eq-or-lt_of_le (le_of_suc-le-suc l))

  pub all_in : (n : ℕ) → ((k : ℕ) → k < n → T (q k)) → T (all_below q n)
  unfolding all_below
  all_in zero f = tt
  all_in (suc n) f = and_i (all_below q n) (q n) (all_in n (λ k l. f k (omega arith))) (f n (omega arith))

  pub all_every : (n : ℕ) → ((k : ℕ) → k < n → q k ≡ true) → all_below q n ≡ true
  all_every n f = T_true (all_below q n) (all_in n (λ k l. true_T (q k) (f k l)))

  -- a row that fails decides
  pub all_stop : (i n : ℕ) → q i ≡ false → i < n → all_below q n ≡ false
  all_stop i n e l = T_false (all_below q n) (λ t. false_T (q i) e (all_out n t i l))

pub all_ext : (p q : ℕ → Bool) (n : ℕ) → ((k : ℕ) → k < n → p k ≡ q k) → all_below p n ≡ all_below q n
unfolding all_below
all_ext p q zero f = refl
all_ext p q (suc n) f = rw (all_ext p q n (λ k l. f k (omega arith)), f n (omega arith))

pub all_and : (p q : ℕ → Bool) (n : ℕ) → all_below (λ k. p k && q k) n ≡ all_below p n && all_below q n
all_and p q n = t_ext _ _
    (λ t. and_i (all_below p n) (all_below q n)
    (all_in p n (λ k l. and_l (p k) (q k) (all_out (λ k. p k && q k) n t k l)))
    (all_in q n (λ k l. and_r (p k) (q k) (all_out (λ k. p k && q k) n t k l))))
    (λ t. all_in (λ k. p k && q k) n (λ k l. and_i (p k) (q k)
    (all_out p n (and_l (all_below p n) (all_below q n) t) k l)
    (all_out q n (and_r (all_below p n) (all_below q n) t) k l)))

-- ---- rows from n on: none at the start, one more, one that fails, none beyond the size

module _ (q : ℕ → Bool) (n : ℕ) where
  pub from_start : all_from q n n ≡ true
  from_start = all_every (λ k. ltb k n || q k) n (λ k l. rw (lt-ltb k n l))

  pub from_more : (i : ℕ) → all_from q n i ≡ true → q i ≡ true → all_from q n (i + 1) ≡ true
  from_more i a h = all_more (λ k. ltb k n || q k) i a (or_right (ltb i n) h)
    where
      or_right : (b : Bool) → q i ≡ true → b || q i ≡ true
      or_right true e = refl
      or_right false e = e

  -- one more row, whether or not it passes
  pub from_next : (i : ℕ) → n ≤ i → all_from q n (i + 1) ≡ all_from q n i && q i
  unfolding all_below
  from_next i m = rw (add-one, le-ltb i n m)

  pub from_stop : (i size : ℕ) → n ≤ i → q i ≡ false → i < size → all_from q n size ≡ false
  from_stop i size m e l = all_stop (λ k. ltb k n || q k) i size (rw (le-ltb i n m) e) l

-- ---- the first row that passes

module _ (q : ℕ → Bool) where
  pub first_start : first q 0 ≡ None
  unfolding first
  first_start = refl

  pub first_more : (i : ℕ) → first q i ≡ None → q i ≡ false → first q (i + 1) ≡ None
  unfolding first
  first_more i none miss = rw (add-one, none, miss)

  pub first_found : (i n : ℕ) → first q i ≡ None → q i ≡ true → i < n → first q n ≡ Some i
  unfolding first
  first_found i zero none hit l = absurd (omega arith)
  first_found i (suc n) none hit l =
      ⊎_elim (λ e. rw (← e, none, hit)) (λ p. rw (first_found i n none hit p)) (eq-or-lt_of_le (le_of_suc-le-suc l))

  clear_step : (h : Option ℕ) (b : Bool) (n : ℕ) → is_clear (or_at h b n) ≡ is_clear h && not b
  clear_step (Some k) b n = refl
  clear_step None true n = refl
  clear_step None false n = refl

  -- none is found just when each fails
  pub first_clear : (n : ℕ) → is_clear (first q n) ≡ all_below (λ k. not (q k)) n
  unfolding first all_below
  first_clear zero = refl
  first_clear (suc n) = clear_step (first q n) (q n) n ∙ ap (λ b. b && not (q n)) (first_clear n)

pub first_ext : (p q : ℕ → Bool) (n : ℕ) → ((k : ℕ) → k < n → p k ≡ q k) → first p n ≡ first q n
unfolding first
first_ext p q zero f = refl
first_ext p q (suc n) f = rw (first_ext p q n (λ k l. f k (omega arith)), f n (omega arith))
