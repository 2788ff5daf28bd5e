-- The definition's test of a table as a loop over its rows. Assumes nothing.
use mathlib.Core.Path.{◌≡◌, refl, sym, ◌∙◌, ap, ap₂, subst}
use mathlib.Core.Bool.{Bool, true, false, ◌&&◌, ◌||◌}
use Prim.Native.Nat.{ℕ, ◌<◌, ◌≤◌, min}
use native.Mathlib.Omega.{arith}
use lib.Dec.{T, leb, ltb, leb→le}
use lib.ListN.{drop}
use lib.Seq.{take_all}
use borrow.Author.Tests.{le-ltb, ltb-false, leb-true, leb-false, eq-eqb}
use Rattle.definition.specs.Base.{all_of, pairs_of}
use Rattle.definition.specs.Tables.{Row, same_row, Table, used, tidy, sound_table, begins}
use Rattle.tables.specs.Below.{listed, all_below, all_from, row_ok}
use Rattle.definition.proofs.BaseLaws.{and_l, and_r, and_i, t_ext}
use Rattle.tables.proofs.BelowLaws.{all_in, all_out}
use Rattle.tables.proofs.ListedLaws.{listed_length, listed_take, listed_out, listed_in, drop_out, drop_in, pairs_out, pairs_in, begins_is}

-- a table whose row k is f k
abbrev pub table : {A : Type 0} → ℕ → (ℕ → A) → ℕ → Table A
table size f n = record { count = n; rows = listed f size }

module _ {A : Type 0} (size : ℕ) (f : ℕ → A) (n : ℕ) where
  pub used_is : n ≤ size → used (table size f n) ≡ listed f n
  used_is l = listed_take f n size l

  -- .. whatever the count
  pub used_min : used (table size f n) ≡ listed f (min n size)
  used_min = go (leb n size) refl
    where
      go : (b : Bool) → leb n size ≡ b → used (table size f n) ≡ listed f (min n size)
      go true e =
          let l : n ≤ size = leb-true n size e in
          let q : min n size ≡ n = omega arith in
          used_is l ∙ ap (listed f) (sym q)
      go false e =
          let l : size < n = leb-false n size e in
          let q : min n size ≡ size = omega arith in
          take_all n (listed f size) (omega (arith, listed_length f size)) ∙ ap (listed f) (sym q)

  -- unused rows pass just when each row from n on passes
  pub unused_is : (zero : A → Bool) → all_of zero (drop n (listed f size)) ≡ all_from (λ k. zero (f k)) n size
  unused_is zero = t_ext _ _
      (λ t. all_in (λ k. ltb k n || zero (f k)) size (λ k l. here k (ltb k n) refl (λ m. drop_out zero f n size t k m l)))
      (λ t. drop_in zero f n size (λ k m l. there k m (all_out (λ k. ltb k n || zero (f k)) size t k l)))
    where
      here : (k : ℕ) (b : Bool) → ltb k n ≡ b → (n ≤ k → T (zero (f k))) → T (b || zero (f k))
      here k true e h = tt
      here k false e h = h (ltb-false k n e)

      there : (k : ℕ) → n ≤ k → T (ltb k n || zero (f k)) → T (zero (f k))
      there k m t = rw (le-ltb k n m) at t

  rows_is : (good : A → Bool) (fit : A → A → Bool) → all_of good (listed f n) && pairs_of fit (listed f n) ≡ all_below (row_ok good fit f) n
  rows_is good fit = t_ext _ _
      (λ h. all_in (row_ok good fit f) n λ k l.
      and_i (good (f k)) (all_below (λ j. fit (f j) (f k)) k)
      (listed_out good f n (and_l (all_of good (listed f n)) (pairs_of fit (listed f n)) h) k l)
      (all_in (λ j. fit (f j) (f k)) k (λ j m. pairs_out fit f n (and_r (all_of good (listed f n)) (pairs_of fit (listed f n)) h) j k m l)))
      (λ h. and_i (all_of good (listed f n)) (pairs_of fit (listed f n))
      (listed_in good f n (λ k l. and_l (good (f k)) (all_below (λ j. fit (f j) (f k)) k) (all_out (row_ok good fit f) n h k l)))
      (pairs_in fit f n (λ j k m l.
      all_out (λ j. fit (f j) (f k)) k (and_r (good (f k)) (all_below (λ j. fit (f j) (f k)) k) (all_out (row_ok good fit f) n h k l)) j m)))

  pub tidy_is : (zero : A → Bool) → tidy size zero (table size f n) ≡ leb n size && all_from (λ k. zero (f k)) n size
  unfolding tidy
  tidy_is zero = rw (eq-eqb _ _ (listed_length f size)) (ap (λ b. leb n size && b) (unused_is zero))

  -- .. so each unused row passes
  pub tidy_unused : (zero : A → Bool) → T (tidy size zero (table size f n)) → (k : ℕ) → n ≤ k → k < size → T (zero (f k))
  unfolding tidy
  tidy_unused zero t k m l = drop_out zero f n size unused k m l
    where
      unused : T (all_of zero (drop n (listed f size)))
      unused = search (and_l, and_r)

  pub tidy_count : (zero : A → Bool) → tidy size zero (table size f n) ≡ true → n ≤ size
  tidy_count zero e = leb→le n size (and_l (leb n size) (all_from (λ k. zero (f k)) n size) (subst T (sym e ∙ tidy_is zero) tt))

  -- THE law: sound is tidy, and a loop in a loop
  pub sound_is : (zero good : A → Bool) (fit : A → A → Bool)
      → sound_table size zero good fit (table size f n) ≡ tidy size zero (table size f n) && all_below (row_ok good fit f) n
  unfolding sound_table
  sound_is zero good fit = go (tidy size zero (table size f n)) refl
    where
      go : (b : Bool) → tidy size zero (table size f n) ≡ b
          → b && (all_of good (used (table size f n)) && pairs_of fit (used (table size f n))) ≡ b && all_below (row_ok good fit f) n
      go false e = refl
      go true e = ap (λ xs. all_of good xs && pairs_of fit xs) (used_is (tidy_count zero e)) ∙ rows_is good fit

-- .. and tests that agree on a table's rows judge it alike
pub sound_ext : {A : Type 0} (size : ℕ) (f : ℕ → A) (n : ℕ) (zero zero' good good' : A → Bool) (fit fit' : A → A → Bool)
    → ((k : ℕ) → zero (f k) ≡ zero' (f k)) → ((k : ℕ) → good (f k) ≡ good' (f k)) → ((j k : ℕ) → fit (f j) (f k) ≡ fit' (f j) (f k))
    → sound_table size zero good fit (table size f n) ≡ sound_table size zero' good' fit' (table size f n)
sound_ext size f n zero zero' good good' fit fit' z g p =
    sound_is size f n zero good fit
    ∙ ap (λ b. b && all_below (row_ok good fit f) n) (tidy_is size f n zero)
    ∙ (λ i. (leb n size && all_from (λ k. z k i) n size) && all_below (λ k. g k i && all_below (λ j. p j k i) k) n)
    ∙ ap (λ b. b && all_below (row_ok good' fit' f) n) (sym (tidy_is size f n zero'))
    ∙ sym (sound_is size f n zero' good' fit')

-- a table begins with another, row by row
pub begins_used : (size : ℕ) (f g : ℕ → Row) (m n : ℕ)
    → begins (used (table size f m)) (used (table size g n)) ≡ leb (min m size) (min n size) && all_below (λ k. same_row (f k) (g k)) (min m size)
begins_used size f g m n =
    ap₂ begins (used_min size f m) (used_min size g n) ∙ begins_is f g (min m size) (min n size)
