-- Laws of `listed`: a table's rows by their index, and the definition's tests of them as loops. Assumes nothing.
use mathlib.Core.Path.{◌≡◌, refl, sym, ◌∙◌, ap, ap₂}
use mathlib.Core.Bool.{Bool, ◌&&◌}
use mathlib.Core.List.{◌∷◌}
use Prim.Native.Nat.{ℕ, zero, suc, ◌<◌, ◌≤◌}
use native.Mathlib.Omega.{arith}
use lib.Dec.{T, leb, leb→le, le→leb}
use lib.ListN.{length, take, drop, set, get_or, replicate}
use Rattle.definition.specs.Base.{all_of, pairs_of}
use Rattle.definition.specs.Tables.{Row, same_row, begins}
use Rattle.tables.specs.Below.{listed, all_below}
use Rattle.definition.proofs.BaseLaws.{and_l, and_r, and_i, t_ext}
use Rattle.tables.proofs.BelowLaws.{all_in, all_out}

module _ {A : Type 0} where
  pub listed_length : (f : ℕ → A) (n : ℕ) → length (listed f n) ≡ n
  unfolding listed
  listed_length f zero = refl
  listed_length f (suc n) = ap suc (listed_length (λ k. f (suc k)) n)

  pub listed_at : (f : ℕ → A) (n k : ℕ) (d : A) → k < n → get_or (listed f n) k d ≡ f k
  unfolding listed
  listed_at f zero k d l = absurd (omega arith)
  listed_at f (suc n) zero d l = refl
  listed_at f (suc n) (suc k) d l = listed_at (λ j. f (suc j)) n k d (omega arith)

  -- equal lists have equal rows
  pub listed_same : (f g : ℕ → A) (n : ℕ) → listed f n ≡ listed g n → (k : ℕ) → k < n → f k ≡ g k
  listed_same f g n e k l = sym (listed_at f n k (f k) l) ∙ ap (λ xs. get_or xs k (f k)) e ∙ listed_at g n k (f k) l

  pub listed_ext : (f g : ℕ → A) (n : ℕ) → ((k : ℕ) → k < n → f k ≡ g k) → listed f n ≡ listed g n
  unfolding listed
  listed_ext f g zero h = refl
  listed_ext f g (suc n) h =
      ap₂ (λ x xs. x ∷ xs) (h 0 (omega arith)) (listed_ext (λ k. f (suc k)) (λ k. g (suc k)) n (λ k l. h (suc k) (omega arith)))

  pub listed_const : (a : A) (n : ℕ) → listed (λ k. a) n ≡ replicate n a
  unfolding listed
  listed_const a zero = refl
  listed_const a (suc n) = ap (λ xs. a ∷ xs) (listed_const a n)

  pub listed_take : (f : ℕ → A) (m n : ℕ) → m ≤ n → take m (listed f n) ≡ listed f m
  unfolding listed
  listed_take f zero n l = refl
  listed_take f (suc m) zero l = absurd (omega arith)
  listed_take f (suc m) (suc n) l = ap (λ xs. f 0 ∷ xs) (listed_take (λ k. f (suc k)) m n (omega arith))

  -- one row stored
  pub listed_set :
      (f g : ℕ → A) (m n : ℕ) (a : A) → m < n → g m ≡ a → ((k : ℕ) → (k ≡ m → ⊥) → g k ≡ f k) → listed g n ≡ set (listed f n) m a
  unfolding listed
  listed_set f g m zero a l h o = absurd (omega arith)
  listed_set f g zero (suc n) a l h o =
      ap₂ (λ x xs. x ∷ xs) h (listed_ext (λ k. g (suc k)) (λ k. f (suc k)) n (λ k p. o (suc k) (λ e. omega arith)))
  listed_set f g (suc m) (suc n) a l h o =
      ap₂ (λ x xs. x ∷ xs) (o 0 (λ e. omega arith))
      (listed_set (λ k. f (suc k)) (λ k. g (suc k)) m n a (omega arith) h (λ k p. o (suc k) (λ e. p (omega arith))))

  -- ---- all rows, rows from n on, pairs

  pub listed_out : (p : A → Bool) (f : ℕ → A) (n : ℕ) → T (all_of p (listed f n)) → (k : ℕ) → k < n → T (p (f k))
  unfolding all_of listed
  listed_out p f zero t k l = absurd (omega arith)
  listed_out p f (suc n) t zero l = and_l (p (f 0)) (all_of p (listed (λ j. f (suc j)) n)) t
  listed_out p f (suc n) t (suc k) l =
      listed_out p (λ j. f (suc j)) n (and_r (p (f 0)) (all_of p (listed (λ j. f (suc j)) n)) t) k (omega arith)

  pub listed_in : (p : A → Bool) (f : ℕ → A) (n : ℕ) → ((k : ℕ) → k < n → T (p (f k))) → T (all_of p (listed f n))
  unfolding all_of listed
  listed_in p f zero h = tt
  listed_in p f (suc n) h =
      and_i (p (f 0)) (all_of p (listed (λ j. f (suc j)) n)) (h 0 (omega arith)) (listed_in p (λ j. f (suc j)) n (λ k l. h (suc k) (omega arith)))

  pub drop_out : (p : A → Bool) (f : ℕ → A) (m n : ℕ) → T (all_of p (drop m (listed f n))) → (k : ℕ) → m ≤ k → k < n → T (p (f k))
  unfolding listed
  drop_out p f zero n t k a l = listed_out p f n t k l
  drop_out p f (suc m) zero t k a l = absurd (omega arith)
  drop_out p f (suc m) (suc n) t zero a l = absurd (omega arith)
  drop_out p f (suc m) (suc n) t (suc k) a l = drop_out p (λ j. f (suc j)) m n t k (omega arith) (omega arith)

  pub drop_in : (p : A → Bool) (f : ℕ → A) (m n : ℕ) → ((k : ℕ) → m ≤ k → k < n → T (p (f k))) → T (all_of p (drop m (listed f n)))
  unfolding listed all_of
  drop_in p f zero n h = listed_in p f n (λ k l. h k (omega arith) l)
  drop_in p f (suc m) zero h = tt
  drop_in p f (suc m) (suc n) h = drop_in p (λ j. f (suc j)) m n (λ k a l. h (suc k) (omega arith) (omega arith))

  pub pairs_out : (p : A → A → Bool) (f : ℕ → A) (n : ℕ) → T (pairs_of p (listed f n)) → (j k : ℕ) → j < k → k < n → T (p (f j) (f k))
  unfolding pairs_of listed
  pairs_out p f zero t j k l m = absurd (omega arith)
  pairs_out p f (suc n) t j zero l m = absurd (omega arith)
  pairs_out p f (suc n) t zero (suc k) l m =
      listed_out (p (f 0)) (λ j. f (suc j)) n
      (and_l (all_of (p (f 0)) (listed (λ j. f (suc j)) n)) (pairs_of p (listed (λ j. f (suc j)) n)) t) k (omega arith)
  pairs_out p f (suc n) t (suc j) (suc k) l m =
      pairs_out p (λ j. f (suc j)) n
      (and_r (all_of (p (f 0)) (listed (λ j. f (suc j)) n)) (pairs_of p (listed (λ j. f (suc j)) n)) t) j k (omega arith) (omega arith)

  pub pairs_in : (p : A → A → Bool) (f : ℕ → A) (n : ℕ) → ((j k : ℕ) → j < k → k < n → T (p (f j) (f k))) → T (pairs_of p (listed f n))
  unfolding pairs_of listed
  pairs_in p f zero h = tt
  pairs_in p f (suc n) h =
      and_i (all_of (p (f 0)) (listed (λ j. f (suc j)) n)) (pairs_of p (listed (λ j. f (suc j)) n))
      (listed_in (p (f 0)) (λ j. f (suc j)) n (λ k l. h 0 (suc k) (omega arith) (omega arith)))
      (pairs_in p (λ j. f (suc j)) n (λ j k l m. h (suc j) (suc k) (omega arith) (omega arith)))

-- ---- one list begins with another

begins_out : (f g : ℕ → Row) (m n : ℕ) → T (begins (listed f m) (listed g n)) → (m ≤ n) × ((k : ℕ) → k < m → T (same_row (f k) (g k)))
unfolding begins listed
begins_out f g zero n t = (omega arith, λ k l. absurd (omega arith))
begins_out f g (suc m) zero t = absurd t
begins_out f g (suc m) (suc n) t =
    let r = begins_out (λ k. f (suc k)) (λ k. g (suc k)) m n (and_r (same_row (f 0) (g 0)) (begins (listed (λ k. f (suc k)) m) (listed (λ k. g (suc k)) n)) t) in
    (omega (arith, r.0), go (and_l (same_row (f 0) (g 0)) (begins (listed (λ k. f (suc k)) m) (listed (λ k. g (suc k)) n)) t) r.1)
  where
    go : T (same_row (f 0) (g 0)) → ((k : ℕ) → k < m → T (same_row (f (suc k)) (g (suc k)))) → (k : ℕ) → k < suc m → T (same_row (f k) (g k))
    go z h zero l = z
    go z h (suc k) l = h k (omega arith)

begins_in : (f g : ℕ → Row) (m n : ℕ) → m ≤ n → ((k : ℕ) → k < m → T (same_row (f k) (g k))) → T (begins (listed f m) (listed g n))
unfolding begins listed
begins_in f g zero n l h = tt
begins_in f g (suc m) zero l h = absurd (omega arith)
begins_in f g (suc m) (suc n) l h =
    and_i (same_row (f 0) (g 0)) (begins (listed (λ k. f (suc k)) m) (listed (λ k. g (suc k)) n)) (h 0 (omega arith))
    (begins_in (λ k. f (suc k)) (λ k. g (suc k)) m n (omega arith) (λ k p. h (suc k) (omega arith)))

pub begins_is : (f g : ℕ → Row) (m n : ℕ) → begins (listed f m) (listed g n) ≡ leb m n && all_below (λ k. same_row (f k) (g k)) m
begins_is f g m n = t_ext _ _
    (λ t. let r = begins_out f g m n t in
    and_i (leb m n) (all_below (λ k. same_row (f k) (g k)) m) (le→leb m n r.0) (all_in (λ k. same_row (f k) (g k)) m r.1))
    (λ t. begins_in f g m n (leb→le m n (and_l (leb m n) (all_below (λ k. same_row (f k) (g k)) m) t))
    (all_out (λ k. same_row (f k) (g k)) m (and_r (leb m n) (all_below (λ k. same_row (f k) (g k)) m) t)))
