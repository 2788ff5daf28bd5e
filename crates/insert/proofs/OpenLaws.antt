-- A row put into the midst of a pool table: what the loop that makes room keeps, and what it leaves. Assumes nothing.
use mathlib.Core.Path.{◌≡◌, refl, ◌∙◌, ap}
use mathlib.Core.Logic.{⊎_elim}
use Prim.Native.Nat.{ℕ, ◌+◌, ◌-◌, ◌<◌, ◌≤◌}
use native.Mathlib.Nat.{eq-or-lt_of_le}
use native.Mathlib.Omega.{arith}
use lib.ListN.{length, set, length-set}
use lib.Seq.{get_or-set_same, get_or-set_other}
use Rattle.definition.specs.Tables.{pool_limit}
use Rattle.tables.specs.Views.{pool, pool_at}
use Rattle.tables.specs.Sized.{SizedPool}
use Rattle.tables.specs.declared.Pool.{Pool}
use Rattle.tables.specs.declared.PoolRow.{PoolRow}
use Rattle.insert.specs.Places.{Opened}

-- ---- one row stored

abbrev pub store_row : ℕ → Pool → ℕ → PoolRow → Pool
store_row n t i r = pool n (set t.controller i r.controller) (set t.its i r.its) (set t.start i r.start) (set t.end i r.end)

module _ (n : ℕ) (t : Pool) (i : ℕ) (r : PoolRow) where
  store_other : (k : ℕ) → (k ≡ i → ⊥) → pool_at (store_row n t i r) k ≡ pool_at t k
  store_other k h = simp get_or-set_other

  store_same : SizedPool t → i < pool_limit → pool_at (store_row n t i r) i ≡ r
  store_same z l =
      let p₁ : i < length t.controller = omega (arith, z.controller) in
      let p₂ : i < length t.its = omega (arith, z.its) in
      let p₃ : i < length t.start = omega (arith, z.start) in
      let p₄ : i < length t.end = omega (arith, z.end) in
      simp get_or-set_same

  store_sized : SizedPool t → SizedPool (store_row n t i r)
  store_sized z =
      record {
        controller = length-set t.controller i r.controller ∙ z.controller;
        its = length-set t.its i r.its ∙ z.its;
        start = length-set t.start i r.start ∙ z.start;
        end = length-set t.end i r.end ∙ z.end;
      }

-- ---- the loop: m is t with its used rows from i on one row up, and row i still there

pub record Shifting (t m : Pool) (i : ℕ) : Type 0 where
  pub count : m.n ≡ t.n
  pub sized : SizedPool m
  pub low : (k : ℕ) → k ≤ i → pool_at m k ≡ pool_at t k
  pub moved : (k : ℕ) → i ≤ k → k < t.n → pool_at m (k + 1) ≡ pool_at t k
  pub high : (k : ℕ) → t.n < k → pool_at m k ≡ pool_at t k

pub shift_start : (t : Pool) → SizedPool t → Shifting t t t.n
shift_start t z = record { count = refl; sized = z; low = λ k h. refl; moved = λ k h l. absurd (omega arith); high = λ k h. refl }

module _ (t m : Pool) (i : ℕ) (s : Shifting t m i) (used : i ≤ t.n) (room : t.n < pool_limit) where
  pub shift_step : 0 < i → Shifting t (store_row m.n m i (pool_at m (i - 1))) (i - 1)
  shift_step p =
      record {
        count = s.count;
        sized = store_sized m.n m i (pool_at m (i - 1)) s.sized;
        low = λ k h. store_other m.n m i (pool_at m (i - 1)) k (omega arith) ∙ s.low k (omega arith);
        moved =
            λ k h l.
            ⊎_elim
            (λ e.
            let z : k + 1 ≡ i = omega arith in
            ap (pool_at (store_row m.n m i (pool_at m (i - 1)))) z
            ∙ store_same m.n m i (pool_at m (i - 1)) s.sized (omega arith)
            ∙ s.low (i - 1) (omega arith)
            ∙ ap (pool_at t) e)
            (λ e. store_other m.n m i (pool_at m (i - 1)) (k + 1) (omega arith) ∙ s.moved k (omega arith) l)
            (eq-or-lt_of_le h);
        high = λ k h. store_other m.n m i (pool_at m (i - 1)) k (omega arith) ∙ s.high k h;
      }

  pub shift_done : (r : PoolRow) → Opened t (store_row (m.n + 1) m i r) i r
  shift_done r =
      record {
        count = ap (λ n. n + 1) s.count;
        low = λ k h. store_other (m.n + 1) m i r k (omega arith) ∙ s.low k (omega arith);
        here = store_same (m.n + 1) m i r s.sized (omega arith);
        moved = λ k h l. store_other (m.n + 1) m i r (k + 1) (omega arith) ∙ s.moved k h l;
        high = λ k h. store_other (m.n + 1) m i r k (omega arith) ∙ s.high k h;
      }
