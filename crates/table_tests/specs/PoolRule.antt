-- Laws of pool tables: what their test comes to, and which rows it need not compare. Assumes nothing.
use mathlib.Core.Path.{◌≡◌, refl}
use mathlib.Core.Bool.{Bool, true, false, not, ◌&&◌, ◌||◌}
use Prim.Native.Nat.{ℕ, ◌<◌, ◌≤◌}
use native.Mathlib.Omega.{arith}
use lib.Dec.{ltb}
use borrow.Author.Tests.{le-leb, ltb-true, ne_eqb}
use Rattle.definition.specs.Tables.{pool_limit, Span, same_dom, same_span, blank_span, in_order}
use Rattle.tables.specs.Below.{all_below, row_ok}
use Rattle.tables.specs.Views.{span_of, pool_at}
use Rattle.tables.specs.declared.Pool.{Pool}
use Rattle.tables.specs.declared.PoolRow.{PoolRow}
use Rattle.tables.proofs.TableLaws.{tidy_is, sound_is}
use Rattle.table_tests.specs.declared.limits.Limits.{Limits}
use Rattle.table_tests.specs.Rows.{rows_tidy}
use Rattle.table_tests.specs.Tests.{good_pool, sound_pool_in, tidy_pool}

pub pool_tidy : (t : Pool) → tidy_pool t ≡ rows_tidy pool_limit (λ r. same_span blank_span (span_of r)) (pool_at t) t.n
unfolding tidy_pool
pool_tidy t = tidy_is pool_limit (λ k. span_of (pool_at t k)) t.n (same_span blank_span)

pub pool_is : (l : Limits) (t : Pool) → sound_pool_in l t ≡ tidy_pool t && all_below (row_ok (good_pool l) in_order (λ k. span_of (pool_at t k))) t.n
unfolding sound_pool_in tidy_pool
pool_is l t = sound_is pool_limit (λ k. span_of (pool_at t k)) t.n (same_span blank_span) (good_pool l) in_order

module _ (a b : Span) where
  either : (d : Bool) → (not d || true) && not (d && false) ≡ true
  either true = refl
  either false = refl

  order_below : a.start < b.start → in_order a b ≡ true
  unfolding in_order same_span
  order_below l = rw (le-leb a.start b.start (omega arith), ne_eqb a.start b.start (λ e. omega arith)) (either (same_dom a.dom b.dom))

-- a row that starts above another goes behind it
pub pool_clear : (l : Limits) (a b : PoolRow) (h : ℕ) → a.start ≤ h → ltb h b.start ≡ true → in_order (span_of a) (span_of b) ≡ true
pool_clear l a b h p q = order_below (span_of a) (span_of b) (omega (arith, ltb-true h b.start q))
