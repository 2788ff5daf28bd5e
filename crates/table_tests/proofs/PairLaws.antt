-- What two rows of a table are to each other, either way round, and what the first overlap of a row says of it. Assumes nothing.
use mathlib.Core.Path.{◌≡◌, refl, sym, ◌∙◌, ap, ap₂}
use mathlib.Core.Bool.{Bool, true, false, not, ◌&&◌}
use Prim.Native.Nat.{ℕ, ◌<◌, ◌≤◌}
use native.Mathlib.Omega.{arith}
use lib.Dec.{eqb, ltb, eqb→eq}
use borrow.Author.Tests.{le-leb, lt-leb, eq-eqb}
use Rattle.std.specs.Prelude.{Option}
use Rattle.definition.specs.Tables.{Span, Row, same_dom, same_span, in_order, overlap, meets}
use Rattle.definition.proofs.BaseLaws.{t_ext, eq→eqb}
use Rattle.tables.specs.Below.{first, is_clear, row_ok}
use Rattle.tables.specs.Views.{range_of, range_at}
use Rattle.tables.specs.declared.Ranges.{Ranges}
use Rattle.tables.proofs.BelowLaws.{all_ext, first_clear}
use Rattle.table_tests.specs.declared.limits.Limits.{Limits}
use Rattle.table_tests.specs.Rows.{NoneAbove}
use Rattle.table_tests.specs.Tests.{good_range, apart}

-- ---- pools: which of two is to stand before the other

module _ (a b : Span) where
  pub order_apart : same_dom a.dom b.dom ≡ false → in_order a b ≡ true
  unfolding in_order same_span
  order_apart e = rw e

  pub order_above : same_dom a.dom b.dom ≡ true → b.start < a.start → in_order a b ≡ false
  unfolding in_order
  order_above e l = rw (e, lt-leb a.start b.start l)

  pub order_same : same_dom a.dom b.dom ≡ true → a.start ≡ b.start → in_order a b ≡ not (eqb a.end b.end)
  unfolding in_order same_span
  order_same e s = rw (e, le-leb a.start b.start (omega arith), eq-eqb a.start b.start s)

-- ---- ranges: two meet either way round

eqb_comm : (m n : ℕ) → eqb m n ≡ eqb n m
eqb_comm m n = t_ext _ _ (λ t. eq→eqb n m (sym (eqb→eq m n t))) (λ t. eq→eqb m n (sym (eqb→eq n m t)))

and_comm : (a b : Bool) → a && b ≡ b && a
and_comm true true = refl
and_comm true false = refl
and_comm false true = refl
and_comm false false = refl

pub meets_sym : (a b : Row) → meets a b ≡ meets b a
unfolding meets same_dom overlap
meets_sym a b =
    ap₂ (λ p q. p && q)
    (ap₂ (λ p q. p && q) (eqb_comm a.dom.controller b.dom.controller)
    (ap₂ (λ p q. p && q) (eqb_comm a.dom.its b.dom.its) (eqb_comm a.dom.device b.dom.device)))
    (and_comm (ltb a.start b.end) (ltb b.start a.end))

-- a good row is sound where no row before it overlaps it
pub range_hit :
    (l : Limits) (t : Ranges) (k : ℕ) (h : Option ℕ) → good_range l (range_of (range_at t k)) ≡ true
    → h ≡ first (λ j. meets (range_of (range_at t k)) (range_of (range_at t j))) k → row_ok (good_range l) apart (λ j. range_of (range_at t j)) k ≡ is_clear h
range_hit l t k h g f =
    rw g (all_ext (λ j. apart (range_of (range_at t j)) (range_of (range_at t k))) (λ j. not (meets (range_of (range_at t k)) (range_of (range_at t j)))) k
    (λ j m. ap not (meets_sym (range_of (range_at t j)) (range_of (range_at t k))))
    ∙ sym (first_clear (λ j. meets (range_of (range_at t k)) (range_of (range_at t j))) k) ∙ ap is_clear (sym f))

-- ---- the highest number so far is above none of the rows passed

pub high_at : (h : ℕ) (f : ℕ → ℕ) (k : ℕ) → NoneAbove h f k → (j : ℕ) → j < k → f j ≤ h
unfolding NoneAbove
high_at h f k a j l = a j l
