-- Laws of reservation and owner tables of ranges: what their test comes to, and which rows it need not compare. Assumes nothing.
use mathlib.Core.Path.{◌≡◌, ap}
use mathlib.Core.Bool.{true, false, not, ◌&&◌}
use Prim.Native.Nat.{ℕ, ◌≤◌}
use native.Mathlib.Omega.{arith}
use lib.Dec.{leb}
use borrow.Author.Tests.{le-ltb, leb-true}
use Rattle.definition.specs.Tables.{row_limit, Row, overlap, meets, same_row}
use Rattle.definition.proofs.BaseLaws.{and_false}
use Rattle.tables.specs.Below.{all_below, row_ok}
use Rattle.tables.specs.Views.{range_of, range_at}
use Rattle.tables.specs.declared.Ranges.{Ranges}
use Rattle.tables.specs.declared.RangeRow.{RangeRow}
use Rattle.tables.proofs.TableLaws.{tidy_is, sound_is}
use Rattle.table_tests.specs.declared.limits.Limits.{Limits}
use Rattle.table_tests.specs.Rows.{rows_tidy}
use Rattle.table_tests.specs.Tests.{blank_range, good_range, apart, sound_ranges_in, tidy_ranges}

pub ranges_tidy : (t : Ranges) → tidy_ranges t ≡ rows_tidy row_limit (λ r. same_row blank_range (range_of r)) (range_at t) t.n
unfolding tidy_ranges
ranges_tidy t = tidy_is row_limit (λ k. range_of (range_at t k)) t.n (same_row blank_range)

pub ranges_is : (l : Limits) (t : Ranges) → sound_ranges_in l t ≡ tidy_ranges t && all_below (row_ok (good_range l) apart (λ k. range_of (range_at t k))) t.n
unfolding sound_ranges_in tidy_ranges
ranges_is l t = sound_is row_limit (λ k. range_of (range_at t k)) t.n (same_row blank_range) (good_range l) apart

meets_past : (a b : Row) → a.end ≤ b.start → meets a b ≡ false
unfolding meets overlap
meets_past a b l = rw (le-ltb b.start a.end l, and_false, and_false)

-- a row that starts where another ends, or later, does not meet it
pub range_clear : (l : Limits) (a b : RangeRow) (h : ℕ) → a.end ≤ h → leb h b.start ≡ true → apart (range_of a) (range_of b) ≡ true
range_clear l a b h p q = ap not (meets_past (range_of a) (range_of b) (omega (arith, leb-true h b.start q)))
