-- Numbers that keep to their widths make ranges and rows that do. Assumes nothing.
use mathlib.Core.Path.{◌≡◌}
use mathlib.Core.Bool.{false}
use Prim.Native.Nat.{ℕ, ◌≤◌}
use lib.Dec.{T}
use borrow.Author.Tests.{le-leb}
use Rattle.definition.specs.Tables.{top, dom, within, Kind, nature, span, range_row, fits, fits_span}

module _ (k : Kind) (c i : ℕ) (hc : c ≤ (nature k).dom_top.controller) (hi : i ≤ (nature k).dom_top.its)
    (s e : ℕ) (hs : s ≤ (nature k).top) (he : e ≤ (nature k).top) where
  pub span_fits : T (fits_span k (span (dom c i 0) s e))
  unfolding fits_span within
  span_fits = rw (le-leb c (nature k).dom_top.controller hc, le-leb i (nature k).dom_top.its hi, le-leb s (nature k).top hs, le-leb e (nature k).top he) tt

  pub range_fits : (nature k).wired ≡ false → (d : ℕ) → d ≤ (nature k).dom_top.device → (o : ℕ) → o ≤ top 32 → T (fits k (range_row (dom c i d) s e o))
  unfolding fits within
  range_fits w d hd o ho =
      rw (
        w,
        le-leb c (nature k).dom_top.controller hc,
        le-leb i (nature k).dom_top.its hi,
        le-leb d (nature k).dom_top.device hd,
        le-leb s (nature k).top hs,
        le-leb e (nature k).top he,
        le-leb o (top 32) ho,
      ) tt
