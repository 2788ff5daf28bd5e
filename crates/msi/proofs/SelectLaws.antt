-- What a granted run says of its numbers: it is the need's own row, and ends within the kind's width. Assumes nothing.
use mathlib.Core.Path.{◌≡◌, sym, ◌∙◌, ap}
use mathlib.Core.List.{List}
use mathlib.Core.Option.{Option, none, some}
use Prim.Native.Nat.{ℕ, ◌+◌, ◌<◌, ◌≤◌}
use native.Mathlib.Omega.{arith}
use lib.Dec.{T, leb, leb→le}
use Rattle.definition.specs.Base.{all_of, accepted}
use Rattle.definition.proofs.BaseLaws.{and_l, and_r, all_in, LeastAll, none_at_all, least_of_all}
use Rattle.definition.specs.Tables.{nature, Span, Row, fits_span, good_span}
use Rattle.definition.specs.Request.{Need, auto, at, row_at, allowed, obstacle, found, unopposed, free, place}
use Rattle.definition.specs.Request as R
use Rattle.definition.proofs.SearchLaws.{IsFree, free_says, lowest_says}
use Rattle.definition.proofs.RequestLaws.{not_accepted, require_accepted}
use Rattle.choose.specs.Told.{place_in}

pub record Granted (n : Need) (r : Row) : Type 0 where
  pub is : r ≡ row_at n r.start
  pub high : r.start + n.size ≤ (nature n.kind).top

module _ (ps fs : List Span) (rs : List Row) (n : Need) (goods : T (all_of (good_span n.kind) ps)) where
  made : (b : ℕ) (r : Row) → row_at n b ≡ r → b + n.size ≤ (nature n.kind).top → Granted n r
  unfolding row_at
  made b r e h =
      let z : b ≡ r.start = ap (λ (x : Row). x.start) e in
      record { is = sym e ∙ ap (row_at n) z; high = omega (arith, z) }

  by_auto : (r : Row) {o : Option ℕ} → LeastAll (free ps rs n) o → found n o ≡ accepted r → Granted n r
  unfolding found good_span fits_span
  by_auto r (none_at_all u) e = absurd (not_accepted e)
  by_auto r (least_of_all b t u) e = made b r (cc) (high (free_says ps rs n b t))
    where
      high : IsFree ps rs n b → b + n.size ≤ (nature n.kind).top
      high f =
          let g : T (good_span n.kind f.pool) = all_in (good_span n.kind) f.in_pools goods in
          let l : T (leb f.pool.end (nature n.kind).top) = search (and_l, and_r) in
          omega (arith, leb→le f.pool.end (nature n.kind).top l, f.high)

  by_fixed : (b : ℕ) (r : Row) (o : Option Row) → T (allowed fs n b) → unopposed n (row_at n b) o ≡ accepted r → Granted n r
  unfolding unopposed allowed
  by_fixed b r (some x) t e = absurd (not_accepted e)
  by_fixed b r none t e =
      let l : T (leb (b + n.size) (nature n.kind).top) = search (and_l, and_r) in
      made b r (cc) (leb→le (b + n.size) (nature n.kind).top l)

  pub granted : (c : R.Choice) (r : Row) → 0 < n.alignment → accepted r ≡ place_in ps fs rs n c → Granted n r
  unfolding place
  granted auto r pos e = by_auto r (lowest_says ps rs n pos) (sym e)
  granted (at b) r pos e = let (t, e') = require_accepted (allowed fs n b) _ _ (sym e) in by_fixed b r (obstacle (row_at n b) rs) t e'
