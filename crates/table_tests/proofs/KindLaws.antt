-- The tests at a kind's limits are the definition's tests of that kind. Assumes nothing.
use mathlib.Core.Path.{◌≡◌, refl, ap}
use mathlib.Core.Bool.{Bool, true, false, not, ◌&&◌}
use Prim.Native.Nat.{ℕ}
use native.Mathlib.Omega.{arith}
use lib.Dec.{T, leb, ltb, leb→le, le→leb, ltb→lt}
use Rattle.definition.specs.Tables.{pool_limit, row_limit, top, Dom, dom, within, Kind, nature, span, same_span, Row, range_row, same_row, meets, joins, clash, blank_span, blank_row, fits, fits_span, floored, good_row, good_span, in_order, sound_table, sound_pool, sound_held, sound_owners}
use Rattle.tables.specs.Views.{span_of, pool_at, pool_view, range_of, range_at, ranges_view}
use Rattle.tables.specs.declared.Pool.{Pool}
use Rattle.tables.specs.declared.Ranges.{Ranges}
use Rattle.definition.proofs.BaseLaws.{and_l, and_r, and_i, and_true, t_ext}
use Rattle.tables.proofs.TableLaws.{sound_ext}
use Rattle.table_tests.specs.Tests.{limits_of, good_pool, sound_pool_in, blank_range, good_range, apart, sound_ranges_in}

-- a range that ends within the width starts within it
within_width : (s e m : ℕ) → T (ltb s e) → T (leb e m) → T (leb s m)
within_width s e m a b = le→leb s m (omega (arith, ltb→lt s e a, leb→le e m b))

-- ---- pools: every kind

pool_turn : (c i s e C I F M : ℕ) → ((leb c C && (leb i I && true)) && (leb s M && leb e M)) && (ltb s e && leb F s) ≡ leb c C && (leb i I && (ltb s e && (leb F s && leb e M)))
pool_turn c i s e C I F M = t_ext _ _
    (λ t.
    let p : T (leb c C) = search (and_l, and_r) depth 8 in
    let q : T (leb i I) = search (and_l, and_r) depth 8 in
    let r : T (ltb s e) = search (and_l, and_r) depth 8 in
    let f : T (leb F s) = search (and_l, and_r) depth 8 in
    let u : T (leb e M) = search (and_l, and_r) depth 8 in
    search and_i depth 10)
    (λ t.
    let p : T (leb c C) = search (and_l, and_r) depth 8 in
    let q : T (leb i I) = search (and_l, and_r) depth 8 in
    let r : T (ltb s e) = search (and_l, and_r) depth 8 in
    let f : T (leb F s) = search (and_l, and_r) depth 8 in
    let u : T (leb e M) = search (and_l, and_r) depth 10 in
    let v : T (leb s M) = within_width s e M r u in
    search and_i depth 10)

pool_good : (k : Kind) (c i s e : ℕ) → good_span k (span (dom c i 0) s e) ≡ good_pool (limits_of k) (span (dom c i 0) s e)
unfolding good_span fits_span floored within good_pool
pool_good k c i s e = pool_turn c i s e (nature k).dom_top.controller (nature k).dom_top.its (nature k).floor (nature k).top

pub pool_kind : (k : Kind) (t : Pool) → sound_pool k (pool_view t) ≡ sound_pool_in (limits_of k) t
unfolding sound_pool_in
pool_kind k t =
    sound_ext pool_limit (λ j. span_of (pool_at t j)) t.n (same_span blank_span) (same_span blank_span) (good_span k) (good_pool (limits_of k)) in_order in_order
    (λ j. refl) (λ j. pool_good k _ _ _ _) (λ i j. refl)

-- ---- ranges: every kind but inputs

range_turn :
    (c i d s e o C I D F M W : ℕ)
    → ((leb c C && (leb i I && leb d D)) && (leb s M && (leb e M && leb o W))) && (ltb s e && (leb F s && ltb 0 o))
    ≡ leb c C && (leb i I && (leb d D && (ltb s e && (leb F s && (leb e M && (leb o W && ltb 0 o))))))
range_turn c i d s e o C I D F M W = t_ext _ _
    (λ t.
    let p : T (leb c C) = search (and_l, and_r) depth 8 in
    let q : T (leb i I) = search (and_l, and_r) depth 8 in
    let r : T (leb d D) = search (and_l, and_r) depth 8 in
    let u : T (ltb s e) = search (and_l, and_r) depth 8 in
    let f : T (leb F s) = search (and_l, and_r) depth 8 in
    let v : T (leb e M) = search (and_l, and_r) depth 8 in
    let w : T (leb o W) = search (and_l, and_r) depth 8 in
    let x : T (ltb 0 o) = search (and_l, and_r) depth 8 in
    search and_i depth 16)
    (λ t.
    let p : T (leb c C) = search (and_l, and_r) depth 8 in
    let q : T (leb i I) = search (and_l, and_r) depth 8 in
    let r : T (leb d D) = search (and_l, and_r) depth 8 in
    let u : T (ltb s e) = search (and_l, and_r) depth 8 in
    let f : T (leb F s) = search (and_l, and_r) depth 10 in
    let v : T (leb e M) = search (and_l, and_r) depth 12 in
    let w : T (leb o W) = search (and_l, and_r) depth 14 in
    let x : T (ltb 0 o) = search (and_l, and_r) depth 14 in
    let y : T (leb s M) = within_width s e M u v in
    search and_i depth 16)

-- a kind whose rows hold ranges; a named kind shows it by `refl`
abbrev pub Ranged : Kind → Type 0
Ranged k = (nature k).wired ≡ false

range_good : (k : Kind) → Ranged k → (c i d s e o : ℕ) → good_row k (range_row (dom c i d) s e o) ≡ good_range (limits_of k) (range_row (dom c i d) s e o)
unfolding good_row fits floored within good_range
range_good k w c i d s e o =
    rw w (range_turn c i d s e o (nature k).dom_top.controller (nature k).dom_top.its (nature k).dom_top.device (nature k).floor (nature k).top (top 32))

range_blank : (k : Kind) → Ranged k → blank_row k ≡ blank_range
range_blank k w = rw w

-- a range is never shared
range_clash : (a b : Dom) (s e o s' e' o' : ℕ) → not (clash (range_row a s e o) (range_row b s' e' o')) ≡ apart (range_row a s e o) (range_row b s' e' o')
unfolding clash joins
range_clash a b s e o s' e' o' = ap not (and_true (meets (range_row a s e o) (range_row b s' e' o')))

module _ (k : Kind) (r : Ranged k) (t : Ranges) where
  ranged : (fit : Row → Row → Bool) → ((i j : ℕ) → fit (range_of (range_at t i)) (range_of (range_at t j)) ≡ apart (range_of (range_at t i)) (range_of (range_at t j)))
      → sound_table row_limit (same_row (blank_row k)) (good_row k) fit (ranges_view t) ≡ sound_ranges_in (limits_of k) t
  unfolding sound_ranges_in
  ranged fit h =
      sound_ext row_limit (λ j. range_of (range_at t j)) t.n (same_row (blank_row k)) (same_row blank_range) (good_row k) (good_range (limits_of k)) fit apart
      (λ j. ap (λ b. same_row b (range_of (range_at t j))) (range_blank k r)) (λ j. range_good k r _ _ _ _ _ _) h

  pub held_kind : sound_held k (ranges_view t) ≡ sound_ranges_in (limits_of k) t
  held_kind = ranged (λ a b. not (meets a b)) (λ i j. refl)

  pub owners_kind : sound_owners k (ranges_view t) ≡ sound_ranges_in (limits_of k) t
  owners_kind = ranged (λ a b. not (clash a b)) (λ i j. range_clash _ _ _ _ _ _ _ _)
