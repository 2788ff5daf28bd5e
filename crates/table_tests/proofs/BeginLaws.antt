-- A table that begins with another: where the longer one is sound, so are the rows of the shorter. Assumes nothing.
use mathlib.Core.Path.{◌≡◌, ◌∙◌, subst}
use mathlib.Core.Bool.{Bool, true, false, ◌&&◌}
use Prim.Native.Nat.{ℕ, ◌<◌, ◌≤◌, min}
use native.Mathlib.Omega.{arith}
use lib.Dec.{T, leb, leb→le}
use Rattle.definition.specs.Tables.{row_limit, Row, same_row, used, begins}
use Rattle.tables.specs.Below.{all_below, row_ok}
use Rattle.tables.specs.Views.{range_of, range_at, ranges_view}
use Rattle.tables.specs.declared.Ranges.{Ranges}
use Rattle.definition.proofs.BaseLaws.{and_l, and_r, and_i, and_false, t_ext, T_true, true_T}
use Rattle.definition.proofs.RowLaws.{row_eq}
use Rattle.tables.proofs.BelowLaws.{all_in, all_out}
use Rattle.tables.proofs.TableLaws.{tidy_count, begins_used}
use Rattle.table_tests.specs.declared.limits.Limits.{Limits}
use Rattle.table_tests.specs.Rows.{rows_begin}
use Rattle.table_tests.specs.Tests.{blank_range, good_range, apart, tidy_ranges, sound_ranges_in, holders_in}
use Rattle.table_tests.specs.RangeRule.{ranges_is}

pub ranges_begin_is : (h o : Ranges)
    → begins (used (ranges_view h)) (used (ranges_view o)) ≡ rows_begin row_limit (λ a b. same_row (range_of a) (range_of b)) (range_at h) (range_at o) h.n o.n
ranges_begin_is h o = begins_used row_limit (λ k. range_of (range_at h k)) (λ k. range_of (range_at o k)) h.n o.n

ranges_count : (t : Ranges) → tidy_ranges t ≡ true → t.n ≤ row_limit
unfolding tidy_ranges
ranges_count t e = tidy_count row_limit (λ k. range_of (range_at t k)) t.n (same_row blank_range) e

-- rows that stand in a sound table are sound
prefix_ok :
    (good : Row → Bool) (fit : Row → Row → Bool) (f g : ℕ → Row) (m n : ℕ) → m ≤ n → ((k : ℕ) → k < m → f k ≡ g k)
    → T (all_below (row_ok good fit g) n) → T (all_below (row_ok good fit f) m)
prefix_ok good fit f g m n l e t = all_in (row_ok good fit f) m λ k p.
    let w : T (row_ok good fit g k) = all_out (row_ok good fit g) n t k (omega arith) in
    and_i (good (f k)) (all_below (λ j. fit (f j) (f k)) k)
    (rw (e k p) (and_l (good (g k)) (all_below (λ j. fit (g j) (g k)) k) w))
    (all_in (λ j. fit (f j) (f k)) k (λ j q.
    let v : T (fit (g j) (g k)) = all_out (λ j. fit (g j) (g k)) k (and_r (good (g k)) (all_below (λ j. fit (g j) (g k)) k) w) j q in
    rw (e k p, e j (omega arith)) v))

-- so the reservations of a kind of ranges need no test of pairs: their owners' test serves
module _ (l : Limits) (h o : Ranges) where
  same_at : ℕ → Bool
  same_at k = same_row (range_of (range_at h k)) (range_of (range_at o k))

  held_ok :
      T (sound_ranges_in l o) → h.n ≤ row_limit → T (begins (used (ranges_view h)) (used (ranges_view o))) → T (all_below (row_ok (good_range l) apart (λ k. range_of (range_at h k))) h.n)
  unfolding same_at
  held_ok s c t =
      let a : T (tidy_ranges o && all_below (row_ok (good_range l) apart (λ k. range_of (range_at o k))) o.n) = subst T (ranges_is l o) s in
      let b : T (leb (min h.n row_limit) (min o.n row_limit) && all_below same_at (min h.n row_limit)) = subst T (ranges_begin_is h o) t in
      let d : T (tidy_ranges o) = and_l (tidy_ranges o) (all_below (row_ok (good_range l) apart (λ k. range_of (range_at o k))) o.n) a in
      let n : o.n ≤ row_limit = ranges_count o (T_true (tidy_ranges o) d) in
      let r : T (all_below (row_ok (good_range l) apart (λ k. range_of (range_at o k))) o.n) = and_r (tidy_ranges o) (all_below (row_ok (good_range l) apart (λ k. range_of (range_at o k))) o.n) a in
      let m : min h.n row_limit ≤ min o.n row_limit =
      leb→le (min h.n row_limit) (min o.n row_limit) (and_l (leb (min h.n row_limit) (min o.n row_limit)) (all_below same_at (min h.n row_limit)) b) in
      prefix_ok (good_range l) apart (λ k. range_of (range_at h k)) (λ k. range_of (range_at o k)) h.n o.n (omega arith)
      (λ k p. row_eq (range_of (range_at h k)) (range_of (range_at o k))
      (all_out same_at (min h.n row_limit) (and_r (leb (min h.n row_limit) (min o.n row_limit)) (all_below same_at (min h.n row_limit)) b) k (omega arith)))
      r

  pub prefix_sound :
      sound_ranges_in l o ≡ true → tidy_ranges h ≡ true
      → sound_ranges_in l h && begins (used (ranges_view h)) (used (ranges_view o)) ≡ begins (used (ranges_view h)) (used (ranges_view o))
  prefix_sound s z = t_ext (sound_ranges_in l h && B) B (λ t. and_r (sound_ranges_in l h) B t) (λ t. and_i (sound_ranges_in l h) B (go t) t)
    where
      B : Bool
      B = begins (used (ranges_view h)) (used (ranges_view o))

      go : T (begins (used (ranges_view h)) (used (ranges_view o))) → T (sound_ranges_in l h)
      go t =
          let r : T (all_below (row_ok (good_range l) apart (λ k. range_of (range_at h k))) h.n) = held_ok (true_T (sound_ranges_in l o) s) (ranges_count h z) t in
          true_T (sound_ranges_in l h) (ranges_is l h ∙ rw z (T_true (all_below (row_ok (good_range l) apart (λ k. range_of (range_at h k))) h.n) r))

  -- .. which leaves the beginning to be told
  pub holders_begin : sound_ranges_in l o ≡ true → tidy_ranges h ≡ true → holders_in l h o ≡ rows_begin row_limit (λ a b. same_row (range_of a) (range_of b)) (range_at h) (range_at o) h.n o.n
  unfolding holders_in
  holders_begin s z = rw s (prefix_sound s z) ∙ ranges_begin_is h o

  pub holders_unsound : sound_ranges_in l o ≡ false → holders_in l h o ≡ false
  unfolding holders_in
  holders_unsound s = rw (s, and_false)

  pub holders_untidy : tidy_ranges h ≡ false → holders_in l h o ≡ false
  unfolding holders_in
  holders_untidy z = rw (ranges_is l h, z)
