-- A search tries at most one base more on a pool row than there are owner rows of the domain: each step leaves a row behind that no later base meets. Assumes nothing.
use mathlib.Core.Path.{◌≡◌}
use mathlib.Core.Logic.{◌⊎◌, inl, inr}
use mathlib.Core.Bool.{Bool, true, false}
use Prim.Native.Nat.{ℕ, zero, suc, ◌+◌, ◌<◌, ◌≤◌}
use native.Mathlib.Nat.{eq-or-lt_of_le}
use native.Mathlib.Omega.{arith}
use borrow.Author.Tests.{lt-ltb, le-ltb}
use lib.Dec.{T, ltb, ltb→lt, lt→ltb}
use Rattle.definition.proofs.BaseLaws.{and_l, and_r, and_i}
use Rattle.definition.specs.Tables.{Row}
use Rattle.definition.specs.Request.{Need, row_at}
use Rattle.search.specs.Steps.{Passed, Jumps}
use Rattle.search.specs.Turns.{once, count_below, own, ahead, turns, Walk, past, stays, goes}
use Rattle.search.proofs.CaseLaws.{lt_or_le}
use Rattle.search.proofs.MeetLaws.{meets_says}

-- ---- counts

once_no_more : (a b : Bool) → (T a → T b) → once a ≤ once b
once_no_more true true f = omega arith
once_no_more true false f = absurd (f tt)
once_no_more false true f = omega arith
once_no_more false false f = omega arith

once_less : (a b : Bool) → T b → (T a → ⊥) → once a < once b
once_less true b t u = absurd (u tt)
once_less false true t u = omega arith
once_less false false t u = absurd t

module _ (p q : ℕ → Bool) (f : (k : ℕ) → T (p k) → T (q k)) where
  -- a test that passes less often counts no more
  pub count_no_more : (n : ℕ) → count_below p n ≤ count_below q n
  unfolding count_below
  count_no_more zero = omega arith
  count_no_more (suc n) = omega (arith, once_no_more (p n) (q n) (f n), count_no_more n)

  -- .. and less, where it fails on a row that the other passes
  pub count_less : (n k : ℕ) → k < n → T (q k) → (T (p k) → ⊥) → count_below p n < count_below q n
  unfolding count_below
  count_less zero k l t u = absurd (omega arith)
  count_less (suc n) k l t u = go (count_less n k) (eq-or-lt_of_le (omega arith))
    where
      go : (k < n → T (q k) → (T (p k) → ⊥) → count_below p n < count_below q n) → (k ≡ n) ⊎ (k < n) → count_below p (suc n) < count_below q (suc n)
      go below (inl e) = omega (arith, once_less (p n) (q n) (rw e at t) (rw e at u), count_no_more n)
      go below (inr m) = omega (arith, once_no_more (p n) (q n) (f n), below m t u)

-- ---- turns

module _ (g : ℕ → Row) (on : ℕ) (n : Need) (stop : ℕ) where
  -- wherever the loop begins, it takes at most one turn more than there are rows of the domain
  pub turns_most : (c : ℕ) → turns g on n stop c ≤ count_below (own g n) on + 1
  turns_most c = omega (arith, count_no_more (ahead g n c) (own g n) (λ k. and_l (own g n k) (ltb c (g k).end)) on, once_no_more (ltb c stop) true (λ t. tt))

  -- each turn that goes on leaves fewer: the row that was in the way at c is behind r
  pub turns_fall : (c r : ℕ) → c < stop → Jumps g on n c stop r → turns g on n stop r < turns g on n stop c
  unfolding row_at
  turns_fall c r l j = rw (lt-ltb c stop l) (go (lt_or_le r stop))
    where
      lower : (k : ℕ) → T (ahead g n r k) → T (ahead g n c k)
      lower k t =
          let d : T (own g n k) = search (and_l) in
          let e : T (ltb r (g k).end) = search (and_r) in
          let m : c < (g k).end = omega (arith, j.rises, ltb→lt r (g k).end e) in
          search (and_i, lt→ltb)

      behind : Passed g on n c r → count_below (ahead g n r) on < count_below (ahead g n c) on
      behind (k, used, hit, e) =
          let w = meets_says (row_at n c) (g k) hit in
          let d : T (own g n k) = w.dom in
          let m : c < (g k).end = w.low in
          let t : T (ahead g n c k) = search (and_i, lt→ltb) in
          count_less (ahead g n r) (ahead g n c) lower on k used t (λ x. omega (arith, e, ltb→lt r (g k).end (and_r (own g n k) (ltb r (g k).end) x)))

      go : (r < stop) ⊎ (stop ≤ r) → turns g on n stop r < count_below (ahead g n c) on + 1
      go (inl m) = rw (lt-ltb r stop m) (omega (arith, behind (j.passed m)))
      go (inr m) = rw (le-ltb r stop m) (omega (arith, count_no_more (ahead g n r) (ahead g n c) lower on))

  -- ---- THE BOUND: on one pool row at most one base more is tried than there are owner rows of the domain
  walk_turns : (c m : ℕ) → Walk g on n stop c m → m ≤ turns g on n stop c
  walk_turns c m (past l) = omega arith
  walk_turns c m (stays l f) = rw (lt-ltb c stop l) (omega arith)
  walk_turns c m (goes {r = r} {m = k} l j w) = omega (arith, walk_turns r k w, turns_fall c r l j)

  pub walk_short : (c m : ℕ) → Walk g on n stop c m → m ≤ count_below (own g n) on + 1
  walk_short c m w = omega (arith, walk_turns c m w, turns_most c)
