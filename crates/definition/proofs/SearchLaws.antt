-- `lowest` answers the least of ALL free bases, and nothing exactly when no base is free. Assumes nothing.
use Rattle.std.specs.Prelude.{◌≡◌, ◌⊎◌, not, ℕ, ◌+◌, ◌-◌, ◌*◌, ◌/◌, ◌%◌, ◌≤◌, ◌<◌, leb, ltb, eqb}
use Rattle.std.proofs.Common.{sym, inl, inr, arith, div-add-mod', leb→le, ltb→lt, nltb→le, eqb→eq, le→leb, lt→ltb}
use mathlib.Core.List.Memᴰ
use mathlib.Core.List.{List, map, Memᴰ}
use Rattle.std.proofs.Math.Nat.{mod-eq-sub-mod}
use Rattle.std.proofs.Math.Arith.{digits_div}
use Rattle.std.proofs.Math.Dec.{T}
use Rattle.definition.specs.Base.{any_of}
use Rattle.definition.proofs.BaseLaws.{and_l, and_r, and_i, not_T→, →not_T, either, eq→eqb, any_in, in_any, LeastAll, least_all, all_alike}
use Rattle.definition.specs.Tables.{same_dom, pool_dom, Span, Row, overlap, meets}
use Rattle.definition.specs.Request.{Need, row_at, aligned, holds, free, align_up, candidates, lowest}

-- the only multiple of a from x up to x + a
pub align_up_is : (a x b : ℕ) → 0 < a → b % a ≡ 0 → x ≤ b → b < x + a → align_up a x ≡ b
unfolding align_up
align_up_is a x b pos mult low high =
    let q : ℕ = b / a in
    let whole : q * a ≡ b = omega (arith, div-add-mod' b a) in
    let split : x + (a - 1) ≡ q * a + (x + (a - 1) - b) = omega arith in
    let small : x + (a - 1) - b < a = omega arith in
    rw (split, digits_div q small) whole

-- what `free` says, in orders
pub record IsFree (pools : List Span) (rows : List Row) (n : Need) (b : ℕ) : Type 0 where
  pub mult : b % n.alignment ≡ 0
  pub pool : Span
  pub in_pools : Memᴰ pool pools
  pub dom : T (same_dom (pool_dom n.dom) pool.dom)
  pub low : pool.start ≤ b
  pub high : b + n.size ≤ pool.end
  pub clear : (r : Row) → Memᴰ r rows → T (meets (row_at n b) r) → ⊥

-- a row that is in the way at b - a, and not at b, ends at b or less than a below it
row_ends : (n : Need) (b : ℕ) (r : Row) → n.alignment ≤ b → T (meets (row_at n (b - n.alignment)) r) → (T (meets (row_at n b) r) → ⊥) → (r.end ≤ b) × (b < r.end + n.alignment)
unfolding meets overlap row_at
row_ends n b r ha w u =
    let w₀ : T (same_dom n.dom r.dom) = search (and_l, and_r) in
    let w₁ : T (ltb (b - n.alignment) r.end) = search (and_l, and_r) in
    let w₂ : T (ltb r.start (b - n.alignment + n.size)) = search (and_l, and_r) in
    let l₂ : r.start < b + n.size = omega (arith, ltb→lt) in
    let past : r.end ≤ b = nltb→le b r.end (→not_T (ltb b r.end) λ t. u (search (and_i, lt→ltb))) in
    omega (arith, ltb→lt)

module _ (pools : List Span) (rows : List Row) (n : Need) where
  pub free_says : (b : ℕ) → T (free pools rows n b) → IsFree pools rows n b
  unfolding free aligned holds
  free_says b t =
      let t₁ : T (eqb (b % n.alignment) 0) = search (and_l, and_r) in
      let t₂ : T (any_of (holds n b) pools) = search (and_l, and_r) in
      let t₃ : T (not (any_of (meets (row_at n b)) rows)) = search (and_l, and_r) in
      let (p, m, h) = any_in (holds n b) pools t₂ in
      let h₁ : T (leb p.start b) = search (and_l, and_r) in
      let h₂ : T (leb (b + n.size) p.end) = search (and_l, and_r) in
      record {
        mult = omega (arith, eqb→eq);
        pool = p;
        in_pools = m;
        dom = search (and_l, and_r);
        low = omega (arith, leb→le);
        high = omega (arith, leb→le);
        clear = λ r mr w. not_T→ (any_of (meets (row_at n b)) rows) t₃ (in_any (meets (row_at n b)) mr w);
      }

  pub says_free : (b : ℕ) → IsFree pools rows n b → T (free pools rows n b)
  unfolding free aligned holds
  says_free b f =
      let c : T (any_of (meets (row_at n b)) rows) → ⊥ = λ t. let (r, m, h) = any_in (meets (row_at n b)) rows t in f.clear r m h in
      let p : T (holds n b f.pool) = search (and_i, le→leb) in
      let k : T (any_of (holds n b) pools) = in_any (holds n b) f.in_pools p in
      search (and_i, →not_T, eq→eqb)

  at_pool : {p : Span} {b : ℕ} → Memᴰ p pools → align_up n.alignment p.start ≡ b → Memᴰ b (candidates pools rows n.alignment)
  unfolding candidates
  at_pool m e = Memᴰ.append_left _ (Memᴰ.cast (sym e) (Memᴰ.map (λ p. align_up n.alignment p.start) m))

  at_row : {r : Row} {b : ℕ} → Memᴰ r rows → align_up n.alignment r.end ≡ b → Memᴰ b (candidates pools rows n.alignment)
  unfolding candidates
  at_row m e = Memᴰ.append_right (map (λ p. align_up n.alignment p.start) pools) (Memᴰ.cast (sym e) (Memᴰ.map (λ r. align_up n.alignment r.end) m))

  -- a free base is a candidate, or the base one alignment below it is free
  pub down_at : 0 < n.alignment → (b : ℕ) → T (free pools rows n b) → Memᴰ b (candidates pools rows n.alignment) ⊎ ((n.alignment ≤ b) × T (free pools rows n (b - n.alignment)))
  down_at pos b t = first (free_says b t) (either (ltb b ((free_says b t).pool.start + n.alignment)))
    where
      c : ℕ
      c = b - n.alignment

      second : (f : IsFree pools rows n b) → f.pool.start + n.alignment ≤ b → T (any_of (meets (row_at n c)) rows) ⊎ (T (any_of (meets (row_at n c)) rows) → ⊥)
          → Memᴰ b (candidates pools rows n.alignment) ⊎ ((n.alignment ≤ b) × T (free pools rows n (b - n.alignment)))
      second f h (inl w) =
          let (r, m, w') = any_in (meets (row_at n c)) rows w in
          let (past, near) = row_ends n b r (omega arith) w' (f.clear r m) in
          inl (at_row m (align_up_is n.alignment r.end b pos f.mult past near))
      second f h (inr u) =
          let ha : n.alignment ≤ b = omega arith in
          inr (
            ha,
            says_free c record {
              mult = rw (← mod-eq-sub-mod) f.mult;
              pool = f.pool;
              in_pools = f.in_pools;
              dom = f.dom;
              low = omega arith;
              high = omega arith;
              clear = λ r m w. u (in_any (meets (row_at n c)) m w);
            },
          )

      first : (f : IsFree pools rows n b) → T (ltb b (f.pool.start + n.alignment)) ⊎ (T (ltb b (f.pool.start + n.alignment)) → ⊥)
          → Memᴰ b (candidates pools rows n.alignment) ⊎ ((n.alignment ≤ b) × T (free pools rows n (b - n.alignment)))
      first f (inl l) = inl (at_pool f.in_pools (align_up_is n.alignment f.pool.start b pos f.mult f.low (omega (arith, ltb→lt))))
      first f (inr u) = second f (nltb→le b (f.pool.start + n.alignment) (→not_T (ltb b (f.pool.start + n.alignment)) u)) (either (any_of (meets (row_at n c)) rows))

  down : 0 < n.alignment → (b : ℕ) → T (free pools rows n b) → Memᴰ b (candidates pools rows n.alignment) ⊎ ((c : ℕ) × (c < b) × T (free pools rows n c))
  down pos b t = go (down_at pos b t)
    where
      go : Memᴰ b (candidates pools rows n.alignment) ⊎ ((n.alignment ≤ b) × T (free pools rows n (b - n.alignment))) → Memᴰ b (candidates pools rows n.alignment) ⊎ ((c : ℕ) × (c < b) × T (free pools rows n c))
      go (inl m) = inl m
      go (inr (h, s)) = inr (b - n.alignment, omega arith, s)

  -- THE LAW: `lowest` is the least of all free bases, or there is none
  pub lowest_says : 0 < n.alignment → LeastAll (free pools rows n) (lowest pools rows n)
  unfolding lowest
  lowest_says pos = least_all (free pools rows n) (candidates pools rows n.alignment) (down pos)

-- so the answer reads a table as a set of rows: not their order
pub free_alike : (pools : List Span) (n : Need) (xs ys : List Row) → ((r : Row) → Memᴰ r ys → Memᴰ r xs) → (b : ℕ) → T (free pools xs n b) → T (free pools ys n b)
free_alike pools n xs ys back b t =
    let f : IsFree pools xs n b = free_says pools xs n b t in
    says_free pools ys n b record { mult = f.mult; pool = f.pool; in_pools = f.in_pools; dom = f.dom; low = f.low; high = f.high; clear = λ r m. f.clear r (back r m) }

pub lowest_alike : (pools : List Span) (rows rows' : List Row) (n : Need) → 0 < n.alignment
    → ((r : Row) → Memᴰ r rows → Memᴰ r rows') → ((r : Row) → Memᴰ r rows' → Memᴰ r rows)
    → lowest pools rows n ≡ lowest pools rows' n
lowest_alike pools rows rows' n pos to from = all_alike (free_alike pools n rows rows' from) (free_alike pools n rows' rows to) (lowest_says pools rows n pos) (lowest_says pools rows' n pos)
