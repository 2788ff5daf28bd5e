-- What the steps of a search promise each other, over rows by their index. Assumes nothing.
use Rattle.std.specs.Prelude.{◌≡◌, true, false, ◌⊎◌, ℕ, ◌+◌, ◌%◌, ◌^◌, ◌<◌, ◌≤◌, T, Option, Some, None}
use Rattle.definition.specs.Tables.{same_dom, pool_dom, Span, Row, meets}
use Rattle.definition.specs.Request.{Need, row_at, holds}
use Rattle.bases.specs.Bases.{Up}

-- the bases of a pool row: below the bound it is of the domain and the whole run ends in it, and no base that the row holds is the bound or more
pub record Bases (n : Need) (p : Span) (bound : ℕ) : Type 0 where
  pub own : (b : ℕ) → b < bound → T (same_dom (pool_dom n.dom) p.dom)
  pub each : (b : ℕ) → b < bound → b + n.size ≤ p.end
  pub all : (b : ℕ) → T (holds n b p) → b < bound
  pub fits : (b : ℕ) → b < bound → b + n.size < 2 ^ 64

-- the run at x meets none of the first `on` rows
abbrev pub Free : (ℕ → Row) → ℕ → Need → ℕ → Type 0
Free g on n x = (k : ℕ) → k < on → meets (row_at n x) (g k) ≡ false

-- no aligned base from lo up to c is free, whatever pool it lies in
abbrev pub Tried : (ℕ → Row) → ℕ → Need → ℕ → ℕ → Type 0
Tried g on n lo c = (x : ℕ) → lo ≤ x → x < c → x % n.alignment ≡ 0 → Free g on n x → ⊥

-- the base after a row: past the row's end where that is in the way of the run at b, else b
abbrev pub Passes : Row → Need → ℕ → ℕ → ℕ → Type 0
Passes w n b stop r = ((meets (row_at n b) w ≡ false) × (r ≡ b)) ⊎ ((meets (row_at n b) w ≡ true) × Up w.end n.alignment stop r)

-- a row that is in the way of the run at c ends at r or before: it is behind, and stands in the way of no later run
abbrev pub Passed : (ℕ → Row) → ℕ → Need → ℕ → ℕ → Type 0
Passed g on n c r = (k : ℕ) × (k < on) × (meets (row_at n c) (g k) ≡ true) × ((g k).end ≤ r)

pub record Jumps (g : ℕ → Row) (on : ℕ) (n : Need) (c stop r : ℕ) : Type 0 where
  pub rises : c < r
  pub within : r ≤ stop
  pub aligned : r < stop → r % n.alignment ≡ 0
  pub tried : Tried g on n c r
  pub passed : r < stop → Passed g on n c r

-- one step of the search at base c: none where the run is free, else the next base to try
abbrev pub Steps : (ℕ → Row) → ℕ → Need → ℕ → ℕ → Option ℕ → Type 0
Steps g on n c stop (Some r) = Jumps g on n c stop r
Steps g on n c stop None = Free g on n c
