-- What a search promises: the definition's `lowest`. Assumes nothing.
use Rattle.std.specs.Prelude.{◌≡◌, ℕ, ◌+◌, ◌%◌, ◌^◌, ◌<◌, ◌≤◌, T, Bool, Option, Some, None}
use Rattle.definition.specs.Base.{pairs_of}
use Rattle.definition.specs.Tables.{pool_limit, used, in_order, Span, Row, Table}
use Rattle.definition.specs.Request.{lowest, holds}
use Rattle.definition.specs.Request as R
use Rattle.tables.specs.Views.{span_of, pool_at, pool_view}
use Rattle.tables.specs.declared.Pool.{Pool}
use Rattle.search.specs.Asks.{need_of, found_of}
use Rattle.search.specs.Steps.{Free}
use Rattle.search.specs.declared.Need.{Need}

-- what a search asks of a pool table, and soundness gives: a count within the size, and rows in order
pub record InOrder (p : Pool) : Type 0 where
  pub count : p.n ≤ pool_limit
  pub order : T (pairs_of in_order (used (pool_view p)))

-- pool row k holds the run at b
abbrev pub holding : Pool → R.Need → ℕ → ℕ → Bool
holding p n b k = holds n b (span_of (pool_at p k))

-- the pool row has no free base
abbrev pub Barren : Span → (ℕ → Row) → ℕ → R.Need → Type 0
Barren p g on n = (b : ℕ) → T (holds n b p) → b % n.alignment ≡ 0 → Free g on n b → ⊥

-- the run found ends at a 64-bit number
abbrev pub Ends : ℕ → Option ℕ → Type 0
Ends size (Some b) = b + size < 2 ^ 64
Ends size None = Unit {0}

-- the least of all free bases: `lowest_says` of the definition
pub record Finds (p : Pool) (owners : Table Row) (n : Need) (r : Option ℕ) : Type 0 where
  pub is : found_of r ≡ lowest (used (pool_view p)) (used owners) (need_of n)
  pub ends : Ends n.size r
