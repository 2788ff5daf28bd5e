-- Where a new pool row goes, and a pool table with a row more in its midst. Assumes nothing.
use Rattle.std.specs.Prelude.{◌≡◌, Bool, ◌&&◌, ℕ, ◌+◌, ◌<◌, ◌≤◌, ltb, Option}
use Rattle.std.specs.Option.{unwrap_or}
use Rattle.definition.specs.Tables.{Span, same_dom}
use Rattle.tables.specs.Views.{pool_at}
use Rattle.tables.specs.declared.Pool.{Pool}
use Rattle.tables.specs.declared.PoolRow.{PoolRow}

-- x is of p's domain and starts later
unfoldable pub before : Span → Span → Bool
before p x = same_dom p.dom x.dom && ltb p.start x.start

abbrev pub place_of : Option ℕ → ℕ → ℕ
place_of h n = unwrap_or h n

-- u is t with r at row `at`, each used row from there on one row up, and the other unused rows as they were
pub record Opened (t u : Pool) (at : ℕ) (r : PoolRow) : Type 0 where
  pub count : u.n ≡ t.n + 1
  pub low : (k : ℕ) → k < at → pool_at u k ≡ pool_at t k
  pub here : pool_at u at ≡ r
  pub moved : (k : ℕ) → at ≤ k → k < t.n → pool_at u (k + 1) ≡ pool_at t k
  pub high : (k : ℕ) → t.n < k → pool_at u k ≡ pool_at t k
