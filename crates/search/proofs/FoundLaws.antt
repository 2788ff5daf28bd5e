-- From the index laws to the promises: what the searches end with is the definition's `lowest` over the tables' views. Assumes nothing.
use mathlib.Core.Path.{◌≡◌, sym, ◌∙◌, ap₂}
use mathlib.Core.Option.{Option}
use Prim.Native.Nat.{ℕ, ◌≤◌}
use lib.Dec.{T}
use Rattle.definition.specs.Base.{pairs_of}
use Rattle.definition.specs.Tables.{pool_limit, Span, Row, Table, used, in_order}
use Rattle.definition.specs.Request.{lowest}
use Rattle.definition.specs.Request as R
use Rattle.tables.specs.Below.{listed}
use Rattle.tables.specs.Views.{span_of, pool_at, pool_view}
use Rattle.tables.specs.declared.Pool.{Pool}
use Rattle.tables.proofs.TableLaws.{used_is}
use Rattle.search.specs.Finds.{InOrder}

abbrev pub span_at : Pool → ℕ → Span
span_at p k = span_of (pool_at p k)

pub pool_used : (p : Pool) → p.n ≤ pool_limit → used (pool_view p) ≡ listed (span_at p) p.n
pool_used p l = used_is pool_limit (span_at p) p.n l

pub order_used : (p : Pool) → InOrder p → T (pairs_of in_order (listed (span_at p) p.n))
order_used p h = rw (pool_used p h.count) at h.order

-- over the used rows of both tables, where the answer over their indices is known
pub found_rows : (p : Pool) (t : Table Row) (g : ℕ → Row) (n : R.Need) (x : Option ℕ) → InOrder p → used t ≡ listed g t.count
    → lowest (listed (span_at p) p.n) (listed g t.count) n ≡ x → x ≡ lowest (used (pool_view p)) (used t) n
found_rows p t g n x h u e = sym (ap₂ (λ ps rs. lowest ps rs n) (pool_used p h.count) u ∙ e)
