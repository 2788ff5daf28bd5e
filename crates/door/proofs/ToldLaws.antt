-- A pool table of full columns is told by its view, and so is a group of them: so what is left in place is known beforehand where only views are promised. Assumes nothing.
--     pool_from     the table of a view;        pool_told      a table with the view is it
--     pools_from    the group with the ranges that a verdict has for it;        pools_told     a group that is promised to be is it
use Rattle.std.proofs.Common.{◌≡◌, refl, ◌∙◌, ap, ap₂, ℕ, zero, suc, arith, [], ◌∷◌, List, map, length, get_or}
use Rattle.definition.specs.Tables.{Kind as DKind, Span, Table, pool_limit, mmio, pio, input, host, device, event, lpi}
use Rattle.tables.specs.Below.{listed}
use Rattle.tables.specs.Views.{pool, span_of, pool_at, pool_of, pool_view}
use Rattle.tables.specs.Sized.{SizedPool}
use Rattle.tables.specs.declared.Kind.{Kind}
use Rattle.tables.specs.declared.Pool.{Pool}
use Rattle.tables.specs.declared.Pools.{Pools}
use Rattle.request.specs.declared.call.Use.{Use}
use Rattle.adding.specs.Judged.{pool_put_of, entered_view}
use Rattle.adding.specs.declared.Verdict.{Verdict}
use Rattle.door.specs.Kept.{kind_in, PoolsKept}

abbrev pub pool_from : Table Span → Pool
pool_from t = pool t.count (map (λ s. s.dom.controller) t.rows) (map (λ s. s.dom.its) t.rows) (map (λ s. s.start) t.rows) (map (λ s. s.end) t.rows)

-- a column is what its rows have of it
column : {A : Type 0} (n : ℕ) (xs : List ℕ) (g : ℕ → A) (f : A → ℕ) → length xs ≡ n → ((k : ℕ) → get_or xs k 0 ≡ f (g k)) → xs ≡ map f (listed g n)
unfolding listed
column zero [] g f e h = refl
column zero (x ∷ xs) g f e h = absurd (omega arith)
column (suc n) [] g f e h = absurd (omega arith)
column (suc n) (x ∷ xs) g f e h = ap₂ (λ (y : ℕ) (ys : List ℕ). y ∷ ys) (h 0) (column n xs (λ k. g (suc k)) f (omega arith) (λ k. h (suc k)))

pub pool_told : (d : Pool) → SizedPool d → (t : Table Span) → pool_view d ≡ t → d ≡ pool_from t
pool_told d z t e = (λ i. pool d.n (c i) (s i) (a i) (b i)) ∙ ap pool_from e
  where
    c : d.controller ≡ map (λ s. s.dom.controller) (listed (λ k. span_of (pool_at d k)) pool_limit)
    c = column pool_limit d.controller (λ k. span_of (pool_at d k)) (λ s. s.dom.controller) z.controller (λ k. refl)

    s : d.its ≡ map (λ s. s.dom.its) (listed (λ k. span_of (pool_at d k)) pool_limit)
    s = column pool_limit d.its (λ k. span_of (pool_at d k)) (λ s. s.dom.its) z.its (λ k. refl)

    a : d.start ≡ map (λ s. s.start) (listed (λ k. span_of (pool_at d k)) pool_limit)
    a = column pool_limit d.start (λ k. span_of (pool_at d k)) (λ s. s.start) z.start (λ k. refl)

    b : d.end ≡ map (λ s. s.end) (listed (λ k. span_of (pool_at d k)) pool_limit)
    b = column pool_limit d.end (λ k. span_of (pool_at d k)) (λ s. s.end) z.end (λ k. refl)

abbrev pub entering : Verdict → Use → Kind → Pool → Pool
entering v to k x = pool_from (entered_view (pool_put_of v to k) (pool_view x))

abbrev from : Verdict → Use → Pools → DKind → Pool
from v to p k = entering v to (kind_in k) (pool_of p k)

abbrev pools : Pool → Pool → Pool → Pool → Pool → Pool → Pool → Pools
pools m p i h d e l = record { mmio = m; pio = p; input = i; host = h; device = d; event = e; lpi = l }

abbrev pub pools_from : Verdict → Use → Pools → Pools
pools_from v to p = pools (from v to p mmio) (from v to p pio) (from v to p input) (from v to p host) (from v to p device) (from v to p event) (from v to p lpi)

pub pools_told : (v : Verdict) (to : Use) (p d : Pools) → ((k : DKind) → SizedPool (pool_of d k)) → PoolsKept v to p d → d ≡ pools_from v to p
pools_told v to p d size kept = λ i. pools (told mmio i) (told pio i) (told input i) (told host i) (told device i) (told event i) (told lpi i)
  where
    told : (k : DKind) → pool_of d k ≡ from v to p k
    told k = pool_told (pool_of d k) (size k) _ (kept k)
