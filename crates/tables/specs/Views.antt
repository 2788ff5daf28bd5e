-- The columns as the definition's tables: the count, and ALL rows. A promise about a view speaks of every number that the columns hold. Assumes nothing.
use Rattle.std.specs.Prelude.{Bool, List, ℕ, eqb, get_or}
use Rattle.definition.specs.Tables.{pool_limit, row_limit, dom, Kind as DKind, mmio, pio, input, host, device, event, lpi, nature, Span, span, Row, range_row, wired_row, Table}
use Rattle.definition.specs.Base.{says}
use Rattle.definition.specs.Request.{Use, automatic, fixed}
use Rattle.definition.specs.Calls.{State as Given, state}
use Rattle.tables.specs.Below.{listed}
use Rattle.tables.specs.declared.Kind.{Kind}
use Rattle.tables.specs.declared.Kind.TheVariants as K
use Rattle.tables.specs.declared.Pool.{Pool}
use Rattle.tables.specs.declared.Ranges.{Ranges}
use Rattle.tables.specs.declared.Inputs.{Inputs}
use Rattle.tables.specs.declared.Pools.{Pools}
use Rattle.tables.specs.declared.Holders.{Holders}
use Rattle.tables.specs.declared.State.{State}
use Rattle.tables.specs.declared.PoolRow.{PoolRow}
use Rattle.tables.specs.declared.RangeRow.{RangeRow}
use Rattle.tables.specs.declared.InputRow.{InputRow}

-- ---- kinds

abbrev pub kind_of : Kind → DKind
kind_of K.Mmio = mmio
kind_of K.Pio = pio
kind_of K.Input = input
kind_of K.Host = host
kind_of K.Device = device
kind_of K.Event = event
kind_of K.Lpi = lpi

-- the definition's `same_kind`
abbrev pub same_of : Kind → Kind → Bool
same_of j k = eqb (nature (kind_of j)).number (nature (kind_of k)).number

-- ---- tables of lent columns

abbrev pub pool : ℕ → List ℕ → List ℕ → List ℕ → List ℕ → Pool
pool n c i starts ends = record { n = n; controller = c; its = i; start = starts; end = ends }

abbrev pub ranges : ℕ → List ℕ → List ℕ → List ℕ → List ℕ → List ℕ → List ℕ → Ranges
ranges n c i d starts ends o = record { n = n; controller = c; its = i; device = d; start = starts; end = ends; owner = o }

abbrev pub inputs : ℕ → List ℕ → List ℕ → List ℕ → List ℕ → List ℕ → Inputs
inputs n c x trigger sharing o = record { n = n; controller = c; input = x; trigger = trigger; sharing = sharing; owner = o }

-- ---- one row

abbrev pub span_of : PoolRow → Span
span_of r = span (dom r.controller r.its 0) r.start r.end

abbrev pub range_of : RangeRow → Row
range_of r = range_row (dom r.controller r.its r.device) r.start r.end r.owner

abbrev pub input_of : InputRow → Row
input_of r = wired_row r.controller r.input r.trigger r.sharing r.owner

abbrev pub pool_at : Pool → ℕ → PoolRow
pool_at t row =
    record { controller = get_or t.controller row 0; its = get_or t.its row 0; start = get_or t.start row 0; end = get_or t.end row 0 }

abbrev pub range_at : Ranges → ℕ → RangeRow
range_at t row =
    record {
      controller = get_or t.controller row 0;
      its = get_or t.its row 0;
      device = get_or t.device row 0;
      start = get_or t.start row 0;
      end = get_or t.end row 0;
      owner = get_or t.owner row 0;
    }

abbrev pub input_at : Inputs → ℕ → InputRow
input_at t row =
    record {
      controller = get_or t.controller row 0;
      input = get_or t.input row 0;
      trigger = get_or t.trigger row 0;
      sharing = get_or t.sharing row 0;
      owner = get_or t.owner row 0;
    }

-- ---- whole tables

abbrev pub pool_view : Pool → Table Span
pool_view t = record { count = t.n; rows = listed (λ row. span_of (pool_at t row)) pool_limit }

abbrev pub ranges_view : Ranges → Table Row
ranges_view t = record { count = t.n; rows = listed (λ row. range_of (range_at t row)) row_limit }

abbrev pub inputs_view : Inputs → Table Row
inputs_view t = record { count = t.n; rows = listed (λ row. input_of (input_at t row)) row_limit }

-- ---- all tables

abbrev pub pool_of : Pools → DKind → Pool
pool_of p mmio = p.mmio
pool_of p pio = p.pio
pool_of p input = p.input
pool_of p host = p.host
pool_of p device = p.device
pool_of p event = p.event
pool_of p lpi = p.lpi

abbrev pub pools_view : Pools → Pools → Use → DKind → Table Span
pools_view a f automatic k = pool_view (pool_of a k)
pools_view a f fixed k = pool_view (pool_of f k)

abbrev pub holders_view : Holders → DKind → Table Row
holders_view h mmio = ranges_view h.mmio
holders_view h pio = ranges_view h.pio
holders_view h input = inputs_view h.input
holders_view h host = ranges_view h.host
holders_view h device = ranges_view h.device
holders_view h event = ranges_view h.event
holders_view h lpi = ranges_view h.lpi

abbrev pub state_view : State → Given
state_view s =
    state (pools_view s.auto s.fixed) (holders_view s.held) (holders_view s.owners)
    (says s.index s.number s.namespace s.owner s.detail)
