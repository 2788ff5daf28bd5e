-- Whole tables, column by column: fresh ones, and a table with one row more. Assumes nothing.
use Rattle.std.specs.Prelude.{List, ℕ, ◌+◌, set, replicate}
use Rattle.definition.specs.Tables.{pool_limit, row_limit, Row}
use Rattle.tables.specs.Views.{pool, ranges, inputs}
use Rattle.tables.specs.declared.Pool.{Pool}
use Rattle.tables.specs.declared.Ranges.{Ranges}
use Rattle.tables.specs.declared.Inputs.{Inputs}
use Rattle.tables.specs.declared.Pools.{Pools}
use Rattle.tables.specs.declared.Holders.{Holders}
use Rattle.tables.specs.declared.State.{State}

-- ---- fresh

abbrev pub nils : ℕ → List ℕ
nils n = replicate n 0

abbrev pub fresh_pool : Pool
fresh_pool = pool 0 (nils pool_limit) (nils pool_limit) (nils pool_limit) (nils pool_limit)

abbrev pub fresh_ranges : Ranges
fresh_ranges = ranges 0 (nils row_limit) (nils row_limit) (nils row_limit) (nils row_limit) (nils row_limit) (nils row_limit)

abbrev pub fresh_inputs : Inputs
fresh_inputs = inputs 0 (nils row_limit) (nils row_limit) (nils row_limit) (nils row_limit) (nils row_limit)

abbrev pub fresh_pools : Pools
fresh_pools =
    record {
      mmio = fresh_pool;
      pio = fresh_pool;
      input = fresh_pool;
      host = fresh_pool;
      device = fresh_pool;
      event = fresh_pool;
      lpi = fresh_pool;
    }

abbrev pub fresh_holders : Holders
fresh_holders =
    record {
      mmio = fresh_ranges;
      pio = fresh_ranges;
      input = fresh_inputs;
      host = fresh_ranges;
      device = fresh_ranges;
      event = fresh_ranges;
      lpi = fresh_ranges;
    }

abbrev pub fresh_state : State
fresh_state =
    record {
      auto = fresh_pools;
      fixed = fresh_pools;
      held = fresh_holders;
      owners = fresh_holders;
      number = 0;
      index = 0;
      namespace = 0;
      owner = 0;
      detail = 0;
    }

-- ---- the seven tables of a side, one by one

abbrev pub holders : Ranges → Ranges → Inputs → Ranges → Ranges → Ranges → Ranges → Holders
holders m p w h d e l = record { mmio = m; pio = p; input = w; host = h; device = d; event = e; lpi = l }

-- ---- a row more, behind the last used one

abbrev pub pushed_range : Ranges → Row → Ranges
pushed_range t r =
    ranges (t.n + 1) (set t.controller t.n r.dom.controller) (set t.its t.n r.dom.its) (set t.device t.n r.dom.device)
    (set t.start t.n r.start) (set t.end t.n r.end) (set t.owner t.n r.owner)

abbrev pub pushed_input : Inputs → Row → Inputs
pushed_input t r =
    inputs (t.n + 1) (set t.controller t.n r.dom.controller) (set t.input t.n r.start)
    (set t.trigger t.n r.trigger) (set t.sharing t.n r.sharing) (set t.owner t.n r.owner)
