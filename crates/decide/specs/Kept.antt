-- A state with what was granted stored in it, and that this is the definition's answer. Assumes nothing.
use Rattle.std.specs.Prelude.{◌≡◌, List, ◌<◌, Option, Some, None, Result, Ok, Err}
use Rattle.definition.specs.Base.{Answer}
use Rattle.definition.specs.Tables.{row_limit}
use Rattle.definition.specs.Pools.{Claim}
use Rattle.definition.specs.Request as R
use Rattle.definition.specs.Calls.{pools_of, owners_of}
use Rattle.tables.specs.Views.{range_of, input_of, state_view}
use Rattle.tables.specs.Whole.{holders, pushed_range, pushed_input}
use Rattle.tables.specs.declared.Holders.{Holders}
use Rattle.tables.specs.declared.State.{State}
use Rattle.choose.specs.declared.Refusal.{Refusal}
use Rattle.request.specs.declared.Said.{Said}
use Rattle.decide.specs.Outcome.{bases_in, after}
use Rattle.decide.specs.Granted.{saying, numbers_of}
use Rattle.decide.specs.declared.Bases.{Bases}
use Rattle.decide.specs.declared.Rows.{Rows}
use Rattle.decide.specs.declared.Rows.TheVariants as W
use Rattle.decide.specs.declared.Granted.{Granted}

-- each row at the end of its table
abbrev pub kept_rows : Rows → Holders → Holders
kept_rows (W.Mmio r) h = holders (pushed_range h.mmio (range_of r)) h.pio h.input h.host h.device h.event h.lpi
kept_rows (W.Pio r) h = holders h.mmio (pushed_range h.pio (range_of r)) h.input h.host h.device h.event h.lpi
kept_rows (W.Input r) h = holders h.mmio h.pio (pushed_input h.input (input_of r)) h.host h.device h.event h.lpi
kept_rows (W.Host r) h = holders h.mmio h.pio h.input (pushed_range h.host (range_of r)) h.device h.event h.lpi
kept_rows (W.Msi three) h =
    holders h.mmio h.pio h.input h.host (pushed_range h.device (range_of three.device)) (pushed_range h.event (range_of three.event)) (pushed_range h.lpi (range_of three.lpi))

-- each row that is to be stored has a place
abbrev pub RowsFree : Rows → Holders → Type 0
RowsFree (W.Mmio r) h = h.mmio.n < row_limit
RowsFree (W.Pio r) h = h.pio.n < row_limit
RowsFree (W.Input r) h = h.input.n < row_limit
RowsFree (W.Host r) h = h.host.n < row_limit
RowsFree (W.Msi three) h = (h.device.n < row_limit) × ((h.event.n < row_limit) × (h.lpi.n < row_limit))

-- the five numbers, the index 0
abbrev pub said_in : Said → State → State
said_in w s =
    record {
      auto = s.auto;
      fixed = s.fixed;
      held = s.held;
      owners = s.owners;
      number = w.number;
      index = 0;
      namespace = w.namespace;
      owner = w.owner;
      detail = w.detail;
    }

abbrev pub stored_in : Rows → State → State
stored_in rows s =
    record {
      auto = s.auto;
      fixed = s.fixed;
      held = s.held;
      owners = kept_rows rows s.owners;
      number = s.number;
      index = s.index;
      namespace = s.namespace;
      owner = s.owner;
      detail = s.detail;
    }

-- rows, if there are any, and the five numbers, whatever they are
abbrev pub kept_with : Option Rows → Said → State → State
kept_with (Some rows) w s = said_in w (stored_in rows s)
kept_with None w s = said_in w s

abbrev pub RoomFor : Option Rows → Holders → Type 0
RoomFor (Some rows) h = RowsFree rows h
RoomFor None h = Unit {0}

-- rows and zeros, or the numbers of a refusal
abbrev pub kept : Result Granted Refusal → State → State
kept (Ok g) s = said_in (saying 0 0 0 0) (stored_in g.rows s)
kept (Err y) s = said_in (numbers_of y) s

abbrev pub Room : Result Granted Refusal → Holders → Type 0
Room (Ok g) h = RowsFree g.rows h
Room (Err y) h = Unit {0}

abbrev pub bases_of : Result Granted Refusal → Option Bases
bases_of (Ok g) = Some g.bases
bases_of (Err y) = None

-- the definition's answer to a request on a state
abbrev pub answer : State → R.Request → Answer (List Claim)
answer s r = R.resolve (pools_of (state_view s)) (owners_of (state_view s)) r

pub record Finds (s : State) (r : R.Request) (g : Result Granted Refusal) : Type 0 where
  pub free : Room g s.owners
  pub state : state_view (kept g s) ≡ after (state_view s) (answer s r)
  pub bases : bases_of g ≡ bases_in r.want (answer s r)
