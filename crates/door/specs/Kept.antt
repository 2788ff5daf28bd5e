-- A state with what a verdict stores in it. Assumes nothing.
use Rattle.std.specs.Prelude.{◌≡◌, T as Holds, Option, Some, None}
use Rattle.definition.specs.Tables.{pool_limit, nature, Kind, mmio, pio, input, host, device, event, lpi, same_span, blank_span, tidy}
use Rattle.definition.specs.Calls.{saying}
use Rattle.tables.specs.Views.{pool_of, pool_view, state_view}
use Rattle.tables.specs.Whole.{holders}
use Rattle.tables.specs.declared.Kind as T
use Rattle.tables.specs.declared.Kind.TheVariants as K
use Rattle.tables.specs.declared.Pools.{Pools}
use Rattle.tables.specs.declared.Holders.{Holders}
use Rattle.tables.specs.declared.State.{State}
use Rattle.insert.specs.Answers.{heard}
use Rattle.request.specs.Calls.{call_of}
use Rattle.request.specs.declared.call.Use.{Use}
use Rattle.request.specs.declared.call.Use.TheVariants as U
use Rattle.request.specs.declared.call.Call.{Call}
use Rattle.request.specs.declared.call.Call.TheVariants as C
use Rattle.lent_table.specs.Store.{Free, put_range, put_input}
use Rattle.adding.specs.Adds.{adds_of, ranges_in, rows_in, inputs_in}
use Rattle.adding.specs.Judged.{pool_put_of, held_put_of, input_put_of, entered_view}
use Rattle.adding.specs.Looks.{Tells, TellsInput}
use Rattle.adding.specs.declared.Adds.{Adds}
use Rattle.adding.specs.declared.Replies.{Replies}
use Rattle.adding.specs.declared.Verdict.{Verdict}
use Rattle.door.specs.Applied.{apply_of}

-- the count of each table is within its size, and unused rows are zero
unfoldable pub TidyPools : Pools → Type 0
TidyPools p = (k : Kind) → Holds (tidy pool_limit (same_span blank_span) (pool_view (pool_of p k)))

-- a kind as the code names it
abbrev pub kind_in : Kind → T.Kind
kind_in mmio = K.Mmio
kind_in pio = K.Pio
kind_in input = K.Input
kind_in host = K.Host
kind_in device = K.Device
kind_in event = K.Event
kind_in lpi = K.Lpi

-- q is p with the ranges that the verdict has for the pools of a use
abbrev pub PoolsKept : Verdict → Use → Pools → Pools → Type 0
PoolsKept v to p q = (k : Kind) → pool_view (pool_of q k) ≡ entered_view (pool_put_of v to (kind_in k)) (pool_view (pool_of p k))

abbrev pub held_with : Verdict → Holders → Holders
held_with v h =
    holders (put_range h.mmio (held_put_of v K.Mmio)) (put_range h.pio (held_put_of v K.Pio)) (put_input h.input (input_put_of v)) (put_range h.host (held_put_of v K.Host))
    (put_range h.device (held_put_of v K.Device)) (put_range h.event (held_put_of v K.Event)) (put_range h.lpi (held_put_of v K.Lpi))

-- each row that is to be stored has a place
abbrev pub FreeAt : Verdict → Holders → Kind → Type 0
FreeAt v h mmio = Free h.mmio.n (held_put_of v K.Mmio)
FreeAt v h pio = Free h.pio.n (held_put_of v K.Pio)
FreeAt v h input = Free h.input.n (input_put_of v)
FreeAt v h host = Free h.host.n (held_put_of v K.Host)
FreeAt v h device = Free h.device.n (held_put_of v K.Device)
FreeAt v h event = Free h.event.n (held_put_of v K.Event)
FreeAt v h lpi = Free h.lpi.n (held_put_of v K.Lpi)

abbrev pub HeldFree : Verdict → Holders → Type 0
HeldFree v h = (k : Kind) → FreeAt v h k

-- ---- a state with other tables, or other numbers

abbrev pub state : Pools → Pools → Holders → Holders → State → State
state a f h o s =
    record { auto = a; fixed = f; held = h; owners = o; number = s.number; index = s.index; namespace = s.namespace; owner = s.owner; detail = s.detail }

abbrev pub with_auto : Pools → State → State
with_auto p s = state p s.fixed s.held s.owners s

abbrev pub with_fixed : Pools → State → State
with_fixed p s = state s.auto p s.held s.owners s

abbrev pub with_held : Holders → State → State
with_held h s = state s.auto s.fixed h s.owners s

abbrev pub with_owners : Holders → State → State
with_owners o s = state s.auto s.fixed s.held o s

-- all that a verdict stores
pub record Kept (v : Verdict) (s t : State) : Type 0 where
  pub a : Pools
  pub f : Pools
  pub automatic : PoolsKept v U.Automatic s.auto a
  pub fixed : PoolsKept v U.Fixed s.fixed f
  pub is : state_view t ≡ saying (heard v.reply) (state_view (state a f (held_with v s.held) s.owners s))

-- what storing asks
pub record Ready (v : Verdict) (s : State) : Type 0 where
  pub auto : TidyPools s.auto
  pub fixed : TidyPools s.fixed
  pub free : HeldFree v s.held

-- the verdict on a call that adds: what it stores is the definition's. All others but a start leave the state as it is
pub record Decides (s : State) (c : Call) (v : Verdict) : Type 0 where
  pub ready : Ready v s
  pub after : (t : State) → Kept v s t → state_view t ≡ apply_of (call_of c) (state_view s)

-- every call that adds has a verdict
abbrev pub Looks : State → Call → Option Verdict → Type 0
Looks s c (Some v) = Decides s c v
Looks s c None = (None ≡ adds_of c) × ((c ≡ C.Start → ⊥) → state_view s ≡ apply_of (call_of c) (state_view s))

-- what all tables answer to a call
pub record AllTell (s : State) (q : Adds) (r : Replies) : Type 0 where
  pub mmio : Tells s.auto.mmio s.fixed.mmio s.held.mmio (nature mmio).floor (ranges_in q K.Mmio) (rows_in q K.Mmio) r.mmio
  pub pio : Tells s.auto.pio s.fixed.pio s.held.pio (nature pio).floor (ranges_in q K.Pio) (rows_in q K.Pio) r.pio
  pub input : TellsInput s.auto.input s.fixed.input s.held.input (nature input).floor (ranges_in q K.Input) (inputs_in q) r.input
  pub host : Tells s.auto.host s.fixed.host s.held.host (nature host).floor (ranges_in q K.Host) (rows_in q K.Host) r.host
  pub device : Tells s.auto.device s.fixed.device s.held.device (nature device).floor (ranges_in q K.Device) (rows_in q K.Device) r.device
  pub event : Tells s.auto.event s.fixed.event s.held.event (nature event).floor (ranges_in q K.Event) (rows_in q K.Event) r.event
  pub lpi : Tells s.auto.lpi s.fixed.lpi s.held.lpi (nature lpi).floor (ranges_in q K.Lpi) (rows_in q K.Lpi) r.lpi
