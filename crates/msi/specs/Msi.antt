-- What an MSI request asks of its three tables, what comes of their answers, and the definition's answer over the lists of the three kinds. Assumes nothing.
use Rattle.std.specs.Prelude.{Bool, true, false, ◌&&◌, List, [], ◌∷◌, ℕ, ◌+◌, ◌^◌, ltb, Result, Ok, Err}
use Rattle.definition.specs.Base.{full, Answer, accepted, refused, require, ◌then◌}
use Rattle.definition.specs.Tables.{row_limit, mmio, pio, input, host, device, event, lpi, Span, Row, used}
use Rattle.definition.specs.Pools.{at_kind, Holders, Claim, room}
use Rattle.definition.specs.Request.{row_at, automatic, fixed, Pools, claims}
use Rattle.definition.specs.Request as R
use Rattle.tables.specs.Views.{pool_view, ranges_view}
use Rattle.tables.specs.declared.Pool.{Pool}
use Rattle.tables.specs.declared.Ranges.{Ranges}
use Rattle.tables.specs.declared.RangeRow.{RangeRow}
use Rattle.tables.specs.declared.DeviceId.{DeviceId}
use Rattle.tables.specs.declared.EventId.{EventId}
use Rattle.tables.specs.declared.Lpi.{Lpi}
use Rattle.search.specs.Asks.{need_of}
use Rattle.tables.specs.declared.Kind.TheVariants as K
use Rattle.search.specs.declared.Need.{Need}
use Rattle.choose.specs.Told.{refusal_of, place_in}
use Rattle.choose.specs.Ids.{device_choice, event_choice, lpi_choice}
use Rattle.choose.specs.declared.Refusal.{Refusal}
use Rattle.choose.specs.declared.Refusal.TheVariants.{Full}
use Rattle.msi.specs.declared.Msi.{Msi}
use Rattle.msi.specs.declared.MsiIds.{MsiIds}
use Rattle.msi.specs.declared.MsiRows.{MsiRows}

-- ---- what each table is asked

abbrev pub device_need : Msi → Need
device_need m = record { kind = K.Device; controller = m.controller; its = m.its; device = 0; size = 1; alignment = 1; requester = m.requester }

abbrev pub event_need : Msi → DeviceId → Need
event_need m d = record { kind = K.Event; controller = m.controller; its = m.its; device = d.0; size = m.count; alignment = 1; requester = m.requester }

abbrev pub lpi_need : Msi → Need
lpi_need m = record { kind = K.Lpi; controller = m.controller; its = 0; device = 0; size = m.count; alignment = 1; requester = m.requester }

-- ---- what a table's answer means

abbrev pub if_fits : Bool → ℕ → ℕ
if_fits true b = b
if_fits false b = 0

-- a number as one of 32 bits: what sound tables give is one, law `stays`
abbrev pub narrowed : ℕ → ℕ
narrowed b = if_fits (ltb b (2 ^ 32)) b

-- ---- what comes of all three

-- each of the three tables has a free row
abbrev pub all_room : ℕ → ℕ → ℕ → Bool
all_room dn en ln = ltb dn row_limit && (ltb en row_limit && ltb ln row_limit)

abbrev pub pick_room : Bool → MsiIds → Result MsiIds Refusal
pick_room true ids = Ok ids
pick_room false ids = Err Full

-- each refusal in its turn, and room last
abbrev pub chained : Result DeviceId Refusal → Result EventId Refusal → Result Lpi Refusal → ℕ → ℕ → ℕ → Result MsiIds Refusal
chained (Err y) second third dn en ln = Err y
chained (Ok d) (Err y) third dn en ln = Err y
chained (Ok d) (Ok e) (Err y) dn en ln = Err y
chained (Ok d) (Ok e) (Ok l) dn en ln = pick_room (all_room dn en ln) (record { device = d; event = e; lpi = l })

-- the row of a need from a number on
abbrev pub row_from : Need → ℕ → RangeRow
row_from n b = record { controller = n.controller; its = n.its; device = n.device; start = b; end = b + n.size; owner = n.requester }

abbrev pub rows_of : Msi → DeviceId → EventId → Lpi → MsiRows
rows_of m d e l = record { device = row_from (device_need m) d.0; event = row_from (event_need m d) e.0; lpi = row_from (lpi_need m) l.0 }

-- ---- the same in the definition's terms

abbrev pub msi_rows : Msi → DeviceId → EventId → Lpi → List Claim
msi_rows m d e l =
    at_kind device (row_at (need_of (device_need m)) d.0) ∷ at_kind event (row_at (need_of (event_need m d)) e.0) ∷ at_kind lpi (row_at (need_of (lpi_need m)) l.0) ∷ []

abbrev pub told_msi : Msi → Result MsiIds Refusal → Answer (List Claim)
told_msi m (Ok ids) = accepted (msi_rows m ids.device ids.event ids.lpi)
told_msi m (Err y) = refused (refusal_of y)

-- the used rows of one kind's tables
pub record Part : Type 0 where
  pub auto : List Span
  pub fixed : List Span
  pub rows : List Row

abbrev pub part : Pool → Pool → Ranges → Part
part a f t = record { auto = used (pool_view a); fixed = used (pool_view f); rows = used (ranges_view t) }

abbrev pub place_part : Part → R.Need → R.Choice → Answer Row
place_part p n c = place_in p.auto p.fixed p.rows n c

abbrev pub msi_pools : Part → Part → Part → Pools
msi_pools pd pe pl automatic mmio = []
msi_pools pd pe pl automatic pio = []
msi_pools pd pe pl automatic input = []
msi_pools pd pe pl automatic host = []
msi_pools pd pe pl automatic device = pd.auto
msi_pools pd pe pl automatic event = pe.auto
msi_pools pd pe pl automatic lpi = pl.auto
msi_pools pd pe pl fixed mmio = []
msi_pools pd pe pl fixed pio = []
msi_pools pd pe pl fixed input = []
msi_pools pd pe pl fixed host = []
msi_pools pd pe pl fixed device = pd.fixed
msi_pools pd pe pl fixed event = pe.fixed
msi_pools pd pe pl fixed lpi = pl.fixed

abbrev pub msi_holders : Part → Part → Part → Holders
msi_holders pd pe pl mmio = []
msi_holders pd pe pl pio = []
msi_holders pd pe pl input = []
msi_holders pd pe pl host = []
msi_holders pd pe pl device = pd.rows
msi_holders pd pe pl event = pe.rows
msi_holders pd pe pl lpi = pl.rows

abbrev pub asked_msi : Msi → R.Want
asked_msi m = R.msi_want m.controller m.its m.count (device_choice m.device) (event_choice m.event) (lpi_choice m.lpi)

-- the definition's `claims` and its room test, which read the lists of the three kinds and no others: law `msi_is`
abbrev pub msi_in : Part → Part → Part → Msi → Answer (List Claim)
msi_in pd pe pl m =
    claims (msi_pools pd pe pl) (msi_holders pd pe pl) m.requester (asked_msi m)
    then λ cs. require (room (msi_holders pd pe pl) cs) full (accepted cs)
