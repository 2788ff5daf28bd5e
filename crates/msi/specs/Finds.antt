-- What the chain of three asks of its tables, and what it finds. Assumes nothing.
use Rattle.std.specs.Prelude.{◌≡◌, true, false, ℕ, ◌≤◌, T, Result, Ok, Err}
use Rattle.definition.specs.Base.{all_of}
use Rattle.definition.specs.Tables.{pool_limit, row_limit, Kind, good_span, used}
use Rattle.tables.specs.Views.{pool_view}
use Rattle.tables.specs.declared.Pool.{Pool}
use Rattle.tables.specs.declared.Ranges.{Ranges}
use Rattle.tables.specs.declared.DeviceId.{DeviceId}
use Rattle.search.specs.Asks.{need_of}
use Rattle.search.specs.Finds.{InOrder}
use Rattle.choose.specs.Told.{told}
use Rattle.choose.specs.Ids.{event_choice, lpi_choice}
use Rattle.choose.specs.declared.Run.{Run}
use Rattle.choose.specs.declared.Refusal.{Refusal}
use Rattle.choose.specs.declared.Refusal.TheVariants.{Full}
use Rattle.msi.specs.Msi.{event_need, lpi_need, all_room, part, place_part, told_msi, msi_in}
use Rattle.msi.specs.declared.Msi.{Msi}
use Rattle.msi.specs.declared.MsiIds.{MsiIds}

-- what soundness gives of the tables of one kind
pub record Ready (k : Kind) (a f : Pool) (t : Ranges) : Type 0 where
  pub auto : InOrder a
  pub fixed : f.n ≤ pool_limit
  pub rows : t.n ≤ row_limit
  pub goods : T (all_of (good_span k) (used (pool_view a)))

-- the run is what the tables of events answer for the device: its events stand
abbrev pub EventsStand : Pool → Pool → Ranges → Msi → DeviceId → Run → Type 0
EventsStand a f t m d run = told (need_of (event_need m d)) (Ok run) ≡ place_part (part a f t) (need_of (event_need m d)) (event_choice m.event)

-- what the tables of LPIs answer
abbrev pub LpisAre : Pool → Pool → Ranges → Msi → Result Run Refusal → Type 0
LpisAre a f t m r = told (need_of (lpi_need m)) r ≡ place_part (part a f t) (need_of (lpi_need m)) (lpi_choice m.lpi)

-- what stands has a free row in each table
abbrev pub RoomIs : MsiIds → ℕ → ℕ → ℕ → Result MsiIds Refusal → Type 0
RoomIs ids dn en ln (Ok x) = (all_room dn en ln ≡ true) × (x ≡ ids)
RoomIs ids dn en ln (Err y) = (all_room dn en ln ≡ false) × (y ≡ Full)

-- the definition's answer over the three kinds' used rows
abbrev pub Found : Pool → Pool → Ranges → Pool → Pool → Ranges → Pool → Pool → Ranges → Msi → Result MsiIds Refusal → Type 0
Found da df dt ea ef et la lf lt m r = told_msi m r ≡ msi_in (part da df dt) (part ea ef et) (part la lf lt) m
