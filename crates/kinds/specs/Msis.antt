-- What is promised of an MSI call over the tables of its three kinds. Assumes nothing.
use Rattle.std.specs.Prelude.{◌≡◌, Bool, true, ◌&&◌, List, [], ◌∷◌, ℕ, ◌<◌, Result, Ok, Err}
use Rattle.definition.specs.Tables.{pool_limit, row_limit, Kind, mmio, pio, input, host, device, event, lpi, blank_span, blank_row}
use Rattle.definition.specs.Base.{malformed, bad_input, Said, silence, tell, Answer, accepted, refused, require}
use Rattle.definition.specs.Pools.{Claim, rows_of}
use Rattle.definition.specs.Request as R
use Rattle.definition.specs.Plan.{base_at}
use Rattle.definition.specs.Calls.{State, state, zeros, push_all, want, serve}
use Rattle.tables.specs.Views.{pool_view, ranges_view}
use Rattle.tables.specs.declared.Ranges.{Ranges}
use Rattle.table_tests.specs.Tests.{limits_of}
use Rattle.sound.specs.Tests.{set_ranges}
use Rattle.choose.specs.Told.{refusal_of}
use Rattle.choose.specs.declared.Refusal.{Refusal}
use Rattle.msi.specs.Msi.{part, told_msi, msi_in}
use Rattle.msi.specs.declared.Msi.{Msi}
use Rattle.msi.specs.declared.MsiIds.{MsiIds}
use Rattle.kinds.specs.Got.{claims_got}
use Rattle.kinds.specs.declared.RangeTables.{RangeTables}
use Rattle.kinds.specs.declared.MsiTables.{MsiTables}
use Rattle.kinds.specs.declared.Answer.{Answer as Answered}
use Rattle.kinds.specs.Kinds.{pool_as, answer_of, asked}

abbrev pub MsiChosen : Type 0
MsiChosen = Result MsiIds Refusal

abbrev pub MsiAnswer : Type 0
MsiAnswer = Answered MsiTables MsiIds

abbrev pub keeping : RangeTables → Ranges → RangeTables
keeping t o = record { auto = t.auto; fixed = t.fixed; held = t.held; owners = o }

abbrev pub set_of : Kind → RangeTables → Bool
set_of k t = set_ranges (limits_of k) t.auto t.fixed t.held t.owners

unfoldable pub set_msi : MsiTables → Bool
set_msi t = set_of device t.device && (set_of event t.event && set_of lpi t.lpi)

-- a state with tables of the three kinds
abbrev pub among_three : {A : Type 0} → A → A → A → (Kind → A) → Kind → A
among_three d e l rest mmio = rest mmio
among_three d e l rest pio = rest pio
among_three d e l rest input = rest input
among_three d e l rest host = rest host
among_three d e l rest device = d
among_three d e l rest event = e
among_three d e l rest lpi = l

abbrev pub msi_state : MsiTables → Said → State
msi_state t w =
    state
    (λ u. among_three (pool_as (pool_view t.device.auto) (pool_view t.device.fixed) u) (pool_as (pool_view t.event.auto) (pool_view t.event.fixed) u) (pool_as (pool_view t.lpi.auto) (pool_view t.lpi.fixed) u) (λ j. zeros pool_limit blank_span))
    (among_three (ranges_view t.device.held) (ranges_view t.event.held) (ranges_view t.lpi.held) (λ j. zeros row_limit (blank_row j)))
    (among_three (ranges_view t.device.owners) (ranges_view t.event.owners) (ranges_view t.lpi.owners) (λ j. zeros row_limit (blank_row j)))
    w

abbrev pub three : List Kind
three = device ∷ event ∷ lpi ∷ []

abbrev pub said_msi : MsiChosen → Said
said_msi (Ok ids) = silence
said_msi (Err z) = tell 0 (refusal_of z)

-- the first numbers of the three rows that an accepted answer was granted; the refusal of a refused one
abbrev pub bases_said : Answer (List Claim) → MsiChosen → Type 0
bases_said (accepted cs) (Ok ids) = (ids.device.0 ≡ base_at 0 cs) × (ids.event.0 ≡ base_at 1 cs) × (ids.lpi.0 ≡ base_at 2 cs)
bases_said (accepted cs) (Err z) = ⊥
bases_said (refused y) (Ok ids) = ⊥
bases_said (refused y) (Err z) = refusal_of z ≡ y

pub record ServesMsi (t : MsiTables) (q slot : ℕ) (wanted : R.Want) (r : MsiAnswer) : Type 0 where
  pub tables : (i : Said) → msi_state r.tables (said_msi r.chosen) ≡ serve three (want (asked q slot wanted)) (msi_state t i)
  pub answer : (i : Said) → bases_said (answer_of three (asked q slot wanted) (msi_state t i)) r.chosen

-- ---- the core under it

abbrev pub SomeEvents : Bool → Msi → Type 0
SomeEvents good m = good ≡ true → 0 < m.count

pub record MsiServed (t : MsiTables) (good : Bool) (m : Msi) (r : MsiAnswer) : Type 0 where
  pub answer :
      told_msi m r.chosen
      ≡ require (set_msi t) malformed
      (require good bad_input
      (msi_in (part t.device.auto t.device.fixed t.device.owners) (part t.event.auto t.event.fixed t.event.owners) (part t.lpi.auto t.lpi.fixed t.lpi.owners) m))
  pub device_kept : r.tables.device ≡ keeping t.device r.tables.device.owners
  pub event_kept : r.tables.event ≡ keeping t.event r.tables.event.owners
  pub lpi_kept : r.tables.lpi ≡ keeping t.lpi r.tables.lpi.owners
  pub devices : ranges_view r.tables.device.owners ≡ push_all (ranges_view t.device.owners) (rows_of device (claims_got (told_msi m r.chosen)))
  pub events : ranges_view r.tables.event.owners ≡ push_all (ranges_view t.event.owners) (rows_of event (claims_got (told_msi m r.chosen)))
  pub lpis : ranges_view r.tables.lpi.owners ≡ push_all (ranges_view t.lpi.owners) (rows_of lpi (claims_got (told_msi m r.chosen)))
