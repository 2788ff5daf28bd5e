-- The choice of a DeviceID, an EventID or an LPI as a plain one, and as the definition's. Assumes nothing.
use Rattle.std.specs.Prelude.{ℕ}
use Rattle.definition.specs.Request as R
use Rattle.tables.specs.declared.DeviceId.{DeviceId}
use Rattle.tables.specs.declared.EventId.{EventId}
use Rattle.tables.specs.declared.Lpi.{Lpi}
use Rattle.choose.specs.Told.{choice_of}
use Rattle.choose.specs.declared.Choice.{Choice}
use Rattle.choose.specs.declared.Choice.TheVariants.{Auto, Fixed}

abbrev pub plain_by : {A : Type 0} → (A → ℕ) → Choice A → Choice ℕ
plain_by number Auto = Auto
plain_by number (Fixed id) = Fixed (number id)

abbrev pub plain_device : Choice DeviceId → Choice ℕ
plain_device = plain_by (λ d. d.0)

abbrev pub plain_event : Choice EventId → Choice ℕ
plain_event = plain_by (λ e. e.0)

abbrev pub plain_lpi : Choice Lpi → Choice ℕ
plain_lpi = plain_by (λ l. l.0)

abbrev pub device_choice : Choice DeviceId → R.Choice
device_choice c = choice_of (plain_device c)

abbrev pub event_choice : Choice EventId → R.Choice
event_choice c = choice_of (plain_event c)

abbrev pub lpi_choice : Choice Lpi → R.Choice
lpi_choice c = choice_of (plain_lpi c)
