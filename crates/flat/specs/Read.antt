-- What the code reads of a request's numbers: something, where the definition's test passes. Assumes nothing.
use Rattle.std.specs.Prelude.{Bool, true, false, ℕ, zero, suc, Option, Some, None}
use Rattle.choose.specs.declared.Choice.{Choice}
use Rattle.choose.specs.declared.Choice.TheVariants.{Auto, Fixed}

abbrev pub if_read : {A : Type 0} → Bool → A → Option A
if_read true a = Some a
if_read false a = None

-- the choice of a DeviceID, an EventID or an LPI, each of its own type
abbrev pub id_at : {A : Type 0} → (ℕ → A) → ℕ → ℕ → Choice A
id_at of zero n = Auto
id_at of (suc code) n = Fixed (of n)
