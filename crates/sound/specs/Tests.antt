-- The tests of wired tables, of a kind's tables and of a whole state, in the order in which code makes them. KindLaws.antt and StateLaws.antt tie them to the definition. Assumes nothing.
use Rattle.std.specs.Prelude.{Bool, true, false, not, ◌&&◌}
use Rattle.definition.specs.Tables.{row_limit, Kind, mmio, pio, input, host, device, event, lpi, Row, same_row, meets, clash, good_row, used, sound_table, begins}
use Rattle.tables.specs.Views.{inputs_view}
use Rattle.tables.specs.declared.Pool.{Pool}
use Rattle.tables.specs.declared.Ranges.{Ranges}
use Rattle.tables.specs.declared.Inputs.{Inputs}
use Rattle.tables.specs.declared.State.{State}
use Rattle.table_tests.specs.declared.limits.Limits.{Limits}
use Rattle.table_tests.specs.Tests.{limits_of, blank_input, sound_pool_in, sound_ranges_in, holders_in}

-- ---- wired rows

-- reservations want an input once, owners may share it
abbrev pub input_fit : Bool → Row → Row → Bool
input_fit true a b = not (meets a b)
input_fit false a b = not (clash a b)

unfoldable pub sound_inputs : Bool → Inputs → Bool
sound_inputs single t = sound_table row_limit (same_row blank_input) (good_row input) (input_fit single) (inputs_view t)

-- ---- the tables of one kind: what an addition reads, and what a request reads

unfoldable pub pools_in : Limits → Pool → Pool → Bool
pools_in l auto fixed = sound_pool_in l auto && sound_pool_in l fixed

unfoldable pub given_ranges : Limits → Pool → Pool → Ranges → Bool
given_ranges l auto fixed held = pools_in l auto fixed && sound_ranges_in l held

unfoldable pub set_ranges : Limits → Pool → Pool → Ranges → Ranges → Bool
set_ranges l auto fixed held owners = pools_in l auto fixed && holders_in l held owners

unfoldable pub given_inputs : Pool → Pool → Inputs → Bool
given_inputs auto fixed held = pools_in (limits_of input) auto fixed && sound_inputs true held

unfoldable pub set_inputs : Pool → Pool → Inputs → Inputs → Bool
set_inputs auto fixed held owners =
    given_inputs auto fixed held && (sound_inputs false owners && begins (used (inputs_view held)) (used (inputs_view owners)))

-- ---- .. of a whole state

abbrev pub given_of : State → Kind → Bool
given_of s mmio = given_ranges (limits_of mmio) s.auto.mmio s.fixed.mmio s.held.mmio
given_of s pio = given_ranges (limits_of pio) s.auto.pio s.fixed.pio s.held.pio
given_of s input = given_inputs s.auto.input s.fixed.input s.held.input
given_of s host = given_ranges (limits_of host) s.auto.host s.fixed.host s.held.host
given_of s device = given_ranges (limits_of device) s.auto.device s.fixed.device s.held.device
given_of s event = given_ranges (limits_of event) s.auto.event s.fixed.event s.held.event
given_of s lpi = given_ranges (limits_of lpi) s.auto.lpi s.fixed.lpi s.held.lpi

abbrev pub set_of : State → Kind → Bool
set_of s mmio = set_ranges (limits_of mmio) s.auto.mmio s.fixed.mmio s.held.mmio s.owners.mmio
set_of s pio = set_ranges (limits_of pio) s.auto.pio s.fixed.pio s.held.pio s.owners.pio
set_of s input = set_inputs s.auto.input s.fixed.input s.held.input s.owners.input
set_of s host = set_ranges (limits_of host) s.auto.host s.fixed.host s.held.host s.owners.host
set_of s device = set_ranges (limits_of device) s.auto.device s.fixed.device s.held.device s.owners.device
set_of s event = set_ranges (limits_of event) s.auto.event s.fixed.event s.held.event s.owners.event
set_of s lpi = set_ranges (limits_of lpi) s.auto.lpi s.fixed.lpi s.held.lpi s.owners.lpi
