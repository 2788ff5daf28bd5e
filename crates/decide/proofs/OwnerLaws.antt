-- Owner tables that have each grown by their rows among the granted ones are the owner tables with the granted rows. Assumes nothing.
use mathlib.Core.Path.{◌≡◌}
use mathlib.Core.List.{List}
use Rattle.definition.specs.Tables.{Kind, mmio, pio, input, host, device, event, lpi}
use Rattle.definition.specs.Pools.{Claim, rows_of}
use Rattle.definition.specs.Calls.{push_all}
use Rattle.tables.specs.Views.{ranges_view, inputs_view, holders_view}
use Rattle.tables.specs.declared.Holders.{Holders}

pub record Grown (h t : Holders) (cs : List Claim) : Type 0 where
  pub mmio : ranges_view t.mmio ≡ push_all (ranges_view h.mmio) (rows_of mmio cs)
  pub pio : ranges_view t.pio ≡ push_all (ranges_view h.pio) (rows_of pio cs)
  pub input : inputs_view t.input ≡ push_all (inputs_view h.input) (rows_of input cs)
  pub host : ranges_view t.host ≡ push_all (ranges_view h.host) (rows_of host cs)
  pub device : ranges_view t.device ≡ push_all (ranges_view h.device) (rows_of device cs)
  pub event : ranges_view t.event ≡ push_all (ranges_view h.event) (rows_of event cs)
  pub lpi : ranges_view t.lpi ≡ push_all (ranges_view h.lpi) (rows_of lpi cs)

pub grown : (h t : Holders) (cs : List Claim) → Grown h t cs → (j : Kind) → holders_view t j ≡ push_all (holders_view h j) (rows_of j cs)
grown h t cs g mmio = g.mmio
grown h t cs g pio = g.pio
grown h t cs g input = g.input
grown h t cs g host = g.host
grown h t cs g device = g.device
grown h t cs g event = g.event
grown h t cs g lpi = g.lpi
