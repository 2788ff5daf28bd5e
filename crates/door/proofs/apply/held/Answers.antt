-- Each row that is to be stored has a place. Assumes nothing.
use Rattle.definition.specs.Tables.{mmio, pio, input, host, device, event, lpi}
use Rattle.door.proofs.apply.held.Goals as goal

pub range-requires-2 : goal.range-requires-2
range-requires-2 c = rw c.range.ensures (c.requires mmio)

pub range-requires-4 : goal.range-requires-4
range-requires-4 c = rw c.range-3.ensures (c.requires pio)

pub input-requires-2 : goal.input-requires-2
input-requires-2 c = rw c.input.ensures (c.requires input)

pub range-requires-6 : goal.range-requires-6
range-requires-6 c = rw c.range-5.ensures (c.requires host)

pub range-requires-8 : goal.range-requires-8
range-requires-8 c = rw c.range-7.ensures (c.requires device)

pub range-requires-10 : goal.range-requires-10
range-requires-10 c = rw c.range-9.ensures (c.requires event)

pub range-requires-12 : goal.range-requires-12
range-requires-12 c = rw c.range-11.ensures (c.requires lpi)
