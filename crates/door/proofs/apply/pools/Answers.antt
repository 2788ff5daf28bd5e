-- Each table is tidy, as all are. Assumes nothing.
use Rattle.definition.specs.Tables.{mmio, pio, input, host, device, event, lpi}
use Rattle.door.proofs.GivenLaws.{tidy_at}
use Rattle.door.proofs.apply.pools.Goals as goal

pub enter-requires : goal.enter-requires
enter-requires c = tidy_at c.args.p.now c.requires mmio

pub enter-requires-2 : goal.enter-requires-2
enter-requires-2 c = tidy_at c.args.p.now c.requires pio

pub enter-requires-3 : goal.enter-requires-3
enter-requires-3 c = tidy_at c.args.p.now c.requires input

pub enter-requires-4 : goal.enter-requires-4
enter-requires-4 c = tidy_at c.args.p.now c.requires host

pub enter-requires-5 : goal.enter-requires-5
enter-requires-5 c = tidy_at c.args.p.now c.requires device

pub enter-requires-6 : goal.enter-requires-6
enter-requires-6 c = tidy_at c.args.p.now c.requires event

pub enter-requires-7 : goal.enter-requires-7
enter-requires-7 c = tidy_at c.args.p.now c.requires lpi
