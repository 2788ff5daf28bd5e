-- What the tables of each kind tell, and the verdict on it. Assumes nothing.
use Rattle.std.proofs.Common.{sym, ◌∙◌}
use Rattle.definition.specs.Tables.{mmio, pio, input, host, device, event, lpi}
use Rattle.door.proofs.DecideLaws.{decides}
use Rattle.door.proofs.GivenLaws.{fit}
use Rattle.door.proofs.apply.look.Goals as goal

pub told-requires : goal.told-requires
told-requires c = fit c.args.s.now c.requires mmio

pub told-requires-2 : goal.told-requires-2
told-requires-2 c = fit c.args.s.now c.requires pio

pub input-requires : goal.input-requires
input-requires c = fit c.args.s.now c.requires input

pub told-requires-3 : goal.told-requires-3
told-requires-3 c = fit c.args.s.now c.requires host

pub told-requires-4 : goal.told-requires-4
told-requires-4 c = fit c.args.s.now c.requires device

pub told-requires-5 : goal.told-requires-5
told-requires-5 c = fit c.args.s.now c.requires event

pub told-requires-6 : goal.told-requires-6
told-requires-6 c = fit c.args.s.now c.requires lpi

pub returns : goal.returns
returns c =
    rw c.judge.ensures
    (decides c.args.s.now c.requires c.args.c _ (sym c.in_ok-q.was ∙ c.asked.ensures.is) c.asked.ensures.fit _ (record {
      mmio = c.told.ensures;
      pio = c.told-2.ensures;
      input = rw c.limits_of.ensures at c.input.ensures.tells;
      host = c.told-3.ensures;
      device = c.told-4.ensures;
      event = c.told-5.ensures;
      lpi = c.told-6.ensures;
    }))
