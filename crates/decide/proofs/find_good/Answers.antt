-- Memory, ports, an input, a host IRQ: what the kind's tables give is the definition's answer. Assumes nothing.
use Rattle.std.proofs.Common.{ap, arith}
use Rattle.definition.specs.Tables.{mmio, pio, input, host}
use Rattle.request.specs.Asked.{want_of}
use Rattle.request.proofs.GoodLaws.{mmio_says, pio_says, request_says}
use Rattle.decide.proofs.AskLaws.{fit}
use Rattle.decide.proofs.FindLaws.{handed, mmio_is, mmio_found, pio_is, pio_found, host_is, host_found, input_is, input_found}
use Rattle.decide.proofs.find_good.Goals as goal

pub range-requires-clause-fit : goal.range-requires-clause-fit
range-requires-clause-fit c = fit c.args.s.now mmio c.requires.sound

pub range-requires-clause-some : goal.range-requires-clause-some
range-requires-clause-some c = let h = mmio_says _ _ _ (rw (ap want_of c.in-Mmio.is) at (request_says _ c.requires.good)) in rw c.needing-need.ensures (h.size, h.alignment)

pub returns-in_err-row-in-Mmio : goal.returns-in_err-row-in-Mmio
returns-in_err-row-in-Mmio c = handed _ c.requires.sound _ c.requires.good mmio _ _ _ _ (mmio_is _ c.requires.sound _ c.requires.good _ _ _ c.in-Mmio.is) c.from_residual.ensures.1 (rw c.needing-need.ensures at c.in_err-row-in-Mmio.ensures.told)

pub returns-in_ok-row-in-Mmio : goal.returns-in_ok-row-in-Mmio
returns-in_ok-row-in-Mmio c = rw c.one_row.ensures (mmio_found _ c.requires.sound _ c.requires.good _ _ _ c.in-Mmio.is _ c.in_ok-row-in-Mmio.ensures.sized (rw c.needing-need.ensures at c.in_ok-row-in-Mmio.ensures.told))

pub range-requires-in-Pio-clause-fit : goal.range-requires-in-Pio-clause-fit
range-requires-in-Pio-clause-fit c = fit c.args.s.now pio c.requires.sound

pub range-requires-in-Pio-clause-some : goal.range-requires-in-Pio-clause-some
range-requires-in-Pio-clause-some c = let h = pio_says _ _ _ (rw (ap want_of c.in-Pio.is) at (request_says _ c.requires.good)) in rw c.needing-need-in-Pio.ensures (h.size, h.alignment)

pub returns-in_err-row-in-Pio : goal.returns-in_err-row-in-Pio
returns-in_err-row-in-Pio c = handed _ c.requires.sound _ c.requires.good pio _ _ _ _ (pio_is _ c.requires.sound _ c.requires.good _ _ _ c.in-Pio.is) c.from_residual-in_err-row-in-Pio.ensures.1 (rw c.needing-need-in-Pio.ensures at c.in_err-row-in-Pio.ensures.told)

pub returns-in_ok-row-in-Pio : goal.returns-in_ok-row-in-Pio
returns-in_ok-row-in-Pio c = rw c.one_row-in-Pio.ensures (pio_found _ c.requires.sound _ c.requires.good _ _ _ c.in-Pio.is _ c.in_ok-row-in-Pio.ensures.sized (rw c.needing-need-in-Pio.ensures at c.in_ok-row-in-Pio.ensures.told))

pub range-requires-in-Host-clause-fit : goal.range-requires-in-Host-clause-fit
range-requires-in-Host-clause-fit c = fit c.args.s.now host c.requires.sound

pub range-requires-in-Host-clause-some : goal.range-requires-in-Host-clause-some
range-requires-in-Host-clause-some c = rw c.needing-need-in-Host.ensures (omega arith, omega arith)

pub returns-in_err-row-in-Host : goal.returns-in_err-row-in-Host
returns-in_err-row-in-Host c = handed _ c.requires.sound _ c.requires.good host _ _ _ _ (host_is _ c.requires.sound _ c.requires.good _ c.in-Host.is) c.from_residual-in_err-row-in-Host.ensures.1 (rw c.needing-need-in-Host.ensures at c.in_err-row-in-Host.ensures.told)

pub returns-in_ok-row-in-Host : goal.returns-in_ok-row-in-Host
returns-in_ok-row-in-Host c = rw c.one_row-in-Host.ensures (host_found _ c.requires.sound _ c.requires.good _ c.in-Host.is _ c.in_ok-row-in-Host.ensures.sized (rw c.needing-need-in-Host.ensures at c.in_ok-row-in-Host.ensures.told))

pub input-requires : goal.input-requires
input-requires c = record { fit = fit c.args.s.now input c.requires.sound }

pub returns-in_err-row-in-Input : goal.returns-in_err-row-in-Input
returns-in_err-row-in-Input c = handed _ c.requires.sound _ c.requires.good input _ _ _ _ (input_is _ c.requires.sound _ c.requires.good _ _ _ _ c.in-Input.is) c.from_residual-in_err-row-in-Input.ensures.1 c.in_err-row-in-Input.ensures.told

pub returns-in_ok-row-in-Input : goal.returns-in_ok-row-in-Input
returns-in_ok-row-in-Input c = rw c.one_row-in-Input.ensures (input_found _ c.requires.sound _ c.requires.good _ _ _ _ c.in-Input.is _ c.in_ok-row-in-Input.ensures.sized c.in_ok-row-in-Input.ensures.told)
