-- What is printed: the definition's answer to the bytes that were read. Assumes nothing.
use Rattle.lines.specs.Back.{pin_output}
use Rattle.standard_input.proofs.ReadLaws.{last_read, prints_front}
use Rattle.pinner.proofs.PinLaws.{alike_pin}
use Rattle.pinner.proofs.printed.Goals as goal

pub returns-in-Ok : goal.returns-in-Ok
returns-in-Ok c =
    let a = c.args in
    let w = c.pinned in
    rw c.in-Ok.is
    (prints_front pin_output alike_pin a.buf.now w.new.out c.in-Ok.n w.result _ (last_read _ c.in-Ok.n) c.requires.text_limit_in_bounds (rw c.in-Ok.is at c.requires.stopped) w.ensures.inside w.ensures.front)
