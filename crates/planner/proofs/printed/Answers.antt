-- What is printed: the definition's output of the bytes that were read. Assumes nothing.
use Rattle.lines.specs.Text.{output}
use Rattle.standard_input.proofs.ReadLaws.{last_read, prints_front}
use Rattle.planner.proofs.PrintLaws.{alike_output, front_inside, front_is}
use Rattle.planner.proofs.printed.Goals as goal

pub returns-in-Ok : goal.returns-in-Ok
returns-in-Ok c =
    let a = c.args in
    let r = c.respond in
    let room = c.requires.output_limit_in_bounds in
    let stopped = rw c.in-Ok.is at c.requires.stopped in
    rw (c.in-Ok.is, c.unwrap_or.ensures)
    (prints_front
    output
    alike_output
    a.buf.now
    r.new.out
    c.in-Ok.n
    _
    _
    (last_read _ c.in-Ok.n)
    c.requires.text_limit_in_bounds
    stopped
    (front_inside _ a.out.now _ _ room r.ensures)
    (front_is _ a.out.now _ _ room r.ensures))
