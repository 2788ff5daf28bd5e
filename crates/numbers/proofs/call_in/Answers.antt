-- What the call leaves, and its answer's numbers told. Assumes nothing.
use Rattle.std.proofs.Common.{ap, ◌∙◌}
use Rattle.tables.specs.Views.{state_view}
use Rattle.numbers.specs.Reading.{said_by}
use Rattle.numbers.proofs.CallLaws.{served_read}
use Rattle.numbers.proofs.LentLaws.{call_told_is}
use Rattle.numbers.proofs.call_in.Goals as goal

pub returns : goal.returns
returns c =
    let xs = c.args.numbers.now in
    let s = state_view c.args.state.now in
    call_told_is xs s (state_view c.serve_as.new.s) c.peek.result c.args.answer.now c.tell.new.out _
    (c.serve_as.ensures ∙ served_read xs s c.read_call-read.result c.read_call-read.ensures) (ap said_by c.peek.ensures) c.tell.ensures
