-- A turn that is skipped, one that is answered. Assumes nothing.
use Rattle.std.proofs.Common.{arith}
use Rattle.tables.specs.Views.{state_view}
use Rattle.request.specs.Asked.{request_of}
use Rattle.listed.proofs.TurnLaws.{refused_skips, roomless_skips, part_answers}
use Rattle.listed.proofs.turn.Goals as goal
use Rattle.listed.proofs.turn.Goals.{then-s-ne0-via-then-s-ne0, then-s-ne0-via-else-s-ne0+then-results-i}

pub returns-then-s-ne0 : goal.returns-then-s-ne0
returns-then-s-ne0 c =
    let a = c.args in
    elim c.then-s-ne0.branch [
      | then-s-ne0-via-then-s-ne0 w ↦ refused_skips a.i (request_of a.r) (state_view a.s) a.results.now w.if-s-ne0.true
      | then-s-ne0-via-else-s-ne0+then-results-i w ↦ roomless_skips a.i (request_of a.r) (state_view a.s) a.results.now w.if-results-i.true
    ]

pub returns : goal.returns
returns c =
    let a = c.args in
    part_answers a.i (request_of a.r) (state_view a.s) a.results.now _ _ _ (omega arith) c.if-results-i.false c.allocate_into-t.ensures c.number.ensures
