-- One line more. Assumes nothing.
use Rattle.std.proofs.Common.{◌*◌, ◌/◌, length, arith}
use Rattle.flat.specs.Flat.{request_size}
use Rattle.writers.proofs.EachLaws.{rest_is}
use Rattle.sizer.proofs.WantLaws.{asks_none, asks_room, asks_turn}
use Rattle.sizer.proofs.wants.put_wants.Goals as goal

pub loop-i-init : goal.loop-i-init
loop-i-init c = asks_none c.args.page.now c.args.list.now

pub put_want-requires-clause-room : goal.put_want-requires-clause-room
put_want-requires-clause-room c =
    let a = c.args in
    let l = c.loop-i in
    rw (rest_is a.list.now (request_size * l.i)) (asks_room a.page.now a.list.now l.i l.page l.invariant (length a.list.now / request_size) (omega arith) c.requires)

pub loop-i-preserved : goal.loop-i-preserved
loop-i-preserved c =
    let a = c.args in
    let l = c.loop-i in
    asks_turn a.page.now a.list.now l.i l.page l.invariant _ (rw (rest_is a.list.now (request_size * l.i)) at c.put_want.ensures)
