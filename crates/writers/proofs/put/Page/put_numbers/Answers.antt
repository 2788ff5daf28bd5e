-- Numbers put into a buffer: one number more, behind its tab. Assumes nothing.
use Rattle.std.proofs.Common.{arith}
use Rattle.writers.proofs.PutLaws.{numbers_none, tab_room, number_room, numbers_turn}
use Rattle.writers.proofs.put.Page.put_numbers.Goals as goal

pub loop-x-init : goal.loop-x-init
loop-x-init c = numbers_none c.args.self.now c.args.xs.now

pub put_byte-requires : goal.put_byte-requires
put_byte-requires c = tab_room c.args.self.now c.args.xs.now c.requires c.loop-x.x-index (omega arith) c.loop-x.self c.loop-x.invariant

pub put_number-requires : goal.put_number-requires
put_number-requires c = number_room c.args.self.now c.args.xs.now c.requires c.loop-x.x-index (omega arith) c.loop-x.self c.loop-x.invariant c.put_byte.new.self c.put_byte.ensures

pub loop-x-preserved : goal.loop-x-preserved
loop-x-preserved c =
    numbers_turn
    c.args.self.now
    c.args.xs.now
    c.requires
    c.loop-x.x-index
    (omega arith)
    c.loop-x.self
    c.loop-x.invariant
    c.put_byte.new.self
    c.put_byte.ensures
    c.put_number.new.self
    c.put_number.ensures
