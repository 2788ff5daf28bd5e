-- No line at first, one more at each turn. Assumes nothing.
use Rattle.std.proofs.Common.{◌+◌, ◌≤◌, length, ap, arith, rules}
use Rattle.definition.specs.Plan.{written}
use Rattle.replay.proofs.TakeLaws.{none_yet, turn}
use Rattle.replay.proofs.take.take.Goals as goal

pub loop-i-init : goal.loop-i-init
loop-i-init c =
    let a = c.args in
    let e = none_yet a.lines.now a.selection.now (length a.chosen.now) in
    record { front = ap (λ v. written v a.chosen.now) e; count = ap length e; room = omega arith }

pub loop-i-preserved : goal.loop-i-preserved
loop-i-preserved c =
    let a = c.args in
    let l = c.loop-i in
    let room : l.at + c.min-n.result ≤ length a.chosen.now = omega arith in
    let t = turn a.lines.now a.selection.now a.chosen.now l.chosen c.copy_from_slice.new.self l.at l.i-index c.begins.result c.min-n.result _ c.loop-i-test.true l.invariant.front l.invariant.count c.begins.ensures (search rules) (omega arith) (search rules) in
    record { front = t.0; count = t.1; room = room }
