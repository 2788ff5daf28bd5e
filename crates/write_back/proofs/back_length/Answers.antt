-- How many bytes the pinned text has: one line more, and where the lines end. Assumes nothing.
use Rattle.std.proofs.Common.{◌∙◌, ap, length, arith}
use Rattle.write_back.proofs.WalkLaws.{walk_ends, walk_turn}
use Rattle.write_back.proofs.back_length.Goals as goal

pub pinned_length-requires : goal.pinned_length-requires
pinned_length-requires c =
    let l = c.loop-line in
    let i = l.invariant in
    let t = walk_turn c.args.text.now c.args.results.now l.rest.now l.records.now i.done i.walked c.in-Some.line.now c.in-Some.behind.now c.in-Some.ensures in
    t.pinnable

pub overflow_add-count : goal.overflow_add-count
overflow_add-count c =
    let l = c.loop-line in
    let i = l.invariant in
    let t = walk_turn c.args.text.now c.args.results.now l.rest.now l.records.now i.done i.walked c.in-Some.line.now c.in-Some.behind.now c.in-Some.ensures in
    omega (arith, c.pinned_length.ensures, i.counted, t.long, t.goes.small, c.requires.short)

pub overflow_add-count-in-Some : goal.overflow_add-count-in-Some
overflow_add-count-in-Some c =
    let l = c.loop-line in
    let i = l.invariant in
    let t = walk_turn c.args.text.now c.args.results.now l.rest.now l.records.now i.done i.walked c.in-Some.line.now c.in-Some.behind.now c.in-Some.ensures in
    omega (arith, c.pinned_length.ensures, i.counted, t.long, t.goes.small, c.requires.short)

pub records_behind-records-requires : goal.records_behind-records-requires
records_behind-records-requires c =
    let l = c.loop-line in
    let i = l.invariant in
    let t = walk_turn c.args.text.now c.args.results.now l.rest.now l.records.now i.done i.walked c.in-Some.line.now c.in-Some.behind.now c.in-Some.ensures in
    t.used

pub loop-line-smaller : goal.loop-line-smaller
loop-line-smaller c =
    let l = c.loop-line in
    let i = l.invariant in
    let t = walk_turn c.args.text.now c.args.results.now l.rest.now l.records.now i.done i.walked c.in-Some.line.now c.in-Some.behind.now c.in-Some.ensures in
    t.shorter

pub loop-line-preserved : goal.loop-line-preserved
loop-line-preserved c =
    let l = c.loop-line in
    let i = l.invariant in
    let t = walk_turn c.args.text.now c.args.results.now l.rest.now l.records.now i.done i.walked c.in-Some.line.now c.in-Some.behind.now c.in-Some.ensures in
    record { done = t.then; walked = rw c.records_behind-records.ensures t.goes; counted = omega (arith, c.pinned_length.ensures, i.counted, t.long) }

pub returns : goal.returns
returns c =
    let l = c.loop-line in
    let i = l.invariant in
    i.counted ∙ ap length (walk_ends c.args.text.now c.args.results.now l.rest.now l.records.now i.done i.walked c.in_default.ensures)
