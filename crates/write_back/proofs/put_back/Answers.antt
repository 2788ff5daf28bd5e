-- The pinned text put on a page: one line more, and where the lines end. Assumes nothing.
use Rattle.write_back.proofs.WalkLaws.{walk_ends, walk_turn}
use Rattle.write_back.proofs.put_back.Goals as goal

pub put_pinned-requires-clause-pinnable : goal.put_pinned-requires-clause-pinnable
put_pinned-requires-clause-pinnable c =
    let l = c.loop-line in
    let i = l.invariant in
    let t = walk_turn c.args.text.now c.args.results.now l.rest.now l.records.now i.done i.walked c.in-Some.line.now c.in-Some.behind.now c.in-Some.ensures in
    t.pinnable

pub put_pinned-requires-clause-room : goal.put_pinned-requires-clause-room
put_pinned-requires-clause-room c =
    let l = c.loop-line in
    let i = l.invariant in
    let t = walk_turn c.args.text.now c.args.results.now l.rest.now l.records.now i.done i.walked c.in-Some.line.now c.in-Some.behind.now c.in-Some.ensures in
    t.line_room c.args.page.now l.page c.requires.room i.written

pub put_byte-requires : goal.put_byte-requires
put_byte-requires c =
    let l = c.loop-line in
    let i = l.invariant in
    let t = walk_turn c.args.text.now c.args.results.now l.rest.now l.records.now i.done i.walked c.in-Some.line.now c.in-Some.behind.now c.in-Some.ensures in
    t.close_room c.args.page.now l.page c.put_pinned.new.page c.requires.room i.written c.put_pinned.ensures

pub records_behind-records-requires : goal.records_behind-records-requires
records_behind-records-requires c =
    let l = c.loop-line in
    let i = l.invariant in
    let t = walk_turn c.args.text.now c.args.results.now l.rest.now l.records.now i.done i.walked c.in-Some.line.now c.in-Some.behind.now c.in-Some.ensures in
    t.used

pub loop-line-smaller : goal.loop-line-smaller
loop-line-smaller c =
    let l = c.loop-line in
    let i = l.invariant in
    let t = walk_turn c.args.text.now c.args.results.now l.rest.now l.records.now i.done i.walked c.in-Some.line.now c.in-Some.behind.now c.in-Some.ensures in
    t.shorter

pub loop-line-preserved : goal.loop-line-preserved
loop-line-preserved c =
    let l = c.loop-line in
    let i = l.invariant in
    let t = walk_turn c.args.text.now c.args.results.now l.rest.now l.records.now i.done i.walked c.in-Some.line.now c.in-Some.behind.now c.in-Some.ensures in
    record {
      done = t.then;
      walked = rw c.records_behind-records.ensures t.goes;
      written = t.puts c.args.page.now l.page c.put_pinned.new.page c.put_byte.new.self i.written c.put_pinned.ensures c.put_byte.ensures;
    }

pub returns : goal.returns
returns c =
    let l = c.loop-line in
    let i = l.invariant in
    rw (← walk_ends c.args.text.now c.args.results.now l.rest.now l.records.now i.done i.walked c.in_default.ensures) i.written
