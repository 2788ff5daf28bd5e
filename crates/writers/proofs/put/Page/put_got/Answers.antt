-- The `got` line: its parts, each behind the other. Assumes nothing.
use Rattle.std.proofs.Common.{get_or, arith, rules, ◌≤◌, ◌+◌, length}
use Rattle.writers.proofs.PutLaws.{own_read, carried_few, got_word_room, places_room, kind_room, own_room, got_close_room, puts_got}
use Rattle.writers.proofs.put.Page.put_got.Goals as goal

pub put_bytes-requires : goal.put_bytes-requires
put_bytes-requires c = got_word_room c.args.r.now (omega arith) c.args.self.now c.requires.room

pub put_numbers-requires : goal.put_numbers-requires
put_numbers-requires c = places_room c.args.r.now (omega arith) c.args.self.now c.requires.room _ c.put_bytes.ensures

pub put_bytes-requires-2 : goal.put_bytes-requires-2
put_bytes-requires-2 c =
    rw c.carried-count.ensures.word (kind_room c.args.r.now (omega arith) c.args.self.now c.requires.room _ c.put_bytes.ensures _ c.put_numbers.ensures)

pub overflow_add-count : goal.overflow_add-count
overflow_add-count c = omega (arith, c.carried-count.ensures.count, carried_few (get_or c.args.r.now 0 0))

pub slice_bounds-put_numbers-end-2 : goal.slice_bounds-put_numbers-end-2
slice_bounds-put_numbers-end-2 c =
    let h : 3 + c.carried-count.result.1 ≤ length c.args.r.now = omega (arith, c.carried-count.ensures.count, carried_few (get_or c.args.r.now 0 0)) in
    search rules

pub put_numbers-requires-2 : goal.put_numbers-requires-2
put_numbers-requires-2 c =
    rw (own_read c.args.r.now c.carried-count.result.1 c.carried-count.ensures.count)
    (own_room c.args.r.now (omega arith) c.args.self.now c.requires.room _ c.put_bytes.ensures _ c.put_numbers.ensures _ (rw c.carried-count.ensures.word at c.put_bytes-2.ensures))

pub put_byte-requires : goal.put_byte-requires
put_byte-requires c =
    got_close_room
    c.args.r.now
    (omega arith)
    c.args.self.now
    c.requires.room
    _
    c.put_bytes.ensures
    _
    c.put_numbers.ensures
    _
    (rw c.carried-count.ensures.word at c.put_bytes-2.ensures)
    _
    (rw (own_read c.args.r.now c.carried-count.result.1 c.carried-count.ensures.count) at c.put_numbers-2.ensures)

pub returns : goal.returns
returns c =
    puts_got
    c.args.r.now
    (omega arith)
    c.args.self.now
    _
    _
    _
    _
    _
    c.put_bytes.ensures
    c.put_numbers.ensures
    (rw c.carried-count.ensures.word at c.put_bytes-2.ensures)
    (rw (own_read c.args.r.now c.carried-count.result.1 c.carried-count.ensures.count) at c.put_numbers-2.ensures)
    c.put_byte.ensures
