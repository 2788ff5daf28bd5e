-- One line written back: as it stands, or up to its last field and the numbers granted behind it. Assumes nothing.
use Rattle.std.proofs.Common.{◌-◌, length, take, sym, subst}
use Rattle.writers.specs.Put.{Room}
use Rattle.writers.proofs.PutLaws.{tabbed, puts_then, room_first, room_then}
use Rattle.write_back.specs.Bytes.{auto_size, granted_in}
use Rattle.write_back.proofs.LineLaws.{pinned_as_is, pinned_auto}
use Rattle.write_back.proofs.line.put_pinned.Goals as goal

pub put_bytes-requires : goal.put_bytes-requires
put_bytes-requires c =
    let a = c.args in
    room_first a.page.now (take (length a.line.now - auto_size) a.line.now) (tabbed (granted_in a.r.now))
    (subst (Room a.page.now) (pinned_auto a.line.now a.r.now (sym c.if-ends_in_auto.ensures)) c.requires.room)

pub put_numbers-requires : goal.put_numbers-requires
put_numbers-requires c =
    let a = c.args in
    rw c.granted.ensures
    (room_then a.page.now (take (length a.line.now - auto_size) a.line.now) c.put_bytes.new.self c.put_bytes.ensures (tabbed (granted_in a.r.now))
    (subst (Room a.page.now) (pinned_auto a.line.now a.r.now (sym c.if-ends_in_auto.ensures)) c.requires.room))

pub returns-then-ends_in_auto : goal.returns-then-ends_in_auto
returns-then-ends_in_auto c =
    let a = c.args in
    rw (pinned_auto a.line.now a.r.now (sym c.if-ends_in_auto.ensures))
    (puts_then
    a.page.now
    (take (length a.line.now - auto_size) a.line.now)
    c.put_bytes.new.self
    c.put_bytes.ensures
    (tabbed (granted_in a.r.now))
    c.put_numbers.new.self
    (rw c.granted.ensures at c.put_numbers.ensures))

pub put_bytes-requires-2 : goal.put_bytes-requires-2
put_bytes-requires-2 c = subst (Room c.args.page.now) (pinned_as_is c.args.line.now c.args.r.now (sym c.if-ends_in_auto.ensures)) c.requires.room

pub returns : goal.returns
returns c = rw (pinned_as_is c.args.line.now c.args.r.now (sym c.if-ends_in_auto.ensures)) c.put_bytes-2.ensures
