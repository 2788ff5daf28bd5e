-- The parts of the line, each behind the other. Assumes nothing.
use Rattle.sizer.proofs.WantLaws.{want_room, places_room, kind_room, sizes_room, auto_room, puts_want}
use Rattle.sizer.proofs.wants.put_want.Goals as goal

pub put_bytes-requires : goal.put_bytes-requires
put_bytes-requires c = want_room c.args.r.now c.requires.whole c.args.page.now c.requires.room

pub put_numbers-requires : goal.put_numbers-requires
put_numbers-requires c = places_room c.args.r.now c.requires.whole c.args.page.now c.requires.room _ c.put_bytes.ensures

pub put_kind-requires : goal.put_kind-requires
put_kind-requires c = kind_room c.args.r.now c.requires.whole c.args.page.now c.requires.room _ c.put_bytes.ensures _ c.put_numbers.ensures

pub put_numbers-requires-2 : goal.put_numbers-requires-2
put_numbers-requires-2 c = sizes_room c.args.r.now c.requires.whole c.args.page.now c.requires.room _ c.put_bytes.ensures _ c.put_numbers.ensures _ c.put_kind.ensures

pub put_bytes-requires-2 : goal.put_bytes-requires-2
put_bytes-requires-2 c = auto_room c.args.r.now c.requires.whole c.args.page.now c.requires.room _ c.put_bytes.ensures _ c.put_numbers.ensures _ c.put_kind.ensures _ c.put_numbers-2.ensures

pub returns : goal.returns
returns c = puts_want c.args.r.now c.requires.whole c.args.page.now _ _ _ _ _ c.put_bytes.ensures c.put_numbers.ensures c.put_kind.ensures c.put_numbers-2.ensures c.put_bytes-2.ensures
