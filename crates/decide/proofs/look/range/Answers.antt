-- What was chosen, with the room test behind it. Assumes nothing.
use Rattle.std.proofs.Common.{◌∙◌, ap}
use Rattle.search.specs.Asks.{need_of}
use Rattle.choose.specs.Told.{told}
use Rattle.choose.proofs.HitLaws.{ranges_length}
use Rattle.decide.proofs.RoomLaws.{standing_is, range_handed}
use Rattle.decide.proofs.look.range.Goals as goal

pub returns-in_err-run-clause-told : goal.returns-in_err-run-clause-told
returns-in_err-run-clause-told c =
    range_handed _ _ _ c.from_residual.ensures.1 (ap (told (need_of c.args.need)) c.in_err-run.ensures ∙ standing_is _ _ _ _ _ _ _ _ c.place-chosen.ensures (ranges_length c.args.tables.owners.now c.requires.fit.1.1) c.has_room.ensures.room)

pub returns-clause-told : goal.returns-clause-told
returns-clause-told c = rw c.row.ensures (ap (told (need_of c.args.need)) c.in_ok-run.ensures ∙ standing_is _ _ _ _ _ _ _ _ c.place-chosen.ensures (ranges_length c.args.tables.owners.now c.requires.fit.1.1) c.has_room.ensures.room)
