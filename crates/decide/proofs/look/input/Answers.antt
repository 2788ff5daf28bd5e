-- What was chosen, with the room test behind it. Assumes nothing.
use Rattle.std.proofs.Common.{◌∙◌, ap}
use Rattle.choose.specs.Told.{told}
use Rattle.choose.specs.Wired.{input_asked}
use Rattle.choose.proofs.HitLaws.{inputs_length}
use Rattle.decide.proofs.RoomLaws.{standing_is, input_handed, input_stands}
use Rattle.decide.proofs.look.input.Goals as goal

pub returns-in_err-run-clause-told : goal.returns-in_err-run-clause-told
returns-in_err-run-clause-told c =
    input_handed _ _ _ c.from_residual.ensures.1 (ap (told (input_asked c.args.need)) c.in_err-run.ensures ∙ standing_is _ _ _ _ _ _ _ _ c.place-chosen.ensures (inputs_length c.args.tables.owners.now c.requires.fit.1.1) c.has_room.ensures.room)

pub returns-clause-told : goal.returns-clause-told
returns-clause-told c = rw c.input_row.ensures (input_stands _ _ _ _ _ _ (ap (told (input_asked c.args.need)) c.in_ok-run.ensures ∙ standing_is _ _ _ _ _ _ _ _ c.place-chosen.ensures (inputs_length c.args.tables.owners.now c.requires.fit.1.1) c.has_room.ensures.room))
