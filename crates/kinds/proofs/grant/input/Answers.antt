-- The test, then the sense, then the choice. Assumes nothing.
use Rattle.std.proofs.Common.{refl, sym}
use Rattle.kinds.proofs.KindLaws.{served_stands, served_bad, served_malformed}
use Rattle.kinds.proofs.SetLaws.{inputs_passed}
use Rattle.kinds.proofs.GrantLaws.{input_refused, input_chosen, input_stood}
use Rattle.kinds.proofs.grant.input.Goals as goal

pub returns-then-not-is_sound : goal.returns-then-not-is_sound
returns-then-not-is_sound c = input_refused _ _ _ _ _ _ refl (served_malformed _ _ _ (sym c.if-not-is_sound.ensures))

pub returns-then-not-good : goal.returns-then-not-good
returns-then-not-good c = input_refused _ _ _ _ _ _ refl (served_bad _ _ _ (sym c.if-not-is_sound.ensures) c.if-not-good.true)

pub place-chosen-requires-clause-auto : goal.place-chosen-requires-clause-auto
place-chosen-requires-clause-auto c = (inputs_passed _ _ _ _ (sym c.if-not-is_sound.ensures)).order

pub place-chosen-requires-clause-fixed : goal.place-chosen-requires-clause-fixed
place-chosen-requires-clause-fixed c = (inputs_passed _ _ _ _ (sym c.if-not-is_sound.ensures)).fixed_count

pub place-chosen-requires-clause-rows : goal.place-chosen-requires-clause-rows
place-chosen-requires-clause-rows c = (inputs_passed _ _ _ _ (sym c.if-not-is_sound.ensures)).rows

pub returns-in_err-run : goal.returns-in_err-run
returns-in_err-run c =
    let p = inputs_passed _ _ _ _ (sym c.if-not-is_sound.ensures) in
    input_refused _ _ _ _ _ _ c.from_residual.ensures.1
    (served_stands _ _ _ _ (sym c.if-not-is_sound.ensures) c.if-not-good.false (input_chosen c.args.t.now c.args.good _ _ _ _ _ c.place-chosen.ensures p.rows c.has_room.ensures.room c.in_err-run.ensures))

pub returns : goal.returns
returns c =
    let p = inputs_passed _ _ _ _ (sym c.if-not-is_sound.ensures) in
    input_stood _ _ _ _ _ _ (sym c.if-not-is_sound.ensures) c.if-not-good.false
    (input_chosen c.args.t.now c.args.good _ _ _ _ _ c.place-chosen.ensures p.rows c.has_room.ensures.room c.in_ok-run.ensures) c.has_room.ensures.sized p.rows (rw c.input_row.ensures at c.push_input.ensures)
