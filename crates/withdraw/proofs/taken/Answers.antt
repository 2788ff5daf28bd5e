-- Refused before a table is touched, or the requester's rows taken out. Assumes nothing.
use Rattle.std.proofs.Common.{sym, ◌∙◌}
use Rattle.withdraw.proofs.TakenLaws.{stopped, goes_on, taken_done}
use Rattle.withdraw.proofs.taken.Goals as goal

pub returns-in_err-whose : goal.returns-in_err-whose
returns-in_err-whose c = stopped _ _ _ _ c.from_residual.ensures.1 (sym (rw c.sound.ensures at c.judged.ensures) ∙ c.in_err-whose.was)

pub returns : goal.returns
returns c =
    let on = goes_on _ _ _ (sym (rw c.sound.ensures at c.judged.ensures) ∙ c.in_ok-whose.was) in
    taken_done _ _ _ on c.peek-before.ensures c.reserved-held.ensures c.take_out.ensures c.peek.ensures c.found.ensures
