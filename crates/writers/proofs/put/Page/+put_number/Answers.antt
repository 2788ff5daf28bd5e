-- The digits of a number: the last digit is put behind those of a tenth. Assumes nothing.
use Rattle.std.proofs.Common.{arith}
use Rattle.writers.proofs.PutLaws.{front_put, front_none, tenth_room, last_room, puts_digits}
use Rattle.writers.proofs.put.Page.+put_number.Goals as goal
use Rattle.writers.proofs.put.Page.+put_number.Goals.{then-n-ge10, else-n-ge10}

pub put_number-requires : goal.put_number-requires
put_number-requires t c = (omega arith, tenth_room c.args.self.now c.args.n (omega arith) c.requires (omega arith))

pub put_byte-requires : goal.put_byte-requires
put_byte-requires t c =
    let a = c.args in
    elim c.if-n-ge10.branch [
      | then-n-ge10 w ↦ last_room a.self.now a.n (omega arith) c.requires c.if-n-ge10.self (front_put _ _ _ a.n (omega arith) w.put_number.ensures w.self-is)
      | else-n-ge10 w ↦ last_room a.self.now a.n (omega arith) c.requires c.if-n-ge10.self (front_none _ _ a.n (omega arith) w.self-is)
    ]

pub returns : goal.returns
returns t c =
    let a = c.args in
    elim c.if-n-ge10.branch [
      | then-n-ge10 w ↦ puts_digits a.self.now a.n (omega arith) c.requires c.if-n-ge10.self (front_put _ _ _ a.n (omega arith) w.put_number.ensures w.self-is) _ c.put_byte.ensures
      | else-n-ge10 w ↦ puts_digits a.self.now a.n (omega arith) c.requires c.if-n-ge10.self (front_none _ _ a.n (omega arith) w.self-is) _ c.put_byte.ensures
    ]
