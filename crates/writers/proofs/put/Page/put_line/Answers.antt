-- A word, numbers behind it and the newline: each part behind the other. Assumes nothing.
use Rattle.writers.proofs.PutLaws.{puts_line}
use Rattle.writers.proofs.put.Page.put_line.Goals as goal

pub returns : goal.returns
returns c = puts_line c.args.self.now c.args.w.now c.args.xs.now _ _ _ c.put_bytes.ensures c.put_numbers.ensures c.put_byte.ensures
