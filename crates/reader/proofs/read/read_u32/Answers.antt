-- A number of 32 bits is at most the largest. Assumes nothing.
use Rattle.std.proofs.Common.{arith, sym}
use Rattle.lines.proofs.FormLaws.{number_within}
use Rattle.reader.proofs.read.read_u32.Goals as goal

pub overflow_cast-result : goal.overflow_cast-result
overflow_cast-result c = omega (arith, number_within _ _ _ (sym c.in_ok-read_number.ensures))
