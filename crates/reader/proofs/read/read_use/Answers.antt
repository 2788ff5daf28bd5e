-- A use is what `==` says of its word. Assumes nothing.
use Rattle.lines.specs.Base.{bytes, when, ◌or_else◌}
use Rattle.lines.specs.Line.{use_of}
use Rattle.lines.proofs.PartLaws.{same_says}
use Rattle.reader.proofs.read.read_use.Goals as goal

pub returns-then-eq : goal.returns-then-eq
unfolding use_of when ◌or_else◌
returns-then-eq c = rw (same_says c.args.word.now (bytes "auto") _ _ c.as_slice.ensures c.if-eq.ensures)

pub returns-then-eq-2 : goal.returns-then-eq-2
unfolding use_of when ◌or_else◌
returns-then-eq-2 c = rw (same_says c.args.word.now (bytes "auto") _ _ c.as_slice.ensures c.if-eq.ensures, same_says c.args.word.now (bytes "fixed") _ _ c.as_slice-else-eq.ensures c.if-eq-2.ensures)

pub returns-else-eq-2 : goal.returns-else-eq-2
unfolding use_of when ◌or_else◌
returns-else-eq-2 c = rw (same_says c.args.word.now (bytes "auto") _ _ c.as_slice.ensures c.if-eq.ensures, same_says c.args.word.now (bytes "fixed") _ _ c.as_slice-else-eq.ensures c.if-eq-2.ensures)
