-- A line's first word is what `==` says of it. Assumes nothing.
use Rattle.lines.specs.Base.{bytes}
use Rattle.lines.specs.Line.{by_word}
use Rattle.lines.proofs.PartLaws.{same_says}
use Rattle.reader.proofs.read.read_words.Goals as goal

pub returns-then-eq : goal.returns-then-eq
unfolding by_word
returns-then-eq c = rw (same_says c.args.w.now (bytes "pool") _ _ c.as_slice.ensures c.if-eq.ensures) c.read_pools.ensures

pub returns-then-eq-2 : goal.returns-then-eq-2
unfolding by_word
returns-then-eq-2 c = rw (same_says c.args.w.now (bytes "pool") _ _ c.as_slice.ensures c.if-eq.ensures, same_says c.args.w.now (bytes "hold") _ _ c.as_slice-else-eq.ensures c.if-eq-2.ensures) c.read_holds.ensures

pub returns-then-eq-3 : goal.returns-then-eq-3
unfolding by_word
returns-then-eq-3 c = rw (same_says c.args.w.now (bytes "pool") _ _ c.as_slice.ensures c.if-eq.ensures, same_says c.args.w.now (bytes "hold") _ _ c.as_slice-else-eq.ensures c.if-eq-2.ensures, same_says c.args.w.now (bytes "want") _ _ c.as_slice-else-eq-2.ensures c.if-eq-3.ensures) c.read_wants.ensures

pub returns-else-eq-3 : goal.returns-else-eq-3
unfolding by_word
returns-else-eq-3 c = rw (same_says c.args.w.now (bytes "pool") _ _ c.as_slice.ensures c.if-eq.ensures, same_says c.args.w.now (bytes "hold") _ _ c.as_slice-else-eq.ensures c.if-eq-2.ensures, same_says c.args.w.now (bytes "want") _ _ c.as_slice-else-eq-2.ensures c.if-eq-3.ensures)
