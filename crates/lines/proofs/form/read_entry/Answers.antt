-- The word `auto` is what `==` says it is. Assumes nothing.
use Rattle.lines.specs.Base.{bytes, when}
use Rattle.lines.proofs.PartLaws.{same_says}
use Rattle.lines.proofs.form.read_entry.Goals as goal

pub returns-in-Auto : goal.returns-in-Auto
unfolding when
returns-in-Auto c = rw (c.in-Auto.is, same_says c.args.f.now (bytes "auto") _ _ c.as_slice.ensures c.if-eq.ensures)

pub returns-in-Auto-2 : goal.returns-in-Auto-2
unfolding when
returns-in-Auto-2 c = rw (c.in-Auto-2.is, same_says c.args.f.now (bytes "auto") _ _ c.as_slice.ensures c.if-eq.ensures)
