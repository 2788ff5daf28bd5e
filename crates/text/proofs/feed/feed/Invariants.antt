-- A whole text line by line: what is left of it equals the whole, and each line brings its end nearer. Assumes nothing.
use Rattle.std.proofs.Common.{◌-◌, length}
use Rattle.tables.specs.Views.{state_view}
use Rattle.text.proofs.LoopLaws.{Left}
use Rattle.text.proofs.feed.feed.Given as goal

abbrev pub invariant-loop-s : goal.invariant-loop-s
invariant-loop-s l = Left l.text (state_view l.fn.s) l.fn.results l.t (state_view l.s) l.results

abbrev pub decreases-loop-s : goal.decreases-loop-s
decreases-loop-s l = length l.text - l.t.at
