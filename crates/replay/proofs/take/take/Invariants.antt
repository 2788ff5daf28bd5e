-- The lines so far stand in front. Assumes nothing.
use Rattle.std.proofs.Common.{◌≡◌, ◌≤◌, length}
use Rattle.definition.specs.Plan.{written}
use Rattle.replay.proofs.TakeLaws.{so_far}
use Rattle.replay.proofs.take.take.Given as goal

abbrev pub invariant-loop-i : goal.invariant-loop-i
invariant-loop-i l = record {
  front : l.chosen ≡ written (so_far l.lines l.selection (length l.initial.chosen) l.i-index) l.initial.chosen;
  count : l.at ≡ length (so_far l.lines l.selection (length l.initial.chosen) l.i-index);
  room : l.at ≤ length l.initial.chosen;
}
