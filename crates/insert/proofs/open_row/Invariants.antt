-- The loop keeps that the used rows from k on stand one row up, and row k is still there. Assumes nothing.
use Rattle.std.proofs.Common.{◌≤◌}
use Rattle.insert.proofs.OpenLaws.{Shifting}
use Rattle.insert.proofs.open_row.Given as goal

abbrev pub invariant-loop-k : goal.invariant-loop-k
invariant-loop-k l = record {
  above : l.at ≤ l.k;
  within : l.k ≤ l.initial.t.n;
  shifted : Shifting l.initial.t l.t l.k;
}
