-- What is left of the field, after digits that said v, decides. Assumes nothing.
use Rattle.std.proofs.Common.{◌≡◌, ◌≤◌, drop}
use Rattle.sizer.specs.Words.{said_in}
use Rattle.sizer.specs.Code.{capped_said}
use Rattle.sizer.proofs.word.read_in.Given as goal

abbrev pub invariant-loop-b : goal.invariant-loop-b
invariant-loop-b l = record {
  small : l.v ≤ 4294967296;
  left : capped_said (said_in l.base 0 l.f) ≡ capped_said (said_in l.base l.v (drop l.b-index l.f));
}
