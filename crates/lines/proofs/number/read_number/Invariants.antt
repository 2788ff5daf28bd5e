-- A field read as a number: what is left of the field, after digits that said v, decides. Assumes nothing.
use Rattle.std.proofs.Common.{◌≡◌, drop}
use Rattle.lines.specs.Numbers.{number}
use Rattle.lines.proofs.NumberLaws.{number_from}
use Rattle.lines.proofs.number.read_number.Given as goal

abbrev pub invariant-loop-b : goal.invariant-loop-b
invariant-loop-b l = number l.most l.f ≡ number_from l.most l.v (drop l.b-index l.f)
