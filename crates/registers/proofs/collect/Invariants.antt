-- What is in front of the list is what was asked so far. Assumes nothing.
use Rattle.std.proofs.Common.{◌≡◌, T, nat_le, length}
use Rattle.definition.specs.Tables.{top}
use Rattle.definition.specs.Base.{all_of}
use Rattle.registers.proofs.CollectLaws.{Holding}
use Rattle.registers.proofs.collect.Given as goal

abbrev pub invariant-loop-word : goal.invariant-loop-word
invariant-loop-word l = record {
  long : length l.list ≡ length l.initial.list;
  fit : T (all_of (λ w. nat_le w (top 32)) l.rest);
  held : Holding l.words l.requester l.list l.count l.rest;
}

abbrev pub decreases-loop-word : goal.decreases-loop-word
decreases-loop-word l = length l.rest
