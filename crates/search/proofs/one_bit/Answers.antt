-- The machine counts the ones that the definition counts. Assumes nothing.
use Rattle.std.proofs.Common.{rules, sym}
use Rattle.search.proofs.OnesLaws.{one_bit_is}
use Rattle.search.proofs.one_bit.Goals as goal

pub returns : goal.returns
returns c = sym (one_bit_is 64 c.args.a (search rules))
