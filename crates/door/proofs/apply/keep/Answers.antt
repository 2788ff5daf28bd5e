-- All stores, one after another. Assumes nothing.
use Rattle.door.proofs.KeptLaws.{kept_all}
use Rattle.door.proofs.apply.keep.Goals as goal

pub returns : goal.returns
returns c = kept_all c.args.v.now c.args.s.now c.held.new.s c.say.new.s c.pools.new.p c.pools-2.new.p c.pools.ensures c.pools-2.ensures c.held.ensures c.say.ensures
