-- A device, its events and LPIs: the chain of three is the definition's answer. Assumes nothing.
use Rattle.std.proofs.Common.{refl, ap}
use Rattle.definition.specs.Tables.{device, event, lpi}
use Rattle.request.specs.Asked.{want_of}
use Rattle.request.proofs.GoodLaws.{msi_says, request_says}
use Rattle.decide.proofs.AskLaws.{ready}
use Rattle.decide.proofs.FindLaws.{msi_handed, msi_found}
use Rattle.decide.proofs.find_msi.Goals as goal

pub find-requires-clause-devices : goal.find-requires-clause-devices
find-requires-clause-devices c = ready c.args.s.now device _ refl c.requires.sound

pub find-requires-clause-events : goal.find-requires-clause-events
find-requires-clause-events c = ready c.args.s.now event _ refl c.requires.sound

pub find-requires-clause-lpis : goal.find-requires-clause-lpis
find-requires-clause-lpis c = ready c.args.s.now lpi _ refl c.requires.sound

pub find-requires-clause-some : goal.find-requires-clause-some
find-requires-clause-some c = msi_says _ _ _ _ _ _ (rw (ap want_of c.requires.want) at (request_says _ c.requires.good))

pub returns-in_err-ids : goal.returns-in_err-ids
returns-in_err-ids c = msi_handed _ c.requires.sound _ c.requires.good c.args.m c.requires.want c.requires.requester _ _ c.from_residual.ensures.1 c.in_err-ids.ensures.found

pub returns : goal.returns
returns c = rw (c.rows.ensures, c.three_bases-bases.ensures) (msi_found _ c.requires.sound _ c.requires.good c.args.m c.requires.want c.requires.requester c.in_ok-ids.ensures.sized.0 c.in_ok-ids.ensures.sized.1.0 c.in_ok-ids.ensures.sized.1.1 _ c.in_ok-ids.ensures.found)
