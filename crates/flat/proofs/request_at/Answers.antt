-- The request, or what stands for one that can't be read. Assumes nothing.
use Rattle.std.proofs.Common.{sym, ◌∙◌, ap}
use Rattle.flat.specs.Flat.{request_in}
use Rattle.request.specs.Asked.{request_of}
use Rattle.flat.proofs.FlatLaws.{request_at_is}
use Rattle.flat.proofs.ReadLaws.{read_or_bad}
use Rattle.flat.proofs.request_at.Goals as goal

pub returns : goal.returns
unfolding request_in
returns c = ap request_of c.unwrap_or.ensures ∙ read_or_bad _ c.bad.result _ _ c.request.ensures c.bad.ensures ∙ sym (request_at_is c.args.requests.now c.args.i)
