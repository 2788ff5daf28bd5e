-- A start, or what the verdict on the call stores. Assumes nothing.
use Rattle.std.proofs.Common.{sym, ◌∙◌, ap}
use Rattle.request.specs.Calls.{call_of}
use Rattle.tables.specs.Views.{state_view}
use Rattle.door.specs.Applied.{apply_of}
use Rattle.door.proofs.ApplyLaws.{begun}
use Rattle.door.proofs.apply.apply.Goals as goal

pub returns-in-Start : goal.returns-in-Start
returns-in-Start c = begun _ _ c.requires c.start.ensures ∙ ap (λ x. apply_of (call_of x) (state_view c.args.s.now)) (sym c.in-Start.is)

pub returns-in-Some : goal.returns-in-Some
returns-in-Some c = c.in-Some.ensures.after c.keep.new.s c.keep.ensures
