-- What is handed back is two runs, and of these the law holds. Assumes nothing.
use Rattle.std.proofs.Common.{sym, subst}
use Rattle.tables.specs.Views.{state_view}
use Rattle.replay.specs.Runs.{Replays}
use Rattle.replay.proofs.RunLaws.{replays}
use Rattle.replay.proofs.replay.Goals as goal

pub returns : goal.returns
returns c =
    let a = c.args in
    let e = c.replayed.ensures in
    (e, λ h. subst (Replays a.selection.now a.second.now (state_view a.state.now)) (sym e) (replays a.requests.now a.selection.now a.results.now a.second.now (state_view a.state.now) h))
