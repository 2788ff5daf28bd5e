-- What is judged is said beside the tables, and tells how many turns follow. Assumes nothing.
use Rattle.std.proofs.Common.{ap, ◌∙◌}
use Rattle.tables.specs.Views.{state_view}
use Rattle.plan.proofs.OpenLaws.{open_state, open_turns}
use Rattle.plan.proofs.open.Goals as goal

pub returns-clause-said : goal.returns-clause-said
returns-clause-said c =
    let a = c.args in
    ap state_view c.say.ensures ∙ open_state a.n a.room a.s.now c.sound-sound.result c.sound-sound.ensures c.judge-judged.result c.judge-judged.ensures c.said.result c.said.ensures

pub returns-clause-turns : goal.returns-clause-turns
returns-clause-turns c =
    let a = c.args in
    open_turns a.n a.room a.s.now c.sound-sound.result c.sound-sound.ensures c.judge-judged.result c.judge-judged.ensures c.say.new.s
    (ap state_view c.say.ensures ∙ open_state a.n a.room a.s.now c.sound-sound.result c.sound-sound.ensures c.judge-judged.result c.judge-judged.ensures c.said.result c.said.ensures)
