-- The answer to a text: `got` lines and `end`, or the line `no`. Assumes nothing.
use Rattle.std.proofs.Common.{sym, subst, ◌∙◌}
use Rattle.lines.specs.Output.{got_lines, end_line}
use Rattle.writers.specs.Put.{Room}
use Rattle.writers.proofs.PutLaws.{puts_then, room_first, room_then}
use Rattle.text.proofs.OutputLaws.{answered_refused, answered_whole}
use Rattle.text.proofs.answer.Goals as goal

pub put_no-requires : goal.put_no-requires
put_no-requires c = subst (Room c.args.page.now) (answered_refused c.args.t c.args.results.now c.in-Some.no (sym c.refused.ensures ∙ c.in-Some.is)) c.requires.room

pub returns-in-Some : goal.returns-in-Some
returns-in-Some c = rw (answered_refused c.args.t c.args.results.now c.in-Some.no (sym c.refused.ensures ∙ c.in-Some.is)) c.put_no.ensures

pub put_gots-requires-clause-room : goal.put_gots-requires-clause-room
put_gots-requires-clause-room c =
    let a = c.args in
    let e = answered_whole a.t a.results.now (sym c.refused.ensures ∙ c.in_default.is) in
    room_first a.page.now (got_lines a.t.wants a.results.now) (end_line a.t.wants) (subst (Room a.page.now) e c.requires.room)

pub put_end-requires : goal.put_end-requires
put_end-requires c =
    let a = c.args in
    let e = answered_whole a.t a.results.now (sym c.refused.ensures ∙ c.in_default.is) in
    room_then a.page.now (got_lines a.t.wants a.results.now) c.put_gots.new.page c.put_gots.ensures (end_line a.t.wants) (subst (Room a.page.now) e c.requires.room)

pub returns : goal.returns
returns c =
    let a = c.args in
    rw (answered_whole a.t a.results.now (sym c.refused.ensures ∙ c.in_default.is))
    (puts_then a.page.now (got_lines a.t.wants a.results.now) c.put_gots.new.page c.put_gots.ensures (end_line a.t.wants) c.put_end.new.self c.put_end.ensures)
