-- A whole line by its newline; the last line may have none. Assumes nothing.
use Rattle.std.proofs.Common.{◌≡◌, sym, ap, ◌∙◌}
use Rattle.request.specs.Calls.{call_of}
use Rattle.reader.specs.Kinds.{says}
use Rattle.lines.proofs.FeedLaws.{call_closed, next_closed, call_open, next_open}
use Rattle.text.proofs.feed.line.line_at.Goals as goal
use Rattle.text.proofs.feed.line.line_at.Goals.{in-Bad, in_default}

pub returns-then-n-e : goal.returns-then-n-e
returns-then-n-e c =
    let a = c.args in
    let e = c.find-e in
    (sym (call_open a.text.now a.at e.result e.ensures c.if-n-e.true), sym (next_open a.text.now a.at e.result e.ensures c.if-n-e.true))

pub returns : goal.returns
returns c =
    let a = c.args in
    let e = c.find-e in
    let read : says c.match-read_line.call ≡ call_of c.read_line.result =
    elim c.match-read_line.branch [
      | in-Bad w ↦ ap says w.call-is ∙ sym (ap call_of w.in-Bad.is)
      | in_default w ↦ ap says w.call-is
    ] in
    (read ∙ c.read_line.ensures ∙ sym (call_closed a.text.now a.at e.result e.ensures c.if-n-e.false), sym (next_closed a.text.now a.at e.result e.ensures c.if-n-e.false))
