-- A whole text line by line: before the first line, one line more, and behind the last. Assumes nothing.
use Rattle.std.proofs.Common.{◌∙◌, sym, subst}
use Rattle.tables.specs.Views.{state_view}
use Rattle.reader.specs.Kinds.{says}
use Rattle.text.specs.declared.feed.sofar.Sofar.{Sofar}
use Rattle.text.proofs.LoopLaws.{Left, starts, is_ready, fewer, goes_on, nearer, ends}
use Rattle.text.proofs.feed.feed.Goals as goal

pub loop-s-init : goal.loop-s-init
loop-s-init c =
    let a = c.args in
    subst
    (λ (u : Sofar). Left a.text.now (state_view a.s.now) a.results.now u (state_view a.s.now) a.results.now)
    (sym c.beginning-t.ensures)
    (starts a.text.now (state_view a.s.now) a.results.now c.requires.0)

pub line_at-requires : goal.line_at-requires
line_at-requires c = c.loop-s.invariant.inside

pub step-t-requires : goal.step-t-requires
step-t-requires c =
    let a = c.args in
    let l = c.loop-s in
    let more = sym c.loop-s-test.ensures in (
      is_ready a.text.now (state_view a.s.now) a.results.now l.t (state_view l.s) l.results l.invariant more,
      l.auto.results ∙ c.requires.1,
      fewer a.text.now (state_view a.s.now) a.results.now l.t (state_view l.s) l.results l.invariant more c.line_at.result.next c.line_at.ensures.1,
    )

pub loop-s-preserved : goal.loop-s-preserved
loop-s-preserved c =
    let a = c.args in
    let l = c.loop-s in
    let n = c.line_at in
    let p = c.step-t in
    goes_on
    a.text.now
    (state_view a.s.now)
    a.results.now
    l.t
    (state_view l.s)
    l.results
    l.invariant
    (sym c.loop-s-test.ensures)
    (says n.result.call)
    n.ensures.0
    n.result.next
    n.ensures.1
    p.result
    (state_view p.new.s)
    p.new.results
    p.ensures.0
    p.ensures.1
    p.ensures.2

pub loop-s-smaller : goal.loop-s-smaller
loop-s-smaller c =
    let a = c.args in
    let l = c.loop-s in
    let n = c.line_at in
    let p = c.step-t in
    nearer
    a.text.now
    (state_view a.s.now)
    a.results.now
    l.t
    (state_view l.s)
    l.results
    l.invariant
    (sym c.loop-s-test.ensures)
    (says n.result.call)
    n.ensures.0
    n.result.next
    n.ensures.1
    p.result
    (state_view p.new.s)
    p.new.results
    p.ensures.0
    p.ensures.1
    p.ensures.2

pub returns : goal.returns
returns c =
    let a = c.args in
    let l = c.loop-s in
    ends a.text.now (state_view a.s.now) a.results.now l.t (state_view l.s) l.results l.invariant (sym c.loop-s-test.ensures)
