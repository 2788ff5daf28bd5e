-- After k turns the rows from m on, k - m of them, are taken out or at their places. Assumes nothing.
use Rattle.std.proofs.Common.{arith, ap, sym, ◌∙◌, min}
use Rattle.inplace.specs.Cut.{goes}
use Rattle.inplace.proofs.CutLaws.{lesser_min, lesser_within, turned_none, turned_gone, turned_kept, turned_all}
use Rattle.inplace.proofs.marks.close.Goals as goal
use Rattle.inplace.proofs.marks.close.Goals.{then-goes, else-goes}

pub loop-k-init : goal.loop-k-init
loop-k-init g c = turned_none _ g.met.T.Rows.closes _ _ _ _ (omega (arith, lesser_min c.len.result, lesser_within c.len.result))

pub loop-k-preserved : goal.loop-k-preserved
loop-k-preserved g c =
    let l = c.loop-k in
    elim c.if-goes.branch [
      | then-goes w ↦ turned_gone _ g.met.T.Rows.closes _ _ _ _ l.k l.at l.t l.invariant (omega arith) _ _ (ap (λ o. goes o c.args.whose) (sym c.owner.ensures) ∙ sym c.goes.ensures ∙ w.if-goes.true) (w.t-is ∙ w.clear.ensures) w.at-is
      | else-goes w ↦ turned_kept _ g.met.T.Rows.closes _ _ _ _ l.k l.at l.t l.invariant (omega arith) _ _ (ap (λ o. goes o c.args.whose) (sym c.owner.ensures) ∙ sym c.goes.ensures ∙ w.if-goes.false) (w.t-is ∙ w.shift.ensures) w.at-is
    ]

pub returns : goal.returns
returns g c =
    c.cut.ensures ∙ turned_all _ g.met.T.Rows.closes _ _ _ _ c.loop-k.k c.loop-k.at c.loop-k.t (c.min-end.ensures ∙ ap (λ n. min n 256) c.len.ensures ∙ lesser_min _) c.loop-k.invariant (omega arith)
