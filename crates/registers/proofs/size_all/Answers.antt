-- Nothing is written before all is known. Assumes nothing.
use Rattle.std.proofs.Common.{◌*◌, ◌++◌, drop, ap, ◌∙◌}
use Rattle.definition.specs.Registers.{asked_from}
use Rattle.registers.specs.Sizing.{sized}
use Rattle.registers.proofs.IntoLaws.{into_short, into_all}
use Rattle.registers.proofs.size_all.Goals as goal

pub returns-then-list-count : goal.returns-then-list-count
returns-then-list-count c = let x = c.args in into_short c.in_ok-count.count _ x.list.now c.if-list-count.true (asked_from x.requester 0 x.words.now) c.in_ok-count.ensures

pub returns : goal.returns
returns c =
    let x = c.args in
    ap (λ xs. sized 0 c.in_ok-count.count (xs ++ drop (12 * c.in_ok-count.count) x.list.now)) c.copy_from_slice.ensures.after
    ∙ into_all c.in_ok-count.count _ x.list.now c.if-list-count.false (asked_from x.requester 0 x.words.now) c.in_ok-count.ensures
