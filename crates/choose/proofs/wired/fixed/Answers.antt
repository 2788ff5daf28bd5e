-- The pool, then the first row on the input and what it shares. Assumes nothing.
use Rattle.std.proofs.Common.{arith, refl, sym, ◌∙◌}
use Rattle.definition.specs.Tables.{meets}
use Rattle.definition.specs.Request.{row_at}
use Rattle.tables.proofs.IndexLaws.{first_tells}
use Rattle.search.specs.Rows.{input_rows}
use Rattle.search.proofs.InputLaws.{input_allowed}
use Rattle.choose.specs.Wired.{input_asked}
use Rattle.choose.proofs.SharingLaws.{input_clear, input_joined, input_met}
use Rattle.choose.proofs.PlaceLaws.{fixed_outside, fixed_met, fixed_clear, told_err}
use Rattle.choose.proofs.wired.fixed.Goals as goal

pub returns-in_err-run : goal.returns-in_err-run
returns-in_err-run c =
    let a = rw c.one_input.ensures at c.in_err-run.ensures in
    λ ps. told_err (input_asked c.args.need) _ _ c.from_residual.ensures.1 ∙ rw a.1 (fixed_outside ps _ _ _ _ _ refl (sym a.0 ∙ input_allowed _ _ _ _ _ _))

pub returns-in_default : goal.returns-in_default
unfolding row_at meets
returns-in_default c =
    let a = c.args in
    let h = rw c.one_input.ensures at c.in_ok-run.ensures in
    λ ps. rw h.1 (fixed_clear ps _ _ _ _ (sym h.0 ∙ input_allowed _ _ _ _ _ _) (input_clear a.owners.now a.need a.b (omega arith) c.in_default.ensures))

pub row-row-requires : goal.row-row-requires
row-row-requires c = let h = first_tells _ _ _ c.in-Some.ensures in omega arith

pub returns-in-Ok : goal.returns-in-Ok
unfolding row_at meets
returns-in-Ok c =
    let a = c.args in
    let h = rw c.one_input.ensures at c.in_ok-run.ensures in
    let v = rw c.row-row.ensures at (c.in-Ok.ensures a.b) in
    λ ps. rw h.1 (fixed_clear ps _ _ _ _ (sym h.0 ∙ input_allowed _ _ _ _ _ _) (input_joined a.owners.now a.need a.b (omega arith) _ c.in-Some.ensures v))

pub returns-in-Err : goal.returns-in-Err
unfolding meets
returns-in-Err c =
    let a = c.args in
    let k = c.in-Some.k in
    let h = rw c.one_input.ensures at c.in_ok-run.ensures in
    let v = rw c.row-row.ensures at (c.in-Err.ensures a.b) in
    let m = input_met a.owners.now a.need a.b (omega arith) k c.in-Some.ensures _ v in
    λ ps. rw (c.row-row.ensures, c.detail.ensures) (fixed_met ps _ _ _ _ (input_rows a.owners.now k) _ _ c.namespace.ensures m.1 (sym h.0 ∙ input_allowed _ _ _ _ _ _) m.0)
