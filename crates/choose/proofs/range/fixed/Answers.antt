-- The pool, then the first row in the way. Assumes nothing.
use Rattle.std.proofs.Common.{arith, refl, sym, ◌∙◌}
use Rattle.definition.specs.Tables.{meets}
use Rattle.definition.specs.Request.{row_at}
use Rattle.tables.proofs.IndexLaws.{first_tells}
use Rattle.search.specs.Asks.{need_of}
use Rattle.search.specs.Rows.{range_rows}
use Rattle.choose.proofs.HitLaws.{range_obstacle}
use Rattle.choose.proofs.PlaceLaws.{fixed_outside, fixed_met, fixed_clear, told_err}
use Rattle.choose.proofs.range.fixed.Goals as goal

pub returns-in_err-run : goal.returns-in_err-run
returns-in_err-run c =
    let a = c.in_err-run.ensures in
    λ ps. told_err (need_of c.args.need) _ _ c.from_residual.ensures.1 ∙ rw a.1 (fixed_outside ps _ _ _ _ _ refl (sym a.0))

pub offset_bounds-owners-k : goal.offset_bounds-owners-k
offset_bounds-owners-k c = let h = first_tells _ _ _ c.in-Some.ensures in omega arith

pub bounds-owners-k : goal.bounds-owners-k
bounds-owners-k c = let h = first_tells _ _ _ c.in-Some.ensures in omega arith

pub returns-in-Some : goal.returns-in-Some
unfolding meets row_at
returns-in-Some c =
    let a = c.args in
    let h = c.in_ok-run.ensures in
    λ ps. fixed_met ps _ _ _ _ (range_rows a.owners.now c.in-Some.k) _ _ c.namespace.ensures (c.detail.ensures _ _ refl refl) (sym h.0)
    (range_obstacle a.owners.now a.need a.b _ (omega arith) (rw h.1 at c.in-Some.ensures))

pub returns : goal.returns
unfolding row_at meets
returns c =
    let a = c.args in
    let h = c.in_ok-run.ensures in
    λ ps. rw h.1 (fixed_clear ps _ _ _ _ (sym h.0) (range_obstacle a.owners.now a.need a.b _ (omega arith) (rw h.1 at c.in_default.ensures)))
