-- A law for each way out. Assumes nothing.
use Rattle.std.proofs.Common.{rules, ◌≡◌, ◌∙◌, sym, ap}
use Rattle.std.specs.Prelude.{Err}
use Rattle.insert.specs.Answers.{heard}
use Rattle.insert.proofs.InsertLaws.{say_fault, say_none, say_some, say_room}
use Rattle.insert.proofs.refuse_pool.Goals.{else-is_none-via-then-is_none+else-t-ge-POOL_ROWS, else-is_none-via-else-is_none}
use Rattle.insert.proofs.refuse_pool.Goals as goal

pub returns-in_err-range_fault : goal.returns-in_err-range_fault
returns-in_err-range_fault c =
    let e : c.from_residual.result ≡ Err c.in_err-range_fault.field-0.0 = search rules in
    ap heard e ∙ say_fault _ _ _ c.requires _ _ (sym c.range_fault.ensures ∙ c.in_err-range_fault.was)

pub returns-then-t-ge-POOL_ROWS : goal.returns-then-t-ge-POOL_ROWS
returns-then-t-ge-POOL_ROWS c = say_none _ _ _ c.requires _ (sym c.range_fault.ensures ∙ c.in_ok-range_fault.was) _ c.twin.ensures (search rules) c.if-t-ge-POOL_ROWS.true

pub returns : goal.returns
returns c =
    let fine = sym c.range_fault.ensures ∙ c.in_ok-range_fault.was in
    elim c.else-is_none.branch [
      | else-is_none-via-then-is_none+else-t-ge-POOL_ROWS w ↦ say_room _ _ _ c.requires _ fine _ c.twin.ensures w.if-t-ge-POOL_ROWS.false
      | else-is_none-via-else-is_none w ↦ say_some _ _ _ c.requires _ fine _ c.twin.ensures (search rules)
    ]
