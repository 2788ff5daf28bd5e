-- A law for each way out. Assumes nothing.
use Rattle.std.proofs.Common.{◌∙◌, sym}
use Rattle.insert.proofs.InsertLaws.{enter_some, enter_none, enter_room}
use Rattle.insert.proofs.insert_range.Goals.{then-is_some-via-then-is_some, then-is_some-via-else-is_some+then-t-ge-POOL_ROWS}
use Rattle.insert.proofs.insert_range.Goals as goal

pub returns-then-is_some : goal.returns-then-is_some
returns-then-is_some c =
    elim c.then-is_some.branch [
      | then-is_some-via-then-is_some w ↦ enter_some c.args.t.now c.args.r c.requires _ c.twin.ensures (sym c.is_some.ensures ∙ w.if-is_some.true)
      | then-is_some-via-else-is_some+then-t-ge-POOL_ROWS w ↦ enter_none c.args.t.now c.args.r c.requires _ c.twin.ensures (sym c.is_some.ensures ∙ w.if-is_some.false) w.if-t-ge-POOL_ROWS.true
    ]

pub returns : goal.returns
returns c = enter_room c.args.t.now c.args.r c.requires _ c.twin.ensures (sym c.is_some.ensures ∙ c.if-is_some.false) _ _ c.if-t-ge-POOL_ROWS.false c.place-at.ensures c.open_row.ensures
