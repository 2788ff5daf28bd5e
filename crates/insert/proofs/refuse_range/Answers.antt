-- A law for each way out. Assumes nothing.
use Rattle.std.proofs.Common.{rules, ◌≡◌, ◌∙◌, sym, ap}
use Rattle.std.specs.Prelude.{Err}
use Rattle.insert.specs.Answers.{heard}
use Rattle.insert.proofs.HoldLaws.{tell_owner, tell_fault, tell_met, tell_full, tell_taken}
use Rattle.insert.proofs.refuse_range.Goals as goal

pub returns-then-r-eq0-clause-told : goal.returns-then-r-eq0-clause-told
returns-then-r-eq0-clause-told c = tell_owner _ _ _ _ c.requires c.if-r-eq0.true

pub returns-in_err-range_fault-clause-told : goal.returns-in_err-range_fault-clause-told
returns-in_err-range_fault-clause-told c =
    let e : c.from_residual.result ≡ Err c.in_err-range_fault.field-0.0 = search rules in
    ap heard e ∙ tell_fault _ _ _ _ c.requires c.if-r-eq0.false _ (sym c.range_fault.ensures ∙ c.in_err-range_fault.was)

pub returns-in-Some-clause-told : goal.returns-in-Some-clause-told
returns-in-Some-clause-told c = tell_met _ _ _ _ c.requires c.if-r-eq0.false (sym c.range_fault.ensures ∙ c.in_ok-range_fault.was) _ (sym c.in-Some.is ∙ c.first_overlap.ensures)

pub returns-then-t-ge-ROWS-clause-told : goal.returns-then-t-ge-ROWS-clause-told
returns-then-t-ge-ROWS-clause-told c = tell_full _ _ _ _ c.requires c.if-r-eq0.false (sym c.range_fault.ensures ∙ c.in_ok-range_fault.was) (sym c.in_default.is ∙ c.first_overlap.ensures) c.if-t-ge-ROWS.true

pub returns-clause-told : goal.returns-clause-told
returns-clause-told c = tell_taken _ _ _ _ c.requires c.if-r-eq0.false (sym c.range_fault.ensures ∙ c.in_ok-range_fault.was) (sym c.in_default.is ∙ c.first_overlap.ensures) c.if-t-ge-ROWS.false
