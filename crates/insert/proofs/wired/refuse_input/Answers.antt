-- A law for each way out. Assumes nothing.
use Rattle.std.proofs.Common.{◌∙◌, sym, rules}
use Rattle.insert.proofs.HoldLaws.{told_as, tell_input, input_known, input_no_trigger, input_no_sharing, tell_owner, tell_met, tell_full, tell_taken}
use Rattle.insert.proofs.TellLaws.{fault_one}
use Rattle.insert.proofs.wired.refuse_input.Goals.{then-r-gt-LAST_TRIGGER-via-then-r-gt-LAST_TRIGGER, then-r-gt-LAST_TRIGGER-via-else-r-gt-LAST_TRIGGER+then-r-gt-SHARED}
use Rattle.insert.proofs.wired.refuse_input.Goals as goal

pub returns-then-r-gt-LAST_TRIGGER-clause-told : goal.returns-then-r-gt-LAST_TRIGGER-clause-told
returns-then-r-gt-LAST_TRIGGER-clause-told c =
    let r = c.args.r in
    elim c.then-r-gt-LAST_TRIGGER.branch [
      | then-r-gt-LAST_TRIGGER-via-then-r-gt-LAST_TRIGGER w ↦
          tell_input _ _ (input_no_trigger r.controller r.input r.trigger r.sharing r.owner (search rules) (search rules) (search rules) w.if-r-gt-LAST_TRIGGER.true)
      | then-r-gt-LAST_TRIGGER-via-else-r-gt-LAST_TRIGGER+then-r-gt-SHARED w ↦
          tell_input _ _ (input_no_sharing r.controller r.input r.trigger r.sharing r.owner (search rules) (search rules) (search rules) w.if-r-gt-SHARED.true)
    ]

pub returns-then-r-eq0-clause-told : goal.returns-then-r-eq0-clause-told
returns-then-r-eq0-clause-told c =
    let r = c.args.r in
    told_as _ _ _ (input_known r.controller r.input r.trigger r.sharing r.owner (search rules) (search rules) (search rules) c.if-r-gt-LAST_TRIGGER.false c.if-r-gt-SHARED.false) _
    (tell_owner 0 _ _ _ c.requires c.if-r-eq0.true)

pub returns-in-Some-clause-told : goal.returns-in-Some-clause-told
returns-in-Some-clause-told c =
    let r = c.args.r in
    told_as _ _ _ (input_known r.controller r.input r.trigger r.sharing r.owner (search rules) (search rules) (search rules) c.if-r-gt-LAST_TRIGGER.false c.if-r-gt-SHARED.false) _
    (tell_met 0 _ _ _ c.requires c.if-r-eq0.false (fault_one r.input) _ (sym c.in-Some.is ∙ c.first_input.ensures))

pub returns-then-t-ge-ROWS-clause-told : goal.returns-then-t-ge-ROWS-clause-told
returns-then-t-ge-ROWS-clause-told c =
    let r = c.args.r in
    told_as _ _ _ (input_known r.controller r.input r.trigger r.sharing r.owner (search rules) (search rules) (search rules) c.if-r-gt-LAST_TRIGGER.false c.if-r-gt-SHARED.false) _
    (tell_full 0 _ _ _ c.requires c.if-r-eq0.false (fault_one r.input) (sym c.in_default.is ∙ c.first_input.ensures) c.if-t-ge-ROWS.true)

pub returns-clause-told : goal.returns-clause-told
returns-clause-told c =
    let r = c.args.r in
    told_as _ _ _ (input_known r.controller r.input r.trigger r.sharing r.owner (search rules) (search rules) (search rules) c.if-r-gt-LAST_TRIGGER.false c.if-r-gt-SHARED.false) _
    (tell_taken 0 _ _ _ c.requires c.if-r-eq0.false (fault_one r.input) (sym c.in_default.is ∙ c.first_input.ensures) c.if-t-ge-ROWS.false)
