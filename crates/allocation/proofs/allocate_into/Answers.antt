-- Tables, list, request, in that order; then the record. Assumes nothing.
use Rattle.std.proofs.Common.{◌≤◌, ◌<◌, length, sym, ap, ◌∙◌}
use Rattle.definition.specs.Tables.{record_size}
use Rattle.definition.specs.Plan.{lent}
use Rattle.tables.specs.Views.{state_view}
use Rattle.allocation.specs.Records.{record_in}
use Rattle.allocation.proofs.RecordLaws.{record_granted}
use Rattle.allocation.proofs.ServeLaws.{into_unsound, into_short, into_kept, into_written}
use Rattle.allocation.proofs.allocate_into.Goals.{in-Some, in_default}
use Rattle.allocation.proofs.allocate_into.Goals as goal

pub returns-then-not-sound : goal.returns-then-not-sound
returns-then-not-sound c = ap (λ x. lent x c.args.out.now) c.refuse.ensures ∙ into_unsound _ _ _ _ (sym c.if-not-sound.ensures)

pub returns-then-out-lt-RECORD : goal.returns-then-out-lt-RECORD
returns-then-out-lt-RECORD c =
    let l : length c.args.out.now < record_size = c.if-out-lt-RECORD.true in
    ap (λ x. lent x c.args.out.now) c.refuse-then-out-lt-RECORD.ensures ∙ into_short _ _ _ _ (sym c.if-not-sound.ensures) l

pub returns : goal.returns
returns c =
    let a = c.resolve-answered.ensures in
    let l : record_size ≤ length c.args.out.now = c.if-out-lt-RECORD.false in
    elim c.match-answered.branch [
      | in-Some w ↦
          into_written _ _ _ _ _ (sym c.if-not-sound.ensures) l a.state _ _ _ (sym w.in-Some.is ∙ a.bases) (λ cs e. w.record_of.ensures ∙ ap (record_in c.args.r) e ∙ record_granted c.args.r cs) (w.out-is ∙ w.write_record.ensures)
      | in_default w ↦ ap (lent (state_view c.resolve-answered.result.state)) w.out-is ∙ into_kept _ _ _ _ _ (sym c.if-not-sound.ensures) l a.state (sym w.in_default.is ∙ a.bases)
    ]
