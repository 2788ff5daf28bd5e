-- The test, then the sense, then the chain of three. Assumes nothing.
use Rattle.std.proofs.Common.{refl, sym}
use Rattle.kinds.proofs.KindLaws.{served_stands, served_bad, served_malformed}
use Rattle.kinds.proofs.MsiLaws.{msi_passed}
use Rattle.kinds.proofs.GrantLaws.{lent_ready, lent_found, lent_sized, msi_refused, msi_stood, msi_free}
use Rattle.kinds.proofs.grant.msi.Goals as goal

pub returns-then-not-is_sound : goal.returns-then-not-is_sound
returns-then-not-is_sound c = msi_refused _ _ _ _ _ refl (served_malformed _ _ _ (sym c.if-not-is_sound.ensures))

pub returns-then-not-good : goal.returns-then-not-good
returns-then-not-good c = msi_refused _ _ _ _ _ refl (served_bad _ _ _ (sym c.if-not-is_sound.ensures) c.if-not-good.true)

pub find-requires-clause-devices : goal.find-requires-clause-devices
find-requires-clause-devices c = lent_ready _ c.lent.ensures (msi_passed _ (sym c.if-not-is_sound.ensures)).device

pub find-requires-clause-events : goal.find-requires-clause-events
find-requires-clause-events c = lent_ready _ c.lent-2.ensures (msi_passed _ (sym c.if-not-is_sound.ensures)).event

pub find-requires-clause-lpis : goal.find-requires-clause-lpis
find-requires-clause-lpis c = lent_ready _ c.lent-3.ensures (msi_passed _ (sym c.if-not-is_sound.ensures)).lpi

pub returns-in_err-ids : goal.returns-in_err-ids
returns-in_err-ids c = msi_refused _ _ _ _ _ c.from_residual.ensures.1 (served_stands _ _ _ _ (sym c.if-not-is_sound.ensures) c.if-not-good.false (lent_found _ c.args.good _ c.lent.ensures c.lent-2.ensures c.lent-3.ensures _ c.in_err-ids.ensures.found))

pub push_range-requires : goal.push_range-requires
push_range-requires c = (msi_free _ c.args.good _ c.in_ok-ids.ids (msi_passed _ (sym c.if-not-is_sound.ensures)) (lent_found _ c.args.good _ c.lent.ensures c.lent-2.ensures c.lent-3.ensures _ c.in_ok-ids.ensures.found)).0

pub push_range-requires-2 : goal.push_range-requires-2
push_range-requires-2 c = (msi_free _ c.args.good _ c.in_ok-ids.ids (msi_passed _ (sym c.if-not-is_sound.ensures)) (lent_found _ c.args.good _ c.lent.ensures c.lent-2.ensures c.lent-3.ensures _ c.in_ok-ids.ensures.found)).1

pub push_range-requires-3 : goal.push_range-requires-3
push_range-requires-3 c = (msi_free _ c.args.good _ c.in_ok-ids.ids (msi_passed _ (sym c.if-not-is_sound.ensures)) (lent_found _ c.args.good _ c.lent.ensures c.lent-2.ensures c.lent-3.ensures _ c.in_ok-ids.ensures.found)).2

pub returns : goal.returns
returns c =
    msi_stood _ _ _ _ _ _ _ (sym c.if-not-is_sound.ensures) c.if-not-good.false (lent_found _ c.args.good _ c.lent.ensures c.lent-2.ensures c.lent-3.ensures _ c.in_ok-ids.ensures.found) (lent_sized _ c.args.good c.args.ask c.lent.ensures c.lent-2.ensures c.lent-3.ensures c.in_ok-ids.ensures.sized) (msi_passed _ (sym c.if-not-is_sound.ensures))
    (rw c.rows-rows.ensures at c.push_range.ensures) (rw c.rows-rows.ensures at c.push_range-2.ensures) (rw c.rows-rows.ensures at c.push_range-3.ensures)
