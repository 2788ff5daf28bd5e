-- Each refusal in its turn, and room last. Assumes nothing.
use Rattle.std.proofs.Common.{◌≡◌, arith, ◌∙◌}
use Rattle.definition.specs.Base.{accepted}
use Rattle.definition.specs.Request.{row_at}
use Rattle.choose.proofs.HitLaws.{ranges_length}
use Rattle.choose.specs.Ids.{device_choice, event_choice, lpi_choice}
use Rattle.search.specs.Asks.{need_of}
use Rattle.msi.specs.Msi.{Part, part, place_part, device_need, event_need, lpi_need}
use Rattle.msi.proofs.ChainLaws.{no_device, no_event, no_lpi, all_three}
use Rattle.msi.proofs.DecideLaws.{stood, roomed_three, told_msi_err}
use Rattle.msi.proofs.find.Goals as goal

pub returns-in_err-place-clause-found : goal.returns-in_err-place-clause-found
returns-in_err-place-clause-found c =
    let a = c.args in
    let d : Part = part a.devices.auto.now a.devices.fixed.now a.devices.owners.now in
    let e : Part = part a.events.auto.now a.events.fixed.now a.events.owners.now in
    let l : Part = part a.lpis.auto.now a.lpis.fixed.now a.lpis.owners.now in
    told_msi_err a.m _ _ c.from_residual.ensures.1 ∙ no_device d e l a.m _ (rw (c.device_need.ensures, c.plain.ensures) at c.in_err-place.ensures)

pub returns-in_err-run-clause-found : goal.returns-in_err-run-clause-found
returns-in_err-run-clause-found c =
    let a = c.args in
    let d : Part = part a.devices.auto.now a.devices.fixed.now a.devices.owners.now in
    let e : Part = part a.events.auto.now a.events.fixed.now a.events.owners.now in
    let l : Part = part a.lpis.auto.now a.lpis.fixed.now a.lpis.owners.now in
    let x = c.first_of-device.result in
    let h : accepted (row_at (need_of (device_need a.m)) x.0) ≡ place_part d (need_of (device_need a.m)) (device_choice a.m.device) =
    rw c.first_of-device.ensures (stood d (need_of (device_need a.m)) _ _ c.requires.devices.goods (omega arith) (omega arith) (rw (c.device_need.ensures, c.plain.ensures) at c.in_ok-place.ensures)) in
    told_msi_err a.m _ _ c.from_residual-in_err-run.ensures.1 ∙ no_event d e l a.m x h _ (rw (c.event_need.ensures, c.plain-2.ensures) at c.in_err-run.ensures)

-- LPIs are looked for where the events stand
pub lpis_behind-requires-clause-stands : goal.lpis_behind-requires-clause-stands
lpis_behind-requires-clause-stands c = rw (c.event_need.ensures, c.plain-2.ensures) at c.in_ok-run.ensures

pub returns-in_err-lpis_behind-clause-found : goal.returns-in_err-lpis_behind-clause-found
returns-in_err-lpis_behind-clause-found c =
    let a = c.args in
    let d : Part = part a.devices.auto.now a.devices.fixed.now a.devices.owners.now in
    let e : Part = part a.events.auto.now a.events.fixed.now a.events.owners.now in
    let l : Part = part a.lpis.auto.now a.lpis.fixed.now a.lpis.owners.now in
    let x = c.first_of-device.result in
    let z = c.first_of-event.result in
    let h : accepted (row_at (need_of (device_need a.m)) x.0) ≡ place_part d (need_of (device_need a.m)) (device_choice a.m.device) =
    rw c.first_of-device.ensures (stood d (need_of (device_need a.m)) _ _ c.requires.devices.goods (omega arith) (omega arith) (rw (c.device_need.ensures, c.plain.ensures) at c.in_ok-place.ensures)) in
    let k : accepted (row_at (need_of (event_need a.m x)) z.0) ≡ place_part e (need_of (event_need a.m x)) (event_choice a.m.event) =
    rw c.first_of-event.ensures (stood e (need_of (event_need a.m x)) _ _ c.requires.events.goods (omega arith) (omega arith) (rw (c.event_need.ensures, c.plain-2.ensures) at c.in_ok-run.ensures)) in
    told_msi_err a.m _ _ c.from_residual-in_err-lpis_behind.ensures.1 ∙ no_lpi d e l a.m x h z k _ c.in_err-lpis_behind.ensures

pub returns-clause-found : goal.returns-clause-found
returns-clause-found c =
    let a = c.args in
    let d : Part = part a.devices.auto.now a.devices.fixed.now a.devices.owners.now in
    let e : Part = part a.events.auto.now a.events.fixed.now a.events.owners.now in
    let l : Part = part a.lpis.auto.now a.lpis.fixed.now a.lpis.owners.now in
    let x = c.first_of-device.result in
    let z = c.first_of-event.result in
    let v = c.first_of-lpi.result in
    let h : accepted (row_at (need_of (device_need a.m)) x.0) ≡ place_part d (need_of (device_need a.m)) (device_choice a.m.device) =
    rw c.first_of-device.ensures (stood d (need_of (device_need a.m)) _ _ c.requires.devices.goods (omega arith) (omega arith) (rw (c.device_need.ensures, c.plain.ensures) at c.in_ok-place.ensures)) in
    let k : accepted (row_at (need_of (event_need a.m x)) z.0) ≡ place_part e (need_of (event_need a.m x)) (event_choice a.m.event) =
    rw c.first_of-event.ensures (stood e (need_of (event_need a.m x)) _ _ c.requires.events.goods (omega arith) (omega arith) (rw (c.event_need.ensures, c.plain-2.ensures) at c.in_ok-run.ensures)) in
    let g : accepted (row_at (need_of (lpi_need a.m)) v.0) ≡ place_part l (need_of (lpi_need a.m)) (lpi_choice a.m.lpi) =
    rw c.first_of-lpi.ensures (stood l (need_of (lpi_need a.m)) _ _ c.requires.lpis.goods (omega arith) (omega arith) c.in_ok-lpis_behind.ensures) in
    roomed_three d e l a.m (record { device = x; event = z; lpi = v }) a.devices.owners.now.n a.events.owners.now.n a.lpis.owners.now.n _ c.with_room.ensures.room (λ w q. all_three d e l a.m x h z k v _ _ _ w g
    (ranges_length a.devices.owners.now c.requires.devices.rows) (ranges_length a.events.owners.now c.requires.events.rows) (ranges_length a.lpis.owners.now c.requires.lpis.rows) q)
