-- The ways out of an MSI request: each refusal in its turn, and room last. Assumes nothing.
use mathlib.Core.Path.{◌≡◌, refl, sym, ◌∙◌}
use mathlib.Core.Bool.{Bool, true, false, ◌&&◌}
use mathlib.Core.List.{List}
use Prim.Native.Nat.{ℕ}
use lib.Dec.{ltb}
use lib.ListN.{length}
use Rattle.definition.specs.Base.{all_of, full, accepted, refused, require}
use Rattle.definition.specs.Tables.{row_limit}
use Rattle.definition.specs.Base as F
use Rattle.definition.specs.Pools.{Holders, Claim, room}
use Rattle.definition.specs.Request.{Need, row_at, auto, at, automatic, fixed, Pools, place, claims}
use Rattle.definition.specs.Request as R
use Rattle.tables.specs.declared.DeviceId.{DeviceId}
use Rattle.tables.specs.declared.EventId.{EventId}
use Rattle.tables.specs.declared.Lpi.{Lpi}
use Rattle.search.specs.Asks.{need_of}
use Rattle.choose.specs.Told.{place_in}
use Rattle.choose.specs.Ids.{device_choice, event_choice, lpi_choice}
use Rattle.msi.specs.declared.Msi.{Msi}
use Rattle.msi.specs.Msi.{Part, place_part, device_need, event_need, lpi_need, msi_rows, all_room, msi_pools, msi_holders, msi_in}

-- `place` reads the lists of the need's kind alone
pub place_in_is : (P : Pools) (S : Holders) (n : Need) (c : R.Choice) → place P S n c ≡ place_in (P automatic n.kind) (P fixed n.kind) (S n.kind) n c
unfolding place
place_in_is P S n auto = refl
place_in_is P S n (at b) = refl

room_is : (cs : List Claim) (p q r w : Bool) → p && (q && r) ≡ w → require w full (accepted cs) ≡ require (p && (q && (r && true))) full (accepted cs)
unfolding require
room_is cs true true true w e = rw (← e) refl
room_is cs true true false w e = rw (← e) refl
room_is cs true false r w e = rw (← e) refl
room_is cs false q r w e = rw (← e) refl

module _ (d e l : Part) (m : Msi) where
  abbrev P : Pools
  P = msi_pools d e l

  abbrev S : Holders
  S = msi_holders d e l

  device_refused : (y : F.Refusal) → place P S (need_of (device_need m)) (device_choice m.device) ≡ refused y → refused y ≡ msi_in d e l m
  unfolding claims
  device_refused y h = rw h

  pub no_device : (y : F.Refusal) → refused y ≡ place_part d (need_of (device_need m)) (device_choice m.device) → refused y ≡ msi_in d e l m
  no_device y h = device_refused y (place_in_is P S (need_of (device_need m)) (device_choice m.device) ∙ sym h)

  module _ (x : DeviceId) (h : accepted (row_at (need_of (device_need m)) x.0) ≡ place_part d (need_of (device_need m)) (device_choice m.device)) where
    pub no_event : (y : F.Refusal) → refused y ≡ place_part e (need_of (event_need m x)) (event_choice m.event) → refused y ≡ msi_in d e l m
    unfolding claims row_at
    no_event y k = rw (place_in_is P S (need_of (device_need m)) (device_choice m.device), ← h, place_in_is P S (need_of (event_need m x)) (event_choice m.event), ← k)

    module _ (z : EventId) (k : accepted (row_at (need_of (event_need m x)) z.0) ≡ place_part e (need_of (event_need m x)) (event_choice m.event)) where
      pub no_lpi : (y : F.Refusal) → refused y ≡ place_part l (need_of (lpi_need m)) (lpi_choice m.lpi) → refused y ≡ msi_in d e l m
      unfolding claims row_at
      no_lpi y g = rw (place_in_is P S (need_of (device_need m)) (device_choice m.device), ← h, place_in_is P S (need_of (event_need m x)) (event_choice m.event), ← k, place_in_is P S (need_of (lpi_need m)) (lpi_choice m.lpi), ← g)

      pub all_three : (v : Lpi) (dn en ln : ℕ) (w : Bool) → accepted (row_at (need_of (lpi_need m)) v.0) ≡ place_part l (need_of (lpi_need m)) (lpi_choice m.lpi)
          → length d.rows ≡ dn → length e.rows ≡ en → length l.rows ≡ ln → all_room dn en ln ≡ w → require w full (accepted (msi_rows m x z v)) ≡ msi_in d e l m
      unfolding claims row_at room all_of
      all_three v dn en ln w g a b c h' =
          rw (place_in_is P S (need_of (device_need m)) (device_choice m.device), ← h, place_in_is P S (need_of (event_need m x)) (event_choice m.event), ← k, place_in_is P S (need_of (lpi_need m)) (lpi_choice m.lpi), ← g, a, b, c)
          (room_is (msi_rows m x z v) (ltb dn row_limit) (ltb en row_limit) (ltb ln row_limit) w h')
