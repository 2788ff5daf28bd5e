-- What stands has a free row in each of the three tables. Assumes nothing.
use mathlib.Core.Path.{◌≡◌, sym}
use Prim.Native.Nat.{◌<◌}
use lib.Dec.{T, ltb, ltb→lt}
use lib.ListN.{length}
use Rattle.definition.specs.Base.{all_of, full, accepted, require}
use Rattle.definition.proofs.BaseLaws.{and_l, and_r}
use Rattle.definition.specs.Tables.{row_limit}
use Rattle.definition.specs.Pools.{room}
use Rattle.definition.specs.Request.{claims}
use Rattle.definition.proofs.RequestLaws.{then_accepted, require_accepted}
use Rattle.tables.specs.declared.DeviceId.{DeviceId}
use Rattle.tables.specs.declared.EventId.{EventId}
use Rattle.tables.specs.declared.Lpi.{Lpi}
use Rattle.msi.specs.Msi.{Part, msi_rows, msi_pools, msi_holders, asked_msi, msi_in}
use Rattle.msi.specs.declared.Msi.{Msi}

pub record ThreeFree (d e l : Part) : Type 0 where
  pub devices : length d.rows < row_limit
  pub events : length e.rows < row_limit
  pub lpis : length l.rows < row_limit

pub msi_room : (d e l : Part) (m : Msi) (x : DeviceId) (y : EventId) (z : Lpi) → accepted (msi_rows m x y z) ≡ msi_in d e l m → ThreeFree d e l
unfolding room all_of
msi_room d e l m x y z h =
    let (cs, p, q) = then_accepted (claims (msi_pools d e l) (msi_holders d e l) m.requester (asked_msi m)) (λ cs. require (room (msi_holders d e l) cs) full (accepted cs)) (sym h) in
    let (t, k) = require_accepted (room (msi_holders d e l) cs) full (accepted cs) q in
    let c : cs ≡ msi_rows m x y z = cc in
    let u : T (room (msi_holders d e l) (msi_rows m x y z)) = rw c at t in
    let f : T (ltb (length d.rows) row_limit) = search (and_l) in
    let g : T (ltb (length e.rows) row_limit) = search (and_l, and_r) in
    let v : T (ltb (length l.rows) row_limit) = search (and_l, and_r) in
    record { devices = ltb→lt _ _ f; events = ltb→lt _ _ g; lpis = ltb→lt _ _ v }
