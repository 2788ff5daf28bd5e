-- A call in the definition's words. Assumes nothing.
use Rattle.std.proofs.Math.Option.{Option, none, some}
use Rattle.definition.specs.Pools.{Pool as DPool, mmio_pool, pio_pool, host_pool, input_pool, msi_pool, Hold as DHold, mmio_hold, pio_hold, host_hold, input_hold, device_hold, event_hold, lpi_hold, pair_hold}
use Rattle.definition.specs.Request.{Use as DUse, automatic, fixed}
use Rattle.definition.specs.Calls.{Call as DCall, pool, hold, start, want}
use Rattle.request.specs.Asked.{request_of}
use Rattle.request.specs.declared.call.Use.{Use}
use Rattle.request.specs.declared.call.Use.TheVariants.{Automatic, Fixed}
use Rattle.request.specs.declared.call.PoolRange.{PoolRange}
use Rattle.request.specs.declared.call.PoolRange.TheVariants as P
use Rattle.request.specs.declared.call.Hold.{Hold}
use Rattle.request.specs.declared.call.Hold.TheVariants as H
use Rattle.request.specs.declared.call.Call.{Call}
use Rattle.request.specs.declared.call.Call.TheVariants as C

abbrev pub use_of : Use → DUse
use_of Automatic = automatic
use_of Fixed = fixed

abbrev pub pool_call : PoolRange → DPool
pool_call (P.Mmio s e) = mmio_pool s e
pool_call (P.Pio s e) = pio_pool s e
pool_call (P.Host s e) = host_pool s e
pool_call (P.Input c s e) = input_pool c s e
pool_call (P.Msi c i devices events lpis) = msi_pool c i devices.start.0 devices.end.0 events.start.0 events.end.0 lpis.start.0 lpis.end.0

abbrev pub hold_call : Hold → DHold
hold_call (H.Mmio s e) = mmio_hold s e
hold_call (H.Pio s e) = pio_hold s e
hold_call (H.Host s e) = host_hold s e
hold_call (H.Input c n t sharing) = input_hold c n t sharing
hold_call (H.Devices c i devices) = device_hold c i devices.start.0 devices.end.0
hold_call (H.Events c i v events) = event_hold c i v.0 events.start.0 events.end.0
hold_call (H.Lpis c lpis) = lpi_hold c lpis.start.0 lpis.end.0
hold_call (H.Pair c n t irq) = pair_hold c n t irq

-- none is what cannot be read
abbrev pub call_of : Call → Option DCall
call_of (C.Pool u p) = some (pool (use_of u) (pool_call p))
call_of (C.Hold o h) = some (hold o (hold_call h))
call_of C.Start = some start
call_of (C.Want r) = some (want (request_of r))
call_of C.Bad = none
