-- What a line says determines the call that is read: any two calls of the code that say the same are the same. Assumes nothing.
use mathlib.Core.Path.{◌≡◌, refl, sym, ◌∙◌, ap}
use mathlib.Core.Option.{Option, none, some}
use Prim.Native.Nat.{ℕ}
use Rattle.definition.specs.Pools.{Pool, mmio_pool, pio_pool, host_pool, input_pool, msi_pool, Hold, mmio_hold, pio_hold, host_hold, input_hold, device_hold, event_hold, lpi_hold, pair_hold}
use Rattle.definition.specs.Request as D
use Rattle.definition.specs.Request.{auto, at, mmio_want, pio_want, input_want, host_want, msi_want, automatic, fixed}
use Rattle.definition.specs.Calls as D'
use Rattle.definition.specs.Calls.{pool, hold, start, want}
use Rattle.choose.specs.declared.Choice.{Choice}
use Rattle.choose.specs.declared.Choice.TheVariants as N
use Rattle.tables.specs.declared.DeviceId.{DeviceId}
use Rattle.tables.specs.declared.EventId.{EventId}
use Rattle.tables.specs.declared.Lpi.{Lpi}
use Rattle.choose.specs.Told.{choice_of}
use Rattle.choose.specs.Ids.{device_choice, event_choice, lpi_choice}
use Rattle.request.specs.Asked.{want_of}
use Rattle.request.specs.Calls.{use_of, pool_call, hold_call, call_of}
use Rattle.request.specs.declared.Want.{Want}
use Rattle.request.specs.declared.Want.TheVariants as W
use Rattle.request.specs.declared.call.Use.{Use}
use Rattle.request.specs.declared.call.Use.TheVariants.{Automatic, Fixed}
use Rattle.request.specs.declared.call.PoolRange.{PoolRange}
use Rattle.request.specs.declared.call.PoolRange.TheVariants as P
use Rattle.request.specs.declared.call.Hold as R
use Rattle.request.specs.declared.call.Hold.TheVariants as H
use Rattle.request.specs.declared.call.Call.{Call}
use Rattle.request.specs.declared.call.Call.TheVariants as C

-- ---- the code's call for each that can be said

abbrev use_for : D.Use → Use
use_for automatic = Automatic
use_for fixed = Fixed

abbrev pool_for : Pool → PoolRange
pool_for (mmio_pool s e) = P.Mmio s e
pool_for (pio_pool s e) = P.Pio s e
pool_for (host_pool s e) = P.Host s e
pool_for (input_pool c s e) = P.Input c s e
pool_for (msi_pool c i ds de es ee ls le) = P.Msi c i (record { start = record { 0 = ds }; end = record { 0 = de } }) (record { start = record { 0 = es }; end = record { 0 = ee } }) (record { start = record { 0 = ls }; end = record { 0 = le } })

abbrev hold_for : Hold → R.Hold
hold_for (mmio_hold s e) = H.Mmio s e
hold_for (pio_hold s e) = H.Pio s e
hold_for (host_hold s e) = H.Host s e
hold_for (input_hold c n t s) = H.Input c n t s
hold_for (device_hold c i s e) = H.Devices c i (record { start = record { 0 = s }; end = record { 0 = e } })
hold_for (event_hold c i d s e) = H.Events c i (record { 0 = d }) (record { start = record { 0 = s }; end = record { 0 = e } })
hold_for (lpi_hold c s e) = H.Lpis c (record { start = record { 0 = s }; end = record { 0 = e } })
hold_for (pair_hold c n t h) = H.Pair c n t h

abbrev choice_for : {A : Type 0} → (ℕ → A) → D.Choice → Choice A
choice_for of auto = N.Auto
choice_for of (at n) = N.Fixed (of n)

abbrev device_for : D.Choice → Choice DeviceId
device_for = choice_for (λ n. record { 0 = n })

abbrev event_for : D.Choice → Choice EventId
event_for = choice_for (λ n. record { 0 = n })

abbrev lpi_for : D.Choice → Choice Lpi
lpi_for = choice_for (λ n. record { 0 = n })

abbrev want_for : D.Want → Want
want_for (mmio_want s a c) = W.Mmio s a (choice_for (λ n. n) c)
want_for (pio_want s a c) = W.Pio s a (choice_for (λ n. n) c)
want_for (input_want k t s c) = W.Input k t s (choice_for (λ n. n) c)
want_for (host_want c) = W.Host (choice_for (λ n. n) c)
want_for (msi_want k i n d e l) = W.Msi k i n (device_for d) (event_for e) (lpi_for l)

abbrev call_for : Option D'.Call → Call
call_for none = C.Bad
call_for (some (pool u p)) = C.Pool (use_for u) (pool_for p)
call_for (some (hold o h)) = C.Hold o (hold_for h)
call_for (some start) = C.Start
call_for (some (want r)) = C.Want (record { requester = r.requester; slot = r.slot; want = want_for r.want })

-- ---- the call is the one for what it says

choice_back : (c : Choice ℕ) → choice_for (λ n. n) (choice_of c) ≡ c
choice_back N.Auto = refl
choice_back (N.Fixed n) = refl

device_back : (c : Choice DeviceId) → device_for (device_choice c) ≡ c
device_back N.Auto = refl
device_back (N.Fixed d) = refl

event_back : (c : Choice EventId) → event_for (event_choice c) ≡ c
event_back N.Auto = refl
event_back (N.Fixed e) = refl

lpi_back : (c : Choice Lpi) → lpi_for (lpi_choice c) ≡ c
lpi_back N.Auto = refl
lpi_back (N.Fixed l) = refl

want_back : (w : Want) → want_for (want_of w) ≡ w
want_back (W.Mmio s a c) = ap (W.Mmio s a) (choice_back c)
want_back (W.Pio s a c) = ap (W.Pio s a) (choice_back c)
want_back (W.Input k t s c) = ap (W.Input k t s) (choice_back c)
want_back (W.Host c) = ap W.Host (choice_back c)
want_back (W.Msi k i n d e l) = λ j. W.Msi k i n (device_back d j) (event_back e j) (lpi_back l j)

use_back : (u : Use) → use_for (use_of u) ≡ u
use_back Automatic = refl
use_back Fixed = refl

pool_back : (p : PoolRange) → pool_for (pool_call p) ≡ p
pool_back (P.Mmio s e) = refl
pool_back (P.Pio s e) = refl
pool_back (P.Host s e) = refl
pool_back (P.Input c s e) = refl
pool_back (P.Msi c i d e l) = refl

hold_back : (h : R.Hold) → hold_for (hold_call h) ≡ h
hold_back (H.Mmio s e) = refl
hold_back (H.Pio s e) = refl
hold_back (H.Host s e) = refl
hold_back (H.Input c n t s) = refl
hold_back (H.Devices c i d) = refl
hold_back (H.Events c i v e) = refl
hold_back (H.Lpis c l) = refl
hold_back (H.Pair c n t h) = refl

call_back : (c : Call) → call_for (call_of c) ≡ c
call_back (C.Pool u p) = λ j. C.Pool (use_back u j) (pool_back p j)
call_back (C.Hold o h) = ap (C.Hold o) (hold_back h)
call_back C.Start = refl
call_back (C.Want r) = ap (λ (w : Want). C.Want (record { requester = r.requester; slot = r.slot; want = w })) (want_back r.want)
call_back C.Bad = refl

pub says_one : (c d : Call) → call_of c ≡ call_of d → c ≡ d
says_one c d e = sym (call_back c) ∙ ap (λ (o : Option D'.Call). call_for o) e ∙ call_back d
