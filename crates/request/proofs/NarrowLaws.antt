-- A DeviceID, an EventID or an LPI that code holds has 32 bits, so a choice of one is good. Assumes nothing.
use mathlib.Core.Path.{◌≡◌, refl}
use mathlib.Core.Bool.{true}
use mathlib.Core.List.{List}
use Prim.Native.Nat.{◌<◌}
use native.Mathlib.Omega.{arith}
use mir.Val.{Val}
use denote.Shadow.{shadow}
use borrow.Author.Rules.{rules}
use borrow.Author.Tests.{le-leb}
use Rattle.definition.specs.Request.{good_choice}
use Rattle.tables.specs.declared.DeviceId.{DeviceId}
use Rattle.tables.specs.declared.EventId.{EventId}
use Rattle.tables.specs.declared.Lpi.{Lpi}
use Rattle.tables.specs.contracts.DeviceId as D
use Rattle.tables.specs.contracts.EventId as E
use Rattle.tables.specs.contracts.Lpi as L
use Rattle.choose.specs.Ids.{device_choice, event_choice, lpi_choice}
use Rattle.choose.specs.declared.Choice.{Choice}
use Rattle.choose.specs.declared.Choice.TheVariants.{Auto, Fixed}
use Rattle.choose.specs.contracts.Choice as C

pub device_good : (c : Choice DeviceId) (vs : List Val) → shadow ((C.the_row D.the_row).own_val c vs) → good_choice 4294967295 (device_choice c) ≡ true
unfolding good_choice
device_good Auto vs g = refl
device_good (Fixed d) vs g = let l : d.0 < 4294967296 = search rules in le-leb d.0 4294967295 (omega arith)

pub event_good : (c : Choice EventId) (vs : List Val) → shadow ((C.the_row E.the_row).own_val c vs) → good_choice 4294967295 (event_choice c) ≡ true
unfolding good_choice
event_good Auto vs g = refl
event_good (Fixed e) vs g = let l : e.0 < 4294967296 = search rules in le-leb e.0 4294967295 (omega arith)

pub lpi_good : (c : Choice Lpi) (vs : List Val) → shadow ((C.the_row L.the_row).own_val c vs) → good_choice 4294967295 (lpi_choice c) ≡ true
unfolding good_choice
lpi_good Auto vs g = refl
lpi_good (Fixed l) vs g = let h : l.0 < 4294967296 = search rules in le-leb l.0 4294967295 (omega arith)
