-- Some events are asked for; all numbers have 32 bits by their types. Assumes nothing.
use Rattle.std.proofs.Common.{◌≡◌, refl, true, ◌&&◌, not, ℕ, zero, suc, arith, eqb, ltb, le-leb, lt-ltb, ne_eqb}
use Rattle.definition.specs.Request.{good_want}
use Rattle.request.proofs.NarrowLaws.{device_good, event_good, lpi_good}
use Rattle.request.proofs.good_msi.Goals as goal

some : (n : ℕ) → not (eqb n 0) ≡ ltb 0 n && true
some zero = refl
some (suc n) = rw (lt-ltb 0 (suc n) (omega arith), ne_eqb (suc n) 0 (λ e. omega arith))

pub returns : goal.returns
unfolding good_want
returns c =
    let a = c.args in
    rw (le-leb a.controller 4294967295 (omega arith), le-leb a.its 4294967295 (omega arith), le-leb a.count 4294967295 (omega arith), device_good a.device _ c.well_formed.1.1.1.0, event_good a.event _ c.well_formed.1.1.1.1.0, lpi_good a.lpi _ c.well_formed.1.1.1.1.1.0) (some a.count)
