-- What soundness gives each look: tables within their sizes and in order, and a size and an alignment above 0. Assumes nothing.
use mathlib.Core.Path.{◌≡◌, sym, ap, subst}
use Prim.Native.Nat.{ℕ, ◌≤◌}
use lib.Dec.{T}
use Rattle.definition.specs.Tables.{row_limit, Kind, kinds, Row, Table}
use Rattle.definition.specs.Request.{automatic, fixed}
use Rattle.definition.specs.Calls.{sound}
use Rattle.definition.proofs.StateLaws.{Sound, sound_says}
use Rattle.tables.specs.Views.{pool_of, ranges_view, holders_view, state_view}
use Rattle.tables.specs.declared.State.{State}
use Rattle.tables.specs.declared.Ranges.{Ranges}
use Rattle.msi.specs.Finds.{Ready}
use Rattle.decide.specs.Granted.{Fit}
use Rattle.decide.proofs.ReadyLaws.{pool_order, sound_one}

pub sound_at_is : (s : State) (k : Kind) → T (sound kinds (state_view s)) → Sound (state_view s) k
sound_at_is s k t = sound_says (state_view s) k (sound_one (state_view s) k t)

pub counted : (s : State) (k : Kind) → T (sound kinds (state_view s)) → (holders_view s.owners k).count ≤ row_limit
counted s k t = (sound_at_is s k t).owners.tidied.within

pub fit : (s : State) (k : Kind) → T (sound kinds (state_view s)) → Fit (pool_of s.auto k) (pool_of s.fixed k) (holders_view s.owners k).count
fit s k t =
    let h = sound_at_is s k t in
    (pool_order k (pool_of s.auto k) (h.given.pools automatic), ((h.given.pools fixed).tidied.within, counted s k t))

-- the tables of an MSI request are ready for its chain
pub ready : (s : State) (k : Kind) (t : Ranges) → ranges_view t ≡ holders_view s.owners k → T (sound kinds (state_view s)) → Ready k (pool_of s.auto k) (pool_of s.fixed k) t
ready s k t e h =
    let z = sound_at_is s k h in
    record { auto = pool_order k (pool_of s.auto k) (z.given.pools automatic); fixed = (z.given.pools fixed).tidied.within; rows = subst (λ (n : ℕ). n ≤ row_limit) (sym (ap (λ (v : Table Row). v.count) e)) (counted s k h); goods = (z.given.pools automatic).goods }
