-- Tables judged sound are what adding to them asks. Assumes nothing.
use lib.Dec.{T}
use Prim.Native.Nat.{◌≤◌}
use Rattle.definition.specs.Tables.{row_limit, Kind, kinds, pool_limit, same_span, blank_span, tidy}
use Rattle.definition.specs.Request.{Use, automatic, fixed}
use Rattle.definition.specs.Calls.{given}
use Rattle.definition.proofs.RowLaws.{every_kind}
use Rattle.definition.proofs.TableLaws.{says_tidy}
use Rattle.definition.proofs.StateLaws.{given_for}
use Rattle.tables.specs.Views.{pool_of, pool_view, holders_view, state_view}
use Rattle.tables.specs.declared.Pools.{Pools}
use Rattle.tables.specs.declared.State.{State}
use Rattle.adding.specs.Looks.{Fit}
use Rattle.door.specs.Kept.{TidyPools}

pub tidy_at : (p : Pools) → TidyPools p → (k : Kind) → T (tidy pool_limit (same_span blank_span) (pool_view (pool_of p k)))
unfolding TidyPools
tidy_at p t k = t k

module _ (s : State) (g : T (given kinds (state_view s))) where
  tidied : (u : Use) (k : Kind) → T (tidy pool_limit (same_span blank_span) ((state_view s).pools u k))
  tidied u k = says_tidy pool_limit (same_span blank_span) ((state_view s).pools u k) ((given_for kinds (state_view s) g k (every_kind k)).pools u).tidied

  -- counts are within sizes, and unused rows are zero
  pub given_auto : TidyPools s.auto
  unfolding TidyPools
  given_auto = tidied automatic

  pub given_fixed : TidyPools s.fixed
  unfolding TidyPools
  given_fixed = tidied fixed

  -- there are no more reservations than rows
  given_few : (k : Kind) → (holders_view s.held k).count ≤ row_limit
  given_few k = (given_for kinds (state_view s) g k (every_kind k)).held.tidied.within

  pub fit : (k : Kind) → Fit (pool_of s.auto k) (pool_of s.fixed k) (holders_view s.held k).count
  fit k = (tidied automatic k, (tidied fixed k, given_few k))
