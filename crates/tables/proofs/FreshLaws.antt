-- Fresh tables as the definition has them: rows of zeros. Assumes nothing.
use mathlib.Core.Path.{◌≡◌, ◌∙◌, ap}
use Prim.Native.Nat.{ℕ, ◌<◌}
use lib.ListN.{length, get_or, length-replicate, get_or-replicate}
use Rattle.definition.specs.Tables.{pool_limit, row_limit, Kind, mmio, pio, input, host, device, event, lpi, blank_span, blank_row}
use Rattle.definition.specs.Request.{Use, automatic, fixed}
use Rattle.definition.specs.Calls.{fresh, zeros}
use Rattle.tables.specs.Views.{span_of, range_of, input_of, pool_at, range_at, input_at, pool_view, ranges_view, inputs_view, pool_of, pools_view, holders_view, state_view}
use Rattle.tables.specs.Whole.{nils, fresh_pool, fresh_ranges, fresh_inputs, fresh_pools, fresh_holders, fresh_state}
use Rattle.tables.specs.Sized.{SizedPool, SizedRanges, SizedInputs, SizedHolders, SizedState}
use Rattle.tables.proofs.ListedLaws.{listed_ext, listed_const}

nil : (n k : ℕ) → k < n → get_or (nils n) k 0 ≡ 0
nil n k l = get_or-replicate n k 0 0 l

pub fresh_pool_view : pool_view fresh_pool ≡ zeros pool_limit blank_span
fresh_pool_view =
    ap (λ xs. record { count = 0; rows = xs })
    (listed_ext (λ k. span_of (pool_at fresh_pool k)) (λ k. blank_span) pool_limit (λ k l. rw (nil pool_limit k l)) ∙ listed_const blank_span pool_limit)

pub fresh_ranges_view : ranges_view fresh_ranges ≡ zeros row_limit (blank_row mmio)
fresh_ranges_view =
    ap (λ xs. record { count = 0; rows = xs })
    (listed_ext (λ k. range_of (range_at fresh_ranges k)) (λ k. blank_row mmio) row_limit (λ k l. rw (nil row_limit k l)) ∙ listed_const (blank_row mmio) row_limit)

pub fresh_inputs_view : inputs_view fresh_inputs ≡ zeros row_limit (blank_row input)
fresh_inputs_view =
    ap (λ xs. record { count = 0; rows = xs })
    (listed_ext (λ k. input_of (input_at fresh_inputs k)) (λ k. blank_row input) row_limit (λ k l. rw (nil row_limit k l)) ∙ listed_const (blank_row input) row_limit)

fresh_pools_view : (u : Use) (k : Kind) → pools_view fresh_pools fresh_pools u k ≡ zeros pool_limit blank_span
fresh_pools_view automatic mmio = fresh_pool_view
fresh_pools_view automatic pio = fresh_pool_view
fresh_pools_view automatic input = fresh_pool_view
fresh_pools_view automatic host = fresh_pool_view
fresh_pools_view automatic device = fresh_pool_view
fresh_pools_view automatic event = fresh_pool_view
fresh_pools_view automatic lpi = fresh_pool_view
fresh_pools_view fixed mmio = fresh_pool_view
fresh_pools_view fixed pio = fresh_pool_view
fresh_pools_view fixed input = fresh_pool_view
fresh_pools_view fixed host = fresh_pool_view
fresh_pools_view fixed device = fresh_pool_view
fresh_pools_view fixed event = fresh_pool_view
fresh_pools_view fixed lpi = fresh_pool_view

fresh_holders_view : (k : Kind) → holders_view fresh_holders k ≡ zeros row_limit (blank_row k)
fresh_holders_view mmio = fresh_ranges_view
fresh_holders_view pio = fresh_ranges_view
fresh_holders_view input = fresh_inputs_view
fresh_holders_view host = fresh_ranges_view
fresh_holders_view device = fresh_ranges_view
fresh_holders_view event = fresh_ranges_view
fresh_holders_view lpi = fresh_ranges_view

pub fresh_view : state_view fresh_state ≡ fresh
fresh_view = λ i.
    record {
      pools = λ u k. fresh_pools_view u k i;
      held = λ k. fresh_holders_view k i;
      owners = λ k. fresh_holders_view k i;
      said = fresh.said;
    }

pub fresh_sized : SizedState fresh_state
fresh_sized = record { auto = λ k. pools k; fixed = λ k. pools k; held = holders; owners = holders }
  where
    few : length (nils pool_limit) ≡ pool_limit
    few = length-replicate {A = ℕ} pool_limit 0

    one : SizedPool fresh_pool
    one = record { controller = few; its = few; start = few; end = few }

    pools : (k : Kind) → SizedPool (pool_of fresh_pools k)
    pools mmio = one
    pools pio = one
    pools input = one
    pools host = one
    pools device = one
    pools event = one
    pools lpi = one

    all : length (nils row_limit) ≡ row_limit
    all = length-replicate {A = ℕ} row_limit 0

    range : SizedRanges fresh_ranges
    range = record { controller = all; its = all; device = all; start = all; end = all; owner = all }

    inputs : SizedInputs fresh_inputs
    inputs = record { controller = all; input = all; trigger = all; sharing = all; owner = all }

    holders : SizedHolders fresh_holders
    holders = record { mmio = range; pio = range; input = inputs; host = range; device = range; event = range; lpi = range }
