-- Demand 3 for the calls: what is asked of the states, the requests and the results as plain numbers, and what is promised of them. Assumes nothing.
use Rattle.std.specs.Prelude.{◌≡◌, List, [], ◌∷◌, ◌++◌, ℕ, ◌+◌, ◌*◌, ◌/◌, ◌≤◌, length, get_or, take, drop}
use Rattle.definition.specs.Tables.{record_size, dom, mmio, pio, input, host, device, event, lpi, kinds, range_row, wired_row}
use Rattle.definition.specs.Pools.{at_kind, Claim}
use Rattle.definition.specs.Calls.{State, pools_of, start, serve}
use Rattle.definition.specs.Plan.{Lent}
use Rattle.definition.proofs.RequestLaws.{AutoInFixed}
use Rattle.definition.proofs.ReplayLaws.{Pick}
use Rattle.definition.proofs.PickLaws.{indices}
use Rattle.flat.specs.Flat.{request_size, Form, unknown, msi, form_at, flat_plan}
use Rattle.flat.specs.Flat as F
use Rattle.flat.specs.Pin.{pinned_numbers}

-- ---- some of a list's blocks

-- the i-th block of so many numbers
abbrev pub block : ℕ → List ℕ → ℕ → List ℕ
block size xs i = take size (drop (size * i) xs)

-- those of these indices, one behind the other
unfoldable pub blocks : ℕ → List ℕ → List ℕ → List ℕ
blocks size xs [] = []
blocks size xs (i ∷ is) = block size xs i ++ blocks size xs is

-- the requests of these indices, as many of their numbers as there is room for
abbrev pub taken : ℕ → List ℕ → List ℕ → List ℕ
taken room xs is = take room (blocks request_size xs is)

-- ---- the rows of the owner tables that a record of nine numbers tells of

unfoldable pub rows_in : Form → (ℕ → ℕ) → List Claim
rows_in unknown r = []
rows_in F.mmio r = at_kind mmio (range_row (dom 0 0 0) (r 3) (r 3 + r 4) (r 1)) ∷ []
rows_in F.pio r = at_kind pio (range_row (dom 0 0 0) (r 3) (r 3 + r 4) (r 1)) ∷ []
rows_in F.input r = at_kind input (wired_row (r 3) (r 4) (r 5) (r 6) (r 1)) ∷ []
rows_in F.host r = at_kind host (range_row (dom 0 0 0) (r 3) (r 3 + 1) (r 1)) ∷ []
rows_in msi r =
    at_kind device (range_row (dom (r 3) (r 4) 0) (r 5) (r 5 + 1) (r 1)) ∷ at_kind event (range_row (dom (r 3) (r 4) (r 5)) (r 6) (r 6 + r 8) (r 1))
    ∷ at_kind lpi (range_row (dom (r 3) 0 0) (r 7) (r 7 + r 8) (r 1)) ∷ []

abbrev pub rows_told : List ℕ → List Claim
rows_told rec = rows_in (form_at (get_or rec 0 0)) (λ j. get_or rec j 0)

-- those of the records of these indices, in this order
unfoldable pub rows_for : List ℕ → List ℕ → List Claim
rows_for res [] = []
rows_for res (i ∷ is) = rows_told (block record_size res i) ++ rows_for res is

-- ---- what is asked

-- the plan of rq was accepted from freshly started tables; each range of the automatic pools lies inside one range of the fixed pools of its kind and
-- domain; any of its requests, by their indices, each at most once, in any order; the same pools and reservations; room for their results
pub record FlatAgain (s t : State) (rq out is out' : List ℕ) : Type 0 where
  pub was_accepted_is : (flat_plan rq (serve kinds start s) out).state.said.number ≡ 0
  pub inside : AutoInFixed (pools_of s)
  pub picked : Pick is (indices 0 (length rq / request_size))
  pub same_pools : t.pools ≡ s.pools
  pub same_held : t.held ≡ s.held
  pub long : record_size * length is ≤ length out'

-- the results of the first run
abbrev pub first_results : State → List ℕ → List ℕ → List ℕ
first_results s rq out = (flat_plan rq (serve kinds start s) out).results

-- .. written back into the requests by `flat`, those of these indices, run again
abbrev pub run_again : State → State → List ℕ → List ℕ → List ℕ → List ℕ → Lent
run_again s t rq out is out' = flat_plan (blocks request_size (pinned_numbers rq (first_results s rq out)) is) (serve kinds start t) out'
