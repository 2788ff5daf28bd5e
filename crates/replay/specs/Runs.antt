-- Two runs: what the calls make of a state and of the lists lent to them, start, plan, pin, take, start, plan. Assumes nothing.
use Rattle.std.specs.Prelude.{◌≡◌, true, false, List, ◌++◌, ℕ, suc, ◌*◌, ◌/◌, ◌≤◌, eqb, length}
use Rattle.definition.specs.Tables.{plan_limit, record_size, Kind, kinds}
use Rattle.definition.specs.Base.{silence}
use Rattle.definition.specs.Pools.{rows_of}
use Rattle.definition.specs.Calls.{State, pools_of, held_of, owners_of, start, serve}
use Rattle.definition.specs.Plan.{Lent, written}
use Rattle.definition.proofs.RequestLaws.{AutoInFixed}
use Rattle.definition.proofs.ReplayLaws.{Pick}
use Rattle.definition.proofs.PickLaws.{indices}
use Rattle.flat.specs.Flat.{request_size, flat_plan}
use Rattle.flat.specs.Pin.{pinned_numbers}
use Rattle.replay.specs.Again.{blocks, taken, rows_for}

-- what is handed back: the state, the requests, the results of the first run and those of the second
pub record Runs : Type 0 where
  pub state : State
  pub requests : List ℕ
  pub results : List ℕ
  pub second : List ℕ

abbrev pub runs : State → List ℕ → List ℕ → List ℕ → Runs
runs s rq res res' = record { state = s; requests = rq; results = res; second = res' }

-- room for one line more than a plan has: of more lines than that the plan says 11 all the same
abbrev pub most_taken : ℕ
most_taken = request_size * suc plan_limit

-- the first run
abbrev pub first_run : List ℕ → State → List ℕ → Lent
first_run rq s out = flat_plan rq (serve kinds start s) out

-- the lines of these indices, planned on the state started
abbrev pub second_run : List ℕ → List ℕ → State → List ℕ → Lent
second_run lines is s out' = flat_plan (taken most_taken lines is) (serve kinds start s) out'

-- an accepted first run is pinned into the requests, and the selected lines are run; after a refused one nothing more is done
abbrev pub runs_after : (rq is out' : List ℕ) → Lent → Runs
runs_after rq is out' one =
    let lines : List ℕ = pinned_numbers rq one.results in
    let two : Lent = second_run lines is one.state out' in
    elim (eqb one.state.said.number 0) [
      | true ↦ runs two.state lines one.results two.results
      | false ↦ runs one.state rq one.results out'
    ]

unfoldable pub runs_of : (rq is out out' : List ℕ) → State → Runs
runs_of rq is out out' s = runs_after rq is out' (first_run rq s out)

-- DEMAND 3's conditions: the first run was accepted; each range of the automatic pools lies inside one range of the fixed pools of its kind and domain;
-- any of its lines, each at most once, in any order; room for their results
pub record Replayable (rq is out out' : List ℕ) (s : State) : Type 0 where
  pub was_accepted_is : (first_run rq s out).state.said.number ≡ 0
  pub inside : AutoInFixed (pools_of s)
  pub picked : Pick is (indices 0 (length rq / request_size))
  pub long : record_size * length is ≤ length out'

-- .. and what it promises of what is handed back: all are accepted, each has the nine numbers that it had in the first results and nothing is written past
-- them, the used rows of each owner table are the reservations and the rows that those numbers tell of, and nothing else; pools and reservations are as they were
pub record Replays (is out' : List ℕ) (s : State) (r : Runs) : Type 0 where
  pub accepted : r.state.said ≡ silence
  pub same : r.second ≡ written (blocks record_size r.results is) out'
  pub owners : (k : Kind) → owners_of r.state k ≡ held_of s k ++ rows_of k (rows_for r.results is)
  pub pools : r.state.pools ≡ s.pools
  pub held : r.state.held ≡ s.held
