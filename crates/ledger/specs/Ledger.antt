-- Histories of the calls that ship, as plain numbers, and the ledger that a caller keeps of them: of each line that is live its twelve numbers with the answer written back, and
-- beside them its record. Said of the calls and their answers alone. Assumes nothing.
use Rattle.std.specs.Prelude.{◌≡◌, Bool, true, false, not, ◌&&◌, ◌||◌, List, [], ◌∷◌, ◌++◌, map, ℕ, ◌*◌, ◌/◌, ◌≤◌, T, eqb, length, take, drop, replicate}
use Rattle.definition.specs.Base.{only_of}
use Rattle.definition.specs.Tables.{plan_limit, record_size, kinds}
use Rattle.definition.specs.Pools.{Claim}
use Rattle.definition.specs.Calls.{State, pools_of, given, start, serve}
use Rattle.definition.specs.Plan.{Lent}
use Rattle.definition.specs.History.{was_accepted}
use Rattle.definition.proofs.RequestLaws.{AutoInFixed}
use Rattle.definition.proofs.ReplayLaws.{Pick}
use Rattle.definition.proofs.PickLaws.{indices}
use Rattle.flat.specs.Flat.{request_size, request_at, flat_plan, flat_allocate}
use Rattle.flat.specs.Pin.{pinned_numbers}
use Rattle.numbers.specs.Face.{number, asks, withdraws, face_call}
use Rattle.replay.specs.Again.{block, rows_told}

-- ---- the calls, each on the state as the last one left it

pub data Call : Type 0 where
  calls : List ℕ → Call  -- planner_call, and its numbers
  allocates : List ℕ → List ℕ → Call  -- planner_allocate: the request's numbers, and the list lent for its record
  plans : List ℕ → List ℕ → Call  -- planner_plan: the requests' numbers, and the list lent for their records

abbrev pub after : Call → State → State
after (calls xs) s = face_call xs s
after (allocates xs out) s = (flat_allocate xs s out).state
after (plans rq out) s = (flat_plan rq s out).state

abbrev pub PoolsRest : List Call → State → Type 0
PoolsRest [] s = Unit {0}
PoolsRest (x ∷ xs) s = ((after x s).pools ≡ s.pools) × PoolsRest xs (after x s)

abbrev pub HeldRest : List Call → State → Type 0
HeldRest [] s = Unit {0}
HeldRest (x ∷ xs) s = ((after x s).held ≡ s.held) × HeldRest xs (after x s)

-- all but 1 and 2 of `planner_call`, which add pools and reservations
unfoldable pub adds : Call → Bool
adds (calls xs) = eqb (number xs 0) 1 || eqb (number xs 0) 2
adds (allocates xs out) = false
adds (plans rq out) = false

-- ---- the ledger

pub record Entry : Type 0 where
  pub line : List ℕ
  pub told : List ℕ

-- the i-th request of a plan as `planner_pin` leaves it, and the i-th record
abbrev pub entry_at : List ℕ → List ℕ → ℕ → Entry
entry_at rq res i = record { line = block request_size (pinned_numbers rq res) i; told = block record_size res i }

-- those of an accepted plan; none of a refused one
unfoldable pub entries_of : List ℕ → Lent → List Entry
entries_of rq v = elim (was_accepted v.state) [ true ↦ map (entry_at rq v.results) (indices 0 (length rq / request_size)) | false ↦ [] ]

-- what a call enters. `planner_call` tells no record: it is the one that `planner_allocate` would have told
unfoldable pub enters : Call → State → List Entry
enters (calls xs) s =
    elim (asks xs) [ true ↦ entries_of (take request_size (drop 1 xs)) (flat_allocate (drop 1 xs) s (replicate record_size 0)) | false ↦ [] ]
enters (allocates xs out) s = entries_of (take request_size xs) (flat_allocate xs s out)
enters (plans rq out) s = entries_of rq (flat_plan rq s out)

-- whose line it is
abbrev pub requester_of : Entry → ℕ
requester_of e = (request_at e.line 0).requester

-- what a call strikes out: an accepted start (3) all, an accepted withdrawal (5) its requester's lines
unfoldable pub strikes : Call → State → Entry → Bool
strikes (calls xs) s e = was_accepted (face_call xs s) && (eqb (number xs 0) 3 || (withdraws xs && eqb (requester_of e) (number xs 1)))
strikes (allocates xs out) s e = false
strikes (plans rq out) s e = false

unfoldable pub remains : List Call → State → Entry → Bool
remains [] s e = true
remains (x ∷ xs) s e = not (strikes x s e) && remains xs (after x s) e

unfoldable pub ledger : List Call → State → List Entry
ledger [] s = []
ledger (x ∷ xs) s = only_of (remains xs (after x s)) (enters x s) ++ ledger xs (after x s)

-- ---- some of its entries

unfoldable pub lines_of : List Entry → List ℕ
lines_of [] = []
lines_of (e ∷ es) = e.line ++ lines_of es

unfoldable pub records_of : List Entry → List ℕ
records_of [] = []
records_of (e ∷ es) = e.told ++ records_of es

-- the rows that their records tell of
unfoldable pub rows_by : List Entry → List Claim
rows_by [] = []
rows_by (e ∷ es) = rows_told e.told ++ rows_by es

-- ---- what is asked

-- tables were freshly started; each range of the automatic pools lies inside one range of the fixed pools of its kind and domain; then any calls, accepted or
-- refused, that leave pools and reservations as they were; any of the ledger's entries, each at most once, in any order, at most a plan's number of them; the same
-- pools and reservations; room for their results
pub record LedgerAgain (s t : State) (xs : List Call) (es : List Entry) (out : List ℕ) : Type 0 where
  pub was_started : T (given kinds s)
  pub inside : AutoInFixed (pools_of s)
  pub pools_rest : PoolsRest xs (serve kinds start s)
  pub held_rest : HeldRest xs (serve kinds start s)
  pub picked : Pick es (ledger xs (serve kinds start s))
  pub few : length es ≤ plan_limit
  pub same_pools : t.pools ≡ s.pools
  pub same_held : t.held ≡ s.held
  pub long : record_size * length es ≤ length out
