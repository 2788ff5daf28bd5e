-- What has happened to a state: calls one after the other, each on the state as the last one left it; the requests accepted in them, and those of
-- them that are live. All of it is said of the calls and their answers, never of the tables. Assumes nothing.
use Rattle.std.specs.Prelude.{◌≡◌, Bool, true, false, not, ◌&&◌, List, [], ◌∷◌, ◌++◌, ℕ, suc, ◌+◌, leb, eqb, length}
use Rattle.definition.specs.Base.{only_of, malformed, short, Said, Answer, accepted, refused, require}
use Rattle.definition.specs.Tables.{record_size, Kind, kinds, same_kind}
use Rattle.definition.specs.Pools.{Claim}
use Rattle.definition.specs.Request.{Request, kinds_of, resolve}
use Rattle.definition.specs.Calls.{State, pools_of, owners_of, sound, saying, Call, pool, hold, start, want, serve}
use Rattle.definition.specs.Plan.{Grant, grant, Run, done, stopped, allocate_into, plan_run, plan}
use Rattle.definition.specs.Withdraw.{withdraw}

pub data Step : Type 0 where
  called : Call → Step  -- a pool, a reservation, a start, one request
  allocated : Request → List ℕ → Step  -- one request with its record, and the list lent to it
  planned : List Request → List ℕ → Step  -- a plan, and the results list lent to it
  withdrawn : ℕ → Step
  unread : Said → Step  -- what is no call: it is answered, and changes no table

abbrev pub step : Step → State → State
step (called c) s = serve kinds c s
step (allocated r out) s = (allocate_into kinds r s out).state
step (planned rs out) s = (plan rs s out).state
step (withdrawn q) s = withdraw q s
step (unread w) s = saying w s

unfoldable pub steps : List Step → State → State
steps [] s = s
steps (x ∷ xs) s = steps xs (step x s)

-- ---- whether all steps leave the pools, and the reservations, as they were
abbrev pub PoolsStay : List Step → State → Type 0
PoolsStay [] s = Unit {0}
PoolsStay (x ∷ xs) s = ((step x s).pools ≡ s.pools) × PoolsStay xs (step x s)

abbrev pub HeldStay : List Step → State → Type 0
HeldStay [] s = Unit {0}
HeldStay (x ∷ xs) s = ((step x s).held ≡ s.held) × HeldStay xs (step x s)

-- ---- what a step grants: a refused plan grants nothing
abbrev pub grant_of : Request → Answer (List Claim) → List Grant
grant_of r (accepted cs) = grant r cs ∷ []
grant_of r (refused x) = []

abbrev pub all_or_none : Run → List Grant
all_or_none (done gs) = gs
all_or_none (stopped gs x) = []

unfoldable pub granted : Step → State → List Grant
granted (called (pool u p)) s = []
granted (called (hold o h)) s = []
granted (called start) s = []
granted (called (want r)) s = grant_of r (require (sound kinds s) malformed (resolve (pools_of s) (owners_of s) r))
granted (allocated r out) s = grant_of r (require (sound kinds s) malformed (require (leb record_size (length out)) short (resolve (pools_of s) (owners_of s) r)))
granted (planned rs out) s = all_or_none (plan_run rs s out)
granted (withdrawn q) s = []
granted (unread w) s = []

unfoldable pub accepted_in : List Step → State → List Grant  -- all of a history, in order
accepted_in [] s = []
accepted_in (x ∷ xs) s = granted x s ++ accepted_in xs (step x s)

-- ---- what a step takes away: an accepted withdrawal its requester's grants, an accepted start all
unfoldable pub was_accepted : State → Bool
was_accepted s = eqb s.said.number 0

unfoldable pub takes : Step → State → Grant → Bool
takes (called (pool u p)) s g = false
takes (called (hold o h)) s g = false
takes (called start) s g = was_accepted (serve kinds start s)
takes (called (want r)) s g = false
takes (allocated r out) s g = false
takes (planned rs out) s g = false
takes (withdrawn q) s g = was_accepted (withdraw q s) && eqb g.request.requester q
takes (unread w) s g = false

unfoldable pub outlives : List Step → State → Grant → Bool  -- no later step takes it
outlives [] s g = true
outlives (x ∷ xs) s g = not (takes x s g) && outlives xs (step x s) g

unfoldable pub live : List Step → State → List Grant  -- accepted and not taken later
live [] s = []
live (x ∷ xs) s = only_of (outlives xs (step x s)) (granted x s) ++ live xs (step x s)

unfoldable pub lost : List Step → State → List Grant  -- accepted and taken later
lost [] s = []
lost (x ∷ xs) s = only_of (λ g. not (outlives xs (step x s) g)) (granted x s) ++ lost xs (step x s)

-- ---- how many rows of a kind requests need: a request one in each table of its kind, an MSI request in three
unfoldable pub among : Kind → List Kind → ℕ
among k [] = 0
among k (j ∷ js) = elim (same_kind j k) [ true ↦ suc (among k js) | false ↦ among k js ]

unfoldable pub asked_of : Kind → List Grant → ℕ
asked_of k [] = 0
asked_of k (g ∷ gs) = among k (kinds_of g.request.want) + asked_of k gs
