-- A plan: its requests in order, up to the first refusal; its results; and its lines with their answers written back. Assumes nothing.
use Rattle.std.specs.Prelude.{Bool, ◌&&◌, List, [], ◌∷◌, ◌++◌, ℕ, zero, suc, ◌*◌, leb, length, drop}
use Rattle.definition.specs.Tables.{plan_limit, record_size, Kind, kinds}
use Rattle.definition.specs.Base.{Refusal, malformed, short, tell, Answer, accepted, refused, require}
use Rattle.definition.specs.Pools.{Holders, Claim, ◌⊕◌}
use Rattle.definition.specs.Request.{Choice, auto, at, Want, mmio_want, pio_want, input_want, host_want, msi_want, Request, Pools, resolve}
use Rattle.definition.specs.Calls.{State, pools_of, owners_of, sound, saying, granting}

pub record Grant : Type 0 where  -- an accepted request and its rows
  pub request : Request
  pub rows : List Claim

abbrev pub grant : Request → List Claim → Grant
grant r cs = record { request = r; rows = cs }

pub data Run : Type 0 where
  done : List Grant → Run  -- all accepted
  stopped : List Grant → Refusal → Run  -- those before the refused one

abbrev pub after : Grant → Run → Run
after g (done gs) = done (g ∷ gs)
after g (stopped gs x) = stopped (g ∷ gs) x

unfoldable pub run : Pools → Holders → List Request → Run  -- each request is answered on the tables that the ones before it left
run P S [] = done []
run P S (r ∷ rs) = elim (resolve P S r) [ accepted cs ↦ after (grant r cs) (run P (S ⊕ cs) rs) | refused x ↦ stopped [] x ]

-- ---- the nine numbers of a result
abbrev pub base_at : ℕ → List Claim → ℕ  -- the first number of the i-th row
base_at i [] = 0
base_at zero (claim ∷ cs) = claim.row.start
base_at (suc i) (claim ∷ cs) = base_at i cs

abbrev pub record_of : ℕ → ℕ → Want → List Claim → List ℕ  -- kind, requester, slot, then the kind's numbers, zeros to nine
record_of q slot (mmio_want size a c) cs = 1 ∷ q ∷ slot ∷ base_at 0 cs ∷ size ∷ 0 ∷ 0 ∷ 0 ∷ 0 ∷ []
record_of q slot (pio_want size a c) cs = 2 ∷ q ∷ slot ∷ base_at 0 cs ∷ size ∷ 0 ∷ 0 ∷ 0 ∷ 0 ∷ []
record_of q slot (input_want controller trigger sharing c) cs = 3 ∷ q ∷ slot ∷ controller ∷ base_at 0 cs ∷ trigger ∷ sharing ∷ 0 ∷ 0 ∷ []
record_of q slot (host_want c) cs = 4 ∷ q ∷ slot ∷ base_at 0 cs ∷ 0 ∷ 0 ∷ 0 ∷ 0 ∷ 0 ∷ []
record_of q slot (msi_want controller its count cd ce cl) cs = 5 ∷ q ∷ slot ∷ controller ∷ its ∷ base_at 0 cs ∷ base_at 1 cs ∷ base_at 2 cs ∷ count ∷ []

unfoldable pub record_of_grant : Grant → List ℕ
record_of_grant g = record_of g.request.requester g.request.slot g.request.want g.rows

unfoldable pub records : List Grant → List ℕ
records [] = []
records (g ∷ gs) = record_of_grant g ++ records gs

abbrev pub written : List ℕ → List ℕ → List ℕ  -- the lent list with these numbers in front: what lies past them is never written
written xs out = xs ++ drop (length xs) out

pub record Lent : Type 0 where  -- what a call hands back that is lent results
  pub state : State
  pub results : List ℕ

abbrev pub lent : State → List ℕ → Lent
lent s out = record { state = s; results = out }

unfoldable pub allocate_into : List Kind → Request → State → List ℕ → Lent  -- one request that writes its record: 1, 11, 2 ..
allocate_into ks r s out =
    elim (require (sound ks s) malformed (require (leb record_size (length out)) short (resolve (pools_of s) (owners_of s) r))) [
      | accepted cs ↦ lent (granting cs s) (written (record_of_grant (grant r cs)) out)
      | refused x ↦ lent (saying (tell 0 x) s) out
    ]

-- ---- a plan
abbrev pub all_rows : List Grant → List Claim
all_rows [] = []
all_rows (g ∷ gs) = g.rows ++ all_rows gs

unfoldable pub roomy : List Request → List ℕ → Bool  -- 11: more requests than a plan may have, or a results list shorter than their records
roomy rs out = leb (length rs) plan_limit && leb (record_size * length rs) (length out)

abbrev pub at_once : Answer Run → Run
at_once (accepted v) = v
at_once (refused x) = stopped [] x

unfoldable pub plan_run : List Request → State → List ℕ → Run  -- how the plan ran: 1, 11, then each request's own refusal with its index
plan_run rs s out =
    at_once (require (sound kinds s) malformed (require (roomy rs out) short (accepted (run (pools_of s) (owners_of s) rs))))

abbrev pub grants_of : Run → List Grant
grants_of (done gs) = gs
grants_of (stopped gs x) = gs

abbrev pub ended : State → Run → State  -- a refused plan puts the tables back as they were at its start
ended s (done gs) = granting (all_rows gs) s
ended s (stopped gs x) = saying (tell (length gs) x) s

unfoldable pub plan : List Request → State → List ℕ → Lent  -- .. and its results keep the records before the refused one; the call hands back those records, the filled front part
plan rs s out = let v : Run = plan_run rs s out in lent (ended s v) (written (records (grants_of v)) out)

-- ---- a line with its answer written back: `auto` becomes the number granted, a number stays
abbrev pub pin_choice : Choice → ℕ → Choice
pin_choice auto b = at b
pin_choice (at b') b = at b'

unfoldable pub pin_want : Want → List Claim → Want
pin_want (mmio_want size a c) cs = mmio_want size a (pin_choice c (base_at 0 cs))
pin_want (pio_want size a c) cs = pio_want size a (pin_choice c (base_at 0 cs))
pin_want (input_want controller trigger sharing c) cs = input_want controller trigger sharing (pin_choice c (base_at 0 cs))
pin_want (host_want c) cs = host_want (pin_choice c (base_at 0 cs))
pin_want (msi_want controller its count cd ce cl) cs = msi_want controller its count (pin_choice cd (base_at 0 cs)) (pin_choice ce (base_at 1 cs)) (pin_choice cl (base_at 2 cs))

unfoldable pub pinned : Grant → Request
pinned g = record { requester = g.request.requester; slot = g.request.slot; want = pin_want g.request.want g.rows }
