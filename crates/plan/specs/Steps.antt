-- A plan as steps over requests that come one by one. That they make the definition's plan is the law `steps_plan`. Assumes nothing.
use Rattle.std.specs.Prelude.{◌≡◌, Bool, true, false, ◌&&◌, List, [], ◌∷◌, ◌++◌, ℕ, ◌+◌, ◌*◌, ◌/◌, T, leb, ltb, eqb, length, take, drop, Option, Some, None}
use Rattle.definition.specs.Tables.{plan_limit, record_size, kinds}
use Rattle.definition.specs.Base.{malformed, short, Said, says, silence, Answer, accepted, refused, require}
use Rattle.definition.specs.Request.{Request}
use Rattle.definition.specs.Calls.{State, sound, saying, settle}
use Rattle.definition.specs.Pools.{Claim}
use Rattle.definition.specs.Plan.{Lent, lent, allocate_into, grant, record_of_grant, written}
use Rattle.request.specs.declared.Request as R
use Rattle.decide.specs.declared.Bases.{Bases}
use Rattle.allocation.specs.Records.{record_in}

-- no request was refused so far
abbrev pub clear : State → Bool
clear s = eqb s.said.number 0

-- while no request was refused the tables are sound
abbrev pub Steady : State → Type 0
Steady s = clear s ≡ true → T (sound kinds s)

-- before the first request: 1, 11, or five zeros beside the tables
unfoldable pub opened : ℕ → ℕ → State → State
opened n room s = settle s (require (sound kinds s) malformed (require (leb n plan_limit && leb (record_size * n) room) short (accepted (saying silence s))))

abbrev pub indexed : ℕ → Said → Said
indexed i w = says i w.number w.namespace w.owner w.detail

-- a refusal names its request
abbrev pub numbered : ℕ → State → State
numbered i s = elim (clear s) [ true ↦ s | false ↦ saying (indexed i s.said) s ]

-- the i-th request is lent the part of the results that begins at its own record
unfoldable pub answered : ℕ → Request → State → List ℕ → Lent
answered i r s out =
    let p : Lent = allocate_into kinds r s (drop (record_size * i) out) in lent (numbered i p.state) (take (record_size * i) out ++ p.results)

-- .. unless one before it was refused
unfoldable pub turned : ℕ → Request → State → List ℕ → Lent
turned i r s out = elim (clear s && ltb i (length out / record_size)) [ true ↦ answered i r s out | false ↦ lent s out ]

unfoldable pub turns : ℕ → List Request → State → List ℕ → Lent
turns i [] s out = lent s out
turns i (r ∷ rs) s out = turns (i + 1) rs (turned i r s out).state (turned i r s out).results

-- the numbers from a on begin with these
abbrev pub put_from : ℕ → List ℕ → List ℕ → List ℕ
put_from a xs out = take a out ++ written xs (drop a out)

-- what an answer writes
abbrev pub recorded : ℕ → Request → Answer (List Claim) → List ℕ → List ℕ
recorded i r (accepted cs) out = put_from (record_size * i) (record_of_grant (grant r cs)) out
recorded i r (refused y) out = out

-- ---- the parts of a turn, as the code has them

abbrev pub index_for : Option Bases → ℕ → ℕ
index_for (Some b) i = 0
index_for None i = i

-- the record of an accepted request in its place, and no other number changed: law `written_is` ties it to what the answer writes
abbrev pub written_at : ℕ → R.Request → Option Bases → List ℕ → List ℕ
written_at i r (Some b) out = put_from (record_size * i) (record_in r b) out
written_at i r None out = out

-- after the last: a refusal puts the tables back as they were at the start
abbrev pub settled : State → State → State
settled s t = elim (clear t) [ true ↦ t | false ↦ saying t.said s ]

unfoldable pub steps : List Request → State → List ℕ → Lent
steps rs s out = let p : Lent = turns 0 rs (opened (length rs) (length out) s) out in lent (settled s p.state) p.results
