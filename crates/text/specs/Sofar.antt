-- What a line does to the tables, and how far the text has come behind it, as the code has them. That they make the definition's line step is the law `step_is`. Assumes nothing.
use Rattle.std.specs.Prelude.{◌≡◌, Bool, true, false, ◌&&◌, List, ℕ, ◌+◌, ◌*◌, eqb, ltb, take, None, Some}
use Rattle.std.specs.Prelude as P
use Rattle.std.proofs.Math.Option.{Option, none, some}
use Rattle.definition.specs.Base.{Said, says, silence}
use Rattle.definition.specs.Tables.{plan_limit, record_size}
use Rattle.definition.specs.Request.{Request}
use Rattle.definition.specs.Calls.{State, Call, pool, hold, start, want}
use Rattle.lines.specs.Text as Text
use Rattle.lines.specs.Text.{sofar, accepts}
use Rattle.request.specs.Asked.{request_of}
use Rattle.request.specs.declared.Request.{Request as R}
use Rattle.inplace.specs.declared.marks.Marks.{Marks}
use Rattle.writers.specs.declared.output.Refused.{Refused}
use Rattle.text.specs.declared.feed.sofar.Reason.{Reason}
use Rattle.text.specs.declared.feed.sofar.Sofar.{Sofar}

-- the definition's words for a refusal, or for none
abbrev pub said_of : P.Option Reason → Said
said_of None = silence
said_of (Some r) = says r.index r.number r.namespace r.owner r.detail

abbrev pub said_in : Sofar → Said
said_in t = said_of t.refusal

abbrev pub sofar_of : Sofar → State → List ℕ → Text.Sofar
sofar_of t s zs = sofar t.lines s t.wants (take (record_size * t.wants) zs) (said_in t)

abbrev pub started : Sofar
started = record { at = 0; lines = 0; wants = 0; refusal = None }

abbrev pub is_none : P.Option Reason → Bool
is_none None = true
is_none (Some r) = false

-- a refusal has a number
abbrev pub Named : Sofar → Type 0
Named t = accepts (said_in t) ≡ is_none t.refusal

-- any five numbers, which are no refusal's where its own is 0
abbrev pub refused_by : Reason → P.Option Reason
refused_by r = elim (eqb r.number 0) [ true ↦ None | false ↦ Some r ]

-- .. behind the numbers of how far a text has come
abbrev pub come_to : ℕ → ℕ → ℕ → Reason → Sofar
come_to e l n r = record { at = e; lines = l; wants = n; refusal = refused_by r }

-- whether one more line of a text of n bytes is taken
abbrev pub goes_of : Sofar → ℕ → Bool
goes_of t n = is_none t.refusal && ltb t.at n

abbrev pub no_of : P.Option Reason → ℕ → P.Option Refused
no_of None l = None
no_of (Some r) l = Some (record { line = l; number = r.number; namespace = r.namespace; owner = r.owner; detail = r.detail })

-- its `no` line
abbrev pub refused_of : Sofar → P.Option Refused
refused_of t = no_of t.refusal t.lines

-- ---- what a line does, after n wants

abbrev pub at_first : ℕ → Call → Option Call
at_first n c = elim (eqb n 0) [ true ↦ some c | false ↦ none ]

-- before a want is answered
abbrev pub head_of : ℕ → Option Call → Option Call
head_of n none = none
head_of n (some (pool u p)) = at_first n (pool u p)
head_of n (some (hold o h)) = at_first n (hold o h)
head_of n (some start) = none
head_of n (some (want r)) = at_first n start

-- a want is answered
abbrev pub asked_of : ℕ → Option Call → Option Request
asked_of n none = none
asked_of n (some (pool u p)) = none
asked_of n (some (hold o h)) = none
asked_of n (some start) = none
asked_of n (some (want r)) = elim (ltb n plan_limit) [ true ↦ some r | false ↦ none ]

-- .. as the code has its request
abbrev pub asked_as : P.Option R → Option Request
asked_as None = none
asked_as (Some r) = some (request_of r)

-- ---- how far the text has come, the next line starting at e

-- a number alone
abbrev pub bare : ℕ → Reason
bare x = record { number = x; index = 0; namespace = 0; owner = 0; detail = 0 }

-- what a call leaves, if it was refused
abbrev pub left_by : Marks → P.Option Reason
left_by m = elim (eqb m.number 0) [ true ↦ None | false ↦ Some (record { number = m.number; index = m.index; namespace = m.namespace; owner = m.owner; detail = m.detail }) ]

abbrev pub failed : Sofar → ℕ → ℕ → Sofar
failed t e x = record { at = e; lines = t.lines + 1; wants = t.wants; refusal = Some (bare x) }

abbrev pub told : Sofar → ℕ → ℕ → Marks → Sofar
told t e n m = record { at = e; lines = t.lines + 1; wants = n; refusal = left_by m }

abbrev pub added_to : Sofar → ℕ → Marks → Sofar
added_to t e m = elim (eqb t.wants 0) [ true ↦ told t e t.wants m | false ↦ failed t e 10 ]

abbrev pub wanted_to : Sofar → ℕ → Marks → Sofar
wanted_to t e m =
    elim (ltb t.wants plan_limit) [
      | true ↦ told t e (elim (eqb m.number 0) [ true ↦ t.wants + 1 | false ↦ t.wants ]) m
      | false ↦ failed t e 11
    ]

abbrev pub advanced_to : Sofar → Option Call → ℕ → Marks → Sofar
advanced_to t none e m = failed t e 10
advanced_to t (some (pool u p)) e m = added_to t e m
advanced_to t (some (hold o h)) e m = added_to t e m
advanced_to t (some start) e m = failed t e 10
advanced_to t (some (want r)) e m = wanted_to t e m
