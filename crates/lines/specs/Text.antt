-- A whole text: lines in order, the first refused one decides; what is written. Assumes nothing.
use Rattle.std.specs.Prelude.{Bool, true, false, List, [], ◌∷◌, ◌++◌, ℕ, suc, eqb, leb, ltb, length, replicate}
use Rattle.std.proofs.Math.Option.{Option, none, some}
use Rattle.definition.specs.Tables.{plan_limit, record_size, kinds}
use Rattle.definition.specs.Base.{Refusal, bad_line, short, Said, says, silence, tell}
use Rattle.definition.specs.Request.{Request}
use Rattle.definition.specs.Calls.{State, fresh, saying, Call, pool, hold, start, want, serve}
use Rattle.definition.specs.Plan.{Lent, allocate_into}
use Rattle.lines.specs.Base.{text_limit, newline, split}
use Rattle.lines.specs.Line.{read_line}
use Rattle.lines.specs.Output.{got_lines, end_line, no_line}

-- ---- how far a text has come

pub record Sofar : Type 0 where
  pub lines : ℕ  -- taken so far
  pub state : State  -- the tables; the five numbers beside them are not read here
  pub wants : ℕ  -- accepted so far; the owner tables are started at the first
  pub records : List ℕ  -- the wants' results, nine numbers each
  pub said : Said  -- what the last line was answered

abbrev pub sofar : ℕ → State → ℕ → List ℕ → Said → Sofar
sofar l s n rs w = record { lines = l; state = s; wants = n; records = rs; said = w }

-- no line is taken yet, on the tables of s
abbrev pub beginning_on : State → Sofar
beginning_on s = sofar 0 s 0 [] silence

abbrev pub beginning : Sofar
beginning = beginning_on fresh

abbrev pub accepts : Said → Bool
accepts w = eqb w.number 0

-- ---- one line more

-- a call that leaves the state s, and no record
abbrev pub next : Sofar → State → Sofar
next t s = sofar (suc t.lines) s t.wants t.records s.said

-- a line that is no call: the state stays as it is
abbrev pub refuse : Sofar → Refusal → Sofar
refuse t x = sofar (suc t.lines) t.state t.wants t.records (tell 0 x)

-- no `pool` or `hold` after a `want`
unfoldable pub set_up : Sofar → Call → Sofar
set_up t call = elim (eqb t.wants 0) [ true ↦ next t (serve kinds call t.state) | false ↦ refuse t bad_line ]

-- the owner tables are started at the first `want`
unfoldable pub opened : Sofar → State
opened t = elim (eqb t.wants 0) [ true ↦ serve kinds start t.state | false ↦ t.state ]

-- a refusal names its place among the wants, as a plan names its request
abbrev pub naming : ℕ → State → State
naming i s = saying (says i s.said.number s.said.namespace s.said.owner s.said.detail) s

-- an accepted `want` leaves its record
unfoldable pub answered : Sofar → Lent → Sofar
answered t v =
    elim (accepts v.state.said) [
      | true ↦ sofar (suc t.lines) v.state (suc t.wants) (t.records ++ v.results) v.state.said
      | false ↦ next t (naming t.wants v.state)
    ]

-- one `want` more than a plan has is 11
unfoldable pub ask : Sofar → Request → Sofar
ask t r =
    elim (ltb t.wants plan_limit) [
      | true ↦ answered t (allocate_into kinds r (opened t) (replicate record_size 0))
      | false ↦ refuse t short
    ]

-- 10 before any other number
abbrev pub take_line : Sofar → Option Call → Sofar
take_line t none = refuse t bad_line
take_line t (some (pool u ranges)) = set_up t (pool u ranges)
take_line t (some (hold o h)) = set_up t (hold o h)
take_line t (some start) = refuse t bad_line  -- which no line says
take_line t (some (want r)) = ask t r

-- THE LINE STEP: a refusal stands, whatever follows
unfoldable pub step : Sofar → List ℕ → Sofar
step t line = elim (accepts t.said) [ true ↦ take_line t (read_line line) | false ↦ t ]

-- ---- text to lines, for any step on lines

-- the state after the closed lines, and the bytes behind the last newline
pub record Fed (S : Type 0) : Type 0 where
  pub after : S
  pub open_line : List ℕ

abbrev pub fed : {S : Type 0} → S → List ℕ → Fed S
fed s p = record { after = s; open_line = p }

-- every part but the last is a line
unfoldable pub feed_parts : {S : Type 0} → (S → List ℕ → S) → S → List (List ℕ) → Fed S
feed_parts each s [] = fed s []
feed_parts each s (p ∷ []) = fed s p
feed_parts each s (p ∷ p' ∷ ps) = feed_parts each (each s p) (p' ∷ ps)

unfoldable pub feed : {S : Type 0} → (S → List ℕ → S) → S → List ℕ → Fed S
feed each s text = feed_parts each s (split newline text)

-- ---- the whole text

-- a last line without its newline is 10, whatever it holds
unfoldable pub unfinished : Sofar → Sofar
unfinished t = elim (accepts t.said) [ true ↦ refuse t bad_line | false ↦ t ]

abbrev pub closed_by : Sofar → List ℕ → Sofar
closed_by t [] = t
closed_by t (b ∷ bs) = unfinished t

unfoldable pub close : Fed Sofar → Sofar
close f = closed_by f.after f.open_line

-- a `got` line a request, then `end` and their number; on a refusal the line `no` alone
unfoldable pub answer : Sofar → List ℕ
answer t =
    elim (accepts t.said) [
      | true ↦ got_lines t.wants t.records ++ end_line t.wants
      | false ↦ no_line t.lines t.said
    ]

-- text over the total limit is 10 with line number 0, before all else
abbrev pub overlong : Sofar
overlong = sofar 0 fresh 0 [] (tell 0 bad_line)

-- how a text ended
unfoldable pub ended : List ℕ → Sofar
ended text =
    elim (leb (length text) text_limit) [
      | true ↦ close (feed step beginning text)
      | false ↦ overlong
    ]

-- THE PROGRAM: the bytes that answer a text
unfoldable pub output : List ℕ → List ℕ
output text = answer (ended text)
