-- The calls: what each judges, what it answers, and the state afterwards. Assumes nothing.
use Rattle.std.specs.Prelude.{Bool, true, false, ◌&&◌, List, [], ◌∷◌, ◌++◌, ℕ, suc, ◌-◌, length, set, replicate}
use Rattle.definition.specs.Base.{all_of, malformed, Said, silence, tell, Answer, accepted, refused, require, ◌then◌}
use Rattle.definition.specs.Tables.{pool_limit, row_limit, Kind, same_kind, Span, Row, Table, used, blank_span, blank_row, sound_pool, sound_held, sound_owners, begins}
use Rattle.definition.specs.Pools.{In, Pool, spans, entered, admit, Holders, Claim, rows_of, Hold, held_rows, reserve}
use Rattle.definition.specs.Request.{Request, Use, automatic, fixed, Pools, resolve}

pub record State : Type 0 where  -- all tables, and beside them the five numbers of the last answer, which are handed in unjudged
  pub pools : Use → Kind → Table Span
  pub held : Kind → Table Row
  pub owners : Kind → Table Row
  pub said : Said

abbrev pub state : (Use → Kind → Table Span) → (Kind → Table Row) → (Kind → Table Row) → Said → State
state pools held owners w = record { pools = pools; held = held; owners = owners; said = w }

abbrev pub zeros : {A : Type 0} → ℕ → A → Table A  -- a fresh table is rows of zeros
zeros n a = record { count = 0; rows = replicate n a }

abbrev pub fresh : State
fresh = state (λ u k. zeros pool_limit blank_span) (λ k. zeros row_limit (blank_row k)) (λ k. zeros row_limit (blank_row k)) silence

-- ---- what a call judges: exactly the tables of the kinds that are handed to it (all kinds, where the whole state is lent)
abbrev pub pools_of : State → Pools
pools_of s u k = used (s.pools u k)

abbrev pub held_of : State → Holders
held_of s k = used (s.held k)

abbrev pub owners_of : State → Holders
owners_of s k = used (s.owners k)

unfoldable pub given_at : State → Kind → Bool  -- for adding and for start: pools and reservations
given_at s k = sound_pool k (s.pools automatic k) && (sound_pool k (s.pools fixed k) && sound_held k (s.held k))

unfoldable pub sound_at : State → Kind → Bool  -- for a request and for a plan: the owner tables too
sound_at s k = given_at s k && (sound_owners k (s.owners k) && begins (held_of s k) (owners_of s k))

unfoldable pub given : List Kind → State → Bool
given ks s = all_of (given_at s) ks

unfoldable pub sound : List Kind → State → Bool
sound ks s = all_of (sound_at s) ks

-- ---- what a call changes
abbrev pub saying : Said → State → State  -- the answer's numbers alone: a refused call leaves all tables as handed in
saying w s = state s.pools s.held s.owners w

unfoldable pub push_all : {A : Type 0} → Table A → List A → Table A  -- rows added, each at the end of its table's used ones
push_all t [] = t
push_all t (r ∷ rs) = push_all (record { count = suc t.count; rows = set t.rows t.count r }) rs

abbrev pub holding : List Claim → State → State
holding cs s = state s.pools (λ k. push_all (s.held k) (rows_of k cs)) s.owners silence

abbrev pub granting : List Claim → State → State
granting cs s = state s.pools s.held (λ k. push_all (s.owners k) (rows_of k cs)) silence

abbrev pub starting : State → State  -- the owner tables become copies of the reservations, whatever they held
starting s = state s.pools s.held s.held silence

abbrev pub filled : {A : Type 0} → ℕ → A → List A → Table A  -- a table of these used rows, and zeros behind them
filled size zero rows = record { count = length rows; rows = rows ++ replicate (size - length rows) zero }

abbrev pub stored : List Span → Table Span  -- one pool table has other used rows
stored = filled pool_limit blank_span

abbrev pub same_use : Use → Use → Bool
same_use automatic automatic = true
same_use automatic fixed = false
same_use fixed automatic = false
same_use fixed fixed = true

abbrev pub pooling : Use → Kind → List Span → State → State
pooling u k ps s =
    state (λ v j. elim (same_use v u && same_kind j k) [ true ↦ stored ps | false ↦ s.pools v j ]) s.held s.owners silence

unfoldable pub entering : Use → List (In Span) → State → State  -- each range goes into its pool table
entering u [] s = saying silence s
entering u (c ∷ cs) s = entering u cs (pooling u c.kind (entered c.row (used (s.pools u c.kind))) s)

-- ---- the calls
pub data Call : Type 0 where
  pool : Use → Pool → Call
  hold : ℕ → Hold → Call  -- the owner, and what it holds
  start : Call
  want : Request → Call

abbrev pub settle : State → Answer State → State
settle s (accepted s') = s'
settle s (refused x) = saying (tell 0 x) s

unfoldable pub serve : List Kind → Call → State → State
serve ks (pool u p) s = settle s (require (given ks s) malformed (admit (pools_of s u) (spans p) then λ cs. accepted (entering u cs s)))
serve ks (hold o h) s = settle s (require (given ks s) malformed (reserve (held_of s) (held_rows o h) then λ cs. accepted (holding cs s)))
serve ks start s = settle s (require (given ks s) malformed (accepted (starting s)))
serve ks (want request) s = settle s (require (sound ks s) malformed (resolve (pools_of s) (owners_of s) request then λ cs. accepted (granting cs s)))
