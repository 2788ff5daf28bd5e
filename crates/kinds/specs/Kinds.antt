-- What is promised of the calls of one kind: the definition's answer on the state that has these tables and fresh ones of all other kinds. Assumes nothing.
use Rattle.std.specs.Prelude.{◌≡◌, Bool, true, false, List, [], ◌∷◌, ℕ, ◌<◌, eqb, Result, Ok, Err}
use Rattle.definition.specs.Tables.{pool_limit, row_limit, Kind, input, nature, Span, Row, Table, used, blank_span, blank_row}
use Rattle.definition.specs.Base.{malformed, bad_input, Said, silence, tell, Answer, accepted, refused, require}
use Rattle.definition.specs.Pools.{Claim}
use Rattle.definition.specs.Request.{Use, automatic, fixed, resolve}
use Rattle.definition.specs.Request as R
use Rattle.definition.specs.Calls.{State, state, zeros, push_all, pools_of, owners_of, sound, want, serve}
use Rattle.tables.specs.declared.Pool.{Pool}
use Rattle.tables.specs.declared.Ranges.{Ranges}
use Rattle.tables.specs.Views.{kind_of, pool_view, ranges_view, inputs_view}
use Rattle.table_tests.specs.Tests.{limits_of}
use Rattle.sound.specs.Tests.{set_ranges, set_inputs}
use Rattle.search.specs.Asks.{need_of}
use Rattle.search.specs.declared.Need.{Need}
use Rattle.choose.specs.Told.{choice_of, refusal_of, told, chosen_in}
use Rattle.choose.specs.Wired.{input_asked}
use Rattle.choose.specs.declared.Choice.{Choice}
use Rattle.choose.specs.declared.Refusal.{Refusal}
use Rattle.choose.specs.declared.Run.{Run}
use Rattle.choose.specs.declared.wired.InputNeed.{InputNeed}
use Rattle.kinds.specs.Got.{row_got}
use Rattle.kinds.specs.declared.RangeTables.{RangeTables}
use Rattle.kinds.specs.declared.InputTables.{InputTables}
use Rattle.kinds.specs.declared.Answer.{Answer as Answered}

-- the tables of a kind, lent
pub record LentIs (t : RangeTables) (a f : Pool) (o : Ranges) : Type 0 where
  pub auto : a ≡ t.auto
  pub fixed : f ≡ t.fixed
  pub owners : o ≡ t.owners

abbrev pub Chosen : Type 0
Chosen = Result Run Refusal

abbrev pub RangeAnswer : Type 0
RangeAnswer = Answered RangeTables Run

abbrev pub InputAnswer : Type 0
InputAnswer = Answered InputTables Run

-- ---- a state with tables of one kind

abbrev pub only_at : {A : Type 0} → Kind → Kind → A → A → A
only_at k j there elsewhere = elim (eqb (nature k).number (nature j).number) [ true ↦ there | false ↦ elsewhere ]

abbrev pub pool_as : Table Span → Table Span → Use → Table Span
pool_as p f automatic = p
pool_as p f fixed = f

abbrev pub tables_at : Kind → Table Span → Table Span → Table Row → Table Row → Said → State
tables_at k p f h o w =
    state (λ u j. only_at k j (pool_as p f u) (zeros pool_limit blank_span)) (λ j. only_at k j h (zeros row_limit (blank_row j)))
    (λ j. only_at k j o (zeros row_limit (blank_row j))) w

abbrev pub range_state : Kind → RangeTables → Said → State
range_state k t w = tables_at k (pool_view t.auto) (pool_view t.fixed) (ranges_view t.held) (ranges_view t.owners) w

abbrev pub input_state : InputTables → Said → State
input_state t w = tables_at input (pool_view t.auto) (pool_view t.fixed) (inputs_view t.held) (inputs_view t.owners) w

-- ---- the answer of a call that judges the tables of ks

abbrev pub answer_of : List Kind → R.Request → State → Answer (List Claim)
answer_of ks request v = require (sound ks v) malformed (resolve (pools_of v) (owners_of v) request)

abbrev pub asked : ℕ → ℕ → R.Want → R.Request
asked q slot wanted = record { requester = q; slot = slot; want = wanted }

-- the five numbers of an answer
abbrev pub said_by : Chosen → Said
said_by (Ok run) = silence
said_by (Err z) = tell 0 (refusal_of z)

-- the first number of the row that an accepted answer was granted, and its end, say which row it is
abbrev pub rows_said : Answer (List Claim) → Chosen → Type 0
rows_said (accepted []) chosen = ⊥
rows_said (accepted (x ∷ cs)) chosen = chosen ≡ Ok (record { start = x.row.start; end = x.row.end })
rows_said (refused y) (Ok run) = ⊥
rows_said (refused y) (Err z) = refusal_of z ≡ y

pub record ServesRange (k : Kind) (t : RangeTables) (q slot : ℕ) (wanted : R.Want) (r : RangeAnswer) : Type 0 where
  pub tables : (i : Said) → range_state k r.tables (said_by r.chosen) ≡ serve (k ∷ []) (want (asked q slot wanted)) (range_state k t i)
  pub answer : (i : Said) → rows_said (answer_of (k ∷ []) (asked q slot wanted) (range_state k t i)) r.chosen

pub record ServesInput (t : InputTables) (q slot : ℕ) (wanted : R.Want) (r : InputAnswer) : Type 0 where
  pub tables : (i : Said) → input_state r.tables (said_by r.chosen) ≡ serve (input ∷ []) (want (asked q slot wanted)) (input_state t i)
  pub answer : (i : Said) → rows_said (answer_of (input ∷ []) (asked q slot wanted) (input_state t i)) r.chosen

-- ---- the core under them

pub record Sense (s a : ℕ) : Type 0 where
  pub size : 0 < s
  pub alignment : 0 < a

abbrev pub Sensible : Bool → Need → Type 0
Sensible good n = good ≡ true → Sense n.size n.alignment

pub record RangeServed (t : RangeTables) (good : Bool) (n : Need) (c : Choice ℕ) (r : RangeAnswer) : Type 0 where
  pub answer :
      told (need_of n) r.chosen
      ≡ require (set_ranges (limits_of (kind_of n.kind)) t.auto t.fixed t.held t.owners) malformed
      (require good bad_input (chosen_in (used (pool_view t.auto)) (used (pool_view t.fixed)) (used (ranges_view t.owners)) (need_of n) (choice_of c)))
  pub auto : r.tables.auto ≡ t.auto
  pub fixed : r.tables.fixed ≡ t.fixed
  pub held : r.tables.held ≡ t.held
  pub owners : ranges_view r.tables.owners ≡ push_all (ranges_view t.owners) (row_got (told (need_of n) r.chosen))

pub record InputServed (t : InputTables) (good : Bool) (n : InputNeed) (c : Choice ℕ) (r : InputAnswer) : Type 0 where
  pub answer :
      told (input_asked n) r.chosen
      ≡ require (set_inputs t.auto t.fixed t.held t.owners) malformed
      (require good bad_input (chosen_in (used (pool_view t.auto)) (used (pool_view t.fixed)) (used (inputs_view t.owners)) (input_asked n) (choice_of c)))
  pub auto : r.tables.auto ≡ t.auto
  pub fixed : r.tables.fixed ≡ t.fixed
  pub held : r.tables.held ≡ t.held
  pub owners : inputs_view r.tables.owners ≡ push_all (inputs_view t.owners) (row_got (told (input_asked n) r.chosen))
