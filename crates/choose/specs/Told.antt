-- What the answers of the code say in the definition's terms, and what is promised of them. Assumes nothing.
use Rattle.std.specs.Prelude.{◌≡◌, true, false, List, ℕ, ◌+◌, ltb, length, Result, Ok, Err}
use Rattle.std.proofs.Math.Option.{none, some}
use Rattle.definition.specs.Tables.{row_limit, nature, Span, Row, Table, used}
use Rattle.definition.specs.Base.{malformed, bad_input, fixed_not_allowed, exhausted, conflict, full, short, Answer, accepted, refused, require, ◌then◌}
use Rattle.definition.specs.Base as F
use Rattle.definition.specs.Request.{auto, at, automatic, fixed, lowest, allowed, Pools}
use Rattle.definition.specs.Request as R
use Rattle.tables.specs.Views.{kind_of, pool_view, ranges_view}
use Rattle.tables.specs.declared.Pool.{Pool}
use Rattle.tables.specs.declared.Ranges.{Ranges}
use Rattle.search.specs.Asks.{need_of}
use Rattle.tables.specs.declared.Kind.{Kind}
use Rattle.search.specs.declared.Need.{Need}
use Rattle.choose.specs.declared.Choice.{Choice}
use Rattle.choose.specs.declared.Choice.TheVariants.{Auto, Fixed}
use Rattle.choose.specs.declared.Refusal.{Refusal}
use Rattle.choose.specs.declared.Refusal.TheVariants.{Malformed, BadInput, FixedNotAllowed, Exhausted, Conflict, Full, Short}
use Rattle.choose.specs.declared.Run.{Run}

abbrev pub choice_of : Choice ℕ → R.Choice
choice_of Auto = auto
choice_of (Fixed b) = at b

-- THE TABLE from the code's refusals to the definition's, whose `tell` gives 01's numbers
abbrev pub refusal_of : Refusal → F.Refusal
refusal_of Malformed = malformed
refusal_of BadInput = bad_input
refusal_of (FixedNotAllowed namespace) = fixed_not_allowed namespace
refusal_of (Exhausted namespace) = exhausted namespace
refusal_of (Conflict namespace owner detail) = conflict namespace owner detail
refusal_of Full = full
refusal_of Short = short

-- the row that stands, or the refusal
abbrev pub told : R.Need → Result Run Refusal → Answer Row
told n (Ok run) = accepted (record { dom = n.dom; start = run.start; end = run.end; trigger = n.trigger; sharing = n.sharing; owner = n.requester })
told n (Err y) = refused (refusal_of y)

-- rows of ranges carry no trigger
abbrev pub DetailIs : Kind → ℕ → Type 0
DetailIs k detail = (w r : Row) → w.trigger ≡ 0 → r.trigger ≡ 0 → detail ≡ R.detail (kind_of k) w r

-- ---- the definition's answer over the lists of one kind

abbrev pub pools_in : List Span → List Span → Pools
pools_in ps fs automatic k = ps
pools_in ps fs fixed k = fs

-- `place`, which reads the lists of the need's kind and no others: law `IsPlace-in`
abbrev pub place_in : List Span → List Span → List Row → R.Need → R.Choice → Answer Row
place_in ps fs rs n choice = R.place (pools_in ps fs) (λ k. rs) n choice

-- .. then 9 where the table has no free row: law `one_is` of `decide` ties it to `resolve`
unfoldable pub roomed : List Row → Answer Row → Answer Row
roomed rs a = a then λ r. require (ltb (length rs) row_limit) full (accepted r)

abbrev pub chosen_in : List Span → List Span → List Row → R.Need → R.Choice → Answer Row
chosen_in ps fs rs n choice = roomed rs (place_in ps fs rs n choice)

-- the least free base with the run at it, or that there is none
abbrev pub AutomaticIs : Pool → Table Row → Need → Result Run Refusal → Type 0
AutomaticIs p owners n (Ok run) = (some run.start ≡ lowest (used (pool_view p)) (used owners) (need_of n)) × (run.end ≡ run.start + n.size)
AutomaticIs p owners n (Err y) = (none ≡ lowest (used (pool_view p)) (used owners) (need_of n)) × (y ≡ Exhausted (nature (kind_of n.kind)).namespace)

-- the run at the base, if a fixed pool allows it
abbrev pub AllowedIs : Pool → Need → ℕ → Result Run Refusal → Type 0
AllowedIs p n b (Ok run) = (allowed (used (pool_view p)) (need_of n) b ≡ true) × (run ≡ record { start = b; end = b + n.size })
AllowedIs p n b (Err y) = (allowed (used (pool_view p)) (need_of n) b ≡ false) × (y ≡ FixedNotAllowed (nature (kind_of n.kind)).namespace)

-- a fixed answer reads no automatic pool
abbrev pub FixedIs : Pool → Ranges → Need → ℕ → Result Run Refusal → Type 0
FixedIs p t n b x = (ps : List Span) → told (need_of n) x ≡ place_in ps (used (pool_view p)) (used (ranges_view t)) (need_of n) (at b)
