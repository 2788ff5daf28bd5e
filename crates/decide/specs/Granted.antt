-- What the tables of one kind are asked and give, and the rows to store. Assumes nothing.
use Rattle.std.specs.Prelude.{Bool, true, false, ℕ, ◌≤◌, Result, Ok, Err}
use Rattle.definition.specs.Base.{Answer, accepted, refused}
use Rattle.definition.specs.Tables.{pool_limit, row_limit, Row}
use Rattle.tables.specs.Views.{range_of, input_of}
use Rattle.tables.specs.declared.Kind.{Kind}
use Rattle.tables.specs.declared.Pool.{Pool}
use Rattle.tables.specs.declared.RangeRow.{RangeRow}
use Rattle.tables.specs.declared.InputRow.{InputRow}
use Rattle.search.specs.Finds.{InOrder}
use Rattle.search.specs.declared.Need.{Need}
use Rattle.choose.specs.Told.{refusal_of}
use Rattle.choose.specs.declared.Run.{Run}
use Rattle.choose.specs.declared.Refusal.{Refusal}
use Rattle.choose.specs.declared.Refusal.TheVariants.{Malformed, BadInput, FixedNotAllowed, Exhausted, Conflict, Full, Short}
use Rattle.choose.specs.declared.wired.InputNeed.{InputNeed}
use Rattle.request.specs.declared.Said.{Said}
use Rattle.request.specs.declared.Want.{Want}
use Rattle.request.specs.declared.Want.TheVariants as W
use Rattle.msi.specs.declared.Msi as M

-- a need of the whole machine
abbrev pub needing : Kind → ℕ → ℕ → ℕ → Need
needing k size a q = record { kind = k; controller = 0; its = 0; device = 0; size = size; alignment = a; requester = q }

-- what is wanted of an MSI domain
abbrev pub msi_of : M.Msi → Want
msi_of m = W.Msi m.controller m.its m.count m.device m.event m.lpi

-- what a choice asks of the tables, and soundness gives
abbrev pub Fit : Pool → Pool → ℕ → Type 0
Fit a f n = (InOrder a) × ((f.n ≤ pool_limit) × (n ≤ row_limit))

-- what stands, if the table has a free row for it
abbrev pub or_full : Bool → Run → Result Run Refusal
or_full true run = Ok run
or_full false run = Err Full

abbrev pub standing : Bool → Result Run Refusal → Result Run Refusal
standing room (Ok run) = or_full room run
standing room (Err y) = Err y

abbrev pub row_for : Need → Run → RangeRow
row_for n run = record { controller = n.controller; its = n.its; device = n.device; start = run.start; end = run.end; owner = n.requester }

abbrev pub input_for : InputNeed → ℕ → InputRow
input_for w b = record { controller = w.controller; input = b; trigger = w.trigger; sharing = w.sharing; owner = w.requester }

-- the row, or the refusal
abbrev pub row_told : Result RangeRow Refusal → Answer Row
row_told (Ok row) = accepted (range_of row)
row_told (Err y) = refused (refusal_of y)

abbrev pub input_told : Result InputRow Refusal → Answer Row
input_told (Ok row) = accepted (input_of row)
input_told (Err y) = refused (refusal_of y)

-- ---- numbers

abbrev pub saying : ℕ → ℕ → ℕ → ℕ → Said
saying number namespace owner detail = record { number = number; namespace = namespace; owner = owner; detail = detail }

-- the numbers of a refusal: law `refusal_told` ties them to 01's
abbrev pub numbers_of : Refusal → Said
numbers_of Malformed = saying 1 0 0 0
numbers_of BadInput = saying 2 0 0 0
numbers_of (FixedNotAllowed namespace) = saying 6 namespace 0 0
numbers_of (Exhausted namespace) = saying 7 namespace 0 0
numbers_of (Conflict namespace owner detail) = saying 8 namespace owner detail
numbers_of Full = saying 9 0 0 0
numbers_of Short = saying 11 0 0 0
