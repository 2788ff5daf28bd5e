-- Reading back, as the code does it: what is asked for, what its table tells, and how it is told. Assumes nothing.
use Rattle.std.specs.Prelude.{◌≡◌, ⊤, Bool, true, false, ◌&&◌, List, ℕ, leb, ltb, eqb, length, Option as Maybe, Some, None, Result, Ok, Err}
use Rattle.std.proofs.Math.Option.{Option, some, none}
use Rattle.definition.specs.Tables.{Kind as DKind, kinds, nature, Row, Table}
use Rattle.definition.specs.Calls.{State}
use Rattle.definition.specs.Plan.{written}
use Rattle.tables.specs.Views.{kind_of}
use Rattle.tables.specs.declared.Kind.{Kind}
use Rattle.insert.specs.declared.Refused.{Refused}
use Rattle.insert.specs.declared.Refused.TheVariants as R
use Rattle.inplace.specs.declared.marks.Marks.{Marks}
use Rattle.numbers.specs.Face.{number}
use Rattle.numbers.specs.Rows.{row_size, kind_at, holder_row, tells_row, there, Told, told, answer_told}
use Rattle.numbers.specs.Reading.{told_by, code_of}
use Rattle.numbers.specs.declared.row.Which.{Which}

-- ---- what a list of numbers asks for

abbrev pub enough : ℕ → ℕ → Bool
enough part n = elim (eqb part 0) [ true ↦ ltb 0 n | false ↦ leb 3 n ]

-- the part, the kind and the row; 11 where the list is too short
abbrev pub asked_for : Bool → List ℕ → Result Which Refused
asked_for true xs = Ok (record { part = number xs 0; kind = number xs 1; row = number xs 2 })
asked_for false xs = Err R.Short

abbrev pub which_in : List ℕ → Result Which Refused
which_in xs = asked_for (enough (number xs 0) (length xs)) xs

-- ---- what the tables tell

-- these numbers, or none
abbrev pub pick : Bool → List ℕ → Option (List ℕ) → Option (List ℕ)
pick true xs before = some xs
pick false xs before = before

abbrev pub found_of : Maybe (List ℕ) → Option (List ℕ)
found_of (Some xs) = some xs
found_of None = none

-- of any kind whose rows hold ranges
abbrev pub FoundRange : Bool → Table Row → ℕ → Option (List ℕ) → Type 0
FoundRange b t i found = (k : DKind) → (nature k).wired ≡ false → found ≡ pick b (holder_row k t i) none

-- there is a kind of this number, and it is this one
abbrev pub KindAt : ℕ → Maybe Kind → Type 0
KindAt n (Some k) = ((ltb 0 n && leb n (length kinds)) ≡ true) × (kind_of k ≡ kind_at n)
KindAt n None = (ltb 0 n && leb n (length kinds)) ≡ false

abbrev pub row_in : State → (part kind i : ℕ) → Option (List ℕ)
row_in s part kind i = pick (there part kind i) (tells_row s part kind i) none

-- the row that is asked for, if a row is
abbrev pub FoundBy : State → Result Which Refused → Option (List ℕ) → Type 0
FoundBy s (Ok k) found = found ≡ row_in s k.part k.kind k.row
FoundBy s (Err y) found = ⊤

-- ---- how it is told

-- numbers in front of a list that has room for them, else 11
abbrev pub put_told : List ℕ → List ℕ → Told
put_told xs out = elim (leb (length xs) (length out)) [ false ↦ told 11 out | true ↦ told 0 (written xs out) ]

abbrev pub found_told : Option (List ℕ) → List ℕ → Told
found_told none out = told 2 out
found_told (some xs) out = elim (leb row_size (length out)) [ false ↦ told 11 out | true ↦ told 0 (written xs out) ]

-- the last answer, or the row; nothing where the list that asks is too short
abbrev pub read_by : Result Which Refused → Marks → Option (List ℕ) → List ℕ → Told
read_by (Err y) m found out = told (code_of (Err y)) out
read_by (Ok k) m found out = elim (eqb k.part 0) [ true ↦ answer_told (told_by m) out | false ↦ found_told found out ]
