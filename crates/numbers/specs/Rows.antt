-- A table's row as plain numbers, for callers outside, as it is stored: nothing is judged. Assumes nothing.
use Rattle.std.specs.Prelude.{Bool, true, false, ◌&&◌, List, [], ◌∷◌, ℕ, leb, ltb, length, get_or}
use Rattle.definition.specs.Tables.{pool_limit, row_limit, record_size, Kind, mmio, input, kinds, nature, Span, Row, Table, blank_span, blank_row}
use Rattle.definition.specs.Request.{automatic, fixed}
use Rattle.definition.specs.Calls.{State}
use Rattle.definition.specs.Plan.{written}

-- the count of used rows, then controller, ITS, device, start, end, trigger, sharing, owner
abbrev pub row_size : ℕ
row_size = record_size

abbrev pub span_numbers : Span → List ℕ
span_numbers p = p.dom.controller ∷ p.dom.its ∷ 0 ∷ p.start ∷ p.end ∷ 0 ∷ 0 ∷ 0 ∷ []

-- an input's row is one number: no end is told, since the largest number has none
abbrev pub end_told : Bool → ℕ → ℕ
end_told true e = 0
end_told false e = e

abbrev pub row_numbers : Bool → Row → List ℕ
row_numbers wired r =
    r.dom.controller ∷ r.dom.its ∷ r.dom.device ∷ r.start ∷ end_told wired r.end ∷ r.trigger ∷ r.sharing ∷ r.owner ∷ []

abbrev pub pool_row : Table Span → ℕ → List ℕ
pool_row t i = t.count ∷ span_numbers (get_or t.rows i blank_span)

abbrev pub holder_row : Kind → Table Row → ℕ → List ℕ
holder_row k t i = t.count ∷ row_numbers (nature k).wired (get_or t.rows i (blank_row k))

abbrev pub input_row : Table Row → ℕ → List ℕ
input_row t i = holder_row input t i

-- kinds in the definition's order, from 1 on
abbrev pub kind_at : ℕ → Kind
kind_at kind = get_or (mmio ∷ kinds) kind mmio

-- parts: 1 automatic pools, 2 fixed pools, 3 reservations, 4 owners; and the rows that a table of each has
abbrev pub tells_row : State → (part kind i : ℕ) → List ℕ
tells_row s part kind i =
    get_or
    ([]
    ∷ pool_row (s.pools automatic (kind_at kind)) i
    ∷ pool_row (s.pools fixed (kind_at kind)) i
    ∷ holder_row (kind_at kind) (s.held (kind_at kind)) i
    ∷ holder_row (kind_at kind) (s.owners (kind_at kind)) i
    ∷ [])
    part []

abbrev pub rows_in : ℕ → ℕ
rows_in part = get_or (0 ∷ pool_limit ∷ pool_limit ∷ row_limit ∷ row_limit ∷ []) part 0

-- there is such a row: the part, the kind and the row are known
unfoldable pub there : (part kind i : ℕ) → Bool
there part kind i = ltb i (rows_in part) && (ltb 0 kind && leb kind (length kinds))

-- 2 for a row that is not there, 11 for a list too short; nothing is written then
pub record Told : Type 0 where
  pub number : ℕ
  pub out : List ℕ

abbrev pub told : ℕ → List ℕ → Told
told n out = record { number = n; out = out }

unfoldable pub row_told : State → (part kind i : ℕ) → List ℕ → Told
row_told s part kind i out =
    elim (there part kind i) [
      | false ↦ told 2 out
      | true ↦ elim (leb row_size (length out)) [ false ↦ told 11 out | true ↦ told 0 (written (tells_row s part kind i) out) ]
    ]

-- ---- the five numbers of the last answer: number, index, namespace, owner, detail

abbrev pub answer_size : ℕ
answer_size = 5

abbrev pub answer_numbers : State → List ℕ
answer_numbers s = s.said.number ∷ s.said.index ∷ s.said.namespace ∷ s.said.owner ∷ s.said.detail ∷ []

-- five numbers, where the list has room for them
unfoldable pub five_told : List ℕ → List ℕ → Told
five_told five out = elim (leb answer_size (length out)) [ false ↦ told 11 out | true ↦ told 0 (written five out) ]

unfoldable pub answer_told : State → List ℕ → Told
answer_told s out = five_told (answer_numbers s) out
