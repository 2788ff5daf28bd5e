-- The same calls with lists lent beside the numbers, and what an exported call answers with. Assumes nothing.
use Rattle.std.specs.Prelude.{true, false, List, ℕ, ◌*◌, ◌/◌, leb, eqb, length}
use Rattle.definition.specs.Tables.{plan_limit, record_size}
use Rattle.definition.specs.Calls.{State}
use Rattle.definition.specs.Plan.{Lent, lent}
use Rattle.flat.specs.Flat.{request_size}
use Rattle.numbers.specs.Face.{number, face_call}
use Rattle.numbers.specs.Rows.{Told, told, row_told, answer_told}

-- a call, and its answer's numbers where the list has room for them
abbrev pub telling : State → List ℕ → Lent
telling t out = lent t (answer_told t out).out

abbrev pub call_told : List ℕ → State → List ℕ → Lent
call_told xs s out = telling (face_call xs s) out

-- reading back: 0 is the last answer, all else a part, with a kind and a row; a list too short is 11
unfoldable pub read_told : List ℕ → State → List ℕ → Told
read_told xs s out =
    elim (eqb (length xs) 0) [
      | true ↦ told 11 out
      | false ↦ elim (eqb (number xs 0) 0) [
        | true ↦ answer_told s out
        | false ↦ elim (leb 3 (length xs)) [ true ↦ row_told s (number xs 0) (number xs 1) (number xs 2) out | false ↦ told 11 out ]
      ]
    ]

-- how many numbers a plan of so many numbers has filled, told by its answer's number and index: nine a request, of all its requests or of those before the refused one
unfoldable pub filled_by : ℕ → ℕ → ℕ → ℕ
filled_by number index n =
    elim (eqb number 0) [
      | true ↦ record_size * (n / request_size)
      | false ↦ elim (leb index plan_limit) [ true ↦ record_size * index | false ↦ 0 ]
    ]

-- .. by the state that it leaves
abbrev pub filled_in : State → ℕ → ℕ
filled_in s n = filled_by s.said.number s.said.index n
