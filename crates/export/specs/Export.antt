-- What an exported call leaves and answers, by the size of the state that it is lent. Assumes nothing.
use Rattle.std.specs.Prelude.{true, false, List, [], ◌∷◌, ℕ, ◌+◌, ◌*◌, ◌-◌, eqb, length}
use Rattle.definition.specs.Tables.{pool_limit, row_limit, kinds}
use Rattle.definition.specs.Calls.{State as Given}
use Rattle.definition.specs.Plan.{Lent, lent}
use Rattle.tables.specs.Whole.{fresh_state}
use Rattle.tables.specs.declared.State.{State}
use Rattle.registers.specs.Sizing.{Sized}
use Rattle.text.specs.Respond.{Replied}
use Rattle.numbers.specs.Lent.{filled_in}
use Rattle.lines.specs.Back.{Pinned}
use Rattle.numbers.specs.Rows.{answer_size, Told, told, five_told}

-- ---- the bytes of a state

-- a table of so many rows: its count, and its columns, of which a row has so many bytes
abbrev pub table_size : ℕ → ℕ → ℕ
table_size rows columns = 8 + rows * columns

-- controller, ITS, start, end
abbrev pub pool_size : ℕ
pool_size = table_size pool_limit (4 + 4 + 8 + 8)

-- controller, ITS, device, start, end, owner
abbrev pub ranges_size : ℕ
ranges_size = table_size row_limit (4 + 4 + 4 + 8 + 8 + 4)

-- controller, input, trigger, sharing, owner
abbrev pub inputs_size : ℕ
inputs_size = table_size row_limit (4 + 8 + 4 + 4 + 4)

-- automatic and fixed pools of each kind; reservations and owners of inputs and of each other kind; the answer's five numbers
abbrev pub state_size : ℕ
state_size = 2 * (length kinds * pool_size) + 2 * (inputs_size + (length kinds - 1) * ranges_size) + answer_size * 8

-- ---- what a call leaves and answers

-- the state and the list afterwards, and the number answered
pub record Answered : Type 0 where
  pub left : Lent
  pub number : ℕ

abbrev pub answered : Lent → ℕ → Answered
answered v n = record { left = v; number = n }

-- most calls answer with the number of the answer
abbrev pub numbered : Lent → Answered
numbered v = answered v v.state.said.number

-- a plan of so many numbers answers with how many numbers it has filled
abbrev pub counted : ℕ → Lent → Answered
counted n v = answered v (filled_in v.state n)

-- a state of another size: nothing is touched, and the answer is 1
unfoldable pub sized : ℕ → Given → List ℕ → Answered → Answered
sized size given out a = elim (eqb size state_size) [ true ↦ a | false ↦ answered (lent given out) 1 ]

unfoldable pub sized_read : ℕ → List ℕ → Told → Told
sized_read size out w = elim (eqb size state_size) [ true ↦ w | false ↦ told 1 out ]

-- a fresh state, whatever stood there
pub record Begun : Type 0 where
  pub state : State
  pub number : ℕ

abbrev pub begun : State → ℕ → Begun
begun s n = record { state = s; number = n }

unfoldable pub sized_fresh : ℕ → State → Begun
sized_fresh size s = elim (eqb size state_size) [ true ↦ begun fresh_state 0 | false ↦ begun s 1 ]

-- the text call answers with how many bytes it has written
abbrev pub bytes_told : Replied → Told
bytes_told replied = told replied.bytes replied.buffer

-- .. and so does writing back, whose five numbers stand in front of a list that has room for them
pub record TextPinned : Type 0 where
  pub bytes : ℕ
  pub buffer : List ℕ
  pub answer : List ℕ

abbrev pub text_pinned : ℕ → List ℕ → List ℕ → TextPinned
text_pinned n out five = record { bytes = n; buffer = out; answer = five }

abbrev pub pin_told : Pinned → List ℕ → TextPinned
pin_told pinned five = text_pinned pinned.bytes pinned.buffer (five_told pinned.answer five).out

-- sizing a device answers with how many requests it has written; its answer names nothing but its number
pub record DeviceSized : Type 0 where
  pub count : ℕ
  pub requests : List ℕ
  pub answer : List ℕ

abbrev pub device_sized : ℕ → List ℕ → List ℕ → DeviceSized
device_sized n requests five = record { count = n; requests = requests; answer = five }

abbrev pub size_told : Sized → List ℕ → DeviceSized
size_told s five = device_sized s.count s.list (five_told (s.number ∷ 0 ∷ 0 ∷ 0 ∷ 0 ∷ []) five).out
