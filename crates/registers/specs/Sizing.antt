-- The requests of a device's registers as plain numbers, written into a list that the caller lends. Assumes nothing.
use Rattle.std.specs.Prelude.{ℕ, ◌/◌, true, false, List, length, take, nat_le}
use Rattle.definition.specs.Base.{short, tell, Answer, accepted, refused}
use Rattle.definition.specs.Request.{Request}
use Rattle.definition.specs.Plan.{written}
use Rattle.definition.specs.Registers.{register_count, registers}
use Rattle.flat.specs.Flat.{request_size, numbers_of_all}

-- what the call answers: the number, how many requests were written, and the list afterwards
pub record Sized : Type 0 where
  pub number : ℕ
  pub count : ℕ
  pub list : List ℕ

abbrev pub sized : ℕ → ℕ → List ℕ → Sized
sized n count list = record { number = n; count = count; list = list }

-- the requests from the front and nothing past them; a refusal leaves the list untouched
abbrev pub sizing : Answer (List Request) → List ℕ → Sized
sizing (accepted rs) out = sized 0 (length rs) (written (numbers_of_all rs) out)
sizing (refused x) out = sized (tell 0 x).number 0 out

-- a list of words that is shorter than the six is 11; words behind the six are not looked at
unfoldable pub registers_into : List ℕ → ℕ → List ℕ → Sized
registers_into ws q out =
    sizing (elim (nat_le register_count (length ws)) [ true ↦ registers q (take register_count ws) (length out / request_size) | false ↦ refused short ]) out
