-- The code's way to a device's requests: all are gathered in a list of its own, then what is answered is known, then they are written. Assumes nothing.
use Rattle.std.specs.Prelude.{◌≡◌, ℕ, ◌*◌, ◌/◌, ◌≤◌, Bool, true, false, List, [], ◌∷◌, length, take, nat_le, Result, Ok, Err}
use Rattle.std.proofs.Math.Option.{Option, none, some}
use Rattle.definition.specs.Base.{short, tell, Answer, accepted, refused, require, ◌then◌}
use Rattle.definition.specs.Request.{Request}
use Rattle.definition.specs.Registers.{register_count}
use Rattle.flat.specs.Flat.{request_size, numbers_of_all}
use Rattle.registers.specs.declared.fault.Fault.{Fault}
use Rattle.registers.specs.Told.{fault_of}
use Rattle.registers.specs.Sizing.{Sized, sized, sizing}

-- the next word, where there is one
abbrev pub first_of : List ℕ → Option ℕ
first_of [] = none
first_of (w ∷ ws) = some w

-- the words behind a register's first: a pair has two
abbrev pub past_in : Bool → List ℕ → List ℕ
past_in false ws = ws
past_in true [] = []
past_in true (w ∷ ws) = ws

-- what the code answers, and the list afterwards: how many requests, or the number of a fault and none
abbrev pub sized_said : Result ℕ Fault → List ℕ → Sized
sized_said (Ok count) list = sized 0 count list
sized_said (Err f) list = sized (tell 0 (fault_of f)).number 0 list

-- what is gathered before anything is written: the requests' numbers in front of a list, or the first fault
abbrev pub Collected : Answer (List Request) → Result ℕ Fault → List ℕ → Type 0
Collected (accepted rs) (Ok count) list = (count ≡ length rs) × (length rs ≤ register_count) × (take (request_size * count) list ≡ numbers_of_all rs)
Collected (accepted rs) (Err f) list = ⊥
Collected (refused x) (Ok count) list = ⊥
Collected (refused x) (Err f) list = x ≡ fault_of f

-- .. and written: a list that can't hold all of them is 11, last
abbrev pub sized_into : Answer (List Request) → List ℕ → Sized
sized_into a out = sizing (a then λ rs. require (nat_le (length rs) (length out / request_size)) short (accepted rs)) out
