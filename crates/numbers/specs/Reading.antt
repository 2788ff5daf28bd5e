-- A list of numbers as it is read, what is served of it, and an answer told. Assumes nothing.
use Rattle.std.specs.Prelude.{◌≡◌, Bool, true, false, List, ℕ, leb, length, Option as Maybe, Some, None, Result, Ok, Err}
use Rattle.std.proofs.Math.Option.{Option, none}
use Rattle.definition.specs.Base.{Said, says, malformed, short, refused, require}
use Rattle.definition.specs.Tables.{kinds}
use Rattle.definition.specs.Calls.{State, Call as DCall, fresh, given, sound, saying, settle}
use Rattle.definition.specs.Withdraw.{withdraw}
use Rattle.request.specs.Calls.{call_of}
use Rattle.request.specs.declared.call.Call.{Call}
use Rattle.insert.specs.Answers.{Reply, heard}
use Rattle.insert.specs.declared.Refused.TheVariants as F
use Rattle.door.specs.Served.{serve_of}
use Rattle.inplace.specs.declared.marks.Marks.{Marks}
use Rattle.numbers.specs.Face.{number, asks, withdraws, call_at, call_size}
use Rattle.numbers.specs.declared.Read.{Read}
use Rattle.numbers.specs.declared.Read.TheVariants as R
use Rattle.numbers.specs.declared.Short.{Short}
use Rattle.numbers.specs.declared.Short.TheVariants as S

-- a call that was read from its numbers, if it could be
abbrev pub read_of : Maybe Call → Option DCall
read_of None = none
read_of (Some c) = call_of c

-- what a list says that is as long as its call needs
abbrev pub Says : List ℕ → Read → Type 0
Says xs (R.Withdraw requester) = (withdraws xs ≡ true) × (requester ≡ number xs 1)
Says xs (R.Call c) = (withdraws xs ≡ false) × (call_of c ≡ call_at xs)

-- .. and one that is too short for it
abbrev pub Cuts : List ℕ → Short → Type 0
Cuts xs S.Request = asks xs ≡ true
Cuts xs S.Withdrawal = withdraws xs ≡ true
Cuts xs S.Adding = (asks xs ≡ false) × (withdraws xs ≡ false)

abbrev pub Reads : List ℕ → Result Read Short → Type 0
Reads xs (Ok r) = (leb (call_size xs) (length xs) ≡ true) × Says xs r
Reads xs (Err y) = (leb (call_size xs) (length xs) ≡ false) × Cuts xs y

-- whether the tables that a call judges are sound
abbrev pub judged_by : Short → State → Bool
judged_by S.Request s = sound kinds s
judged_by S.Withdrawal s = sound kinds s
judged_by S.Adding s = given kinds s

-- 1, 11, or the call
unfoldable pub served_as : Result Read Short → State → State
served_as (Ok (R.Withdraw requester)) s = withdraw requester s
served_as (Ok (R.Call c)) s = serve_of (call_of c) s
served_as (Err y) s = settle s (require (judged_by y s) malformed (refused short))

-- 11, and 1 before that where the tables are not sound
abbrev pub short_of : Bool → Reply
short_of true = Err F.Short
short_of false = Err F.Malformed

-- the number of what is answered
abbrev pub code_of : Reply → ℕ
code_of r = (heard r).number

-- the five numbers that were read of a state, beside no rows
abbrev pub said_by : Marks → Said
said_by m = says m.index m.number m.namespace m.owner m.detail

abbrev pub told_by : Marks → State
told_by m = saying (said_by m) fresh
