-- The calls as plain numbers, for callers outside: what a list of numbers asks, and the state afterwards. Assumes nothing.
use Rattle.std.specs.Prelude.{Bool, true, false, ◌||◌, List, ℕ, leb, eqb, length, get_or, drop}
use Rattle.std.proofs.Math.Option.{Option, some}
use Rattle.definition.specs.Base.{malformed, short, refused, require}
use Rattle.definition.specs.Tables.{kinds}
use Rattle.definition.specs.Calls.{State, Call, want, given, sound, settle}
use Rattle.definition.specs.Withdraw.{withdraw}
use Rattle.flat.specs.Flat.{request_at}
use Rattle.numbers.specs.Coding.{adding_in, size_in}
use Rattle.door.specs.Served.{serve_of}

-- ---- a list of numbers

-- the j-th number
abbrev pub number : List ℕ → ℕ → ℕ
number xs j = get_or xs j 0

abbrev pub adding_at : List ℕ → Option Call
adding_at xs =
    adding_in (number xs 0) (number xs 1) (number xs 2) (number xs 3) (number xs 4) (number xs 5) (number xs 6) (number xs 7) (number xs 8) (number xs 9) (number xs 10)

-- 4 is one request, of twelve numbers
abbrev pub asks : List ℕ → Bool
asks xs = eqb (number xs 0) 4

-- 5 is a withdrawal, of the requester's number
abbrev pub withdraws : List ℕ → Bool
withdraws xs = eqb (number xs 0) 5

unfoldable pub call_at : List ℕ → Option Call
call_at xs = elim (asks xs) [ true ↦ some (want (request_at (drop 1 xs) 0)) | false ↦ adding_at xs ]

-- ---- how many numbers a call needs, the first one among them

abbrev pub call_size : List ℕ → ℕ
call_size xs = size_in (number xs 0) (number xs 2)

-- ---- the state afterwards: 1, 11, 2 and the rest

-- a request and a withdrawal judge all tables, all other calls the pools and the reservations
unfoldable pub judged : List ℕ → State → Bool
judged xs s = elim (asks xs || withdraws xs) [ true ↦ sound kinds s | false ↦ given kinds s ]

unfoldable pub face_call : List ℕ → State → State
face_call xs s =
    elim (leb (call_size xs) (length xs)) [
      | true ↦ elim (withdraws xs) [ true ↦ withdraw (number xs 1) s | false ↦ serve_of (call_at xs) s ]
      | false ↦ settle s (require (judged xs s) malformed (refused short))
    ]
