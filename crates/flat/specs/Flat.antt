-- Requests as plain numbers, twelve a request, and a plan of them. Assumes nothing.
use Rattle.std.specs.Prelude.{Bool, true, false, ◌&&◌, List, [], ◌∷◌, ◌++◌, ℕ, zero, suc, ◌+◌, ◌*◌, ◌/◌, leb, eqb, length, get_or}
use Rattle.definition.specs.Tables.{top, kinds}
use Rattle.definition.specs.Base.{malformed, short, refused, require}
use Rattle.definition.specs.Request.{Choice, auto, at, Want, mmio_want, pio_want, input_want, host_want, msi_want, Request}
use Rattle.definition.specs.Calls.{State, sound, settle}
use Rattle.definition.specs.Plan.{Lent, lent, allocate_into, plan}

-- the numbers of one request: kind, requester, slot, a, b, c, then three choices of two numbers each (a code and a number)
abbrev pub request_size : ℕ
request_size = 12

-- ---- one request from its twelve numbers

-- code 0 leaves the choice to the planner, code 1 asks for the number beside it; no other code is known
abbrev pub known : ℕ → Bool
known code = leb code 1

abbrev pub choice_at : ℕ → ℕ → Choice
choice_at zero n = auto
choice_at (suc code) n = at n

-- requester, slot, controller, trigger, sharing, ITS and count have fields of 32 bits
abbrev pub fits : ℕ → Bool
fits n = leb n (top 32)

abbrev pub all_fit : ℕ → ℕ → ℕ → Bool
all_fit a b c = fits a && (fits b && fits c)

-- the kinds of request, by their numbers from 1 on
pub data Form : Type 0 where
  unknown mmio pio input host msi : Form

abbrev pub forms : List Form
forms = unknown ∷ mmio ∷ pio ∷ input ∷ host ∷ msi ∷ []

abbrev pub form_at : ℕ → Form
form_at kind = get_or forms kind unknown

-- of a DeviceID, an EventID or an LPI the number asked for has a field of 32 bits too; where none is asked for it is not looked at
abbrev pub named : ℕ → ℕ → Bool
named zero n = true
named (suc zero) n = fits n
named (suc (suc code)) n = false

-- the kind is known, and what it uses of a b c and of the three choices can be read: what it does not use is not looked at
unfoldable pub readable : Form → ℕ → ℕ → ℕ → ℕ → ℕ → ℕ → ℕ → ℕ → ℕ → Bool
readable unknown a b c x n y m z l = false
readable mmio a b c x n y m z l = known x
readable pio a b c x n y m z l = known x
readable input a b c x n y m z l = all_fit a b c && known x
readable host a b c x n y m z l = known x
readable msi a b c x n y m z l = all_fit a b c && (named x n && (named y m && named z l))

-- MMIO and PIO: a size, b alignment; an input: a controller, b trigger, c sharing; MSI: a controller, b ITS, c count, and its three choices device, event, LPI
unfoldable pub want_at : Form → ℕ → ℕ → ℕ → Choice → Choice → Choice → Want
want_at unknown a b c cd ce cl = host_want auto
want_at mmio a b c cd ce cl = mmio_want a b cd
want_at pio a b c cd ce cl = pio_want a b cd
want_at input a b c cd ce cl = input_want a b c cd
want_at host a b c cd ce cl = host_want cd
want_at msi a b c cd ce cl = msi_want a b c cd ce cl

-- what cannot be read is a request of requester 0, which the definition itself answers with 2
abbrev pub bad : Request
bad = record { requester = 0; slot = 0; want = host_want auto }

abbrev pub or_bad : Bool → Request → Request
or_bad true r = r
or_bad false r = bad

unfoldable pub request_in : (kind requester slot a b c x n y m z l : ℕ) → Request
request_in kind requester slot a b c x n y m z l =
    or_bad (fits requester && (fits slot && readable (form_at kind) a b c x n y m z l))
    record { requester = requester; slot = slot; want = want_at (form_at kind) a b c (choice_at x n) (choice_at y m) (choice_at z l) }

-- ---- one request as its twelve numbers: what its kind does not use, and what an automatic choice leaves open, is 0

abbrev pub code_of : Choice → ℕ
code_of auto = 0
code_of (at n) = 1

abbrev pub number_in : Choice → ℕ
number_in auto = 0
number_in (at n) = n

abbrev pub numbers_of_want : ℕ → ℕ → Want → List ℕ
numbers_of_want q slot (mmio_want size a c) = 1 ∷ q ∷ slot ∷ size ∷ a ∷ 0 ∷ code_of c ∷ number_in c ∷ 0 ∷ 0 ∷ 0 ∷ 0 ∷ []
numbers_of_want q slot (pio_want size a c) = 2 ∷ q ∷ slot ∷ size ∷ a ∷ 0 ∷ code_of c ∷ number_in c ∷ 0 ∷ 0 ∷ 0 ∷ 0 ∷ []
numbers_of_want q slot (input_want k t s c) = 3 ∷ q ∷ slot ∷ k ∷ t ∷ s ∷ code_of c ∷ number_in c ∷ 0 ∷ 0 ∷ 0 ∷ 0 ∷ []
numbers_of_want q slot (host_want c) = 4 ∷ q ∷ slot ∷ 0 ∷ 0 ∷ 0 ∷ code_of c ∷ number_in c ∷ 0 ∷ 0 ∷ 0 ∷ 0 ∷ []
numbers_of_want q slot (msi_want k i n d e l) = 5 ∷ q ∷ slot ∷ k ∷ i ∷ n ∷ code_of d ∷ number_in d ∷ code_of e ∷ number_in e ∷ code_of l ∷ number_in l ∷ []

unfoldable pub numbers_of : Request → List ℕ
numbers_of r = numbers_of_want r.requester r.slot r.want

unfoldable pub numbers_of_all : List Request → List ℕ
numbers_of_all [] = []
numbers_of_all (r ∷ rs) = numbers_of r ++ numbers_of_all rs

-- ---- a list of them

-- the j-th number of the i-th request
abbrev pub number_at : List ℕ → ℕ → ℕ → ℕ
number_at rq i j = get_or rq (request_size * i + j) 0

unfoldable pub request_at : List ℕ → ℕ → Request
request_at rq i =
    request_in (number_at rq i 0) (number_at rq i 1) (number_at rq i 2) (number_at rq i 3) (number_at rq i 4) (number_at rq i 5)
    (number_at rq i 6) (number_at rq i 7) (number_at rq i 8) (number_at rq i 9) (number_at rq i 10) (number_at rq i 11)

-- from the i-th on, so many
unfoldable pub requests_from : List ℕ → ℕ → ℕ → List Request
requests_from rq i zero = []
requests_from rq i (suc k) = request_at rq i ∷ requests_from rq (suc i) k

unfoldable pub requests_of : List ℕ → List Request
requests_of rq = requests_from rq 0 (length rq / request_size)

-- ---- a plan of them

-- the list ends with a request, not within one
unfoldable pub whole_requests : List ℕ → Bool
whole_requests rq = eqb (request_size * (length rq / request_size)) (length rq)

-- a list that ends within a request is shorter than its requests need: 11, after 1
unfoldable pub flat_plan : List ℕ → State → List ℕ → Lent
flat_plan rq s out =
    elim (whole_requests rq) [
      | true ↦ plan (requests_of rq) s out
      | false ↦ lent (settle s (require (sound kinds s) malformed (refused short))) out
    ]

-- ---- one of them, with its record

unfoldable pub flat_allocate : List ℕ → State → List ℕ → Lent
flat_allocate xs s out =
    elim (leb request_size (length xs)) [
      | true ↦ allocate_into kinds (request_at xs 0) s out
      | false ↦ lent (settle s (require (sound kinds s) malformed (refused short))) out
    ]
