-- 02's own words of C-15 and every boundary of them, as one table under one claim. Assumes nothing.
use Rattle.std.specs.Prelude.{◌≡◌, refl, List, [], ◌∷◌, map, ℕ, ◌-◌, ◌^◌, replicate}
use Rattle.definition.specs.Base.{all_of, tell, Answer, accepted, refused, require}
use Rattle.definition.specs.Request.{Choice, auto, at, Want, mmio_want, pio_want, input_want, host_want, msi_want, Request}
use Rattle.definition.specs.Registers.{register_count, memory_of, register_of, upper_ones, topped, good_mask, size_of, asked, asked_at, takes_next, asked_from, registers}

-- six words, a requester, room for so many requests; and the requests as numbers, or the refusal's number alone
pub record Case : Type 0 where
  pub words : List ℕ
  pub requester : ℕ
  pub most : ℕ
  pub answers : List (List ℕ)

-- ---- what is answered, as numbers
abbrev choice_number : Choice → ℕ
choice_number auto = 0
choice_number (at b) = 1

abbrev want_numbers : Want → List ℕ  -- kind, size, alignment, choice
want_numbers (mmio_want size a c) = 1 ∷ size ∷ a ∷ choice_number c ∷ []
want_numbers (pio_want size a c) = 2 ∷ size ∷ a ∷ choice_number c ∷ []
want_numbers (input_want controller trigger sharing c) = []
want_numbers (host_want c) = []
want_numbers (msi_want controller its count cd ce cl) = []

unfoldable shown : Answer (List Request) → List (List ℕ)
shown (accepted rs) = map (λ r. r.requester ∷ r.slot ∷ want_numbers r.want) rs
shown (refused x) = ((tell 0 x).number ∷ []) ∷ []

pub outcome : Case → List (List ℕ)
unfolding shown
outcome c = shown (registers c.requester c.words c.most)

-- ---- how a case is written: requester 3 and room for six where nothing else is said
abbrev case : List ℕ → ℕ → ℕ → List (List ℕ) → Case
case words requester most answers = record { words = words; requester = requester; most = most; answers = answers }

abbrev six : ℕ → ℕ → ℕ → ℕ → ℕ → ℕ → List (List ℕ) → Case
six a b c d e f answers = case (a ∷ b ∷ c ∷ d ∷ e ∷ f ∷ []) 3 6 answers

abbrev one : ℕ → List (List ℕ) → Case  -- a word, and five of zero
one w answers = six w 0 0 0 0 0 answers

abbrev two : ℕ → ℕ → List (List ℕ) → Case
two w v answers = six w v 0 0 0 0 answers

abbrev last : ℕ → List (List ℕ) → Case  -- a word behind five of zero
last w answers = six 0 0 0 0 0 w answers

abbrev mem : ℕ → ℕ → List ℕ  -- the slot, and the size which is the alignment
mem slot size = 3 ∷ slot ∷ 1 ∷ size ∷ size ∷ 0 ∷ []

abbrev io : ℕ → ℕ → List ℕ
io slot size = 3 ∷ slot ∷ 2 ∷ size ∷ size ∷ 0 ∷ []

abbrev only : List ℕ → List (List ℕ)
only numbers = numbers ∷ []

abbrev no : ℕ → List (List ℕ)
no number = (number ∷ []) ∷ []

pub cases : List Case
cases =
    -- 02's own
    one 0xFFFFF000 (only (mem 0 4096))
    ∷ one 0xFFFFFF01 (only (io 0 256))
    ∷ one 0x00000001 (no 17)
    -- 2: a requester of 0 or above 32 bits before any word, a word above 32 bits before any register
    ∷ case (0xFFFFF000 ∷ 0 ∷ 0 ∷ 0 ∷ 0 ∷ 0 ∷ []) 0 6 (no 2)
    ∷ case (0xFFFFF002 ∷ 2 ^ 32 ∷ 0 ∷ 0 ∷ 0 ∷ 0 ∷ []) 0 0 (no 2)
    ∷ case (replicate register_count 0) (2 ^ 32) 6 (no 2)
    ∷ case (replicate register_count 0) (2 ^ 32 - 1) 6 []
    ∷ six 0xFFFFF002 0 0 0 0 (2 ^ 32) (no 2)
    -- no register at all: no room is needed
    ∷ case (replicate register_count 0) 3 6 []
    ∷ case (replicate register_count 0) 3 0 []
    -- I/O: upper 16 bits of zero are ones; 17 is 65536 and more
    ∷ one 0x0000FF01 (only (io 0 256))
    ∷ one 0x0000FFFD (only (io 0 4))
    ∷ one 0x00008001 (only (io 0 32768))
    ∷ one 0xFFFF8001 (only (io 0 32768))
    ∷ one 0xFFFF0001 (no 17)
    ∷ one 0x80000001 (no 17)
    ∷ one 0x00000003 (no 17)
    ∷ one 0xFFFFFFFD (only (io 0 4))
    ∷ one 0xFFFFFFFF (only (io 0 4))
    ∷ one 0x00010001 (no 16)
    ∷ one 0xFFFF0FF1 (no 16)
    ∷ one 0x0000FF05 (no 16)
    ∷ one 0x7FFFFF01 (no 16)
    -- memory: types, the prefetchable bit, the least size and the largest, masks
    ∷ one 0xFFFFF002 (no 14)
    ∷ one 0xFFFFF006 (no 14)
    ∷ one 0x00000002 (no 14)
    ∷ one 0xFFFFFFF0 (only (mem 0 16))
    ∷ one 0xFFFFFFF8 (only (mem 0 16))
    ∷ one 0x80000000 (only (mem 0 (2 ^ 31)))
    ∷ one 0x00000008 (no 16)
    ∷ one 0x7FFFFFF0 (no 16)
    ∷ one 0xFFFFF0F0 (no 16)
    ∷ one 0x00000010 (no 16)
    -- a pair is one number of 64 bits
    ∷ two 0xFFFFFFF4 0xFFFFFFFF (only (mem 0 16))
    ∷ two 0xFFFFFFFC 0xFFFFFFFF (only (mem 0 16))
    ∷ two 0xFFFFF004 0xFFFFFFFF (only (mem 0 4096))
    ∷ two 0x80000004 0xFFFFFFFF (only (mem 0 (2 ^ 31)))
    ∷ two 0x00000004 0xFFFFFFFF (only (mem 0 (2 ^ 32)))
    ∷ two 0x00000004 0x80000000 (only (mem 0 (2 ^ 63)))
    ∷ two 0xFFFFF004 0 (no 16)
    ∷ two 0xFFFFF004 0xFFFFFFFE (no 16)
    ∷ two 0x00000004 0 (no 16)
    ∷ two 0x00000004 0x7FFFFFFF (no 16)
    ∷ two 0x80000004 0x80000000 (no 16)
    -- it takes the next word, whatever that holds
    ∷ two 0x00000004 0xFFFFFFF2 (no 16)
    ∷ six 0x00000004 0xFFFFFFF0 0xFFFFFFF0 0 0 0 (mem 0 (2 ^ 36) ∷ mem 2 16 ∷ [])
    ∷ six 0xFFFFFFF4 0xFFFFFFFF 0xFFFFFFFF 0 0 0 (mem 0 16 ∷ io 2 4 ∷ [])
    -- .. but there is none behind the sixth: 14, 15, 16, 17
    ∷ last 0xFFFFFFF4 (no 15)
    ∷ last 0x00000004 (no 15)
    ∷ last 0xFFFFF006 (no 14)
    ∷ last 0x00000008 (no 16)
    ∷ last 0x00000001 (no 17)
    ∷ last 0xFFFFF000 (only (mem 5 4096))
    ∷ six 0 0 0 0 0xFFFFFFF4 0xFFFFFFFF (only (mem 4 16))
    -- registers in order: the first fault decides
    ∷ two 0x00000008 0xFFFFF002 (no 16)
    ∷ two 0x00000001 0x00000008 (no 17)
    ∷ six 0xFFFFF000 0x00000001 0x00000004 0 0xFFFFF002 0xFFFFFFF4 (no 17)
    -- slots have holes
    ∷ six 0 0xFFFFF000 0xFFFFF004 0xFFFFFFFF 0xFFFFFF01 0 (mem 1 4096 ∷ mem 2 4096 ∷ io 4 256 ∷ [])
    ∷ six 0xFFFFFFF4 0xFFFFFFFF 0x00000004 0xFFFFFFFF 0x00000004 0x80000000 (mem 0 16 ∷ mem 2 (2 ^ 32) ∷ mem 4 (2 ^ 63) ∷ [])
    ∷ case (replicate register_count 0xFFFFFFFF) 3 6 (io 0 4 ∷ io 1 4 ∷ io 2 4 ∷ io 3 4 ∷ io 4 4 ∷ io 5 4 ∷ [])
    -- Short last
    ∷ case (replicate register_count 0xFFFFFFFF) 3 5 (no 11)
    ∷ case (0xFFFFF000 ∷ 0xFFFFFF01 ∷ 0 ∷ 0 ∷ 0 ∷ 0 ∷ []) 3 2 (mem 0 4096 ∷ io 1 256 ∷ [])
    ∷ case (0xFFFFF000 ∷ 0xFFFFFF01 ∷ 0 ∷ 0 ∷ 0 ∷ 0 ∷ []) 3 1 (no 11)
    ∷ case (0xFFFFF000 ∷ 0xFFFFFF01 ∷ 0 ∷ 0 ∷ 0 ∷ 0x00000001 ∷ []) 3 1 (no 17)
    ∷ case (0xFFFFF000 ∷ 0 ∷ 0 ∷ 0 ∷ 0 ∷ 0 ∷ []) 3 0 (no 11)
    ∷ []

pub register_cases : map outcome cases ≡ map (λ c. c.answers) cases
unfolding cases outcome shown all_of require memory_of register_of upper_ones topped good_mask size_of asked asked_at takes_next asked_from registers
register_cases = refl
