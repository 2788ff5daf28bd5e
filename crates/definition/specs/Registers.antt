-- The requests of a PCI device, from the words read from its base address registers after all ones were written: C-15, in the order of its sentences. Assumes nothing.
use Rattle.std.specs.Prelude.{Bool, true, false, ◌&&◌, List, [], ◌∷◌, ◌++◌, map, ℕ, zero, suc, ◌+◌, ◌-◌, ◌*◌, ◌/◌, ◌%◌, ◌^◌, leb, ltb, eqb, length}
use Rattle.std.proofs.Math.Option.{Option, none, some}
use Rattle.definition.specs.Base.{all_of, bad_input, short, bad_type, bad_pair, bad_mask, ports_too_large, Answer, accepted, refused, require, ◌then◌}
use Rattle.definition.specs.Tables.{top}
use Rattle.definition.specs.Request.{auto, Want, mmio_want, pio_want, Request}

abbrev pub register_count : ℕ  -- six base address registers, a word of 32 bits each
register_count = 6

-- ---- one word
abbrev pub bit : ℕ → ℕ → ℕ
bit k w = w / 2 ^ k % 2

abbrev pub cleared : ℕ → ℕ → ℕ  -- the low k bits are cleared
cleared k w = w - w % 2 ^ k

pub data Register : Type 0 where
  nothing : Register  -- a word of zero is no register
  ports : Register  -- bit 0 set is I/O
  memory : Register  -- otherwise it is memory, and bits 2 and 1 say 32-bit (00)
  pair : Register  -- .. or 64-bit (10, using the next word as the high half)
  unknown : Register  -- .. other types are refused

unfoldable pub memory_of : ℕ → ℕ → Register  -- by bit 2 and bit 1
memory_of zero zero = memory
memory_of (suc two) zero = pair
memory_of two (suc one) = unknown

unfoldable pub register_of : ℕ → Register
register_of w = elim (eqb w 0) [ true ↦ nothing | false ↦ elim (eqb (bit 0 w) 1) [ true ↦ ports | false ↦ memory_of (bit 2 w) (bit 1 w) ] ]

-- ---- masks: what is left of a word when its low bits are cleared
abbrev pub memory_mask : ℕ → ℕ
memory_mask w = cleared 4 w

abbrev pub pair_mask : ℕ → ℕ → ℕ  -- the high half above the cleared low word, as ONE number of 64 bits
pair_mask w high = high * 2 ^ 32 + cleared 4 w

unfoldable pub upper_ones : ℕ → ℕ  -- where the upper 16 bits read zero they are taken as ones
upper_ones w = elim (eqb (w / 2 ^ 16) 0) [ true ↦ 2 ^ 32 - 2 ^ 16 | false ↦ 0 ]

abbrev pub port_mask : ℕ → ℕ
port_mask w = cleared 2 w + upper_ones w

unfoldable pub topped : ℕ → ℕ → Bool  -- of the n lowest bits, each that is set has a set one above it
topped zero m = true
topped (suc n) m = leb (bit 0 m) (bit 1 m) && topped n (m / 2)

unfoldable pub good_mask : ℕ → ℕ → Bool  -- not zero, and its ones are contiguous from the top of so many bits
good_mask width m = ltb 0 m && topped (width - 1) m

unfoldable pub size_of : ℕ → ℕ → Answer ℕ  -- 16, or the size: the mask inverted and one added, modulo 2 ^ width; of a mask that is not zero that is what it lacks to 2 ^ width
size_of width m = require (good_mask width m) bad_mask (accepted (2 ^ width - m))

-- ---- one register: 14, 15, 16, 17, or what it asks for; alignment is the size
abbrev pub memory_want : ℕ → Answer (List Want)
memory_want size = accepted (mmio_want size size auto ∷ [])

abbrev pub ports_want : ℕ → Answer (List Want)
ports_want size = require (leb size (top 16)) ports_too_large (accepted (pio_want size size auto ∷ []))

unfoldable pub asked : Register → ℕ → Option ℕ → Answer (List Want)  -- the word, and the next one where there is one
asked nothing w next = accepted []
asked ports w next = size_of 32 (port_mask w) then ports_want
asked memory w next = size_of 32 (memory_mask w) then memory_want
asked pair w none = refused bad_pair  -- a pair that would begin at the last word
asked pair w (some high) = size_of 64 (pair_mask w high) then memory_want
asked unknown w next = refused bad_type

-- ---- all of them
abbrev pub ◌also◌ : {A : Type 0} → Answer (List A) → Answer (List A) → Answer (List A)  -- one after the other: the first fault decides
a also b = a then λ xs. b then λ ys. accepted (xs ++ ys)

infixr 20 ◌also◌
abbrev pub requests_at : ℕ → ℕ → List Want → List Request  -- for a requester; the slot is the register's index
requests_at q i wants = map (λ want. record { requester = q; slot = i; want = want }) wants

unfoldable pub asked_at : ℕ → ℕ → ℕ → Option ℕ → Answer (List Request)
asked_at q i w next = asked (register_of w) w next then λ wants. accepted (requests_at q i wants)

abbrev pub takes_next : Register → Bool  -- the next word is its high half
takes_next nothing = false
takes_next ports = false
takes_next memory = false
takes_next pair = true
takes_next unknown = false

unfoldable pub asked_from : ℕ → ℕ → List ℕ → Answer (List Request)  -- registers are taken in order, from the i-th on; a high half is none
asked_from q i [] = accepted []
asked_from q i (w ∷ []) = asked_at q i w none
asked_from q i (w ∷ next ∷ ws) =
    asked_at q i w (some next) also elim (takes_next (register_of w)) [ true ↦ asked_from q (suc (suc i)) ws | false ↦ asked_from q (suc i) (next ∷ ws) ]

-- a requester of 0 is BadInput before any word is read, as is what has no 32 bits; Short is given last, if a list of so many requests can't hold all
unfoldable pub registers : ℕ → List ℕ → ℕ → Answer (List Request)
registers q ws most =
    require (ltb 0 q && leb q (top 32)) bad_input
    (require (all_of (λ w. leb w (top 32)) ws) bad_input
    (asked_from q 0 ws then λ rs. require (leb (length rs) most) short (accepted rs)))
