-- A line: fields parted by single tabs, of one of the forms of a `pool`, a `hold` or a `want`; the call that it says, and the line of a call. Assumes nothing.
use Rattle.std.specs.Prelude.{Bool, true, false, ◌&&◌, List, [], ◌∷◌, ◌++◌, ℕ, leb, length, get_or}
use Rattle.std.proofs.Math.Option.{Option, none, some}
use Prim.Native.String.{String}
use Rattle.definition.specs.Request.{Use, automatic, fixed}
use Rattle.definition.specs.Calls.{Call, pool, hold, start, want}
use Rattle.lines.specs.Base.{line_limit, bytes, tab, newline, same, split, when, pick, ◌and_then◌, ◌or_else◌}
use Rattle.lines.specs.Numbers.{number, digits}
use Rattle.lines.specs.Forms.{n32, pool_forms, hold_forms, want_forms, tries, fields_of, Spelling, pool_spelling, hold_spelling, want_spelling}

-- ---- written: a word, and fields behind it, each after a tab

unfoldable pub behind : List (List ℕ) → List ℕ
behind [] = []
behind (f ∷ fs) = tab ∷ (f ++ behind fs)

unfoldable pub line_with : List ℕ → List (List ℕ) → List ℕ
line_with w fs = w ++ (behind fs ++ (newline ∷ []))

-- ---- read: a whole line

unfoldable pub use_of : List ℕ → Option Use
use_of f = when (same f (bytes "auto")) (some automatic) or_else when (same f (bytes "fixed")) (some fixed)

unfoldable pub behind_pool : List ℕ → List ℕ → List (List ℕ) → Option Call
behind_pool x k fs = use_of x and_then λ u. tries (pool_forms u) k fs

unfoldable pub behind_hold : List ℕ → List ℕ → List (List ℕ) → Option Call
behind_hold x k fs = number n32 x and_then λ o. tries (hold_forms o) k fs

-- no form has fewer than five fields
unfoldable pub behind_want : List ℕ → List ℕ → List (List ℕ) → Option Call
behind_want x y [] = none
behind_want x y (k ∷ []) = none
behind_want x y (k ∷ f ∷ fs) = number n32 x and_then λ q. number n32 y and_then λ slot. tries (want_forms q slot) k (f ∷ fs)

unfoldable pub by_word : List ℕ → List ℕ → List ℕ → List (List ℕ) → Option Call
by_word w x y fs =
    pick (same w (bytes "pool")) (behind_pool x y fs)
    (pick (same w (bytes "hold")) (behind_hold x y fs)
    (pick (same w (bytes "want")) (behind_want x y fs)
    none))

unfoldable pub by_fields : List (List ℕ) → Option Call
by_fields [] = none
by_fields (w ∷ []) = none
by_fields (w ∷ x ∷ []) = none
by_fields (w ∷ x ∷ y ∷ []) = none
by_fields (w ∷ x ∷ y ∷ f ∷ fs) = by_word w x y (f ∷ fs)

-- THE LINE'S READER: the call that a line says, its newline left out; none is BadLine
unfoldable pub read_line : List ℕ → Option Call
read_line l = when (leb (length l) line_limit) (by_fields (split tab l))

-- ---- written: the line of a call

abbrev pub use_word : Use → List ℕ
use_word automatic = bytes "auto"
use_word fixed = bytes "fixed"

-- a first word, the fields before the kind's word, and what the form has from there on
unfoldable pub line_from : String → List (List ℕ) → Option Spelling → List ℕ
line_from word heads none = []
line_from word heads (some spelling) =
    bytes word ++ behind (heads ++ (bytes spelling.form.word ∷ fields_of spelling.form.fields (λ i. get_or spelling.numbers i 0)))

-- THE LINE OF A CALL, its newline left out; empty where no line says the call
unfoldable pub line_of : Call → List ℕ
line_of (pool u p) = line_from "pool" (use_word u ∷ []) (pool_spelling u p)
line_of (hold o h) = line_from "hold" (digits o ∷ []) (hold_spelling o h)
line_of start = []
line_of (want r) = line_from "want" (digits r.requester ∷ digits r.slot ∷ []) (want_spelling r.requester r.slot r.want)

-- each number is at most what its field holds
unfoldable pub numbers_fit : List ℕ → List ℕ → Bool
numbers_fit [] [] = true
numbers_fit [] (v ∷ vs) = false
numbers_fit (m ∷ ms) [] = false
numbers_fit (m ∷ ms) (v ∷ vs) = leb v m && numbers_fit ms vs

abbrev pub spellable : Option Spelling → Bool
spellable none = false
spellable (some spelling) = numbers_fit spelling.form.fields spelling.numbers

-- a line says the call
unfoldable pub sayable : Call → Bool
sayable (pool u p) = spellable (pool_spelling u p)
sayable (hold o h) = leb o n32 && spellable (hold_spelling o h)
sayable start = false
sayable (want r) = leb r.requester n32 && (leb r.slot n32 && spellable (want_spelling r.requester r.slot r.want))
