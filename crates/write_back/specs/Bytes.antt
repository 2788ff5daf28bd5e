-- The pinned text, byte by byte: each closed line as it stands, but for a last field `auto`, in whose place are the numbers granted. Assumes nothing.
use Rattle.std.specs.Prelude.{◌≡◌, Bool, true, false, List, [], ◌∷◌, ◌++◌, map, ℕ, suc, ◌-◌, ◌≤◌, eqb, length, take, drop, get_or}
use Rattle.definition.specs.Tables.{plan_limit, record_size}
use Rattle.lines.specs.Base.{text_limit, newline, split, pick}
use Rattle.lines.specs.Numbers.{digits}
use Rattle.lines.specs.Line.{behind}
use Rattle.text.specs.Step.{results_size}

-- ---- a line, its newline left out

-- 'w': a `pool` and a `hold` begin otherwise
unfoldable pub is_want : List ℕ → Bool
is_want l = eqb (get_or l 0 0) 119

-- 'o': any other line ends in a digit
unfoldable pub ends_in_auto : List ℕ → Bool
ends_in_auto l = eqb (get_or l (length l - 1) 0) 111

-- the tab and `auto`
abbrev pub auto_size : ℕ
auto_size = 5

-- the numbers that a record grants: of an input (3) what stands behind its controller, of an MSI (5) the device, the event and the LPI, of
-- any other the first
unfoldable pub granted_in : List ℕ → List ℕ
granted_in r =
    pick (eqb (get_or r 0 0) 3) (get_or r 4 0 ∷ [])
    (pick (eqb (get_or r 0 0) 5) (get_or r 5 0 ∷ get_or r 6 0 ∷ get_or r 7 0 ∷ [])
    (get_or r 3 0 ∷ []))

unfoldable pub pinned_bytes : List ℕ → List ℕ → List ℕ
pinned_bytes l r = elim (ends_in_auto l) [ true ↦ take (length l - auto_size) l ++ behind (map digits (granted_in r)) | false ↦ l ]

-- the line can be pinned by the record
abbrev pub Pinnable : List ℕ → List ℕ → Type 0
Pinnable l r = ends_in_auto l ≡ true → (auto_size ≤ length l) × (record_size ≤ length r)

-- how many numbers of the records it takes
unfoldable pub used_by : List ℕ → ℕ
used_by l = elim (is_want l) [ true ↦ record_size | false ↦ 0 ]

-- ---- the parts of a text at its newlines: behind the last newline stands no line

-- rs: the records of the wants from here on
unfoldable pub back_bytes : List (List ℕ) → List ℕ → List ℕ
back_bytes [] rs = []
back_bytes (p ∷ []) rs = []
back_bytes (p ∷ p' ∷ ps) rs = pinned_bytes p rs ++ (newline ∷ back_bytes (p' ∷ ps) (elim (is_want p) [ true ↦ drop record_size rs | false ↦ rs ]))

unfoldable pub wants_of : List (List ℕ) → ℕ
wants_of [] = 0
wants_of (p ∷ []) = 0
wants_of (p ∷ p' ∷ ps) = elim (is_want p) [ true ↦ suc (wants_of (p' ∷ ps)) | false ↦ wants_of (p' ∷ ps) ]

-- only a want ends in `auto`, whole: so it is in every text that is accepted
abbrev pub Plain : List ℕ → Type 0
Plain l = ends_in_auto l ≡ true → (is_want l ≡ true) × (auto_size ≤ length l)

unfoldable pub Tidy : List (List ℕ) → Type 0
Tidy [] = Unit {0}
Tidy (p ∷ []) = Unit {0}
Tidy (p ∷ p' ∷ ps) = Plain p × Tidy (p' ∷ ps)

-- what both calls ask of a text and its results
pub record Writable (text results : List ℕ) : Type 0 where
  pub short : length text ≤ text_limit
  pub whole : length results ≡ results_size
  pub few : wants_of (split newline text) ≤ plan_limit
  pub tidy : Tidy (split newline text)
