-- The lines that the program writes: `got`, `end`, `no`. Assumes nothing.
use Rattle.std.specs.Prelude.{List, [], ◌∷◌, ◌++◌, map, ℕ, zero, suc, ◌+◌, ◌*◌, eqb, get_or, take, drop}
use Prim.Native.String.{String}
use Rattle.definition.specs.Tables.{plan_limit, record_size}
use Rattle.definition.specs.Base.{Said}
use Rattle.lines.specs.Base.{bytes, pick}
use Rattle.lines.specs.Numbers.{digit_limit, digits}
use Rattle.lines.specs.Line.{line_with}

-- a record's kind: its word, and how many of the record's last six numbers it carries; the others are filler
pub record Carried : Type 0 where
  pub word : List ℕ
  pub count : ℕ

abbrev pub carries : String → ℕ → Carried
carries name n = record { word = bytes name; count = n }

unfoldable pub carried_by : ℕ → Carried
carried_by k =
    pick (eqb k 1) (carries "mmio" 2)
    (pick (eqb k 2) (carries "pio" 2)
    (pick (eqb k 3) (carries "input" 4)
    (pick (eqb k 4) (carries "host" 1)
    (carries "msi" 6))))

-- `got`, requester, slot, the kind's word, and the kind's numbers
unfoldable pub got_line : List ℕ → List ℕ
got_line r =
    line_with (bytes "got") (
    digits (get_or r 1 0) ∷ digits (get_or r 2 0) ∷ (carried_by (get_or r 0 0)).word ∷ map digits (take (carried_by (get_or r 0 0)).count (drop 3 r)))

-- one for each of n records
unfoldable pub got_lines : ℕ → List ℕ → List ℕ
got_lines zero rs = []
got_lines (suc n) rs = got_line rs ++ got_lines n (drop record_size rs)

unfoldable pub end_line : ℕ → List ℕ
end_line n = line_with (bytes "end") (digits n ∷ [])

-- the line's number from 1, refusal number, namespace, owner, detail
abbrev pub no_numbers : ℕ → Said → List ℕ
no_numbers l w = l ∷ w.number ∷ w.namespace ∷ w.owner ∷ w.detail ∷ []

unfoldable pub no_line : ℕ → Said → List ℕ
no_line l w = line_with (bytes "no") (map digits (no_numbers l w))

-- ---- how long they can be: a number takes at most a tab and `digit_limit` digits

abbrev pub field : ℕ
field = suc digit_limit

-- msi: `got`, two numbers, its word, six numbers, a newline. No other kind's line is longer (proofs/Longest.antt)
abbrev pub got_limit : ℕ
got_limit = 3 + (2 * field + (4 + (6 * field + 1)))

abbrev pub end_limit : ℕ
end_limit = 3 + (field + 1)

-- THE LONGEST OUTPUT: no text gives more bytes
abbrev pub output_limit : ℕ
output_limit = plan_limit * got_limit + end_limit
