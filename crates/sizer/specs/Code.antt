-- The code's values in the definition's words: numbers kept within 64 bits, and a `want` line from a request's numbers. Assumes nothing.
use Rattle.std.specs.Prelude.{List, [], ◌∷◌, ◌++◌, ℕ, zero, suc, ◌*◌, ◌^◌, min, get_or, drop}
use Rattle.std.proofs.Math.Option.{Option, none, some}
use Rattle.definition.specs.Registers.{register_count}
use Rattle.flat.specs.Flat.{request_size}
use Rattle.lines.specs.Base.{bytes}
use Rattle.lines.specs.Numbers.{digits}
use Rattle.lines.specs.Line.{line_with}
use Rattle.lines.specs.Output.{carried_by, got_limit}
use Rattle.sizer.specs.Words.{word}

-- a number above 32 bits is answered like any other: the least of them stands for all
abbrev pub capped : ℕ → ℕ
capped v = min v (2 ^ 32)

abbrev pub capped_said : Option ℕ → Option ℕ
capped_said none = none
capped_said (some v) = some (capped v)

abbrev pub capped_word : List ℕ → Option ℕ
capped_word f = capped_said (word f)

-- an automatic request for memory or ports, from its numbers: kind, requester, slot, size, alignment
unfoldable pub ask_line : List ℕ → List ℕ
ask_line r =
    line_with (bytes "want") (
    digits (get_or r 1 0) ∷ digits (get_or r 2 0) ∷ (carried_by (get_or r 0 0)).word ∷ digits (get_or r 3 0) ∷ digits (get_or r 4 0) ∷ bytes "auto" ∷ [])

-- of the first n requests
unfoldable pub ask_lines : ℕ → List ℕ → List ℕ
ask_lines zero rs = []
ask_lines (suc n) rs = ask_line rs ++ ask_lines n (drop request_size rs)

-- room for the longest output: no device has more registers, and no such line is longer than the longest `got` line
abbrev pub sizes_limit : ℕ
sizes_limit = register_count * got_limit
