-- The line that starts at a place of a text: what it says, and where the next one starts. Assumes nothing.
use Rattle.std.specs.Prelude.{true, false, List, ℕ, ◌+◌, ◌-◌, ltb, length, take, drop}
use Rattle.std.proofs.Math.Option.{Option, none}
use Rattle.definition.specs.Calls.{Call}
use Rattle.lines.specs.Base.{newline}
use Rattle.lines.specs.Line.{read_line}
use Rattle.lines.specs.Code.{first}

-- its newline, or the text's end
abbrev pub end_at : List ℕ → ℕ → ℕ
end_at text at = at + first newline (drop at text)

-- a line that no newline ends says nothing, and is the last
unfoldable pub call_at : List ℕ → ℕ → Option Call
call_at text at = elim (ltb (end_at text at) (length text)) [ true ↦ read_line (take (end_at text at - at) (drop at text)) | false ↦ none ]

unfoldable pub next_at : List ℕ → ℕ → ℕ
next_at text at = elim (ltb (end_at text at) (length text)) [ true ↦ end_at text at + 1 | false ↦ length text ]
