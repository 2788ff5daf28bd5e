-- THE PROGRAM'S OUTPUT: the requests of a device's registers as the lines that ask for them, or the line `no`. Assumes nothing.
use Rattle.std.specs.Prelude.{List, [], ◌∷◌, ◌++◌, ℕ, get_or, take}
use Rattle.std.proofs.Math.Option.{Option, none, some}
use Rattle.definition.specs.Base.{bad_line, tell, Answer, accepted, refused}
use Rattle.definition.specs.Request.{Request}
use Rattle.definition.specs.Calls.{want}
use Rattle.definition.specs.Registers.{register_count, registers}
use Rattle.lines.specs.Base.{newline}
use Rattle.lines.specs.Line.{line_of}
use Rattle.lines.specs.Output.{no_line}
use Rattle.sizer.specs.Words.{words_of}

-- six words and the requester; what is no such line is BadLine. No device asks for more requests than it has registers
abbrev pub sizes_of : Option (List ℕ) → Answer (List Request)
sizes_of none = refused bad_line
sizes_of (some ns) = registers (get_or ns register_count 0) (take register_count ns) register_count

-- a `want` line for each request
unfoldable pub want_lines : List Request → List ℕ
want_lines [] = []
want_lines (r ∷ rs) = line_of (want r) ++ (newline ∷ want_lines rs)

-- no line is the refused one: 0
abbrev pub answer_lines : Answer (List Request) → List ℕ
answer_lines (accepted rs) = want_lines rs
answer_lines (refused x) = no_line 0 (tell 0 x)

-- THE OUTPUT for a whole input
unfoldable pub sizes_output : List ℕ → List ℕ
sizes_output text = answer_lines (sizes_of (words_of text))
