-- THE PINNED TEXT of an accepted text: its lines in order, each `want` with the numbers that it was granted (C-11). Assumes nothing.
use Rattle.std.specs.Prelude.{true, false, ◌&&◌, List, [], ◌∷◌, ◌++◌, ℕ, leb, length}
use Rattle.std.proofs.Math.Option.{Option, none, some}
use Rattle.definition.specs.Tables.{kinds}
use Rattle.definition.specs.Base.{short, silence, tell}
use Rattle.definition.specs.Request.{Request}
use Rattle.definition.specs.Calls.{State, fresh, pools_of, held_of, Call, pool, hold, start, want, serve}
use Rattle.definition.specs.Plan.{Grant, run, grants_of, pinned, written}
use Rattle.lines.specs.Base.{text_limit, newline, split}
use Rattle.lines.specs.Line.{read_line, line_of}
use Rattle.lines.specs.Output.{no_numbers, no_line}
use Rattle.lines.specs.Text.{Sofar, accepts, ended}

-- ---- what a text says

abbrev pub and_calls : Option Call → List Call → List Call
and_calls none cs = cs
and_calls (some c) cs = c ∷ cs

-- the calls of the closed lines; behind the last newline stands no line
unfoldable pub calls_of : List (List ℕ) → List Call
calls_of [] = []
calls_of (p ∷ []) = []
calls_of (p ∷ p' ∷ ps) = and_calls (read_line p) (calls_of (p' ∷ ps))

unfoldable pub calls : List ℕ → List Call
calls text = calls_of (split newline text)

unfoldable pub heads : List Call → List Call  -- its pools and holds
heads [] = []
heads (pool u p ∷ cs) = pool u p ∷ heads cs
heads (hold o h ∷ cs) = hold o h ∷ heads cs
heads (start ∷ cs) = heads cs
heads (want r ∷ cs) = heads cs

unfoldable pub wants : List Call → List Request
wants [] = []
wants (pool u p ∷ cs) = wants cs
wants (hold o h ∷ cs) = wants cs
wants (start ∷ cs) = wants cs
wants (want r ∷ cs) = r ∷ wants cs

-- the tables when the pools and holds are in, and what the wants are granted there
unfoldable pub served : List Call → State → State
served [] s = s
served (c ∷ cs) s = served cs (serve kinds c s)

unfoldable pub set_up_by : List ℕ → State
set_up_by text = served (heads (calls text)) fresh

unfoldable pub grants : List ℕ → List Grant
grants text = grants_of (run (pools_of (set_up_by text)) (held_of (set_up_by text)) (wants (calls text)))

-- ---- what is written

-- every want in its place, pinned
unfoldable pub pinned_calls : List Call → List Grant → List Call
pinned_calls [] gs = []
pinned_calls (pool u p ∷ cs) gs = pool u p ∷ pinned_calls cs gs
pinned_calls (hold o h ∷ cs) gs = hold o h ∷ pinned_calls cs gs
pinned_calls (start ∷ cs) gs = pinned_calls cs gs
pinned_calls (want r ∷ cs) [] = []  -- an accepted text has a grant for each want
pinned_calls (want r ∷ cs) (g ∷ gs) = want (pinned g) ∷ pinned_calls cs gs

unfoldable pub lines_of : List Call → List ℕ  -- each call's line, and its newline
lines_of [] = []
lines_of (c ∷ cs) = line_of c ++ (newline ∷ lines_of cs)

unfoldable pub back : List ℕ → List ℕ
back text = lines_of (pinned_calls (calls text) (grants text))

-- ---- THE CALL: the five numbers of a `no` line, how many bytes were written, and the buffer afterwards
pub record Pinned : Type 0 where
  pub answer : List ℕ
  pub bytes : ℕ
  pub buffer : List ℕ

abbrev pub pinning : List ℕ → ℕ → List ℕ → Pinned
pinning answer n out = record { answer = answer; bytes = n; buffer = out }

-- by how the text ended, and its pinned text: the text's own refusal; then 11 where the pinned text is longer than the buffer or than a text may
-- be. Nothing is written on a refusal, and nothing behind the pinned text
abbrev pub pinned_by : Sofar → List ℕ → List ℕ → Pinned
pinned_by t pinned_text out =
    elim (accepts t.said) [
      | false ↦ pinning (no_numbers t.lines t.said) 0 out
      | true ↦
          elim (leb (length pinned_text) (length out) && leb (length pinned_text) text_limit) [
            | true ↦ pinning (no_numbers 0 silence) (length pinned_text) (written pinned_text out)
            | false ↦ pinning (no_numbers 0 (tell 0 short)) 0 out
          ]
    ]

unfoldable pub pins_to : List ℕ → List ℕ → Pinned
pins_to text out = pinned_by (ended text) (back text) out

-- THE PROGRAM that pins: the pinned text alone, or the line `no`
abbrev pub pinned_output : Sofar → List ℕ → List ℕ
pinned_output t pinned_text =
    elim (accepts t.said) [
      | false ↦ no_line t.lines t.said
      | true ↦ elim (leb (length pinned_text) text_limit) [ true ↦ pinned_text | false ↦ no_line 0 (tell 0 short) ]
    ]

unfoldable pub pin_output : List ℕ → List ℕ
pin_output text = pinned_output (ended text) (back text)
