-- What the text call promises. Assumes nothing.
use Rattle.std.specs.Prelude.{true, false, None, Some, List, ◌++◌, ℕ, leb, length}
use Rattle.definition.specs.Base.{says}
use Rattle.definition.specs.Plan.{written}
use Rattle.lines.specs.Output.{got_lines, end_line, no_line, output_limit}
use Rattle.definition.specs.Calls.{State}
use Rattle.lines.specs.Text as Text
use Rattle.lines.specs.Text.{beginning, feed, close, output}
use Rattle.text.specs.declared.feed.sofar.Sofar.{Sofar}

-- an answer's number, how many bytes were written, and the buffer afterwards
pub record Replied : Type 0 where
  pub number : ℕ
  pub bytes : ℕ
  pub buffer : List ℕ

abbrev pub replied : ℕ → ℕ → List ℕ → Replied
replied n k out = record { number = n; bytes = k; buffer = out }

-- THE PROMISE: the definition's output in front, and the rest of the buffer untouched; a buffer shorter than the longest output there is
-- is 11 whatever the text, and stays as it was
unfoldable pub responds_to : List ℕ → List ℕ → Replied
responds_to text out =
    elim (leb output_limit (length out)) [
      | true ↦ replied 0 (length (output text)) (written (output text) out)
      | false ↦ replied 11 0 out
    ]

-- the tables that a text leaves, which is begun on fresh ones
abbrev pub tables_after : List ℕ → State
tables_after text = (close (feed Text.step beginning text)).state

-- the answer to a text that has come so far: rs begins with the wants' records
unfoldable pub answered_by : Sofar → List ℕ → List ℕ
answered_by t rs =
    elim t.refusal [
      | None ↦ got_lines t.wants rs ++ end_line t.wants
      | Some r ↦ no_line t.lines (says r.index r.number r.namespace r.owner r.detail)
    ]
