-- The text call's answer, as its promise has it. Assumes nothing.
use Rattle.std.specs.Prelude.{List, ℕ, Result, Ok, Err}
use Rattle.text.specs.declared.Short.{Short}
use Rattle.text.specs.Respond.{Replied, replied}

abbrev pub replied_by : Result ℕ Short → List ℕ → Replied
replied_by (Ok k) out = replied 0 k out
replied_by (Err x) out = replied 11 0 out
