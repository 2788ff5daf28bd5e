-- The line of a refusal. Assumes nothing.
use Rattle.std.specs.Prelude.{List, ℕ}
use Rattle.definition.specs.Base.{says}
use Rattle.lines.specs.Output.{no_line}
use Rattle.writers.specs.declared.output.Refused.{Refused}

abbrev pub refused_line : Refused → List ℕ
refused_line r = no_line r.line (says 0 r.number r.namespace r.owner r.detail)
