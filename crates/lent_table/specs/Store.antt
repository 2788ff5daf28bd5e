-- A table with a row stored in a place, with one row more, or as it was. Assumes nothing.
use Rattle.std.specs.Prelude.{ℕ, ◌<◌, set, Option, Some, None}
use Rattle.definition.specs.Tables.{row_limit}
use Rattle.tables.specs.Views.{ranges, inputs, range_of, input_of}
use Rattle.tables.specs.Whole.{pushed_range, pushed_input}
use Rattle.tables.specs.declared.Ranges.{Ranges}
use Rattle.tables.specs.declared.Inputs.{Inputs}
use Rattle.tables.specs.declared.RangeRow.{RangeRow}
use Rattle.tables.specs.declared.InputRow.{InputRow}

-- row k
abbrev pub set_range : Ranges → ℕ → RangeRow → Ranges
set_range t k r =
    ranges t.n (set t.controller k r.controller) (set t.its k r.its) (set t.device k r.device) (set t.start k r.start) (set t.end k r.end) (set t.owner k r.owner)

abbrev pub set_input : Inputs → ℕ → InputRow → Inputs
set_input t k r =
    inputs t.n (set t.controller k r.controller) (set t.input k r.input) (set t.trigger k r.trigger) (set t.sharing k r.sharing) (set t.owner k r.owner)

-- a row that is to be stored has a place
abbrev pub Free : {A : Type 0} → ℕ → Option A → Type 0
Free n (Some row) = n < row_limit
Free n None = Unit {0}

abbrev pub put_range : Ranges → Option RangeRow → Ranges
put_range t (Some row) = pushed_range t (range_of row)
put_range t None = t

abbrev pub put_input : Inputs → Option InputRow → Inputs
put_input t (Some row) = pushed_input t (input_of row)
put_input t None = t
