-- What the tables of one kind answer to what they are asked. Assumes nothing.
use Rattle.std.specs.Prelude.{◌≡◌, ℕ, ◌<◌, ◌≤◌, T as Holds, Option, Some, None, IfOk}
use Rattle.definition.specs.Tables.{pool_limit, row_limit, input, same_span, blank_span, used, tidy}
use Rattle.tables.specs.Views.{span_of, range_of, input_of, pool_view, ranges_view, inputs_view}
use Rattle.tables.specs.Sized.{SizedRanges, SizedInputs}
use Rattle.tables.specs.declared.Pool.{Pool}
use Rattle.tables.specs.declared.Ranges.{Ranges}
use Rattle.tables.specs.declared.Inputs.{Inputs}
use Rattle.tables.specs.declared.PoolRow.{PoolRow}
use Rattle.insert.specs.Answers.{Reply, telling, heard, admit_any, reserve_any, Told}
use Rattle.request.specs.declared.call.Use.{Use}
use Rattle.request.specs.declared.call.Use.TheVariants as U
use Rattle.tables.specs.declared.RangeRow.{RangeRow}
use Rattle.tables.specs.declared.InputRow.{InputRow}

-- counts are within sizes, and unused rows of pools are zero
abbrev pub Tidy : Pool → Type 0
Tidy t = Holds (tidy pool_limit (same_span blank_span) (pool_view t))

abbrev pub Fit : Pool → Pool → ℕ → Type 0
Fit a f n = Tidy a × (Tidy f × (n ≤ row_limit))

-- what a pool answers
abbrev pub Adding : Pool → ℕ → PoolRow → Reply → Type 0
Adding t floor range r = heard r ≡ telling (admit_any floor (span_of range) (used (pool_view t)))

-- .. of a use
abbrev pub pool_for : Use → Pool → Pool → Pool
pool_for U.Automatic a f = a
pool_for U.Fixed a f = f

-- .. and the table that is asked: of a reservation that is accepted it is known that there is room, and that the columns have their full length
abbrev pub Tells : Pool → Pool → Ranges → ℕ → Option (Use × PoolRow) → Option RangeRow → Reply → Type 0
Tells a f t floor (Some q) h r = Adding (pool_for q.0 a f) floor q.1 r
Tells a f t floor None (Some row) r = (heard r ≡ telling (reserve_any floor (range_of row) (used (ranges_view t)))) × IfOk r (λ given. SizedRanges t × (t.n < row_limit))
Tells a f t floor None None r = Unit {0}

abbrev pub TellsInput : Pool → Pool → Inputs → ℕ → Option (Use × PoolRow) → Option InputRow → Reply → Type 0
TellsInput a f t floor (Some q) h r = Adding (pool_for q.0 a f) floor q.1 r
TellsInput a f t floor None (Some row) r = Told input (input_of row) (inputs_view t) r × IfOk r (λ given. SizedInputs t × (t.n < row_limit))
TellsInput a f t floor None None r = Unit {0}
