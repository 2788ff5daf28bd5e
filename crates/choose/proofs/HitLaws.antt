-- From the first row that a loop found to the definition's obstacle, and the number of used rows. Assumes nothing.
use mathlib.Core.Path.{◌≡◌, refl, ◌∙◌, ap}
use mathlib.Core.Option.{Option, none, some}
use Prim.Native.Nat.{ℕ, ◌+◌, ◌^◌, ◌<◌, ◌≤◌}
use native.Mathlib.Omega.{arith}
use lib.ListN.{length}
use Rattle.definition.specs.Base.{first_of}
use Rattle.definition.specs.Tables.{row_limit, nature, Row, range_row, meets, joins, used}
use Rattle.definition.specs.Request.{row_at, obstacle, unjoined}
use Rattle.tables.specs.Below.{first}
use Rattle.tables.specs.Views.{kind_of, ranges_view, inputs_view}
use Rattle.tables.specs.declared.Ranges.{Ranges}
use Rattle.tables.specs.declared.Inputs.{Inputs}
use Rattle.std.specs.Prelude.{Option as Hit}
use Rattle.tables.proofs.ListedLaws.{listed_length}
use Rattle.search.specs.Asks.{need_of}
use Rattle.tables.specs.declared.Kind.{Kind}
use Rattle.tables.specs.declared.Kind.TheVariants.{Mmio, Pio, Input, Host, Device, Event, Lpi}
use Rattle.search.specs.declared.Need.{Need}
use Rattle.tables.proofs.IndexLaws.{row_hit, first_listed}
use Rattle.search.specs.Rows.{range_rows, input_rows, ranges_listed, inputs_listed}

pub top_fits : (k : Kind) → (nature (kind_of k)).top < 2 ^ 64
top_fits Mmio = omega arith
top_fits Pio = omega arith
top_fits Input = omega arith
top_fits Host = omega arith
top_fits Device = omega arith
top_fits Event = omega arith
top_fits Lpi = omega arith

pub ranges_length : (t : Ranges) → t.n ≤ row_limit → length (used (ranges_view t)) ≡ t.n
ranges_length t l = ap length (ranges_listed t l) ∙ listed_length (range_rows t) t.n

pub inputs_length : (t : Inputs) → t.n ≤ row_limit → length (used (inputs_view t)) ≡ t.n
inputs_length t l = ap length (inputs_listed t l) ∙ listed_length (input_rows t) t.n

-- ranges never join, so the first that meets is in the way
range_first : (n : Need) (b : ℕ) (o : Option Row) → unjoined (row_at (need_of n) b) o ≡ o
unfolding unjoined joins row_at
range_first n b none = refl
range_first n b (some r) = refl

pub range_obstacle : (t : Ranges) (n : Need) (b : ℕ) (h : Hit ℕ) → t.n ≤ row_limit
    → h ≡ first (λ k. meets (range_row (need_of n).dom b (b + n.size) 0) (range_rows t k)) t.n
    → obstacle (row_at (need_of n) b) (used (ranges_view t)) ≡ row_hit (range_rows t) h
unfolding obstacle meets row_at
range_obstacle t n b h l e = range_first n b (first_of (meets (row_at (need_of n) b)) (used (ranges_view t))) ∙ rw (ranges_listed t l) (first_listed (meets (row_at (need_of n) b)) (range_rows t) t.n h e)
