-- The rows of an owner table by their index, and the needs that a search over it serves. Assumes nothing.
use Rattle.std.specs.Prelude.{◌≡◌, Bool, true, false, ℕ, ◌<◌, ◌≤◌}
use Rattle.std.proofs.Common.{arith}
use Rattle.definition.specs.Tables.{row_limit, used, Row}
use Rattle.tables.specs.Below.{listed}
use Rattle.tables.specs.Views.{range_of, range_at, input_of, input_at, ranges_view, inputs_view}
use Rattle.tables.proofs.TableLaws.{used_is}
use Rattle.tables.specs.declared.Ranges.{Ranges}
use Rattle.tables.specs.declared.Inputs.{Inputs}
use Rattle.search.specs.Asks.{one_input}
use Rattle.search.specs.declared.Need.{Need}

abbrev pub range_rows : Ranges → ℕ → Row
range_rows t k = range_of (range_at t k)

abbrev pub input_rows : Inputs → ℕ → Row
input_rows t k = input_of (input_at t k)

-- a range of some numbers, at some alignment
abbrev pub SomeRange : Need → Type 0
SomeRange n = (0 < n.size) × (0 < n.alignment)

-- a range at some alignment, of any size
abbrev pub AlignedRange : Need → Type 0
AlignedRange n = 0 < n.alignment

-- one input, whoever asks
abbrev pub OneInput : Need → Type 0
OneInput n = n ≡ one_input n.controller

-- what a step of a search asks: of a need for which rows are passed at any size an alignment alone, of any other that it is served
abbrev pub stepped_by : Bool → (Need → Type 0) → Need → Type 0
stepped_by true Serves n = AlignedRange n
stepped_by false Serves n = Serves n

abbrev pub Stepped : (Need → Type 0) → (Need → Bool) → Need → Type 0
Stepped Serves any n = stepped_by (any n) Serves n

-- ---- what the trait's laws ask of the two tables

pub ranges_listed : (t : Ranges) → t.n ≤ row_limit → used (ranges_view t) ≡ listed (range_rows t) t.n
ranges_listed t l = used_is row_limit (range_rows t) t.n l

pub inputs_listed : (t : Inputs) → t.n ≤ row_limit → used (inputs_view t) ≡ listed (input_rows t) t.n
inputs_listed t l = used_is row_limit (input_rows t) t.n l

pub one_some : (n : Need) → OneInput n → (0 < n.size) × (0 < n.alignment)
one_some n e = rw e (omega arith, omega arith)

pub one_aligned : (n : Need) → OneInput n → 0 < n.alignment
one_aligned n e = (one_some n e).1

-- ---- what is served is stepped, and what is stepped is aligned, where what is served has a size and an alignment

module _ (Serves : Need → Type 0) (some : (n : Need) → Serves n → (0 < n.size) × (0 < n.alignment)) (any : Need → Bool) (n : Need) where
  pub served_stepped : Serves n → Stepped Serves any n
  served_stepped s = go (any n)
    where
      go : (b : Bool) → stepped_by b Serves n
      go true = (some n s).1
      go false = s

  pub stepped_aligned : Stepped Serves any n → 0 < n.alignment
  stepped_aligned = go (any n)
    where
      go : (b : Bool) → stepped_by b Serves n → 0 < n.alignment
      go true a = a
      go false s = (some n s).1
