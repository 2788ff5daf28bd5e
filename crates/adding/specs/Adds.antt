-- What a call adds, as rows for the tables of its kinds, and what each kind's tables are asked. Assumes nothing.
use Rattle.std.specs.Prelude.{◌≡◌, Bool, true, false, List, [], ◌∷◌, ℕ, suc, min, T as Holds, Option, Some, None}
use Rattle.definition.specs.Tables.{top, nature, fits, fits_span, Span}
use Rattle.definition.specs.Pools.{In, Claim, spans, held_rows}
pub use Rattle.insert.specs.Answers.{pick}
use Rattle.tables.specs.declared.PoolRow.{PoolRow}
use Rattle.tables.specs.declared.RangeRow.{RangeRow}
use Rattle.tables.specs.declared.InputRow.{InputRow}
use Rattle.request.specs.Calls.{pool_call, hold_call}
use Rattle.request.specs.declared.call.Use.{Use}
use Rattle.request.specs.declared.call.PoolRange.{PoolRange}
use Rattle.request.specs.declared.call.PoolRange.TheVariants as P
use Rattle.request.specs.declared.call.Hold.{Hold}
use Rattle.request.specs.declared.call.Hold.TheVariants as H
use Rattle.request.specs.declared.call.Call.{Call}
use Rattle.request.specs.declared.call.Call.TheVariants as C
use Rattle.adding.specs.Rows.{pool_row, held_row, input_row}
use Rattle.tables.specs.Views.{same_of}
use Rattle.tables.specs.declared.Kind.{Kind}
use Rattle.tables.specs.declared.Kind.TheVariants as K
use Rattle.adding.specs.declared.Adds.{Adds}
use Rattle.adding.specs.declared.Adds.TheVariants as A

-- ---- calls

abbrev pub pool_adds : Use → PoolRange → Adds
pool_adds u (P.Mmio s e) = A.Range u K.Mmio (pool_row 0 0 s e)
pool_adds u (P.Pio s e) = A.Range u K.Pio (pool_row 0 0 s e)
pool_adds u (P.Host s e) = A.Range u K.Host (pool_row 0 0 s e)
pool_adds u (P.Input c s e) = A.Range u K.Input (pool_row c 0 s e)
pool_adds u (P.Msi c i devices events lpis) = A.Domain u (pool_row c i devices.start.0 devices.end.0) (pool_row c i events.start.0 events.end.0) (pool_row c 0 lpis.start.0 lpis.end.0)

abbrev pub hold_adds : ℕ → Hold → Adds
hold_adds o (H.Mmio s e) = A.Row K.Mmio (held_row 0 0 0 s e o)
hold_adds o (H.Pio s e) = A.Row K.Pio (held_row 0 0 0 s e o)
hold_adds o (H.Host s e) = A.Row K.Host (held_row 0 0 0 s e o)
hold_adds o (H.Input c n t sharing) = A.Input (input_row c n t sharing o)
hold_adds o (H.Devices c i devices) = A.Row K.Device (held_row c i 0 devices.start.0 devices.end.0 o)
hold_adds o (H.Events c i v events) = A.Row K.Event (held_row c i v.0 events.start.0 events.end.0 o)
hold_adds o (H.Lpis c lpis) = A.Row K.Lpi (held_row c 0 0 lpis.start.0 lpis.end.0 o)
hold_adds o (H.Pair c n t irq) = A.Pair (input_row c n t 0 o) (held_row 0 0 0 irq (min (suc irq) (top 64)) o)

abbrev pub adds_of : Call → Option Adds
adds_of (C.Pool u p) = Some (pool_adds u p)
adds_of (C.Hold o h) = Some (hold_adds o h)
adds_of C.Start = None
adds_of (C.Want r) = None
adds_of C.Bad = None

-- ---- the numbers of a call keep to their kinds' widths by their types; the codes of an input are judged

abbrev pub Fitting : List (In Span) → Type 0
Fitting [] = Unit {0}
Fitting (claim ∷ cs) = Holds (fits_span claim.kind claim.row) × Fitting cs

abbrev pub FittingRows : List Claim → Type 0
FittingRows [] = Unit {0}
FittingRows (claim ∷ cs) = ((nature claim.kind).wired ≡ false → Holds (fits claim.kind claim.row)) × FittingRows cs

pub record PoolAsked (u : Use) (p : PoolRange) (q : Adds) : Type 0 where
  pub is : q ≡ pool_adds u p
  pub fit : Fitting (spans (pool_call p))

pub record HoldAsked (o : ℕ) (h : Hold) (q : Adds) : Type 0 where
  pub is : q ≡ hold_adds o h
  pub fit : FittingRows (held_rows o (hold_call h))

abbrev pub FitCall : Call → Type 0
FitCall (C.Pool u p) = Fitting (spans (pool_call p))
FitCall (C.Hold o h) = FittingRows (held_rows o (hold_call h))
FitCall C.Start = Unit {0}
FitCall (C.Want r) = Unit {0}
FitCall C.Bad = Unit {0}

pub record Asked (call : Call) (q : Option Adds) : Type 0 where
  pub is : q ≡ adds_of call
  pub fit : FitCall call

-- ---- the rows for the tables of kind k

abbrev pub keep_if : {A : Type 0} → Bool → A → Option A
keep_if true x = Some x
keep_if false x = None

abbrev pub ranges_in : Adds → Kind → Option (Use × PoolRow)
ranges_in (A.Range u j r) k = keep_if (same_of k j) (u, r)
ranges_in (A.Domain u d e l) K.Mmio = None
ranges_in (A.Domain u d e l) K.Pio = None
ranges_in (A.Domain u d e l) K.Input = None
ranges_in (A.Domain u d e l) K.Host = None
ranges_in (A.Domain u d e l) K.Device = Some (u, d)
ranges_in (A.Domain u d e l) K.Event = Some (u, e)
ranges_in (A.Domain u d e l) K.Lpi = Some (u, l)
ranges_in (A.Row j r) k = None
ranges_in (A.Input w) k = None
ranges_in (A.Pair w r) k = None

abbrev pub rows_in : Adds → Kind → Option RangeRow
rows_in (A.Range u j r) k = None
rows_in (A.Domain u d e l) k = None
rows_in (A.Row j r) k = keep_if (same_of k j) r
rows_in (A.Input w) k = None
rows_in (A.Pair w r) k = keep_if (same_of k K.Host) r

abbrev pub inputs_in : Adds → Option InputRow
inputs_in (A.Range u j r) = None
inputs_in (A.Domain u d e l) = None
inputs_in (A.Row j r) = None
inputs_in (A.Input w) = Some w
inputs_in (A.Pair w r) = Some w
