-- Rows for the reservations: what is stored is a row more in each table that has one coming. Assumes nothing.
use mathlib.Core.Path.{◌≡◌, refl, sym}
use mathlib.Core.List.{List, [], ◌∷◌}
use Prim.Native.Nat.{◌<◌}
use Rattle.std.specs.Prelude.{Option, Some, None, IfSome, Ok, Err}
use Rattle.definition.specs.Tables.{row_limit, Kind, mmio, pio, input, host, device, event, lpi, Row}
use Rattle.definition.specs.Calls.{push_all}
use Rattle.definition.proofs.TableLaws.{push_nil}
use Rattle.tables.specs.Views.{range_of, input_of, ranges_view, inputs_view, holders_view}
use Rattle.tables.specs.Sized.{SizedRanges, SizedInputs}
use Rattle.tables.specs.declared.Ranges.{Ranges}
use Rattle.tables.specs.declared.Inputs.{Inputs}
use Rattle.tables.specs.declared.Holders.{Holders}
use Rattle.tables.specs.declared.RangeRow.{RangeRow}
use Rattle.tables.specs.declared.InputRow.{InputRow}
use Rattle.tables.specs.declared.Kind.TheVariants as K
use Rattle.tables.proofs.PushLaws.{push_range_view, push_input_view}
use Rattle.insert.specs.declared.Refused.{Refused}
use Rattle.lent_table.specs.Store.{Free, put_range, put_input}
use Rattle.adding.specs.Adds.{rows_in, inputs_in}
use Rattle.adding.specs.Judged.{judged}
use Rattle.adding.specs.declared.Adds.{Adds}
use Rattle.door.specs.Kept.{held_with, HeldFree}
use Rattle.door.proofs.KindLaws.{every}

-- the row for the table of a kind, if there is one
abbrev few : {A : Type 0} → (A → Row) → Option A → List Row
few f (Some x) = f x ∷ []
few f None = []

abbrev pub rows_at : Adds → Kind → List Row
rows_at q mmio = few range_of (rows_in q K.Mmio)
rows_at q pio = few range_of (rows_in q K.Pio)
rows_at q input = few input_of (inputs_in q)
rows_at q host = few range_of (rows_in q K.Host)
rows_at q device = few range_of (rows_in q K.Device)
rows_at q event = few range_of (rows_in q K.Event)
rows_at q lpi = few range_of (rows_in q K.Lpi)

-- .. has a place in columns of full length
abbrev Place : Ranges → Option RangeRow → Type 0
Place t o = IfSome o (λ row. SizedRanges t × (t.n < row_limit))

abbrev pub Places : Adds → Holders → Kind → Type 0
Places q h mmio = Place h.mmio (rows_in q K.Mmio)
Places q h pio = Place h.pio (rows_in q K.Pio)
Places q h input = IfSome (inputs_in q) (λ row. SizedInputs h.input × (h.input.n < row_limit))
Places q h host = Place h.host (rows_in q K.Host)
Places q h device = Place h.device (rows_in q K.Device)
Places q h event = Place h.event (rows_in q K.Event)
Places q h lpi = Place h.lpi (rows_in q K.Lpi)

range_put : (t : Ranges) (o : Option RangeRow) → Place t o → ranges_view (put_range t o) ≡ push_all (ranges_view t) (few range_of o)
range_put t (Some r) z = push_range_view t _ _ _ _ z.0 z.1
range_put t None z = sym (push_nil (ranges_view t))

input_put : (t : Inputs) (o : Option InputRow) → IfSome o (λ row. SizedInputs t × (t.n < row_limit)) → inputs_view (put_input t o) ≡ push_all (inputs_view t) (few input_of o)
input_put t (Some r) z = push_input_view t _ _ _ _ _ z.0 z.1
input_put t None z = sym (push_nil (inputs_view t))

module _ (q : Adds) (h : Holders) where
  pub held_put : (k : Kind) → Places q h k → holders_view (held_with (judged q (Ok tt)) h) k ≡ push_all (holders_view h k) (rows_at q k)
  held_put = every _ (range_put h.mmio _) (range_put h.pio _) (input_put h.input _) (range_put h.host _) (range_put h.device _) (range_put h.event _) (range_put h.lpi _)

  -- a call that is refused leaves each table as it is
  pub held_rests : (y : Refused) (k : Kind) → holders_view (held_with (judged q (Err y)) h) k ≡ holders_view h k
  held_rests y = every _ refl refl refl refl refl refl refl

  range_free : (t : Ranges) (o : Option RangeRow) → Place t o → Free t.n o
  range_free t (Some r) z = z.1
  range_free t None z = tt

  input_free : (t : Inputs) (o : Option InputRow) → IfSome o (λ row. SizedInputs t × (t.n < row_limit)) → Free t.n o
  input_free t (Some r) z = z.1
  input_free t None z = tt

  pub held_free : ((k : Kind) → Places q h k) → HeldFree (judged q (Ok tt)) h
  held_free z =
      every _ (range_free h.mmio _ (z mmio)) (range_free h.pio _ (z pio)) (input_free h.input _ (z input)) (range_free h.host _ (z host)) (range_free h.device _ (z device)) (range_free h.event _ (z event))
      (range_free h.lpi _ (z lpi))

  pub refused_free : (y : Refused) → HeldFree (judged q (Err y)) h
  refused_free y = every _ tt tt tt tt tt tt tt
