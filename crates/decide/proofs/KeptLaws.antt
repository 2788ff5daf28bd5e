-- What is stored is what the definition's answer adds: a refusal, a row of each kind, three rows. Assumes nothing.
use mathlib.Core.Path.{◌≡◌, refl, ◌∙◌, ap}
use mathlib.Core.List.{List, [], ◌∷◌}
use Prim.Native.Nat.{◌<◌}
use Rattle.std.specs.Prelude.{Result, Ok, Err, Some}
use Rattle.std.specs.Result.{IsErrAnd}
use Rattle.definition.specs.Base.{silence, accepted, refused}
use Rattle.definition.specs.Tables.{row_limit, dom, same_kind, mmio, pio, input, host}
use Rattle.definition.specs.Pools.{at_kind, Claim, rows_of}
use Rattle.definition.specs.Request as R
use Rattle.definition.specs.Calls.{state, saying, push_all}
use Rattle.definition.specs.Plan.{base_at}
use Rattle.tables.specs.Views.{pools_view, holders_view, state_view, ranges_view, range_of, input_of}
use Rattle.tables.specs.Whole.{pushed_range}
use Rattle.tables.specs.Sized.{SizedRanges, SizedInputs}
use Rattle.tables.specs.declared.State.{State}
use Rattle.tables.specs.declared.Ranges.{Ranges}
use Rattle.tables.specs.declared.RangeRow.{RangeRow}
use Rattle.tables.specs.declared.InputRow.{InputRow}
use Rattle.tables.proofs.PushLaws.{push_range_view, push_input_view}
use Rattle.choose.specs.Told.{refusal_of}
use Rattle.choose.specs.declared.Refusal.{Refusal}
use Rattle.msi.specs.Msi.{msi_rows}
use Rattle.msi.specs.Msi as MsiSpec
use Rattle.msi.specs.declared.Msi.{Msi}
use Rattle.msi.specs.declared.MsiIds.{MsiIds}
use Rattle.decide.specs.Outcome.{one_base, three_bases, firsts_in, bases_in, after}
use Rattle.decide.specs.Kept.{kept_rows, RowsFree, answer, Finds}
use Rattle.decide.specs.declared.Rows.TheVariants as W
use Rattle.decide.specs.declared.Granted.{Granted}
use Rattle.decide.proofs.QueryLaws.{refusal_told}
use Rattle.decide.proofs.OwnerLaws.{Grown, grown}

-- a row at the end of a table, seen through the view
pushed : (t : Ranges) (r : RangeRow) → SizedRanges t → t.n < row_limit → ranges_view (pushed_range t (range_of r)) ≡ push_all (ranges_view t) (range_of r ∷ [])
pushed t r z l = push_range_view t (dom r.controller r.its r.device) r.start r.end r.owner z l

module _ (s : State) (q : R.Request) where
  pub refused_finds : (y : Refusal) → refused (refusal_of y) ≡ answer s q → Finds s q (Err y)
  refused_finds y e =
      record {
        free = tt;
        state = ap (λ w. saying w (state_view s)) (refusal_told y) ∙ ap (after (state_view s)) e;
        bases = ap (bases_in q.want) e;
      }

  -- what `?` hands on
  pub handed_finds : (x : Result Granted Refusal) (y : Refusal) → IsErrAnd x (λ e. e ≡ y) → refused (refusal_of y) ≡ answer s q → Finds s q x
  handed_finds (Ok g) y h e = absurd h
  handed_finds (Err z) y h e = rw h (refused_finds y e)

  granted_finds : (cs : List Claim) (g : Granted) → accepted cs ≡ answer s q → RowsFree g.rows s.owners → g.bases ≡ firsts_in q.want cs → Grown s.owners (kept_rows g.rows s.owners) cs → Finds s q (Ok g)
  granted_finds cs g e a b h =
      record {
        free = a;
        state = (λ i. state (pools_view s.auto s.fixed) (holders_view s.held) (λ j. grown s.owners (kept_rows g.rows s.owners) cs h j i) silence) ∙ ap (after (state_view s)) e;
        bases = ap Some b ∙ ap (bases_in q.want) e;
      }

  -- a request of one range
  module _ (one : (cs : List Claim) → one_base (base_at 0 cs) ≡ firsts_in q.want cs) where
    pub mmio_finds : SizedRanges s.owners.mmio → (r : RangeRow) → s.owners.mmio.n < row_limit → accepted (at_kind mmio (range_of r) ∷ []) ≡ answer s q → Finds s q (Ok (record { rows = W.Mmio r; bases = one_base r.start }))
    unfolding push_all rows_of same_kind
    mmio_finds z r l a = granted_finds _ _ a l (one _) (record { mmio = pushed s.owners.mmio r z l; pio = refl; input = refl; host = refl; device = refl; event = refl; lpi = refl })

    pub pio_finds : SizedRanges s.owners.pio → (r : RangeRow) → s.owners.pio.n < row_limit → accepted (at_kind pio (range_of r) ∷ []) ≡ answer s q → Finds s q (Ok (record { rows = W.Pio r; bases = one_base r.start }))
    unfolding push_all rows_of same_kind
    pio_finds z r l a = granted_finds _ _ a l (one _) (record { mmio = refl; pio = pushed s.owners.pio r z l; input = refl; host = refl; device = refl; event = refl; lpi = refl })

    pub host_finds : SizedRanges s.owners.host → (r : RangeRow) → s.owners.host.n < row_limit → accepted (at_kind host (range_of r) ∷ []) ≡ answer s q → Finds s q (Ok (record { rows = W.Host r; bases = one_base r.start }))
    unfolding push_all rows_of same_kind
    host_finds z r l a = granted_finds _ _ a l (one _) (record { mmio = refl; pio = refl; input = refl; host = pushed s.owners.host r z l; device = refl; event = refl; lpi = refl })

    pub input_finds : SizedInputs s.owners.input → (r : InputRow) → s.owners.input.n < row_limit → accepted (at_kind input (input_of r) ∷ []) ≡ answer s q → Finds s q (Ok (record { rows = W.Input r; bases = one_base r.input }))
    unfolding push_all rows_of same_kind
    input_finds z r l a = granted_finds _ _ a l (one _) (record { mmio = refl; pio = refl; input = push_input_view s.owners.input r.controller r.input r.trigger r.sharing r.owner z l; host = refl; device = refl; event = refl; lpi = refl })

  -- a device, its events and LPIs
  module _ (z : SizedRanges s.owners.device) (z' : SizedRanges s.owners.event) (z'' : SizedRanges s.owners.lpi)
      (three : (cs : List Claim) → three_bases (record { 0 = base_at 0 cs }) (record { 0 = base_at 1 cs }) (record { 0 = base_at 2 cs }) ≡ firsts_in q.want cs) where
    pub msi_finds : (m : Msi) (ids : MsiIds) → RowsFree (W.Msi (MsiSpec.rows_of m ids.device ids.event ids.lpi)) s.owners
        → accepted (msi_rows m ids.device ids.event ids.lpi) ≡ answer s q → Finds s q (Ok (record { rows = W.Msi (MsiSpec.rows_of m ids.device ids.event ids.lpi); bases = three_bases ids.device ids.event ids.lpi }))
    unfolding R.row_at push_all rows_of same_kind
    msi_finds m ids l a =
        let rows = MsiSpec.rows_of m ids.device ids.event ids.lpi in
        granted_finds _ _ a l (three (msi_rows m ids.device ids.event ids.lpi))
        (record { mmio = refl; pio = refl; input = refl; host = refl; device = pushed s.owners.device rows.device z l.0; event = pushed s.owners.event rows.event z' l.1.0; lpi = pushed s.owners.lpi rows.lpi z'' l.1.1 })
