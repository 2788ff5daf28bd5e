-- What a call over the tables of one kind leaves, by the way it went: a refusal nothing, what stands its row. Assumes nothing.
use mathlib.Core.Path.{◌≡◌, refl, ◌∙◌, ap}
use mathlib.Core.Bool.{Bool, true}
use mathlib.Core.List.{List, [], ◌∷◌}
use Prim.Native.Nat.{ℕ, suc, ◌≤◌, ◌<◌}
use lib.Dec.{ltb}
use native.Mathlib.Numerals.{add-one}
use native.Mathlib.Omega.{arith}
use Rattle.std.specs.Prelude.{Result, Ok, Err}
use Rattle.std.specs.Result.{IsErrAnd}
use Rattle.definition.specs.Base.{malformed, bad_input, Answer, refused, require}
use Rattle.definition.specs.Tables.{row_limit, dom, Kind, same_kind, Row, used}
use Rattle.definition.specs.Pools.{Claim, rows_of}
use Rattle.definition.specs.Request.{row_at}
use Rattle.definition.specs.Calls.{push_all}
use Rattle.tables.specs.Views.{kind_of, pool_view, ranges_view, inputs_view, range_of, input_of}
use Rattle.tables.specs.Whole.{pushed_range, pushed_input}
use Rattle.tables.specs.Sized.{SizedRanges, SizedInputs}
use Rattle.tables.specs.declared.Pool.{Pool}
use Rattle.tables.specs.declared.Ranges.{Ranges}
use Rattle.tables.specs.declared.Inputs.{Inputs}
use Rattle.tables.specs.declared.RangeRow.{RangeRow}
use Rattle.tables.proofs.PushLaws.{push_range_view, push_input_view}
use Rattle.table_tests.specs.Tests.{limits_of}
use Rattle.sound.specs.Tests.{set_ranges, set_inputs}
use Rattle.search.specs.Asks.{need_of}
use Rattle.search.specs.declared.Need.{Need}
use Rattle.choose.specs.Told.{choice_of, refusal_of, told, place_in, chosen_in}
use Rattle.choose.proofs.HitLaws.{ranges_length, inputs_length}
use Rattle.choose.specs.Wired.{input_asked}
use Rattle.choose.specs.declared.Choice.{Choice}
use Rattle.choose.specs.declared.Refusal.{Refusal}
use Rattle.choose.specs.declared.Run.{Run}
use Rattle.choose.specs.declared.wired.InputNeed.{InputNeed}
use Rattle.msi.specs.Msi.{part, told_msi, msi_in}
use Rattle.msi.specs.Msi as M
use Rattle.msi.specs.declared.Msi.{Msi}
use Rattle.msi.specs.declared.MsiIds.{MsiIds}
use Rattle.msi.specs.Finds.{Ready}
use Rattle.msi.proofs.RoomLaws.{msi_room}
use Rattle.decide.specs.Granted.{standing, row_for, input_for}
use Rattle.decide.proofs.RoomLaws.{stands_room, stands_end, standing_is}
use Rattle.kinds.specs.declared.RangeTables.{RangeTables}
use Rattle.kinds.specs.declared.InputTables.{InputTables}
use Rattle.kinds.specs.declared.MsiTables.{MsiTables}
use Rattle.kinds.specs.Kinds.{LentIs, RangeServed, InputServed}
use Rattle.kinds.specs.Msis.{keeping, set_msi, MsiServed}
use Rattle.kinds.proofs.KindLaws.{served_stands}
use Rattle.kinds.proofs.MsiLaws.{MsiPassed}

-- a row at the end of a table, seen through the view
pushed : (t : Ranges) (r : RangeRow) → SizedRanges t → t.n < row_limit → ranges_view (pushed_range t (range_of r)) ≡ push_all (ranges_view t) (range_of r ∷ [])
pushed t r z l = push_range_view t (dom r.controller r.its r.device) r.start r.end r.owner z l

pub lent_ready : {t : RangeTables} {a f : Pool} {o : Ranges} (k : Kind) → LentIs t a f o → Ready k t.auto t.fixed t.owners → Ready k a f o
lent_ready k e h = rw (e.auto, e.fixed, e.owners) h

module _ (t : RangeTables) (good : Bool) (n : Need) (c : Choice ℕ) where
  abbrev RangeChosen : Answer Row
  RangeChosen = chosen_in (used (pool_view t.auto)) (used (pool_view t.fixed)) (used (ranges_view t.owners)) (need_of n) (choice_of c)

  abbrev RangeSet : Bool
  RangeSet = set_ranges (limits_of (kind_of n.kind)) t.auto t.fixed t.held t.owners

  pub range_refused : (x : Result Run Refusal) (y : Refusal) → IsErrAnd x (λ e. e ≡ y) → refused (refusal_of y) ≡ require RangeSet malformed (require good bad_input RangeChosen)
      → RangeServed t good n c (record { tables = t; chosen = x })
  unfolding push_all
  range_refused (Ok run) y h e = absurd h
  range_refused (Err z) y h e = rw h (record { answer = e; auto = refl; fixed = refl; held = refl; owners = refl })

  pub range_chosen : (a f : Pool) (o : Ranges) (room : Bool) (x y : Result Run Refusal) → LentIs t a f o → told (need_of n) x ≡ place_in (used (pool_view a)) (used (pool_view f)) (used (ranges_view o)) (need_of n) (choice_of c)
      → t.owners.n ≤ row_limit → room ≡ ltb t.owners.n row_limit → y ≡ standing room x → told (need_of n) y ≡ RangeChosen
  range_chosen a f o room x y p e few h w = ap (told (need_of n)) w ∙ standing_is _ _ _ _ _ x _ room (rw (p.auto, p.fixed, p.owners) at e) (ranges_length t.owners few) h

  pub range_stood : (run : Run) (o : Ranges) → RangeSet ≡ true → good ≡ true → told (need_of n) (Ok run) ≡ RangeChosen → SizedRanges t.owners → t.owners.n ≤ row_limit
      → o ≡ pushed_range t.owners (range_of (row_for n run)) → RangeServed t good n c (record { tables = record { auto = t.auto; fixed = t.fixed; held = t.held; owners = o }; chosen = Ok run })
  range_stood run o p q e z few w =
      let l : t.owners.n < row_limit = omega (arith, stands_room _ _ _ e, ranges_length t.owners few) in
      record { answer = served_stands _ _ _ _ p q e; auto = refl; fixed = refl; held = refl; owners = ap ranges_view w ∙ pushed t.owners (row_for n run) z l }

module _ (t : InputTables) (good : Bool) (n : InputNeed) (c : Choice ℕ) where
  abbrev InputChosen : Answer Row
  InputChosen = chosen_in (used (pool_view t.auto)) (used (pool_view t.fixed)) (used (inputs_view t.owners)) (input_asked n) (choice_of c)

  abbrev InputSet : Bool
  InputSet = set_inputs t.auto t.fixed t.held t.owners

  pub input_refused : (x : Result Run Refusal) (y : Refusal) → IsErrAnd x (λ e. e ≡ y) → refused (refusal_of y) ≡ require InputSet malformed (require good bad_input InputChosen)
      → InputServed t good n c (record { tables = t; chosen = x })
  unfolding push_all
  input_refused (Ok run) y h e = absurd h
  input_refused (Err z) y h e = rw h (record { answer = e; auto = refl; fixed = refl; held = refl; owners = refl })

  pub input_chosen : (room : Bool) (x y : Result Run Refusal) → told (input_asked n) x ≡ place_in (used (pool_view t.auto)) (used (pool_view t.fixed)) (used (inputs_view t.owners)) (input_asked n) (choice_of c)
      → t.owners.n ≤ row_limit → room ≡ ltb t.owners.n row_limit → y ≡ standing room x → told (input_asked n) y ≡ InputChosen
  input_chosen room x y e few h w = ap (told (input_asked n)) w ∙ standing_is _ _ _ _ _ x _ room e (inputs_length t.owners few) h

  pub input_stood : (run : Run) (o : Inputs) → InputSet ≡ true → good ≡ true → told (input_asked n) (Ok run) ≡ InputChosen → SizedInputs t.owners → t.owners.n ≤ row_limit
      → o ≡ pushed_input t.owners (input_of (input_for n run.start)) → InputServed t good n c (record { tables = record { auto = t.auto; fixed = t.fixed; held = t.held; owners = o }; chosen = Ok run })
  input_stood run o p q e z few w =
      let l : t.owners.n < row_limit = omega (arith, stands_room _ _ _ e, inputs_length t.owners few) in
      let k : run.end ≡ suc run.start = stands_end _ _ _ (input_asked n) (choice_of c) _ e ∙ add-one run.start in
      record {
        answer = served_stands _ _ _ _ p q e;
        auto = refl;
        fixed = refl;
        held = refl;
        owners = rw k (ap inputs_view w ∙ push_input_view t.owners n.controller run.start n.trigger n.sharing n.requester z l);
      }

module _ (t : MsiTables) (good : Bool) (m : Msi) where
  abbrev MsiFound : Answer (List Claim)
  MsiFound = msi_in (part t.device.auto t.device.fixed t.device.owners) (part t.event.auto t.event.fixed t.event.owners) (part t.lpi.auto t.lpi.fixed t.lpi.owners) m

  pub msi_refused : (x : Result MsiIds Refusal) (y : Refusal) → IsErrAnd x (λ e. e ≡ y) → refused (refusal_of y) ≡ require (set_msi t) malformed (require good bad_input MsiFound)
      → MsiServed t good m (record { tables = t; chosen = x })
  unfolding push_all rows_of
  msi_refused (Ok ids) y h e = absurd h
  msi_refused (Err z) y h e = rw h (record { answer = e; device_kept = refl; event_kept = refl; lpi_kept = refl; devices = refl; events = refl; lpis = refl })

  -- what the chain of three found over the tables that it was lent
  module _ {da df ea ef la lf : Pool} {dt et lt : Ranges} (d : LentIs t.device da df dt) (e : LentIs t.event ea ef et) (l : LentIs t.lpi la lf lt) where
    pub lent_found : (x : Answer (List Claim)) → x ≡ msi_in (part da df dt) (part ea ef et) (part la lf lt) m → x ≡ MsiFound
    lent_found x h = rw (d.auto, d.fixed, d.owners, e.auto, e.fixed, e.owners, l.auto, l.fixed, l.owners) at h

    pub lent_sized : SizedRanges dt × (SizedRanges et × SizedRanges lt) → SizedRanges t.device.owners × (SizedRanges t.event.owners × SizedRanges t.lpi.owners)
    lent_sized h = rw (d.owners, e.owners, l.owners) at h

  -- a free row in each table
  pub msi_free : (ids : MsiIds) → MsiPassed t → told_msi m (Ok ids) ≡ MsiFound → (t.device.owners.n < row_limit) × (t.event.owners.n < row_limit) × (t.lpi.owners.n < row_limit)
  msi_free ids p e =
      let r = msi_room _ _ _ m _ _ _ e in
      let d : t.device.owners.n < row_limit = omega (arith, r.devices, ranges_length t.device.owners p.device.rows) in
      let v : t.event.owners.n < row_limit = omega (arith, r.events, ranges_length t.event.owners p.event.rows) in
      let l : t.lpi.owners.n < row_limit = omega (arith, r.lpis, ranges_length t.lpi.owners p.lpi.rows) in
      (d, v, l)

  pub msi_stood : (ids : MsiIds) (d v l : Ranges) → set_msi t ≡ true → good ≡ true → told_msi m (Ok ids) ≡ MsiFound
      → SizedRanges t.device.owners × (SizedRanges t.event.owners × SizedRanges t.lpi.owners) → MsiPassed t
      → d ≡ pushed_range t.device.owners (range_of (M.rows_of m ids.device ids.event ids.lpi).device)
      → v ≡ pushed_range t.event.owners (range_of (M.rows_of m ids.device ids.event ids.lpi).event)
      → l ≡ pushed_range t.lpi.owners (range_of (M.rows_of m ids.device ids.event ids.lpi).lpi)
      → MsiServed t good m (record { tables = record { device = keeping t.device d; event = keeping t.event v; lpi = keeping t.lpi l }; chosen = Ok ids })
  unfolding rows_of same_kind row_at
  msi_stood ids d v l p q e z passed wd we wl =
      let (ld, le, ll) = msi_free ids passed e in
      record {
        answer = served_stands _ _ _ _ p q e;
        device_kept = refl;
        event_kept = refl;
        lpi_kept = refl;
        devices = ap ranges_view wd ∙ pushed t.device.owners _ z.0 ld;
        events = ap ranges_view we ∙ pushed t.event.owners _ z.1.0 le;
        lpis = ap ranges_view wl ∙ pushed t.lpi.owners _ z.1.1 ll;
      }
