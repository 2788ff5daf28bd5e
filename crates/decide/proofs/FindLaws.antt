-- A good request, by its kind: what the tables of the kind give is the definition's answer. Assumes nothing.
use mathlib.Core.Path.{◌≡◌, refl, sym, ◌∙◌, ap}
use mathlib.Core.Bool.{true}
use mathlib.Core.List.{List, [], ◌∷◌}
use Prim.Native.Nat.{ℕ}
use native.Mathlib.Omega.{arith}
use lib.Dec.{T}
use Rattle.std.specs.Prelude.{Result, Ok}
use Rattle.std.specs.Result.{IsErrAnd}
use Rattle.definition.specs.Base.{accepted, refused, Answer}
use Rattle.definition.specs.Tables.{Kind, kinds, mmio, pio, input, host, device, event, lpi, Row, used}
use Rattle.definition.specs.Pools.{at_kind, Claim}
use Rattle.definition.specs.Request.{automatic, fixed, good_request, claims}
use Rattle.definition.specs.Request as R
use Rattle.definition.specs.Calls.{pools_of, owners_of, sound}
use Rattle.tables.specs.Views.{pool_of, holders_view, pool_view, range_of, input_of, state_view}
use Rattle.tables.specs.Sized.{SizedRanges, SizedInputs}
use Rattle.tables.specs.declared.State.{State}
use Rattle.tables.specs.declared.Kind.TheVariants as K
use Rattle.tables.specs.declared.RangeRow.{RangeRow}
use Rattle.tables.specs.declared.InputRow.{InputRow}
use Rattle.search.specs.Asks.{need_of}
use Rattle.choose.specs.Told.{choice_of, refusal_of, chosen_in}
use Rattle.choose.specs.Wired.{input_asked}
use Rattle.choose.specs.declared.Choice.{Choice}
use Rattle.choose.specs.declared.Refusal.{Refusal}
use Rattle.choose.specs.declared.wired.InputNeed.{InputNeed}
use Rattle.choose.proofs.HitLaws.{ranges_length, inputs_length}
use Rattle.request.specs.Asked.{want_of, request_of}
use Rattle.request.specs.declared.Request.{Request}
use Rattle.request.specs.declared.Want.{Want}
use Rattle.request.specs.declared.Want.TheVariants as W
use Rattle.msi.specs.Msi.{part, msi_in, told_msi}
use Rattle.msi.specs.Msi as MsiSpec
use Rattle.msi.specs.declared.Msi.{Msi}
use Rattle.msi.specs.declared.MsiIds.{MsiIds}
use Rattle.msi.proofs.ListLaws.{msi_is}
use Rattle.msi.proofs.RoomLaws.{msi_room}
use Rattle.decide.specs.Outcome.{one_base, three_bases, firsts_in, claimed}
use Rattle.decide.specs.Granted.{needing, msi_of}
use Rattle.decide.specs.Kept.{answer, Finds}
use Rattle.decide.specs.declared.Rows.TheVariants as Rows
use Rattle.decide.specs.declared.Granted.{Granted}
use Rattle.decide.proofs.AnswerLaws.{claim_of, one_claimed, resolve_good}
use Rattle.decide.proofs.RoomLaws.{stands_room}
use Rattle.decide.proofs.AskLaws.{counted}
use Rattle.decide.proofs.KeptLaws.{handed_finds, mmio_finds, pio_finds, host_finds, input_finds, msi_finds}

-- the definition's choice over the tables of one kind
abbrev pub kind_answer : State → Kind → R.Need → R.Choice → Answer Row
kind_answer s k n c = chosen_in (used (pool_view (pool_of s.auto k))) (used (pool_view (pool_of s.fixed k))) (used (holders_view s.owners k)) n c

module _ (s : State) (t : T (sound kinds (state_view s))) (r : Request) (g : good_request (request_of r) ≡ true) where
  good_is : (w : Want) → r.want ≡ w → answer s (request_of r) ≡ claimed (state_view s) r.requester (want_of w)
  good_is w e = resolve_good (state_view s) (request_of r) g ∙ ap (λ x. claimed (state_view s) r.requester (want_of x)) e

  -- a kind's refusal, handed on
  pub handed : (k : Kind) (n : R.Need) (c : R.Choice) (x : Result Granted Refusal) (y : Refusal) → answer s (request_of r) ≡ claim_of k (kind_answer s k n c)
      → IsErrAnd x (λ e. e ≡ y) → refused (refusal_of y) ≡ kind_answer s k n c → Finds s (request_of r) x
  handed k n c x y e h u = handed_finds s (request_of r) x y h (sym (e ∙ ap (claim_of k) (sym u)))

  -- one row: what its table is asked, and that there is room
  row_answer : (k : Kind) (n : R.Need) (c : R.Choice) (row : Row) → answer s (request_of r) ≡ claim_of k (kind_answer s k n c) → accepted row ≡ kind_answer s k n c → accepted (at_kind k row ∷ []) ≡ answer s (request_of r)
  row_answer k n c row e u = sym (e ∙ ap (claim_of k) (sym u))

  module _ (v a : ℕ) (c : Choice ℕ) where
    module _ (e : r.want ≡ W.Mmio v a c) where
      pub mmio_is : answer s (request_of r) ≡ claim_of mmio (kind_answer s mmio (need_of (needing K.Mmio v a r.requester)) (choice_of c))
      unfolding claims
      mmio_is = good_is (W.Mmio v a c) e ∙ one_claimed (state_view s) r.requester (want_of (W.Mmio v a c)) (need_of (needing K.Mmio v a r.requester)) (choice_of c) refl

      pub mmio_found : (row : RangeRow) → SizedRanges s.owners.mmio → accepted (range_of row) ≡ kind_answer s mmio (need_of (needing K.Mmio v a r.requester)) (choice_of c)
          → Finds s (request_of r) (Ok (record { rows = Rows.Mmio row; bases = one_base row.start }))
      mmio_found row z u =
          mmio_finds s (request_of r) (λ cs. ap (λ w. firsts_in (want_of w) cs) (sym e)) z row
          (omega (arith, stands_room _ _ _ u, ranges_length s.owners.mmio (counted s mmio t))) (row_answer mmio _ _ _ mmio_is u)

    module _ (e : r.want ≡ W.Pio v a c) where
      pub pio_is : answer s (request_of r) ≡ claim_of pio (kind_answer s pio (need_of (needing K.Pio v a r.requester)) (choice_of c))
      unfolding claims
      pio_is = good_is (W.Pio v a c) e ∙ one_claimed (state_view s) r.requester (want_of (W.Pio v a c)) (need_of (needing K.Pio v a r.requester)) (choice_of c) refl

      pub pio_found : (row : RangeRow) → SizedRanges s.owners.pio → accepted (range_of row) ≡ kind_answer s pio (need_of (needing K.Pio v a r.requester)) (choice_of c)
          → Finds s (request_of r) (Ok (record { rows = Rows.Pio row; bases = one_base row.start }))
      pio_found row z u =
          pio_finds s (request_of r) (λ cs. ap (λ w. firsts_in (want_of w) cs) (sym e)) z row
          (omega (arith, stands_room _ _ _ u, ranges_length s.owners.pio (counted s pio t))) (row_answer pio _ _ _ pio_is u)

  module _ (c : Choice ℕ) (e : r.want ≡ W.Host c) where
    pub host_is : answer s (request_of r) ≡ claim_of host (kind_answer s host (need_of (needing K.Host 1 1 r.requester)) (choice_of c))
    unfolding claims
    host_is = good_is (W.Host c) e ∙ one_claimed (state_view s) r.requester (want_of (W.Host c)) (need_of (needing K.Host 1 1 r.requester)) (choice_of c) refl

    pub host_found : (row : RangeRow) → SizedRanges s.owners.host → accepted (range_of row) ≡ kind_answer s host (need_of (needing K.Host 1 1 r.requester)) (choice_of c)
        → Finds s (request_of r) (Ok (record { rows = Rows.Host row; bases = one_base row.start }))
    host_found row z u =
        host_finds s (request_of r) (λ cs. ap (λ w. firsts_in (want_of w) cs) (sym e)) z row
        (omega (arith, stands_room _ _ _ u, ranges_length s.owners.host (counted s host t))) (row_answer host _ _ _ host_is u)

  module _ (k g' v : ℕ) (c : Choice ℕ) (e : r.want ≡ W.Input k g' v c) where
    abbrev x : InputNeed
    x = record { controller = k; trigger = g'; sharing = v; requester = r.requester }

    pub input_is : answer s (request_of r) ≡ claim_of input (kind_answer s input (input_asked x) (choice_of c))
    unfolding claims
    input_is = good_is (W.Input k g' v c) e ∙ one_claimed (state_view s) r.requester (want_of (W.Input k g' v c)) (input_asked x) (choice_of c) refl

    pub input_found : (row : InputRow) → SizedInputs s.owners.input → accepted (input_of row) ≡ kind_answer s input (input_asked x) (choice_of c)
        → Finds s (request_of r) (Ok (record { rows = Rows.Input row; bases = one_base row.input }))
    input_found row z u =
        input_finds s (request_of r) (λ cs. ap (λ w. firsts_in (want_of w) cs) (sym e)) z row
        (omega (arith, stands_room _ _ _ u, inputs_length s.owners.input (counted s input t))) (row_answer input _ _ _ input_is u)

  module _ (m : Msi) (e : r.want ≡ msi_of m) (q : m.requester ≡ r.requester) where
    abbrev three_parts : Answer (List Claim)
    three_parts = msi_in (part s.auto.device s.fixed.device s.owners.device) (part s.auto.event s.fixed.event s.owners.event) (part s.auto.lpi s.fixed.lpi s.owners.lpi) m

    msi_answer : answer s (request_of r) ≡ three_parts
    msi_answer = good_is (msi_of m) e ∙ ap (λ o. claimed (state_view s) o (want_of (msi_of m))) (sym q) ∙ msi_is m (pools_of (state_view s)) (owners_of (state_view s))

    pub msi_handed : (x : Result Granted Refusal) (y : Refusal) → IsErrAnd x (λ z. z ≡ y) → refused (refusal_of y) ≡ three_parts → Finds s (request_of r) x
    msi_handed x y h u = handed_finds s (request_of r) x y h (u ∙ sym msi_answer)

    pub msi_found : SizedRanges s.owners.device → SizedRanges s.owners.event → SizedRanges s.owners.lpi → (ids : MsiIds) → told_msi m (Ok ids) ≡ three_parts
        → Finds s (request_of r) (Ok (record { rows = Rows.Msi (MsiSpec.rows_of m ids.device ids.event ids.lpi); bases = three_bases ids.device ids.event ids.lpi }))
    msi_found z z' z'' ids u =
        let o = msi_room _ _ _ m ids.device ids.event ids.lpi u in
        msi_finds s (request_of r) z z' z'' (λ cs. ap (λ w. firsts_in (want_of w) cs) (sym e)) m ids
        (omega (arith, o.devices, ranges_length s.owners.device (counted s device t)), (omega (arith, o.events, ranges_length s.owners.event (counted s event t)), omega (arith, o.lpis, ranges_length s.owners.lpi (counted s lpi t))))
        (u ∙ sym msi_answer)
