-- The answers of the worked cases, by computation: each state is the definition's call on the one before it. Assumes nothing.
use Rattle.std.proofs.Common.{◌≡◌, true, suc, min, eqb, refl, ap, ◌∙◌}
use Rattle.definition.specs.Base.{any_of, all_of, pairs_of, first_of, require}
use Rattle.definition.specs.Tables.{top, kinds, same_kind, same_dom, within, same_span, same_row, overlap, meets, joins, clash, tidy, fits, fits_span, floored, good_row, good_span, begins, in_order, sound_table}
use Rattle.definition.specs.Pools.{mmio_pool, insert, there, entered, has_place, admit, rows_of, room, mmio_hold, host_hold, input_hold, pair_hold, unreserved, all_unreserved, reserve}
use Rattle.definition.specs.Request.{automatic}
use Rattle.definition.specs.Calls.{State, fresh, given_at, given, push_all, entering, Call, pool, hold, start, serve}

-- a state that is a call on a state that is known
pub next : (c : Call) {u v w : State} → w ≡ serve kinds c v → v ≡ u → w ≡ serve kinds c u
next c f e = f ∙ ap (serve kinds c) e

-- ---- the states that the calls leave

abbrev pub pooled : State
pooled = serve kinds (pool automatic (mmio_pool 4096 12288)) fresh

abbrev pub held : State
held = serve kinds (hold 7 (mmio_hold 4096 8192)) pooled

abbrev pub over : State
over = serve kinds (hold 9 (mmio_hold 8191 8193)) held

abbrev pub irq : State
irq = serve kinds (hold 4 (host_hold 40 (min (suc 40) (top 64)))) over

abbrev pub pair : State
pair = serve kinds (hold 5 (pair_hold 1 32 0 40)) irq

abbrev pub again : State
again = serve kinds (hold 6 (input_hold 1 32 0 0)) pair

abbrev pub started : State
started = serve kinds start again

-- ---- what they answer

pub record Answers : Type 0 where
  pub pooled_number : eqb pooled.said.number 0 ≡ true
  pub held_number : eqb held.said.number 0 ≡ true
  pub over_number : eqb over.said.number 5 ≡ true
  pub over_owner : eqb over.said.owner 7 ≡ true
  pub irq_number : eqb irq.said.number 0 ≡ true
  pub pair_number : eqb pair.said.number 5 ≡ true
  pub pair_owner : eqb pair.said.owner 4 ≡ true
  pub again_number : eqb again.said.number 0 ≡ true
  pub started_number : eqb started.said.number 0 ≡ true

pub answers : Answers
unfolding any_of all_of pairs_of first_of same_kind same_dom within same_span same_row overlap meets joins clash require tidy fits fits_span floored good_row good_span begins in_order sound_table insert there entered has_place admit rows_of room unreserved all_unreserved reserve given_at given push_all entering serve
answers = record { pooled_number = refl; held_number = refl; over_number = refl; over_owner = refl; irq_number = refl; pair_number = refl; pair_owner = refl; again_number = refl; started_number = refl }
