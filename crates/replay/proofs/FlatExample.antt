-- Demand 3 for the calls at one plan of seven requests as plain numbers, so that its conditions are seen to be met. Assumes nothing.
use mathlib.Core.Path.{◌≡◌, refl}
use mathlib.Core.List.{List, [], ◌∷◌}
use Prim.Native.Nat.{ℕ}
use lib.Count.{ones_in}
use lib.Dec.{lit≤}
use lib.ListN.{replicate}
use Rattle.definition.specs.Base.{any_of, all_of, pairs_of, first_of, lower, least_of, require}
use Rattle.definition.specs.Tables.{record_size, kinds, same_kind, same_dom, within, same_span, same_row, overlap, meets, joins, clash, tidy, fits, fits_span, floored, good_row, good_span, begins, in_order, sound_table}
use Rattle.definition.specs.Pools.{mmio_pool, pio_pool, host_pool, input_pool, msi_pool, insert, there, entered, has_place, admit, rows_of, ◌⊕◌, room, mmio_hold, input_hold, unreserved, all_unreserved, reserve}
use Rattle.definition.specs.Request.{good_choice, one_bit, good_want, good_request, row_at, aligned, holds, free, align_up, candidates, lowest, allowed, unjoined, obstacle, detail, found, unopposed, Use, automatic, fixed, place, claims, resolve}
use Rattle.definition.specs.Calls.{State, fresh, pools_of, given_at, sound_at, given, sound, push_all, granting, starting, Call, pool, hold, start, entering, serve}
use Rattle.definition.specs.Plan.{run, record_of_grant, records, written, lent, roomy, plan_run, plan}
use Rattle.definition.proofs.RequestLaws.{AutoInFixed, inside_one, auto_in_fixed, inside_says}
use Rattle.definition.proofs.ReplayLaws.{now, later, Pick, stop, pick}
use Rattle.definition.proofs.PickLaws.{indices}
use Rattle.flat.specs.Flat.{request_size, readable, want_at, request_in, request_at, requests_from, requests_of, whole_requests, flat_plan}
use Rattle.flat.specs.Pin.{pin_choice_at, pin_choices, tells_of, own_record, pin_one, pin_from, pinned_numbers}
use Rattle.replay.specs.Again.{blocks, rows_for, first_results, run_again}
use Rattle.replay.proofs.AgainLaws.{flat_replay}

unfoldable pub made : List Call → State → State
made [] s = s
made (c ∷ cs) s = made cs (serve kinds c s)

-- the same ranges for automatic and for fixed requests; firmware holds some memory, and input 32 as Shared
abbrev both : Use → List Call → List Call
both u cs = pool u (mmio_pool 0x1000 0x3000) ∷ pool u (pio_pool 0x60 0x70) ∷ pool u (host_pool 40 42) ∷ pool u (input_pool 1 32 34) ∷ pool u (msi_pool 1 2 8 10 0 4 8192 8200) ∷ cs

unfoldable pub stand : State
unfolding made any_of all_of pairs_of first_of lower least_of same_kind same_dom within same_span same_row overlap meets joins clash require tidy fits fits_span floored good_row good_span begins in_order sound_table insert there entered has_place admit rows_of ◌⊕◌ room unreserved all_unreserved reserve ones_in good_choice one_bit good_want good_request row_at aligned holds free align_up candidates lowest allowed unjoined obstacle detail found unopposed place claims resolve given_at sound_at given sound push_all entering serve run roomy plan_run
stand = made (both automatic (both fixed (hold 7 (mmio_hold 0x1000 0x1800) ∷ hold 7 (input_hold 1 32 0 1) ∷ []))) fresh

-- all five kinds, an input that is shared and asked for by its number, two MSI requests
numbers : List ℕ
numbers =
    5 ∷ 3 ∷ 1 ∷ 1 ∷ 2 ∷ 2 ∷ 0 ∷ 0 ∷ 0 ∷ 0 ∷ 0 ∷ 0
    ∷ 3 ∷ 3 ∷ 2 ∷ 1 ∷ 0 ∷ 1 ∷ 0 ∷ 0 ∷ 0 ∷ 0 ∷ 0 ∷ 0
    ∷ 3 ∷ 3 ∷ 3 ∷ 1 ∷ 0 ∷ 1 ∷ 1 ∷ 32 ∷ 0 ∷ 0 ∷ 0 ∷ 0
    ∷ 1 ∷ 3 ∷ 4 ∷ 0x100 ∷ 0x100 ∷ 0 ∷ 0 ∷ 0 ∷ 0 ∷ 0 ∷ 0 ∷ 0
    ∷ 2 ∷ 3 ∷ 5 ∷ 4 ∷ 4 ∷ 0 ∷ 0 ∷ 0 ∷ 0 ∷ 0 ∷ 0 ∷ 0
    ∷ 4 ∷ 3 ∷ 6 ∷ 0 ∷ 0 ∷ 0 ∷ 0 ∷ 0 ∷ 0 ∷ 0 ∷ 0 ∷ 0
    ∷ 5 ∷ 3 ∷ 7 ∷ 1 ∷ 2 ∷ 1 ∷ 0 ∷ 0 ∷ 0 ∷ 0 ∷ 0 ∷ 0 ∷ []

results : List ℕ
results = replicate 63 0

-- the last MSI request, the shared input, the ports and the first MSI request, in this order
abbrev chosen : List ℕ
chosen = 6 ∷ 2 ∷ 4 ∷ 0 ∷ []

was_accepted_is : (flat_plan numbers (serve kinds start stand) results).state.said.number ≡ 0
unfolding flat_plan whole_requests requests_of requests_from request_at request_in readable want_at plan records record_of_grant stand made results numbers any_of all_of pairs_of first_of lower least_of same_kind same_dom within same_span same_row overlap meets joins clash require tidy fits fits_span floored good_row good_span begins in_order sound_table insert there entered has_place admit rows_of ◌⊕◌ room unreserved all_unreserved reserve ones_in good_choice one_bit good_want good_request row_at aligned holds free align_up candidates lowest allowed unjoined obstacle detail found unopposed place claims resolve given_at sound_at given sound push_all entering serve run roomy plan_run
was_accepted_is = refl

pub inside : AutoInFixed (pools_of stand)
unfolding auto_in_fixed inside_one stand made any_of all_of pairs_of first_of lower least_of same_kind same_dom within same_span same_row overlap meets joins clash require tidy fits fits_span floored good_row good_span begins in_order sound_table insert there entered has_place admit rows_of ◌⊕◌ room unreserved all_unreserved reserve ones_in good_choice one_bit good_want good_request row_at aligned holds free align_up candidates lowest allowed unjoined obstacle detail found unopposed place claims resolve given_at sound_at given sound push_all entering serve run roomy plan_run
inside = inside_says (pools_of stand) tt

picked : Pick chosen (indices 0 7)
unfolding indices
picked = pick (later (later (later (later (later (later now)))))) (pick (later (later now)) (pick (later (later (later now))) (pick now stop)))

-- the four requests with what they were granted written in: 9, 0 and 8194; 32 as it was; 0x60; 8, 0 and 8192
written_back : blocks request_size (pinned_numbers numbers (first_results stand numbers results)) chosen ≡
    5 ∷ 3 ∷ 7 ∷ 1 ∷ 2 ∷ 1 ∷ 1 ∷ 9 ∷ 1 ∷ 0 ∷ 1 ∷ 8194
    ∷ 3 ∷ 3 ∷ 3 ∷ 1 ∷ 0 ∷ 1 ∷ 1 ∷ 32 ∷ 0 ∷ 0 ∷ 0 ∷ 0
    ∷ 2 ∷ 3 ∷ 5 ∷ 4 ∷ 4 ∷ 0 ∷ 1 ∷ 0x60 ∷ 0 ∷ 0 ∷ 0 ∷ 0
    ∷ 5 ∷ 3 ∷ 1 ∷ 1 ∷ 2 ∷ 2 ∷ 1 ∷ 8 ∷ 1 ∷ 0 ∷ 1 ∷ 8192 ∷ []
unfolding blocks pinned_numbers pin_from pin_one own_record tells_of pin_choices pin_choice_at flat_plan whole_requests requests_of requests_from request_at request_in readable want_at plan records record_of_grant stand made results numbers any_of all_of pairs_of first_of lower least_of same_kind same_dom within same_span same_row overlap meets joins clash require tidy fits fits_span floored good_row good_span begins in_order sound_table insert there entered has_place admit rows_of ◌⊕◌ room unreserved all_unreserved reserve ones_in good_choice one_bit good_want good_request row_at aligned holds free align_up candidates lowest allowed unjoined obstacle detail found unopposed place claims resolve given_at sound_at given sound push_all entering serve run roomy plan_run
written_back = refl

-- demand 3 applied: from the same pools and reservations they get what they had
replayed : run_again stand stand numbers results chosen (replicate 36 0)
    ≡ lent (granting (rows_for (first_results stand numbers results) chosen) (starting stand)) (written (blocks record_size (first_results stand numbers results) chosen) (replicate 36 0))
unfolding numbers
replayed = flat_replay stand stand numbers results chosen (replicate 36 0) record {
  was_accepted_is = was_accepted_is;
  inside = inside;
  picked = picked;
  same_pools = refl;
  same_held = refl;
  long = lit≤ tt;
}

-- .. which are these numbers
had : blocks record_size (first_results stand numbers results) chosen ≡
    5 ∷ 3 ∷ 7 ∷ 1 ∷ 2 ∷ 9 ∷ 0 ∷ 8194 ∷ 1
    ∷ 3 ∷ 3 ∷ 3 ∷ 1 ∷ 32 ∷ 0 ∷ 1 ∷ 0 ∷ 0
    ∷ 2 ∷ 3 ∷ 5 ∷ 0x60 ∷ 4 ∷ 0 ∷ 0 ∷ 0 ∷ 0
    ∷ 5 ∷ 3 ∷ 1 ∷ 1 ∷ 2 ∷ 8 ∷ 0 ∷ 8192 ∷ 2 ∷ []
unfolding blocks flat_plan whole_requests requests_of requests_from request_at request_in readable want_at plan records record_of_grant stand made results numbers any_of all_of pairs_of first_of lower least_of same_kind same_dom within same_span same_row overlap meets joins clash require tidy fits fits_span floored good_row good_span begins in_order sound_table insert there entered has_place admit rows_of ◌⊕◌ room unreserved all_unreserved reserve ones_in good_choice one_bit good_want good_request row_at aligned holds free align_up candidates lowest allowed unjoined obstacle detail found unopposed place claims resolve given_at sound_at given sound push_all entering serve run roomy plan_run
had = refl
