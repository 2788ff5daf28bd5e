-- Demand 3 at one plan and at one history, so that its conditions are seen to be met, and at a plan where they are not. Assumes nothing.
use Rattle.std.specs.Prelude.{◌≡◌, refl, List, [], ◌∷◌, map, ℕ, T, length, get_or, replicate}
use Rattle.std.specs.Int.Count.{ones_in}
use Rattle.std.proofs.Common.{lit≤}
use Rattle.definition.specs.Base.{any_of, all_of, pairs_of, first_of, only_of, lower, least_of, require}
use Rattle.definition.specs.Tables.{kinds, same_kind, same_dom, within, same_span, same_row, overlap, meets, joins, clash, tidy, fits, fits_span, floored, good_row, good_span, begins, in_order, sound_table}
use Rattle.definition.specs.Pools.{mmio_pool, pio_pool, host_pool, input_pool, msi_pool, insert, there, entered, has_place, admit, rows_of, ◌⊕◌, room, mmio_hold, input_hold, unreserved, all_unreserved, reserve}
use Rattle.definition.specs.Request.{auto, at, Want, mmio_want, pio_want, input_want, host_want, msi_want, Request, good_choice, one_bit, good_want, good_request, row_at, aligned, holds, free, align_up, candidates, lowest, allowed, unjoined, obstacle, detail, found, unopposed, Use, automatic, fixed, place, claims, resolve}
use Rattle.definition.specs.Calls.{State, fresh, pools_of, given_at, sound_at, given, sound, push_all, granting, starting, Call, pool, hold, start, want, entering, serve}
use Rattle.definition.specs.Plan.{Grant, grant, run, record_of_grant, records, written, lent, all_rows, roomy, plan_run, grants_of, plan, allocate_into, pin_want, pinned}
use Rattle.definition.proofs.RequestLaws.{AutoInFixed, inside_one, auto_in_fixed, inside_says}
use Rattle.definition.proofs.ReplayLaws.{now, later, Pick, stop, pick}
use Rattle.definition.proofs.PlanLaws.{replay}
use Rattle.definition.specs.Withdraw.{owned_by, holds_grant, a_requester, withdraw}
use Rattle.definition.specs.History.{Step, called, allocated, planned, withdrawn, steps, PoolsStay, HeldStay, granted, was_accepted, takes, outlives, live}
use Rattle.definition.proofs.StayLaws.{asking, steps_stay}
use Rattle.definition.proofs.LiveLaws.{live_replay}

unfoldable made : List Call → State → State
made [] s = s
made (c ∷ cs) s = made cs (serve kinds c s)

abbrev line : ℕ → Want → Request
line slot w = record { requester = 3; slot = slot; want = w }

-- the same ranges for automatic and for fixed requests; firmware holds some memory, and input 32 as Shared
abbrev both : Use → List Call → List Call
both u cs = pool u (mmio_pool 0x1000 0x3000) ∷ pool u (pio_pool 0x60 0x70) ∷ pool u (host_pool 40 42) ∷ pool u (input_pool 1 32 34) ∷ pool u (msi_pool 1 2 8 10 0 4 8192 8200) ∷ cs

stand : State
unfolding made any_of all_of pairs_of first_of same_kind same_dom within same_span same_row overlap meets joins clash require tidy fits fits_span floored good_row good_span begins in_order sound_table insert there entered has_place admit rows_of room unreserved all_unreserved reserve given_at given push_all entering serve
stand = made (both automatic (both fixed (hold 7 (mmio_hold 0x1000 0x1800) ∷ hold 7 (input_hold 1 32 0 1) ∷ []))) fresh

-- all five kinds, an input that is shared, two MSI lines
lines : List Request
lines =
    line 1 (msi_want 1 2 2 auto auto auto) ∷ line 2 (input_want 1 0 1 auto) ∷ line 3 (input_want 1 0 1 (at 32)) ∷ line 4 (mmio_want 0x100 0x100 auto)
    ∷ line 5 (pio_want 4 4 auto) ∷ line 6 (host_want auto) ∷ line 7 (msi_want 1 2 1 auto auto auto) ∷ []

results : List ℕ
results = replicate 63 0

was_accepted_is : (plan lines (serve kinds start stand) results).state.said.number ≡ 0
unfolding plan records record_of_grant stand lines results made any_of all_of pairs_of first_of lower least_of same_kind same_dom within same_span same_row overlap meets joins clash require tidy fits fits_span floored good_row good_span begins in_order sound_table insert there entered has_place admit rows_of ◌⊕◌ room unreserved all_unreserved reserve ones_in good_choice one_bit good_want good_request row_at aligned holds free align_up candidates lowest allowed unjoined obstacle detail found unopposed place claims resolve given_at sound_at given sound push_all entering serve run roomy plan_run
was_accepted_is = refl

first_run : List Grant
unfolding stand lines results made any_of all_of pairs_of first_of lower least_of same_kind same_dom within same_span same_row overlap meets joins clash require tidy fits fits_span floored good_row good_span begins in_order sound_table insert there entered has_place admit rows_of ◌⊕◌ room unreserved all_unreserved reserve ones_in good_choice one_bit good_want good_request row_at aligned holds free align_up candidates lowest allowed unjoined obstacle detail found unopposed place claims resolve given_at sound_at given sound push_all entering serve run roomy plan_run
first_run = grants_of (plan_run lines (serve kinds start stand) results)

nothing : Grant
nothing = grant (line 0 (host_want auto)) []

-- the last MSI line, the shared input, the ports and the first MSI line, in this order
chosen : List Grant
unfolding first_run nothing
chosen = get_or first_run 6 nothing ∷ get_or first_run 2 nothing ∷ get_or first_run 4 nothing ∷ get_or first_run 0 nothing ∷ []

picked : Pick chosen (grants_of (plan_run lines (serve kinds start stand) results))
unfolding chosen first_run stand lines results nothing made any_of all_of pairs_of first_of lower least_of same_kind same_dom within same_span same_row overlap meets joins clash require tidy fits fits_span floored good_row good_span begins in_order sound_table insert there entered has_place admit rows_of ◌⊕◌ room unreserved all_unreserved reserve ones_in good_choice one_bit good_want good_request row_at aligned holds free align_up candidates lowest allowed unjoined obstacle detail found unopposed place claims resolve given_at sound_at given sound push_all entering serve run roomy plan_run
picked = pick (later (later (later (later (later (later now)))))) (pick (later (later now)) (pick (later (later (later now))) (pick now stop)))

-- each automatic range is a fixed one too
inside : AutoInFixed (pools_of stand)
unfolding auto_in_fixed inside_one stand made any_of all_of pairs_of first_of lower least_of same_kind same_dom within same_span same_row overlap meets joins clash require tidy fits fits_span floored good_row good_span begins in_order sound_table insert there entered has_place admit rows_of ◌⊕◌ room unreserved all_unreserved reserve ones_in good_choice one_bit good_want good_request row_at aligned holds free align_up candidates lowest allowed unjoined obstacle detail found unopposed place claims resolve given_at sound_at given sound push_all entering serve run roomy plan_run
inside = inside_says (pools_of stand) tt

-- demand 3 applied: the four lines, pinned, from the same pools and reservations
replayed : plan (map pinned chosen) (serve kinds start stand) (replicate 36 0) ≡ lent (granting (all_rows chosen) (starting stand)) (written (records chosen) (replicate 36 0))
unfolding chosen
replayed = replay stand stand lines results chosen (replicate 36 0) record {
  was_accepted_is = was_accepted_is;
  inside = inside;
  picked = picked;
  same_pools = refl;
  same_held = refl;
  long = lit≤ tt;
}

-- .. with the numbers that they had
numbers : records chosen ≡
    5 ∷ 3 ∷ 7 ∷ 1 ∷ 2 ∷ 9 ∷ 0 ∷ 8194 ∷ 1
    ∷ 3 ∷ 3 ∷ 3 ∷ 1 ∷ 32 ∷ 0 ∷ 1 ∷ 0 ∷ 0
    ∷ 2 ∷ 3 ∷ 5 ∷ 0x60 ∷ 4 ∷ 0 ∷ 0 ∷ 0 ∷ 0
    ∷ 5 ∷ 3 ∷ 1 ∷ 1 ∷ 2 ∷ 8 ∷ 0 ∷ 8192 ∷ 2 ∷ []
unfolding chosen first_run nothing records record_of_grant stand lines results made any_of all_of pairs_of first_of lower least_of same_kind same_dom within same_span same_row overlap meets joins clash require tidy fits fits_span floored good_row good_span begins in_order sound_table insert there entered has_place admit rows_of ◌⊕◌ room unreserved all_unreserved reserve ones_in good_choice one_bit good_want good_request row_at aligned holds free align_up candidates lowest allowed unjoined obstacle detail found unopposed place claims resolve given_at sound_at given sound push_all entering serve run roomy plan_run
numbers = refl

-- ---- where an automatic range lies in no fixed one, the plan is accepted and its pinned line is refused

narrow : State
unfolding made any_of all_of pairs_of first_of lower least_of same_kind same_dom within same_span same_row overlap meets joins clash require tidy fits fits_span floored good_row good_span begins in_order sound_table insert there entered has_place admit rows_of ◌⊕◌ room unreserved all_unreserved reserve ones_in good_choice one_bit good_want good_request row_at aligned holds free align_up candidates lowest allowed unjoined obstacle detail found unopposed place claims resolve given_at sound_at given sound push_all entering serve run roomy plan_run
narrow = serve kinds (pool automatic (mmio_pool 0x1000 0x3000)) fresh

abbrev only : List Request
only = line 1 (mmio_want 0x100 0x100 auto) ∷ []

not_inside : ((plan only (serve kinds start narrow) results).state.said.number ≡ 0)
    × ((plan (map pinned (grants_of (plan_run only (serve kinds start narrow) results))) (serve kinds start narrow) results).state.said.number ≡ 6)
unfolding plan records record_of_grant pinned pin_want narrow results made any_of all_of pairs_of first_of lower least_of same_kind same_dom within same_span same_row overlap meets joins clash require tidy fits fits_span floored good_row good_span begins in_order sound_table insert there entered has_place admit rows_of ◌⊕◌ room unreserved all_unreserved reserve ones_in good_choice one_bit good_want good_request row_at aligned holds free align_up candidates lowest allowed unjoined obstacle detail found unopposed place claims resolve given_at sound_at given sound push_all entering serve run roomy plan_run
not_inside = (refl, refl)

-- ---- over a history: at half-time the lines of 3 go and its ports are given to 5; a plan is refused; 3 comes back; then a power dip

abbrev of : ℕ → ℕ → Want → Request
of q slot w = record { requester = q; slot = slot; want = w }

evening : List Step
evening =
    planned (of 3 1 (pio_want 4 4 auto) ∷ of 4 1 (pio_want 4 4 auto) ∷ of 3 2 (msi_want 1 2 2 auto auto auto) ∷ of 4 2 (msi_want 1 2 1 auto auto auto) ∷ []) (replicate 36 0)
    ∷ withdrawn 3 ∷ called (want (of 5 1 (pio_want 4 4 auto))) ∷ planned (of 6 1 (host_want auto) ∷ of 6 2 (host_want (at 7)) ∷ []) (replicate 18 0)
    ∷ allocated (of 3 1 (host_want auto)) (replicate 9 0) ∷ []

lived : List Grant
unfolding stand evening steps granted takes outlives was_accepted live made any_of all_of pairs_of first_of lower least_of same_kind same_dom within same_span same_row overlap meets joins clash require tidy fits fits_span floored good_row good_span begins in_order sound_table insert there entered has_place admit rows_of ◌⊕◌ room unreserved all_unreserved reserve ones_in good_choice one_bit good_want good_request row_at aligned holds free align_up candidates lowest allowed unjoined obstacle detail found unopposed place claims resolve given_at sound_at given sound push_all entering serve run roomy plan_run owned_by holds_grant a_requester withdraw only_of plan records record_of_grant allocate_into
lived = live evening (serve kinds start stand)

-- the last one first
kept_on : List Grant
unfolding lived nothing
kept_on = get_or lived 3 nothing ∷ get_or lived 2 nothing ∷ get_or lived 1 nothing ∷ get_or lived 0 nothing ∷ []

all_live : Pick kept_on (live evening (serve kinds start stand))
unfolding kept_on lived nothing stand evening steps granted takes outlives was_accepted live made any_of all_of pairs_of first_of lower least_of same_kind same_dom within same_span same_row overlap meets joins clash require tidy fits fits_span floored good_row good_span begins in_order sound_table insert there entered has_place admit rows_of ◌⊕◌ room unreserved all_unreserved reserve ones_in good_choice one_bit good_want good_request row_at aligned holds free align_up candidates lowest allowed unjoined obstacle detail found unopposed place claims resolve given_at sound_at given sound push_all entering serve run roomy plan_run owned_by holds_grant a_requester withdraw only_of plan records record_of_grant allocate_into
all_live = pick (later (later (later now))) (pick (later (later now)) (pick (later now) (pick now stop)))

stayed : PoolsStay evening (serve kinds start stand) × HeldStay evening (serve kinds start stand)
unfolding evening asking all_of
stayed = steps_stay evening (serve kinds start stand) tt

stand_given : T (given kinds stand)
unfolding stand made any_of all_of pairs_of first_of lower least_of same_kind same_dom within same_span same_row overlap meets joins clash require tidy fits fits_span floored good_row good_span begins in_order sound_table insert there entered has_place admit rows_of ◌⊕◌ room unreserved all_unreserved reserve ones_in good_choice one_bit good_want good_request row_at aligned holds free align_up candidates lowest allowed unjoined obstacle detail found unopposed place claims resolve given_at sound_at given sound push_all entering serve run roomy plan_run
stand_given = tt

-- DEMAND 3 applied to it
relived : plan (map pinned kept_on) (serve kinds start stand) (replicate 36 0) ≡ lent (granting (all_rows kept_on) (starting stand)) (written (records kept_on) (replicate 36 0))
unfolding kept_on
relived = live_replay stand stand evening kept_on (replicate 36 0) record {
  was_started = stand_given;
  inside = inside;
  pools_stay = stayed.0;
  held_stay = stayed.1;
  picked = all_live;
  few = lit≤ tt;
  same_pools = refl;
  same_held = refl;
  long = lit≤ tt;
}

-- .. with these numbers: 3 its host IRQ, and nothing that it had before; 5 the ports that 3 had; 4 what it had
live_numbers : records kept_on ≡
    4 ∷ 3 ∷ 1 ∷ 40 ∷ 0 ∷ 0 ∷ 0 ∷ 0 ∷ 0
    ∷ 2 ∷ 5 ∷ 1 ∷ 0x60 ∷ 4 ∷ 0 ∷ 0 ∷ 0 ∷ 0
    ∷ 5 ∷ 4 ∷ 2 ∷ 1 ∷ 2 ∷ 9 ∷ 0 ∷ 8194 ∷ 1
    ∷ 2 ∷ 4 ∷ 1 ∷ 0x64 ∷ 4 ∷ 0 ∷ 0 ∷ 0 ∷ 0 ∷ []
unfolding kept_on lived nothing stand evening steps granted takes outlives was_accepted live made any_of all_of pairs_of first_of lower least_of same_kind same_dom within same_span same_row overlap meets joins clash require tidy fits fits_span floored good_row good_span begins in_order sound_table insert there entered has_place admit rows_of ◌⊕◌ room unreserved all_unreserved reserve ones_in good_choice one_bit good_want good_request row_at aligned holds free align_up candidates lowest allowed unjoined obstacle detail found unopposed place claims resolve given_at sound_at given sound push_all entering serve run roomy plan_run owned_by holds_grant a_requester withdraw only_of plan records record_of_grant allocate_into
live_numbers = refl

-- no more than these are live
live_count : length lived ≡ 4
unfolding lived stand evening steps granted takes outlives was_accepted live made any_of all_of pairs_of first_of lower least_of same_kind same_dom within same_span same_row overlap meets joins clash require tidy fits fits_span floored good_row good_span begins in_order sound_table insert there entered has_place admit rows_of ◌⊕◌ room unreserved all_unreserved reserve ones_in good_choice one_bit good_want good_request row_at aligned holds free align_up candidates lowest allowed unjoined obstacle detail found unopposed place claims resolve given_at sound_at given sound push_all entering serve run roomy plan_run owned_by holds_grant a_requester withdraw only_of plan records record_of_grant allocate_into
live_count = refl
