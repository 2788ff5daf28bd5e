-- Demand 3 over a history of calls as plain numbers: at half-time the lines of 3 go and its ports are given to 5; its ledger, and the ledger run again. Assumes nothing.
use mathlib.Core.Path.{◌≡◌, refl, sym, subst}
use mathlib.Core.List.{List, [], ◌∷◌}
use Prim.Native.Nat.{ℕ}
use lib.Count.{ones_in}
use lib.Dec.{lit≤}
use lib.ListN.{get_or, replicate}
use Rattle.definition.specs.Base.{any_of, all_of, pairs_of, first_of, lower, least_of, require}
use Rattle.definition.specs.Tables.{kinds, same_kind, same_dom, within, same_span, same_row, overlap, meets, joins, clash, tidy, fits, fits_span, floored, good_row, good_span, begins, in_order, sound_table}
use Rattle.definition.specs.Pools.{insert, there, entered, has_place, admit, rows_of, ◌⊕◌, room, unreserved, all_unreserved, reserve}
use Rattle.definition.specs.Request.{good_choice, one_bit, good_want, good_request, row_at, aligned, holds, free, align_up, candidates, lowest, allowed, unjoined, obstacle, detail, found, unopposed, place, claims, resolve}
use Rattle.definition.specs.Calls.{given_at, sound_at, given, sound, push_all, granting, starting, start, entering, serve}
use Rattle.definition.specs.Plan.{run, record_of_grant, records, written, lent, roomy, plan_run, plan}
use Rattle.definition.proofs.ReplayLaws.{now, later, Pick, stop, pick}
use Rattle.definition.proofs.PickLaws.{indices}
use Rattle.flat.specs.Flat.{readable, want_at, request_in, request_at, requests_from, requests_of, whole_requests, flat_plan}
use Rattle.flat.specs.Pin.{pin_choice_at, pin_choices, tells_of, own_record, pin_one, pin_from, pinned_numbers}
use Rattle.definition.specs.Base.{only_of}
use Rattle.definition.specs.Withdraw.{owned_by, holds_grant, a_requester, withdraw}
use Rattle.definition.specs.History.{was_accepted}
use Rattle.definition.specs.Plan.{allocate_into}
use Rattle.flat.specs.Flat.{flat_allocate}
use Rattle.numbers.specs.Face.{call_at, judged, face_call}
use Rattle.numbers.specs.Coding.{narrow, pool_in, held_in, hold_in, used_in, adding_in, size_in, pool_size, hold_size}
use Rattle.ledger.specs.Ledger.{adds, Call as Made, calls, allocates, plans, PoolsRest, HeldRest, Entry, entries_of, enters, strikes, remains, ledger, lines_of, records_of, rows_by}
use Rattle.ledger.proofs.MeansLaws.{calls_rest}
use Rattle.ledger.proofs.LedgerLaws.{ledger_replay}
use Rattle.replay.proofs.FlatExample.{made, stand, inside}
use lib.Dec.{T}

-- two devices with ports and messages, planned; 3 withdrawn; ports for 5; numbers that are no call; a plan that is refused; one request with its record
abbrev evening : List Made
evening =
    plans
    (2 ∷ 3 ∷ 1 ∷ 4 ∷ 4 ∷ 0 ∷ 0 ∷ 0 ∷ 0 ∷ 0 ∷ 0 ∷ 0
    ∷ 2 ∷ 4 ∷ 1 ∷ 4 ∷ 4 ∷ 0 ∷ 0 ∷ 0 ∷ 0 ∷ 0 ∷ 0 ∷ 0
    ∷ 5 ∷ 3 ∷ 2 ∷ 1 ∷ 2 ∷ 2 ∷ 0 ∷ 0 ∷ 0 ∷ 0 ∷ 0 ∷ 0
    ∷ 5 ∷ 4 ∷ 2 ∷ 1 ∷ 2 ∷ 1 ∷ 0 ∷ 0 ∷ 0 ∷ 0 ∷ 0 ∷ 0 ∷ [])
    (replicate 36 0)
    ∷ calls (5 ∷ 3 ∷ [])
    ∷ calls (4 ∷ 2 ∷ 5 ∷ 1 ∷ 4 ∷ 4 ∷ 0 ∷ 0 ∷ 0 ∷ 0 ∷ 0 ∷ 0 ∷ 0 ∷ [])
    ∷ calls (6 ∷ [])
    ∷ plans (4 ∷ 6 ∷ 1 ∷ 0 ∷ 0 ∷ 0 ∷ 0 ∷ 0 ∷ 0 ∷ 0 ∷ 0 ∷ 0 ∷ 4 ∷ 6 ∷ 2 ∷ 0 ∷ 0 ∷ 0 ∷ 1 ∷ 7 ∷ 0 ∷ 0 ∷ 0 ∷ 0 ∷ []) (replicate 18 0)
    ∷ allocates (4 ∷ 3 ∷ 1 ∷ 0 ∷ 0 ∷ 0 ∷ 0 ∷ 0 ∷ 0 ∷ 0 ∷ 0 ∷ 0 ∷ []) (replicate 9 0)
    ∷ []

abbrev entry : List ℕ → List ℕ → Entry
entry l r = record { line = l; told = r }

-- what is live at the end, written back: 4's ports and messages, 5's ports, which 3 had, and the host IRQ of 3 that came back
abbrev kept : List Entry
kept =
    entry (2 ∷ 4 ∷ 1 ∷ 4 ∷ 4 ∷ 0 ∷ 1 ∷ 0x64 ∷ 0 ∷ 0 ∷ 0 ∷ 0 ∷ []) (2 ∷ 4 ∷ 1 ∷ 0x64 ∷ 4 ∷ 0 ∷ 0 ∷ 0 ∷ 0 ∷ [])
    ∷ entry (5 ∷ 4 ∷ 2 ∷ 1 ∷ 2 ∷ 1 ∷ 1 ∷ 9 ∷ 1 ∷ 0 ∷ 1 ∷ 8194 ∷ []) (5 ∷ 4 ∷ 2 ∷ 1 ∷ 2 ∷ 9 ∷ 0 ∷ 8194 ∷ 1 ∷ [])
    ∷ entry (2 ∷ 5 ∷ 1 ∷ 4 ∷ 4 ∷ 0 ∷ 1 ∷ 0x60 ∷ 0 ∷ 0 ∷ 0 ∷ 0 ∷ []) (2 ∷ 5 ∷ 1 ∷ 0x60 ∷ 4 ∷ 0 ∷ 0 ∷ 0 ∷ 0 ∷ [])
    ∷ entry (4 ∷ 3 ∷ 1 ∷ 0 ∷ 0 ∷ 0 ∷ 1 ∷ 40 ∷ 0 ∷ 0 ∷ 0 ∷ 0 ∷ []) (4 ∷ 3 ∷ 1 ∷ 40 ∷ 0 ∷ 0 ∷ 0 ∷ 0 ∷ 0 ∷ []) ∷ []

the_ledger : ledger evening (serve kinds start stand) ≡ kept
unfolding indices entries_of enters strikes remains ledger was_accepted flat_allocate allocate_into call_at judged face_call narrow pool_in held_in hold_in used_in adding_in size_in pool_size hold_size owned_by holds_grant a_requester withdraw only_of pinned_numbers pin_from pin_one own_record tells_of pin_choices pin_choice_at flat_plan whole_requests requests_of requests_from request_at request_in readable want_at plan records record_of_grant stand made any_of all_of pairs_of first_of lower least_of same_kind same_dom within same_span same_row overlap meets joins clash require tidy fits fits_span floored good_row good_span begins in_order sound_table insert there entered has_place admit rows_of ◌⊕◌ room unreserved all_unreserved reserve ones_in good_choice one_bit good_want good_request row_at aligned holds free align_up candidates lowest allowed unjoined obstacle detail found unopposed place claims resolve given_at sound_at given sound push_all entering serve run roomy plan_run
the_ledger = refl

-- the last one first
abbrev turned : List Entry
turned = nth 3 ∷ nth 2 ∷ nth 1 ∷ nth 0 ∷ []
  where
    nth : ℕ → Entry
    nth i = get_or kept i (entry [] [])

all_kept : Pick turned kept
all_kept = pick (later (later (later now))) (pick (later (later now)) (pick (later now) (pick now stop)))

rested : PoolsRest evening (serve kinds start stand) × HeldRest evening (serve kinds start stand)
unfolding all_of adds
rested = calls_rest evening (serve kinds start stand) tt

was_given : T (given kinds stand)
unfolding indices entries_of enters strikes remains ledger was_accepted flat_allocate allocate_into call_at judged face_call narrow pool_in held_in hold_in used_in adding_in size_in pool_size hold_size owned_by holds_grant a_requester withdraw only_of pinned_numbers pin_from pin_one own_record tells_of pin_choices pin_choice_at flat_plan whole_requests requests_of requests_from request_at request_in readable want_at plan records record_of_grant stand made any_of all_of pairs_of first_of lower least_of same_kind same_dom within same_span same_row overlap meets joins clash require tidy fits fits_span floored good_row good_span begins in_order sound_table insert there entered has_place admit rows_of ◌⊕◌ room unreserved all_unreserved reserve ones_in good_choice one_bit good_want good_request row_at aligned holds free align_up candidates lowest allowed unjoined obstacle detail found unopposed place claims resolve given_at sound_at given sound push_all entering serve run roomy plan_run
was_given = tt

-- DEMAND 3 applied: after a power dip all of them get what they had
relived : flat_plan (lines_of turned) (serve kinds start stand) (replicate 36 0) ≡ lent (granting (rows_by turned) (starting stand)) (written (records_of turned) (replicate 36 0))
relived = ledger_replay stand stand evening turned (replicate 36 0) record {
  was_started = was_given;
  inside = inside;
  pools_rest = rested.0;
  held_rest = rested.1;
  picked = subst (λ es. Pick turned es) (sym the_ledger) all_kept;
  few = lit≤ tt;
  same_pools = refl;
  same_held = refl;
  long = lit≤ tt;
}
