-- Withdrawals worked out: what is answered to them and after them, in small tables and in a full one. Assumes nothing.
use Rattle.std.specs.Prelude.{◌≡◌, refl, List, [], ◌∷◌, map, ℕ, zero, suc, ◌^◌, replicate}
use Rattle.std.specs.Int.Count.{ones_in}
use Rattle.definition.specs.Base.{any_of, all_of, pairs_of, first_of, only_of, lower, least_of, full, Answer, accepted, refused, require}
use Rattle.definition.specs.Tables.{row_limit, dom, host, event, kinds, range_row, same_kind, same_dom, within, same_span, same_row, overlap, meets, joins, clash, tidy, fits, fits_span, floored, good_row, good_span, begins, in_order, sound_table}
use Rattle.definition.specs.Pools.{at_kind, Claim, mmio_pool, host_pool, msi_pool, insert, there, entered, has_place, admit, rows_of, ◌⊕◌, room, mmio_hold, host_hold, unreserved, all_unreserved, reserve}
use Rattle.definition.specs.Request.{auto, Want, mmio_want, host_want, msi_want, good_choice, one_bit, good_want, good_request, row_at, aligned, holds, free, align_up, candidates, lowest, allowed, unjoined, obstacle, detail, found, unopposed, automatic, place, claims, resolve}
use Rattle.definition.specs.Calls.{State, fresh, pools_of, owners_of, given_at, sound_at, given, sound, push_all, granting, entering, Call, pool, hold, start, want, serve}
use Rattle.definition.specs.Plan.{record_of_grant, records, run, all_rows, roomy, plan_run, plan}
use Rattle.definition.specs.Withdraw.{owned_by, holds_grant, a_requester, withdraw}
use Rattle.definition.specs.History.{Step, called, planned, withdrawn, step, granted}

-- ---- stories: steps one after the other, and for each the number of its answer and the first numbers of the rows that it was granted

pub record Story : Type 0 where
  pub state : State
  pub steps : List Step
  pub answers : List (List ℕ)

abbrev story : State → List Step → List (List ℕ) → Story
story s xs answers = record { state = s; steps = xs; answers = answers }

unfoldable pub told : List Step → State → List (List ℕ)
told [] s = []
told (x ∷ xs) s = ((step x s).said.number ∷ map (λ c. c.row.start) (all_rows (granted x s))) ∷ told xs (step x s)

unfoldable made : List Call → State → State
made [] s = s
made (c ∷ cs) s = made cs (serve kinds c s)

abbrev asks : ℕ → Want → Step
asks q w = called (want (record { requester = q; slot = 1; want = w }))

abbrev page : Want
page = mmio_want 0x100 0x100 auto

abbrev messages : ℕ → Want
messages n = msi_want 0 0 n auto auto auto

-- 3 holds the first page as a reservation
shelf : State
unfolding made any_of all_of pairs_of first_of only_of lower least_of same_kind same_dom within same_span same_row overlap meets joins clash require tidy fits fits_span floored good_row good_span begins in_order sound_table insert there entered has_place admit rows_of ◌⊕◌ room unreserved all_unreserved reserve ones_in good_choice one_bit good_want good_request row_at aligned holds free align_up candidates lowest allowed unjoined obstacle detail found unopposed place claims resolve given_at sound_at given sound push_all entering serve run roomy plan_run plan records record_of_grant owned_by holds_grant a_requester withdraw granted
shelf = made (pool automatic (mmio_pool 0x1000 0x1400) ∷ pool automatic (msi_pool 0 0 8 10 0 4 8192 8200) ∷ hold 3 (mmio_hold 0x1000 0x1100) ∷ start ∷ []) fresh

-- handed in: 3 owns an event row alone
alone : State
unfolding shelf made any_of all_of pairs_of first_of only_of lower least_of same_kind same_dom within same_span same_row overlap meets joins clash require tidy fits fits_span floored good_row good_span begins in_order sound_table insert there entered has_place admit rows_of ◌⊕◌ room unreserved all_unreserved reserve ones_in good_choice one_bit good_want good_request row_at aligned holds free align_up candidates lowest allowed unjoined obstacle detail found unopposed place claims resolve given_at sound_at given sound push_all entering serve run roomy plan_run plan records record_of_grant owned_by holds_grant a_requester withdraw granted
alone = granting (at_kind event (range_row (dom 0 0 8) 0 4 3) ∷ []) shelf

-- host IRQs i, i + 1 .. so many, each owned by the number one above it
unfoldable irqs : ℕ → ℕ → List Claim
irqs i zero = []
irqs i (suc n) = at_kind host (range_row (dom 0 0 0) i (suc i) (suc i)) ∷ irqs (suc i) n

-- every row of the table of host IRQs is in use, and its pool has more
pub crowd : State
unfolding irqs made any_of all_of pairs_of first_of only_of lower least_of same_kind same_dom within same_span same_row overlap meets joins clash require tidy fits fits_span floored good_row good_span begins in_order sound_table insert there entered has_place admit rows_of ◌⊕◌ room unreserved all_unreserved reserve ones_in good_choice one_bit good_want good_request row_at aligned holds free align_up candidates lowest allowed unjoined obstacle detail found unopposed place claims resolve given_at sound_at given sound push_all entering serve run roomy plan_run plan records record_of_grant owned_by holds_grant a_requester withdraw granted
crowd = granting (irqs 0 row_limit) (made (pool automatic (host_pool 0 300) ∷ start ∷ []) fresh)

pub stories : List Story
unfolding shelf alone
stories =
    -- the least base and the messages are free again; the reservation of the same number stays; a second withdrawal finds nothing; a requester may come back
    story shelf
    (asks 3 page ∷ asks 4 page ∷ asks 3 (messages 2) ∷ asks 4 (messages 1) ∷ withdrawn 3 ∷ withdrawn 3 ∷ asks 5 page ∷ asks 5 (messages 1) ∷ asks 3 page ∷ asks 6 page ∷ withdrawn 3 ∷ asks 6 page ∷ [])
    ((0 ∷ 0x1100 ∷ []) ∷ (0 ∷ 0x1200 ∷ []) ∷ (0 ∷ 8 ∷ 0 ∷ 8192 ∷ []) ∷ (0 ∷ 9 ∷ 0 ∷ 8194 ∷ []) ∷ (0 ∷ []) ∷ (13 ∷ []) ∷ (0 ∷ 0x1100 ∷ []) ∷ (0 ∷ 8 ∷ 0 ∷ 8192 ∷ []) ∷ (0 ∷ 0x1300 ∷ []) ∷ (7 ∷ []) ∷ (0 ∷ []) ∷ (0 ∷ 0x1300 ∷ []) ∷ [])
    -- requesters that are none, and one that has a reservation alone
    ∷ story shelf (withdrawn 0 ∷ withdrawn (2 ^ 32) ∷ withdrawn 3 ∷ withdrawn 9 ∷ []) ((2 ∷ []) ∷ (2 ∷ []) ∷ (13 ∷ []) ∷ (13 ∷ []) ∷ [])
    -- a refused plan grants nothing that could be withdrawn
    ∷ story shelf (planned (record { requester = 5; slot = 1; want = page } ∷ record { requester = 5; slot = 2; want = mmio_want 0x400 0x100 auto } ∷ []) (replicate 18 0) ∷ withdrawn 5 ∷ []) ((7 ∷ []) ∷ (13 ∷ []) ∷ [])
    -- an event row alone goes too: device 8 has its events again
    ∷ story alone (asks 5 (messages 1) ∷ withdrawn 3 ∷ asks 5 (messages 1) ∷ []) ((7 ∷ []) ∷ (0 ∷ []) ∷ (0 ∷ 8 ∷ 0 ∷ 8192 ∷ []) ∷ [])
    -- tables whose reservations grew since the start: 1, before 2
    ∷ story shelf (asks 5 page ∷ called (hold 7 (host_hold 1 2)) ∷ withdrawn 5 ∷ withdrawn 0 ∷ called start ∷ withdrawn 5 ∷ []) ((0 ∷ 0x1100 ∷ []) ∷ (0 ∷ []) ∷ (1 ∷ []) ∷ (1 ∷ []) ∷ (0 ∷ []) ∷ (13 ∷ []) ∷ [])
    ∷ []

pub worked_stories : map (λ s. told s.steps s.state) stories ≡ map (λ s. s.answers) stories
unfolding told stories shelf alone made any_of all_of pairs_of first_of only_of lower least_of same_kind same_dom within same_span same_row overlap meets joins clash require tidy fits fits_span floored good_row good_span begins in_order sound_table insert there entered has_place admit rows_of ◌⊕◌ room unreserved all_unreserved reserve ones_in good_choice one_bit good_want good_request row_at aligned holds free align_up candidates lowest allowed unjoined obstacle detail found unopposed place claims resolve given_at sound_at given sound push_all entering serve run roomy plan_run plan records record_of_grant owned_by holds_grant a_requester withdraw granted
worked_stories = refl

-- A FULL TABLE: Full, until a withdrawal frees a row and, with it, the least number
abbrev irq : State → Answer (List Claim)
irq s = resolve (pools_of s) (owners_of s) (record { requester = 9; slot = 1; want = host_want auto })

pub crowded : (irq crowd ≡ refused full) × (irq (withdraw 6 crowd) ≡ accepted (at_kind host (range_row (dom 0 0 0) 5 6 9) ∷ []))
unfolding crowd irqs made any_of all_of pairs_of first_of only_of lower least_of same_kind same_dom within same_span same_row overlap meets joins clash require tidy fits fits_span floored good_row good_span begins in_order sound_table insert there entered has_place admit rows_of ◌⊕◌ room unreserved all_unreserved reserve ones_in good_choice one_bit good_want good_request row_at aligned holds free align_up candidates lowest allowed unjoined obstacle detail found unopposed place claims resolve given_at sound_at given sound push_all entering serve run roomy plan_run plan records record_of_grant owned_by holds_grant a_requester withdraw granted
crowded = (refl, refl)
