-- 01's stand cases P1 to P10, as one table under one claim: pools and holds through the calls, a start, then the requests as a plan. Beside them what C-12 has said to pools and holds. Assumes nothing.
use Rattle.std.specs.Prelude.{◌≡◌, refl, List, [], ◌∷◌, map, ℕ, ◌-◌, ◌^◌, replicate}
use Rattle.std.specs.Int.Count.{ones_in}
use Rattle.definition.specs.Base.{any_of, all_of, pairs_of, first_of, lower, least_of, tell, require}
use Rattle.definition.specs.Tables.{kinds, same_kind, same_dom, within, same_span, same_row, overlap, meets, joins, clash, tidy, fits, fits_span, floored, good_row, good_span, begins, in_order, sound_table}
use Rattle.definition.specs.Pools.{mmio_pool, pio_pool, host_pool, input_pool, msi_pool, insert, there, entered, has_place, admit, rows_of, ◌⊕◌, room, mmio_hold, host_hold, input_hold, event_hold, lpi_hold, unreserved, all_unreserved, reserve}
use Rattle.definition.specs.Request.{auto, at, Want, mmio_want, pio_want, input_want, host_want, msi_want, Request, good_choice, one_bit, good_want, good_request, row_at, aligned, holds, free, align_up, candidates, lowest, allowed, unjoined, obstacle, detail, found, unopposed, automatic, fixed, place, claims, resolve}
use Rattle.definition.specs.Calls.{State, fresh, given_at, sound_at, given, sound, push_all, entering, Call, pool, hold, start, serve}
use Rattle.definition.specs.Plan.{Run, done, stopped, run, roomy, plan_run}

-- the pools and the holds, the requests, and for each request answered the numbers granted behind a 0, or those of the refusal
pub record Case : Type 0 where
  pub calls : List Call
  pub wants : List Want
  pub answers : List (List ℕ)

abbrev case : List Call → List Want → List (List ℕ) → Case
case calls wants answers = record { calls = calls; wants = wants; answers = answers }

unfoldable made : List Call → State → State
made [] s = s
made (c ∷ cs) s = made cs (serve kinds c s)

-- number, namespace, owner, detail
unfoldable shown : Run → List (List ℕ)
shown (done []) = []
shown (done (g ∷ gs)) = (0 ∷ map (λ claim. claim.row.start) g.rows) ∷ shown (done gs)
shown (stopped [] x) = ((tell 0 x).number ∷ (tell 0 x).namespace ∷ (tell 0 x).owner ∷ (tell 0 x).detail ∷ []) ∷ []
shown (stopped (g ∷ gs) x) = (0 ∷ map (λ claim. claim.row.start) g.rows) ∷ shown (stopped gs x)

abbrev asking : Want → Request
asking w = record { requester = 3; slot = 1; want = w }

pub outcome : Case → List (List ℕ)
unfolding made shown
outcome stand = shown (plan_run (map asking stand.wants) (serve kinds start (made stand.calls fresh)) (replicate 18 0))

abbrev two64 : ℕ
two64 = 2 ^ 64

abbrev held32 : List Call → List Call
held32 cs = hold 7 (input_hold 0 32 0 1) ∷ cs

abbrev msi9 : List Call → List Call
msi9 cs = pool automatic (msi_pool 0 0 8 10 0 4 8192 8200) ∷ cs

pub cases : List Case
cases =
    -- P1
    case (pool automatic (mmio_pool 0x1000 0x3000) ∷ hold 7 (mmio_hold 0x1000 0x2000) ∷ []) (mmio_want 0x100 0x100 auto ∷ []) ((0 ∷ 0x2000 ∷ []) ∷ [])
    -- P2
    ∷ case (pool automatic (mmio_pool 0x1000 0x2000) ∷ pool automatic (mmio_pool 0x2000 0x3000) ∷ []) (mmio_want 0x1800 0x1000 auto ∷ []) ((7 ∷ 1 ∷ 0 ∷ 0 ∷ []) ∷ [])
    -- P3
    ∷ case (pool fixed (mmio_pool 0 0x8000) ∷ hold 9 (mmio_hold 0x3000 0x4000) ∷ hold 4 (mmio_hold 0x1000 0x2000) ∷ []) (mmio_want 0x3000 0x1000 (at 0x1000) ∷ []) ((8 ∷ 1 ∷ 9 ∷ 1 ∷ []) ∷ [])
    -- P4
    ∷ case (pool automatic (host_pool 40 42) ∷ hold 7 (host_hold 40 41) ∷ []) (host_want auto ∷ host_want auto ∷ []) ((0 ∷ 41 ∷ []) ∷ (7 ∷ 4 ∷ 0 ∷ 0 ∷ []) ∷ [])
    -- P5
    ∷ case (pool automatic (mmio_pool (two64 - 4096) (two64 - 1)) ∷ []) (mmio_want 4095 4096 auto ∷ []) ((0 ∷ (two64 - 4096) ∷ []) ∷ [])
    ∷ case (pool automatic (mmio_pool (two64 - 4096) (two64 - 1)) ∷ []) (mmio_want 4096 4096 auto ∷ []) ((7 ∷ 1 ∷ 0 ∷ 0 ∷ []) ∷ [])
    ∷ case (pool automatic (mmio_pool (two64 - 4096) (two64 - 1)) ∷ []) (mmio_want 4095 8192 auto ∷ []) ((7 ∷ 1 ∷ 0 ∷ 0 ∷ []) ∷ [])
    -- P6
    ∷ case (pool fixed (pio_pool 0xFFF0 0xFFFF) ∷ []) (pio_want 1 1 (at 0xFFFE) ∷ []) ((0 ∷ 0xFFFE ∷ []) ∷ [])
    ∷ case (pool fixed (pio_pool 0xFFF0 0xFFFF) ∷ []) (pio_want 1 1 (at 0xFFFF) ∷ []) ((6 ∷ 2 ∷ 0 ∷ 0 ∷ []) ∷ [])
    -- P7
    ∷ case (pool automatic (input_pool 0 32 34) ∷ held32 []) (input_want 0 0 1 auto ∷ []) ((0 ∷ 33 ∷ []) ∷ [])
    -- P8
    ∷ case (pool fixed (input_pool 0 32 33) ∷ held32 []) (input_want 0 1 0 (at 32) ∷ []) ((8 ∷ 3 ∷ 7 ∷ 2 ∷ []) ∷ [])
    ∷ case (pool fixed (input_pool 0 32 33) ∷ held32 []) (input_want 0 0 0 (at 32) ∷ []) ((8 ∷ 3 ∷ 7 ∷ 3 ∷ []) ∷ [])
    -- P9
    ∷ case (msi9 (hold 7 (event_hold 0 0 8 0 4) ∷ [])) (msi_want 0 0 1 auto auto auto ∷ []) ((7 ∷ 5 ∷ 0 ∷ 0 ∷ []) ∷ [])
    -- C-12: a fixed LPI below 8192 lies in no pool
    ∷ case (pool fixed (msi_pool 0 0 8 10 0 4 8192 8200) ∷ []) (msi_want 0 0 1 (at 8) (at 0) (at 8191) ∷ []) ((6 ∷ 6 ∷ 0 ∷ 0 ∷ []) ∷ [])
    -- P10
    ∷ case (msi9 []) (msi_want 0 0 2 auto auto auto ∷ msi_want 0 0 2 auto auto auto ∷ []) ((0 ∷ 8 ∷ 0 ∷ 8192 ∷ []) ∷ (0 ∷ 9 ∷ 0 ∷ 8194 ∷ []) ∷ [])
    ∷ []

pub stand_cases : map outcome cases ≡ map (λ stand. stand.answers) cases
unfolding cases outcome any_of all_of pairs_of first_of lower least_of same_kind same_dom within same_span same_row overlap meets joins clash require tidy fits fits_span floored good_row good_span begins in_order sound_table insert there entered has_place admit rows_of ◌⊕◌ room unreserved all_unreserved reserve ones_in good_choice one_bit good_want good_request row_at aligned holds free align_up candidates lowest allowed unjoined obstacle detail found unopposed place claims resolve given_at sound_at given sound push_all entering serve run roomy plan_run made shown
stand_cases = refl

-- ---- C-12: what is said to a call, after others

pub record Told : Type 0 where
  pub before : List Call
  pub call : Call
  pub number : ℕ

abbrev told : List Call → Call → ℕ → Told
told before call number = record { before = before; call = call; number = number }

-- a domain with these LPIs
abbrev lpis : ℕ → ℕ → Call
lpis s e = pool automatic (msi_pool 0 0 0 1 0 1 s e)

abbrev hold_lpis : ℕ → ℕ → Call
hold_lpis s e = hold 1 (lpi_hold 0 s e)

pub calls : List Told
calls =
    -- the start decides, wherever the range ends
    told [] (lpis 0 1) 12
    ∷ told [] (lpis 8191 8193) 12
    ∷ told [] (lpis 8192 8193) 0
    ∷ told [] (pool fixed (msi_pool 3 2 0 1 0 1 8191 9000)) 12
    ∷ told [] (hold_lpis 0 1) 12
    ∷ told [] (hold_lpis 8191 8193) 12
    ∷ told [] (hold_lpis 8192 8193) 0
    -- 2, then 4 if any range is empty, then 12
    ∷ told [] (pool automatic (msi_pool 0 0 0 0 0 1 0 (2 ^ 32))) 2
    ∷ told [] (lpis 5 5) 4
    ∷ told [] (lpis 9 5) 4
    ∷ told [] (pool automatic (msi_pool 0 0 0 1 0 0 0 1)) 4
    ∷ told [] (pool automatic (msi_pool 0 0 0 0 0 1 0 1)) 4
    ∷ told [] (pool automatic (msi_pool 0 0 0 1 0 0 8192 8193)) 4
    -- 3, 4, 12, 5
    ∷ told [] (hold 0 (lpi_hold 0 0 1)) 3
    ∷ told [] (hold_lpis 9 5) 4
    ∷ told (hold_lpis 8192 8193 ∷ []) (hold_lpis 8191 8193) 12
    ∷ told (hold_lpis 8192 8193 ∷ []) (hold_lpis 8192 8193) 5
    ∷ []

pub answer : Told → ℕ
unfolding made
answer t = (serve kinds t.call (made t.before fresh)).said.number

pub stand_calls : map answer calls ≡ map (λ t. t.number) calls
unfolding calls answer any_of all_of pairs_of first_of same_kind same_dom within same_span same_row overlap meets joins clash require tidy fits fits_span floored good_row good_span begins in_order sound_table insert there entered has_place admit rows_of room unreserved all_unreserved reserve given_at given push_all entering serve made
stand_calls = refl
