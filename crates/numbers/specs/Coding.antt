-- A call that adds or starts, from plain numbers: what it asks, and how many numbers it needs. Assumes nothing.
use Rattle.std.specs.Prelude.{Bool, true, false, List, [], ◌∷◌, ℕ, leb, get_or}
use Rattle.std.proofs.Math.Option.{Option, none, some}
use Rattle.definition.specs.Base.{all_of}
use Rattle.definition.specs.Tables.{top}
use Rattle.definition.specs.Pools.{mmio_pool, pio_pool, host_pool, input_pool, msi_pool, mmio_hold, pio_hold, host_hold, input_hold, device_hold, event_hold, lpi_hold, pair_hold}
use Rattle.definition.specs.Request.{Use, automatic, fixed}
use Rattle.definition.specs.Calls.{Call, pool, hold, start}

-- ---- numbers that cannot be read

-- which is answered with 1, or else with 2
abbrev pub bad : Option Call
bad = none

-- the fields of a call have so many bits: a number too large for its field makes all of the call bad
abbrev pub below : ℕ → ℕ → Bool
below bits n = leb n (top bits)

unfoldable pub narrow : ℕ → List ℕ → Option Call → Option Call
narrow bits xs call = elim (all_of (below bits) xs) [ true ↦ call | false ↦ bad ]

-- ---- one call from its numbers; kinds are counted from 1, and what stands at 0 is for all numbers that are no kind

-- MMIO, PIO and host IRQs: start, end; inputs: controller, start, end; an MSI domain: controller, ITS, devices, events, LPIs
unfoldable pub pool_in : Use → (kind a b c d e f g h : ℕ) → Option Call
pool_in u kind a b c d e f g h =
    get_or
    (bad
    ∷ some (pool u (mmio_pool a b))
    ∷ narrow 16 (a ∷ b ∷ []) (some (pool u (pio_pool a b)))
    ∷ narrow 32 (a ∷ []) (some (pool u (input_pool a b c)))
    ∷ some (pool u (host_pool a b))
    ∷ narrow 32 (a ∷ b ∷ c ∷ d ∷ []) (narrow 32 (e ∷ f ∷ g ∷ h ∷ []) (some (pool u (msi_pool a b c d e f g h))))
    ∷ [])
    kind bad

-- MMIO, PIO and host IRQs: start, end; an input: controller, input, trigger, sharing; devices: controller, ITS, start, end; events: controller, ITS, device, start, end;
-- LPIs: controller, start, end; a pair: controller, input, trigger, host IRQ
unfoldable pub held_in : ℕ → (kind a b c d e : ℕ) → Option Call
held_in o kind a b c d e =
    get_or
    (bad
    ∷ some (hold o (mmio_hold a b))
    ∷ narrow 16 (a ∷ b ∷ []) (some (hold o (pio_hold a b)))
    ∷ narrow 32 (a ∷ c ∷ d ∷ []) (some (hold o (input_hold a b c d)))
    ∷ some (hold o (host_hold a b))
    ∷ narrow 32 (a ∷ b ∷ c ∷ d ∷ []) (some (hold o (device_hold a b c d)))
    ∷ narrow 32 (a ∷ b ∷ c ∷ d ∷ []) (narrow 32 (e ∷ []) (some (hold o (event_hold a b c d e))))
    ∷ narrow 32 (a ∷ b ∷ c ∷ []) (some (hold o (lpi_hold a b c)))
    ∷ narrow 32 (a ∷ c ∷ []) (some (hold o (pair_hold a b c d)))
    ∷ [])
    kind bad

unfoldable pub hold_in : ℕ → (kind a b c d e : ℕ) → Option Call
hold_in o kind a b c d e = narrow 32 (o ∷ []) (held_in o kind a b c d e)

-- use 0 is the automatic pools, 1 the fixed ones
unfoldable pub used_in : (which kind a b c d e f g h : ℕ) → Option Call
used_in which kind a b c d e f g h = get_or (pool_in automatic kind a b c d e f g h ∷ pool_in fixed kind a b c d e f g h ∷ []) which bad

-- a call that adds or starts: 1 a pool (use, kind, ..), 2 a reservation (owner, kind, ..), 3 start
unfoldable pub adding_in : (first second kind a b c d e f g h : ℕ) → Option Call
adding_in first second kind a b c d e f g h =
    get_or (bad ∷ used_in second kind a b c d e f g h ∷ hold_in second kind a b c d e ∷ some start ∷ []) first bad

-- ---- how many numbers a call needs, the first one among them

unfoldable pub pool_size : ℕ → ℕ
pool_size kind = get_or (3 ∷ 5 ∷ 5 ∷ 6 ∷ 5 ∷ 11 ∷ []) kind 3

unfoldable pub hold_size : ℕ → ℕ
hold_size kind = get_or (3 ∷ 5 ∷ 5 ∷ 7 ∷ 5 ∷ 7 ∷ 8 ∷ 6 ∷ 7 ∷ []) kind 3

unfoldable pub size_in : (first kind : ℕ) → ℕ
size_in first kind = get_or (1 ∷ pool_size kind ∷ hold_size kind ∷ 1 ∷ 13 ∷ 2 ∷ []) first 1
