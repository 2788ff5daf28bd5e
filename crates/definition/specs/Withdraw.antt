-- Withdrawing: everything granted to one requester goes from all owner tables (C-16). Assumes nothing.
use Rattle.std.specs.Prelude.{Bool, not, ◌&&◌, List, ◌++◌, ℕ, leb, ltb, eqb, drop}
use Rattle.definition.specs.Base.{any_of, only_of, malformed, bad_input, not_found, silence, accepted, require}
use Rattle.definition.specs.Tables.{row_limit, top, Kind, kinds, Row, blank_row}
use Rattle.definition.specs.Calls.{State, state, held_of, owners_of, sound, filled, settle}

abbrev pub granted_in : State → Kind → List Row  -- the granted rows: those behind as many as the reservation table has
granted_in s k = drop (s.held k).count (owners_of s k)

unfoldable pub owned_by : ℕ → Row → Bool
owned_by q r = eqb r.owner q

unfoldable pub holds_grant : ℕ → State → Kind → Bool  -- the requester has a granted row of this kind
holds_grant q s k = any_of (owned_by q) (granted_in s k)

abbrev pub without : ℕ → State → Kind → List Row  -- its rows go, the other rows keep their order; reservations stay even if their owner has the same number
without q s k = held_of s k ++ only_of (λ r. not (owned_by q r)) (granted_in s k)

abbrev pub withdrawing : ℕ → State → State
withdrawing q s = state s.pools s.held (λ k. filled row_limit (blank_row k) (without q s k)) silence

unfoldable pub a_requester : ℕ → Bool  -- 0 is nobody, and a requester has 32 bits
a_requester q = ltb 0 q && leb q (top 32)

unfoldable pub withdraw : ℕ → State → State  -- 1, 2, 13
withdraw q s =
    settle s
    (require (sound kinds s) malformed
    (require (a_requester q) bad_input
    (require (any_of (holds_grant q s) kinds) not_found
    (accepted (withdrawing q s)))))
