-- Demand 2's sentence for MSI: the least device of all, then its least events, then the least LPIs; or Exhausted in the first turn that finds none. Assumes nothing.
use Rattle.std.proofs.Math.Option.{Option}
use Rattle.std.specs.Prelude.{List, ℕ, ◌≤◌, ◌<◌, length, T}
use Rattle.std.proofs.Common.{arith, lt→ltb}
use Rattle.definition.specs.Base.{all_of, bad_input, full, exhausted, Answer, accepted, refused, require, ◌then◌}
use Rattle.definition.proofs.BaseLaws.{and_i, LeastAll, none_at_all, least_of_all}
use Rattle.definition.specs.Tables.{row_limit, device, event, lpi, nature, Row}
use Rattle.definition.specs.Pools.{Holders, Claim, room}
use Rattle.definition.specs.Request.{auto, msi_want, good_request, Need, row_at, free, found, automatic, Pools, place, claims, resolve}
use Rattle.definition.proofs.RequestLaws.{required}
use Rattle.definition.proofs.SearchLaws.{free_says, says_free, lowest_says}
use Rattle.definition.proofs.AutoLaws.{Usable, asks}
use Rattle.definition.proofs.MsiTurnLaws.{device_need, event_need, lpi_need, three_rows}

module _ (P : Pools) (S : Holders) where
  -- b is the least of all usable bases; there is none
  abbrev pub Least : Need → ℕ → Type 0
  Least n b = Usable P S n b × ((c : ℕ) → Usable P S n c → b ≤ c)

  abbrev pub None : Need → Type 0
  None n = (b : ℕ) → Usable P S n b → ⊥

  -- one automatic turn, in any table
  data TurnSays (n : Need) : Answer Row → Type 0 where
    least_run : (b : ℕ) → Least n b → TurnSays n (accepted (row_at n b))
    no_run : None n → TurnSays n (refused (exhausted (nature n.kind).namespace))

  turn_says : (n : Need) → 0 < n.alignment → TurnSays n (place P S n auto)
  unfolding place found
  turn_says n pos = go (lowest_says (P automatic n.kind) (S n.kind) n pos)
    where
      go : {o : Option ℕ} → LeastAll (free (P automatic n.kind) (S n.kind) n) o → TurnSays n (found n o)
      go (none_at_all u) = no_run (λ b f. u b (says_free (P automatic n.kind) (S n.kind) n b f))
      go (least_of_all b t low) = least_run b (free_says (P automatic n.kind) (S n.kind) n b t, λ c f. low c (says_free (P automatic n.kind) (S n.kind) n c f))

  three_free : (rd re rl : Row) → length (S device) < row_limit → length (S event) < row_limit → length (S lpi) < row_limit → T (room S (three_rows rd re rl))
  unfolding room all_of
  three_free rd re rl fd fe fl = search (and_i, lt→ltb)

  -- who asks; controller, ITS, count
  module _ (q k i n : ℕ) where
    abbrev pub LeastDevice : ℕ → Type 0
    LeastDevice d = Least (device_need k i q) d

    abbrev pub LeastEvent : ℕ → ℕ → Type 0  -- for the events of device d
    LeastEvent d e = Least (event_need k i d n q) e

    abbrev pub LeastLpi : ℕ → Type 0
    LeastLpi l = Least (lpi_need k n q) l

    abbrev pub granted_at : ℕ → ℕ → ℕ → List Claim
    granted_at d e l = three_rows (row_at (device_need k i q) d) (row_at (event_need k i d n q) e) (row_at (lpi_need k n q) l)

    pub data MsiSays : Answer (List Claim) → Type 0 where
      all_least : (d e l : ℕ) → LeastDevice d → LeastEvent d e → LeastLpi l → MsiSays (accepted (granted_at d e l))
      no_device : None (device_need k i q) → MsiSays (refused (exhausted 5))
      no_event : (d : ℕ) → LeastDevice d → None (event_need k i d n q) → MsiSays (refused (exhausted 5))
      no_lpi : (d e : ℕ) → LeastDevice d → LeastEvent d e → None (lpi_need k n q) → MsiSays (refused (exhausted 6))

    pub msi_says : (slot : ℕ) → T (good_request (asks P S q slot (msi_want k i n auto auto auto))) → length (S device) < row_limit → length (S event) < row_limit → length (S lpi) < row_limit
        → MsiSays (resolve P S (asks P S q slot (msi_want k i n auto auto auto)))
    unfolding resolve claims row_at
    msi_says slot good fd fe fl =
        rw (required (good_request (asks P S q slot (msi_want k i n auto auto auto))) bad_input (claims P S q (msi_want k i n auto auto auto) then λ cs. require (room S cs) full (accepted cs)) good)
        (first (turn_says (device_need k i q) (omega arith)))
      where
        fitted : Answer (List Claim) → Answer (List Claim)
        fitted a = a then λ cs. require (room S cs) full (accepted cs)

        third : (d e : ℕ) → LeastDevice d → LeastEvent d e → {a : Answer Row} → TurnSays (lpi_need k n q) a
            → MsiSays (fitted (a then λ rl. accepted (three_rows (row_at (device_need k i q) d) (row_at (event_need k i d n q) e) rl)))
        third d e hd he (no_run u) = no_lpi d e hd he u
        third d e hd he (least_run l hl) =
            rw (required (room S (granted_at d e l)) full (accepted (granted_at d e l)) (three_free (row_at (device_need k i q) d) (row_at (event_need k i d n q) e) (row_at (lpi_need k n q) l) fd fe fl))
            (all_least d e l hd he hl)

        second : (d : ℕ) → LeastDevice d → {a : Answer Row} → TurnSays (event_need k i d n q) a
            → MsiSays (fitted (a then λ re. place P S (lpi_need k n q) auto then λ rl. accepted (three_rows (row_at (device_need k i q) d) re rl)))
        second d hd (no_run u) = no_event d hd u
        second d hd (least_run e he) = third d e hd he (turn_says (lpi_need k n q) (omega arith))

        first : {a : Answer Row} → TurnSays (device_need k i q) a
            → MsiSays (fitted (a then λ rd. place P S (event_need k i rd.start n q) auto then λ re. place P S (lpi_need k n q) auto then λ rl. accepted (three_rows rd re rl)))
        first (no_run u) = no_device u
        first (least_run d hd) = second d hd (turn_says (event_need k i d n q) (omega arith))
