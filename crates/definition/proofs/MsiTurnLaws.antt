-- MSI's three turns, automatic or fixed: device, then its events, then LPIs, each with its refusal before the next is looked at, then Full. Assumes nothing.
use Rattle.std.specs.Prelude.{◌≡◌, refl, Bool, true, false, List, [], ◌∷◌, ℕ, T}
use Rattle.definition.specs.Base.{Refusal, bad_input, full, Answer, accepted, refused, require, ◌then◌}
use Rattle.definition.proofs.BaseLaws.{true_T, false_T}
use Rattle.definition.specs.Tables.{dom, device, event, lpi, Row}
use Rattle.definition.specs.Pools.{at_kind, Holders, Claim, room}
use Rattle.definition.specs.Request.{Choice, msi_want, good_request, Need, Pools, place, need, claims, resolve}
use Rattle.definition.proofs.RequestLaws.{required}
use Rattle.definition.proofs.AutoLaws.{asks}

-- what each turn needs, of controller, ITS, count, and who asks; events are those of one device
abbrev pub device_need : ℕ → ℕ → ℕ → Need
device_need k i q = need device (dom k i 0) 1 1 q

abbrev pub event_need : ℕ → ℕ → ℕ → ℕ → ℕ → Need
event_need k i d n q = need event (dom k i d) n 1 q

abbrev pub lpi_need : ℕ → ℕ → ℕ → Need
lpi_need k n q = need lpi (dom k 0 0) n 1 q

abbrev pub three_rows : Row → Row → Row → List Claim
three_rows rd re rl = at_kind device rd ∷ at_kind event re ∷ at_kind lpi rl ∷ []

module _ (P : Pools) (S : Holders) (q k i n : ℕ) (d e l : Choice) where
  abbrev pub DeviceIs : Answer Row → Type 0
  DeviceIs a = place P S (device_need k i q) d ≡ a

  abbrev pub EventIs : Row → Answer Row → Type 0
  EventIs rd a = place P S (event_need k i rd.start n q) e ≡ a

  abbrev pub LpiIs : Answer Row → Type 0
  LpiIs a = place P S (lpi_need k n q) l ≡ a

  pub data MsiTurns : Answer (List Claim) → Type 0 where
    device_refused : (x : Refusal) → DeviceIs (refused x) → MsiTurns (refused x)
    event_refused : (rd : Row) (x : Refusal) → DeviceIs (accepted rd) → EventIs rd (refused x) → MsiTurns (refused x)
    lpi_refused : (rd re : Row) (x : Refusal) → DeviceIs (accepted rd) → EventIs rd (accepted re) → LpiIs (refused x) → MsiTurns (refused x)
    no_row_free : (rd re rl : Row) → DeviceIs (accepted rd) → EventIs rd (accepted re) → LpiIs (accepted rl) → (T (room S (three_rows rd re rl)) → ⊥) → MsiTurns (refused full)
    all_stand : (rd re rl : Row) → DeviceIs (accepted rd) → EventIs rd (accepted re) → LpiIs (accepted rl) → T (room S (three_rows rd re rl)) → MsiTurns (accepted (three_rows rd re rl))

  pub msi_turns : (slot : ℕ) → T (good_request (asks P S q slot (msi_want k i n d e l))) → MsiTurns (resolve P S (asks P S q slot (msi_want k i n d e l)))
  unfolding resolve claims require
  msi_turns slot good =
      rw (required (good_request (asks P S q slot (msi_want k i n d e l))) bad_input (claims P S q (msi_want k i n d e l) then λ cs. require (room S cs) full (accepted cs)) good)
      (first (place P S (device_need k i q) d) refl)
    where
      fitted : Answer (List Claim) → Answer (List Claim)
      fitted a = a then λ cs. require (room S cs) full (accepted cs)

      last : (rd re rl : Row) → DeviceIs (accepted rd) → EventIs rd (accepted re) → LpiIs (accepted rl) → (b : Bool) → room S (three_rows rd re rl) ≡ b → MsiTurns (require b full (accepted (three_rows rd re rl)))
      last rd re rl hd he hl true z = all_stand rd re rl hd he hl (true_T (room S (three_rows rd re rl)) z)
      last rd re rl hd he hl false z = no_row_free rd re rl hd he hl (false_T (room S (three_rows rd re rl)) z)

      third : (rd re : Row) → DeviceIs (accepted rd) → EventIs rd (accepted re) → (a : Answer Row) → LpiIs a → MsiTurns (fitted (a then λ rl. accepted (three_rows rd re rl)))
      third rd re hd he (accepted rl) hl = last rd re rl hd he hl (room S (three_rows rd re rl)) refl
      third rd re hd he (refused x) hl = lpi_refused rd re x hd he hl

      second : (rd : Row) → DeviceIs (accepted rd) → (a : Answer Row) → EventIs rd a
          → MsiTurns (fitted (a then λ re. place P S (lpi_need k n q) l then λ rl. accepted (three_rows rd re rl)))
      second rd hd (accepted re) he = third rd re hd he (place P S (lpi_need k n q) l) refl
      second rd hd (refused x) he = event_refused rd x hd he

      first : (a : Answer Row) → DeviceIs a
          → MsiTurns (fitted (a then λ rd. place P S (event_need k i rd.start n q) e then λ re. place P S (lpi_need k n q) l then λ rl. accepted (three_rows rd re rl)))
      first (accepted rd) hd = second rd hd (place P S (event_need k i rd.start n q) e) refl
      first (refused x) hd = device_refused x hd
