-- An MSI request reads the lists of its three kinds and no others. Assumes nothing.
use mathlib.Core.Path.{◌≡◌, refl, sym, ◌∙◌, ap}
use mathlib.Core.List.{List, [], ◌∷◌}
use Rattle.definition.specs.Base.{all_of, full, Answer, accepted, refused, require, ◌then◌}
use Rattle.definition.specs.Tables.{dom, Kind, device, event, lpi, Row}
use Rattle.definition.specs.Pools.{at_kind, Holders, Claim, room}
use Rattle.definition.specs.Request.{Need, need, Pools, automatic, fixed, place, claims}
use Rattle.definition.specs.Request as R
use Rattle.search.specs.Asks.{need_of}
use Rattle.choose.specs.Ids.{device_choice, event_choice, lpi_choice}
use Rattle.msi.specs.Msi.{Part, device_need, lpi_need, msi_in, msi_pools, msi_holders, asked_msi}
use Rattle.msi.specs.declared.Msi.{Msi}
use Rattle.msi.proofs.ChainLaws.{place_in_is}

-- the used rows of one kind's tables
abbrev pub part_of : Pools → Holders → Kind → Part
part_of P S k = record { auto = P automatic k; fixed = P fixed k; rows = S k }

then_cong : {A B : Type 0} (a : Answer A) (f g : A → Answer B) → ((x : A) → f x ≡ g x) → (a then f) ≡ (a then g)
then_cong (accepted x) f g h = h x
then_cong (refused y) f g h = refl

abbrev three : Row → Row → Row → List Claim
three d e l = at_kind device d ∷ at_kind event e ∷ at_kind lpi l ∷ []

module _ (m : Msi) where
  abbrev last : Pools → Holders → Row → Row → Answer (List Claim)
  last P S d e = place P S (need_of (lpi_need m)) (lpi_choice m.lpi) then λ l. require (room S (three d e l)) full (accepted (three d e l))

  abbrev second : Pools → Holders → Row → Answer (List Claim)
  second P S d = place P S (need event (dom m.controller m.its d.start) m.count 1 m.requester) (event_choice m.event) then last P S d

  flat : Pools → Holders → Answer (List Claim)
  flat P S = place P S (need_of (device_need m)) (device_choice m.device) then second P S

  -- the room test under the three choices
  flatten : (P : Pools) (S : Holders) → (claims P S m.requester (asked_msi m) then λ cs. require (room S cs) full (accepted cs)) ≡ flat P S
  unfolding claims flat
  flatten P S = device (place P S (need_of (device_need m)) (device_choice m.device))
    where
      Room : List Claim → Answer (List Claim)
      Room cs = require (room S cs) full (accepted cs)

      lpis : (d e : Row) (a : Answer Row) → ((a then λ l. accepted (three d e l)) then Room) ≡ (a then λ l. Room (three d e l))
      lpis d e (accepted l) = refl
      lpis d e (refused y) = refl

      events : (d : Row) (a : Answer Row) → ((a then λ e. place P S (need_of (lpi_need m)) (lpi_choice m.lpi) then λ l. accepted (three d e l)) then Room) ≡ (a then last P S d)
      events d (accepted e) = lpis d e (place P S (need_of (lpi_need m)) (lpi_choice m.lpi))
      events d (refused y) = refl

      device : (a : Answer Row) → ((a then λ d. place P S (need event (dom m.controller m.its d.start) m.count 1 m.requester) (event_choice m.event) then λ e. place P S (need_of (lpi_need m)) (lpi_choice m.lpi) then λ l. accepted (three d e l)) then Room) ≡ (a then second P S)
      device (accepted d) = events d (place P S (need event (dom m.controller m.its d.start) m.count 1 m.requester) (event_choice m.event))
      device (refused y) = refl

  -- the lists of the three kinds are all that is read
  pub msi_is : (P : Pools) (S : Holders) → (claims P S m.requester (asked_msi m) then λ cs. require (room S cs) full (accepted cs)) ≡ msi_in (part_of P S device) (part_of P S event) (part_of P S lpi) m
  unfolding flat room all_of
  msi_is P S =
      flatten P S
      ∙ ap (λ a. a then second P S) (same (need_of (device_need m)) (device_choice m.device) refl refl refl)
      ∙ then_cong (place P' S' (need_of (device_need m)) (device_choice m.device)) (second P S) (second P' S') (λ d.
      ap (λ a. a then last P S d) (same (need event (dom m.controller m.its d.start) m.count 1 m.requester) (event_choice m.event) refl refl refl)
      ∙ then_cong (place P' S' (need event (dom m.controller m.its d.start) m.count 1 m.requester) (event_choice m.event)) (last P S d) (last P' S' d) (λ e.
      ap (λ a. a then λ l. require (room S (three d e l)) full (accepted (three d e l))) (same (need_of (lpi_need m)) (lpi_choice m.lpi) refl refl refl)))
      ∙ sym (flatten P' S')
    where
      P' : Pools
      P' = msi_pools (part_of P S device) (part_of P S event) (part_of P S lpi)

      S' : Holders
      S' = msi_holders (part_of P S device) (part_of P S event) (part_of P S lpi)

      same : (n : Need) (c : R.Choice) → P automatic n.kind ≡ P' automatic n.kind → P fixed n.kind ≡ P' fixed n.kind → S n.kind ≡ S' n.kind → place P S n c ≡ place P' S' n c
      same n c p q r = place_in_is P S n c ∙ rw (p, q, r) (sym (place_in_is P' S' n c))
