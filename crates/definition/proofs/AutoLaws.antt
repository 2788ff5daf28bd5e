-- Demand 2's sentence on automatic search: on tables with a row free a good automatic request gets the least aligned base of all whose range lies inside
-- one pool range and meets no owner, and Exhausted exactly when no such base exists. Assumes nothing.
use Rattle.std.specs.Prelude.{◌≡◌, ◌&&◌, List, [], ◌∷◌, ℕ, ◌≤◌, ◌<◌, length, ltb}
use Rattle.std.proofs.Math.Path.{refl}
use Rattle.std.proofs.Math.Bool.{true}
use Rattle.std.proofs.Math.Option.{Option}
use Rattle.std.proofs.Common.{arith}
use Rattle.std.proofs.Math.Dec.{T, lt→ltb}
use Rattle.definition.specs.Base.{all_of, bad_input, full, exhausted, Answer, accepted, refused, require, ◌then◌}
use Rattle.definition.proofs.BaseLaws.{and_l, and_r, and_i, LeastAll, none_at_all, least_of_all}
use Rattle.definition.specs.Tables.{row_limit, dom, mmio, pio, input, host, nature}
use Rattle.definition.specs.Pools.{at_kind, Holders, Claim, room}
use Rattle.definition.specs.Request.{auto, Want, mmio_want, pio_want, input_want, host_want, Request, one_bit, good_want, good_request, Need, row_at, free, found, automatic, Pools, place, need, input_need, one, claims, resolve}
use Rattle.definition.proofs.RequestLaws.{required, one_bit_pos}
use Rattle.definition.proofs.SearchLaws.{IsFree, free_says, says_free, lowest_says}

module _ (P : Pools) (S : Holders) (n : Need) where
  -- b is aligned, its range lies inside one pool range of the domain, and meets no owner row of the domain
  abbrev pub Usable : ℕ → Type 0
  Usable b = IsFree (P automatic n.kind) (S n.kind) n b

  -- the least of all, or Exhausted and none at all
  pub data AutoSays : Answer (List Claim) → Type 0 where
    least_base : (b : ℕ) → Usable b → ((c : ℕ) → Usable c → b ≤ c) → AutoSays (accepted (at_kind n.kind (row_at n b) ∷ []))
    no_base : ((b : ℕ) → Usable b → ⊥) → AutoSays (refused (exhausted (nature n.kind).namespace))

  -- one run of numbers in any table: addresses, inputs, host IRQs, and each of MSI's three
  pub place_says : 0 < n.alignment → AutoSays (one P S n auto)
  unfolding place found
  place_says pos = go (lowest_says (P automatic n.kind) (S n.kind) n pos)
    where
      go : {o : Option ℕ} → LeastAll (free (P automatic n.kind) (S n.kind) n) o → AutoSays (found n o then λ r. accepted (at_kind n.kind r ∷ []))
      go (none_at_all u) = no_base (λ b f. u b (says_free (P automatic n.kind) (S n.kind) n b f))
      go (least_of_all b t low) =
          least_base b (free_says (P automatic n.kind) (S n.kind) n b t) (λ c f. low c (says_free (P automatic n.kind) (S n.kind) n c f))

  with_room_is : length (S n.kind) < row_limit → {a : Answer (List Claim)} → AutoSays a → AutoSays (a then λ cs. require (room S cs) full (accepted cs))
  unfolding room all_of
  with_room_is few (no_base u) = no_base u
  with_room_is few (least_base b f low) =
      let t : T (ltb (length (S n.kind)) row_limit) = lt→ltb (length (S n.kind)) row_limit few in
      rw (required (ltb (length (S n.kind)) row_limit && true) full (accepted (at_kind n.kind (row_at n b) ∷ [])) (and_i (ltb (length (S n.kind)) row_limit) true t tt)) (least_base b f low)

  -- a request of this one need
  resolve_says : (r : Request) → T (good_request r) → 0 < n.alignment → length (S n.kind) < row_limit → claims P S r.requester r.want ≡ one P S n auto → AutoSays (resolve P S r)
  unfolding resolve
  resolve_says r good pos few is =
      rw (required (good_request r) bad_input (claims P S r.requester r.want then λ cs. require (room S cs) full (accepted cs)) good, is) (with_room_is few (place_says pos))

module _ (P : Pools) (S : Holders) (q l : ℕ) where
  abbrev pub asks : Want → Request
  asks w = record { requester = q; slot = l; want = w }

  pub mmio_says : (s a : ℕ) → T (good_request (asks (mmio_want s a auto))) → length (S mmio) < row_limit → AutoSays P S (need mmio (dom 0 0 0) s a q) (resolve P S (asks (mmio_want s a auto)))
  unfolding claims good_request good_want
  mmio_says s a good few =
      let b : T (one_bit 64 a) = search (and_l, and_r) depth 10 in
      resolve_says P S (need mmio (dom 0 0 0) s a q) (asks (mmio_want s a auto)) good (one_bit_pos 64 a b) few refl

  pub pio_says : (s a : ℕ) → T (good_request (asks (pio_want s a auto))) → length (S pio) < row_limit → AutoSays P S (need pio (dom 0 0 0) s a q) (resolve P S (asks (pio_want s a auto)))
  unfolding claims good_request good_want
  pio_says s a good few =
      let b : T (one_bit 16 a) = search (and_l, and_r) depth 10 in
      resolve_says P S (need pio (dom 0 0 0) s a q) (asks (pio_want s a auto)) good (one_bit_pos 16 a b) few refl

  pub input_says : (k t h : ℕ) → T (good_request (asks (input_want k t h auto))) → length (S input) < row_limit → AutoSays P S (input_need k t h q) (resolve P S (asks (input_want k t h auto)))
  unfolding claims
  input_says k t h good few = resolve_says P S (input_need k t h q) (asks (input_want k t h auto)) good (omega arith) few refl

  pub host_says : T (good_request (asks (host_want auto))) → length (S host) < row_limit → AutoSays P S (need host (dom 0 0 0) 1 1 q) (resolve P S (asks (host_want auto)))
  unfolding claims
  host_says good few = resolve_says P S (need host (dom 0 0 0) 1 1 q) (asks (host_want auto)) good (omega arith) few refl
