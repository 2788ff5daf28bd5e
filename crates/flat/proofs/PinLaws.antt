-- Writing back: what stays, and one request more. Assumes nothing.
use mathlib.Core.Path.{◌≡◌, refl, sym, ap, ◌∙◌}
use mathlib.Core.Bool.{Bool, true, false, not, ◌&&◌}
use mathlib.Core.List.{List}
use Prim.Native.Nat.{ℕ, zero, suc, ◌+◌, ◌-◌, ◌*◌, ◌≤◌, ◌<◌}
use native.Mathlib.Omega.{arith}
use lib.Dec.{eqb}
use borrow.Author.Tests.{ne_eqb}
use lib.ListN.{length, get_or, set, length-set}
use Rattle.definition.specs.Tables.{record_size}
use Rattle.flat.specs.Flat.{request_size, Form, unknown, mmio, pio, input, host, msi, form_at, number_at, request_at}
use Rattle.flat.specs.Pin.{if_auto, pin_choice_at, pin_form, granted_at, pin_choices, tells_of, own_record, pin_one, pin_from}

-- ---- one choice

pub pin_choice_length : (p g : ℕ) (rq : List ℕ) → length (pin_choice_at p g rq) ≡ length rq
unfolding pin_choice_at
pin_choice_length p g rq = go (get_or rq p 0)
  where
    go : (code : ℕ) → length (if_auto code (set (set rq p 1) (p + 1) g) rq) ≡ length rq
    go zero = length-set (set rq p 1) (p + 1) g ∙ length-set rq p 1
    go (suc code) = refl

-- ---- a request's choices

form_length : (f : Form) (g : ℕ → ℕ) (p : ℕ) (rq : List ℕ) → length (pin_form f g p rq) ≡ length rq
form_length unknown g p rq = refl
form_length mmio g p rq = pin_choice_length (p + 6) (g 3) rq
form_length pio g p rq = pin_choice_length (p + 6) (g 3) rq
form_length input g p rq = pin_choice_length (p + 6) (g 4) rq
form_length host g p rq = pin_choice_length (p + 6) (g 3) rq
form_length msi g p rq =
    pin_choice_length (p + 10) (g 7) (pin_choice_at (p + 8) (g 6) (pin_choice_at (p + 6) (g 5) rq)) ∙ pin_choice_length (p + 8) (g 6) (pin_choice_at (p + 6) (g 5) rq)
    ∙ pin_choice_length (p + 6) (g 5) rq

choices_length : (res : List ℕ) (i : ℕ) (rq : List ℕ) → length (pin_choices res i rq) ≡ length rq
unfolding pin_choices
choices_length res i rq = form_length (form_at (number_at rq i 0)) (granted_at res i) (request_size * i) rq

-- ---- whether a record is the request's own

-- q and s are the request's requester and slot, as it is read
module _ (res : List ℕ) (i : ℕ) (rq : List ℕ) (q s : ℕ) (q-is : q ≡ (request_at rq i).requester) (s-is : s ≡ (request_at rq i).slot) where
  abbrev h : ℕ → ℕ
  h = granted_at res i

  abbrev h₀ : ℕ
  h₀ = get_or res (record_size * i) 0

  abbrev k : ℕ
  k = get_or rq (request_size * i) 0

  abbrev told : Bool → Bool → Bool → Bool → Bool
  told nobody kind requester slot = not nobody && (kind && (requester && slot))

  own_is : own_record res i rq ≡ told (eqb q 0) (eqb h₀ k) (eqb (h 1) q) (eqb (h 2) s)
  unfolding own_record tells_of
  own_is =
      let a : record_size * i + 0 ≡ record_size * i = omega arith in
      let b : request_size * i + 0 ≡ request_size * i = omega arith in
      λ t. told (eqb (sym q-is t) 0) (eqb (get_or res (a t) 0) (get_or rq (b t) 0)) (eqb (h 1) (sym q-is t)) (eqb (h 2) (sym s-is t))

  pub other_kind_is : (q ≡ 0 → ⊥) → (h₀ ≡ k → ⊥) → false ≡ own_record res i rq
  other_kind_is z n = sym (own_is ∙ (λ t. told (ne_eqb q 0 z t) (ne_eqb h₀ k n t) (eqb (h 1) q) (eqb (h 2) s)))

module _ (res : List ℕ) (i : ℕ) (rq : List ℕ) where
  pub one_own : own_record res i rq ≡ true → pin_choices res i rq ≡ pin_one res i rq
  unfolding pin_one
  one_own e = rw (e, pin_one)

  pub one_length : length (pin_one res i rq) ≡ length rq
  unfolding pin_one
  one_length = go (own_record res i rq)
    where
      go : (b : Bool) → length {A = ℕ} (elim b as (λ _. List ℕ) [ true ↦ pin_choices res i rq | false ↦ rq ]) ≡ length rq
      go true = choices_length res i rq
      go false = refl

-- ---- the loop

pub from_left : (res : List ℕ) (i n : ℕ) (rq : List ℕ) → i < n → pin_from res i (n - i) rq ≡ pin_from res (i + 1) (n - (i + 1)) (pin_one res i rq)
unfolding pin_from
from_left res i n rq l =
    let e : n - i ≡ suc (n - (i + 1)) = omega arith in
    let z : suc i ≡ i + 1 = omega arith in
    ap (λ (k : ℕ). pin_from res i k rq) e ∙ ap (λ (h : ℕ). pin_from res h (n - (i + 1)) (pin_one res i rq)) z

pub from_end : (res : List ℕ) (i n : ℕ) (rq : List ℕ) → n ≤ i → pin_from res i (n - i) rq ≡ rq
unfolding pin_from
from_end res i n rq l = let e : n - i ≡ 0 = omega arith in ap (λ (k : ℕ). pin_from res i k rq) e

pub from_start : (res : List ℕ) (n : ℕ) (rq : List ℕ) → pin_from res 0 (n - 0) rq ≡ pin_from res 0 n rq
from_start res n rq = let e : n - 0 ≡ n = omega arith in ap (λ (k : ℕ). pin_from res 0 k rq) e
