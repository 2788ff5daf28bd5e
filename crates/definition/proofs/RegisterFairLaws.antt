-- What a device's registers are answered: automatic requests for memory and ports, or a refusal that names nothing but its number. Assumes nothing.
use Rattle.std.specs.Prelude.{◌≡◌, Bool, ◌&&◌, List, [], ◌∷◌, ◌++◌, ℕ, suc, ◌^◌, ◌-◌, leb, ltb, length}
use Rattle.std.proofs.Math.Path.{refl}
use Rattle.std.proofs.Math.Bool.{true, false}
use Rattle.std.proofs.Math.Option.{Option, none, some}
use Rattle.definition.specs.Base.{Refusal, bad_input, short, bad_mask, ports_too_large, says, tell, Answer, accepted, refused, require, all_of, ◌then◌}
use Rattle.definition.specs.Tables.{top}
use Rattle.definition.specs.Request.{auto, Want, mmio_want, pio_want, Request}
use Rattle.definition.specs.Registers.{Register, nothing, ports, memory, pair, unknown, register_of, port_mask, memory_mask, pair_mask, good_mask, size_of, memory_want, ports_want, asked, ◌also◌, requests_at, asked_at, takes_next, asked_from, registers}

-- each asks for memory or ports, and leaves the place open
pub data Ranges : List Request → Type 0 where
  end : Ranges []
  mmio : {q slot size a : ℕ} {rs : List Request} → Ranges rs → Ranges (record { requester = q; slot = slot; want = mmio_want size a auto } ∷ rs)
  pio : {q slot size a : ℕ} {rs : List Request} → Ranges rs → Ranges (record { requester = q; slot = slot; want = pio_want size a auto } ∷ rs)

-- namespace, owner and detail are 0
abbrev pub Bare : Refusal → Type 0
Bare x = tell 0 x ≡ says 0 (tell 0 x).number 0 0 0

abbrev pub Fair : Answer (List Request) → Type 0
Fair (accepted rs) = Ranges rs
Fair (refused x) = Bare x

-- ---- one after the other

both : {xs ys : List Request} → Ranges xs → Ranges ys → Ranges (xs ++ ys)
both end r = r
both (mmio l) r = mmio (both l r)
both (pio l) r = pio (both l r)

also_fair : (a b : Answer (List Request)) → Fair a → Fair b → Fair (a also b)
also_fair (accepted xs) (accepted ys) f g = both f g
also_fair (accepted xs) (refused y) f g = g
also_fair (refused x) b f g = f

require_fair : (t : Bool) (x : Refusal) (a : Answer (List Request)) → Bare x → Fair a → Fair (require t x a)
unfolding require
require_fair true x a f g = g
require_fair false x a f g = f

-- ---- one register

module _ (q i : ℕ) where
  abbrev given : Answer (List Want) → Answer (List Request)
  given a = a then λ ws. accepted (requests_at q i ws)

  ports_fair : (size : ℕ) → Fair (given (ports_want size))
  unfolding require
  ports_fair size = go (leb size (top 16))
    where
      go : (t : Bool) → Fair (given (require t ports_too_large (accepted (pio_want size size auto ∷ []))))
      go true = pio end
      go false = refl

  mask_fair : (width m : ℕ) (f : ℕ → Answer (List Want)) → ((size : ℕ) → Fair (given (f size))) → Fair (given (size_of width m then f))
  unfolding size_of require
  mask_fair width m f h = go (good_mask width m)
    where
      go : (t : Bool) → Fair (given (require t bad_mask (accepted (2 ^ width - m)) then f))
      go true = h (2 ^ width - m)
      go false = refl

  asked_fair : (kind : Register) (w : ℕ) (next : Option ℕ) → Fair (given (asked kind w next))
  unfolding asked
  asked_fair nothing w next = end
  asked_fair ports w next = mask_fair 32 (port_mask w) ports_want ports_fair
  asked_fair memory w next = mask_fair 32 (memory_mask w) memory_want (λ size. mmio end)
  asked_fair pair w none = refl
  asked_fair pair w (some high) = mask_fair 64 (pair_mask w high) memory_want (λ size. mmio end)
  asked_fair unknown w next = refl

  at_fair : (w : ℕ) (next : Option ℕ) → Fair (asked_at q i w next)
  unfolding asked_at
  at_fair w next = asked_fair (register_of w) w next

-- ---- all of them

from_fair : (q i : ℕ) (ws : List ℕ) → Fair (asked_from q i ws)
unfolding asked_from
from_fair q i [] = end
from_fair q i (w ∷ []) = at_fair q i w none
from_fair q i (w ∷ next ∷ ws) = go (takes_next (register_of w)) (from_fair q (suc (suc i)) ws) (from_fair q (suc i) (next ∷ ws))
  where
    go : (t : Bool) → Fair (asked_from q (suc (suc i)) ws) → Fair (asked_from q (suc i) (next ∷ ws))
        → Fair (asked_at q i w (some next) also elim t [ true ↦ asked_from q (suc (suc i)) ws | false ↦ asked_from q (suc i) (next ∷ ws) ])
    go true f g = also_fair (asked_at q i w (some next)) (asked_from q (suc (suc i)) ws) (at_fair q i w (some next)) f
    go false f g = also_fair (asked_at q i w (some next)) (asked_from q (suc i) (next ∷ ws)) (at_fair q i w (some next)) g

-- THE THEOREM
pub registers_fair : (q : ℕ) (ws : List ℕ) (most : ℕ) → Fair (registers q ws most)
unfolding registers
registers_fair q ws most =
    require_fair (ltb 0 q && leb q (top 32)) bad_input _ refl
    (require_fair (all_of (λ w. leb w (top 32)) ws) bad_input _ refl (room (asked_from q 0 ws) (from_fair q 0 ws)))
  where
    room : (a : Answer (List Request)) → Fair a → Fair (a then λ rs. require (leb (length rs) most) short (accepted rs))
    room (accepted rs) f = require_fair (leb (length rs) most) short (accepted rs) refl f
    room (refused x) f = f
