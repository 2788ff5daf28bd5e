-- The count of ones that the machine gives is the definition's, at every width that holds the number. Assumes nothing.
use mathlib.Core.Path.{◌≡◌, refl, sym, ◌∙◌, ap}
use Prim.Native.Nat.{ℕ, zero, suc, ◌/◌, ◌^◌, ◌<◌}
use native.Mathlib.Nat.{div-add-mod'}
use native.Mathlib.Omega.{arith}
use lib.Count.{ones, ones_in, ones_step}
use lib.Dec.{eqb}
use Rattle.definition.specs.Request.{one_bit}

ones_zero : ones 0 ≡ 0
unfolding ones ones_in
ones_zero = refl

pub ones_is : (w a : ℕ) → a < 2 ^ w → ones_in w a ≡ ones a
unfolding ones_in
ones_is zero a h = let z : a ≡ 0 = omega arith in sym (ap ones z ∙ ones_zero)
ones_is (suc w) a h = rw (ones_is w (a / 2) (half w a h)) (sym (ones_step a))
  where
    half : (w a : ℕ) → a < 2 ^ suc w → a / 2 < 2 ^ w
    half w a h = omega (arith, div-add-mod' a 2)

pub one_bit_is : (w a : ℕ) → a < 2 ^ w → one_bit w a ≡ eqb (ones a) 1
unfolding one_bit
one_bit_is w a h = ap (λ n. eqb n 1) (ones_is w a h)

-- so a number that both widths hold has one bit in both or in neither
pub one_bit_wide : (v w a : ℕ) → a < 2 ^ v → a < 2 ^ w → one_bit v a ≡ one_bit w a
one_bit_wide v w a h k = one_bit_is v a h ∙ sym (one_bit_is w a k)
