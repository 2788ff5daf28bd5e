-- The next multiple of a from v on, where v is none. Assumes nothing.
use mathlib.Core.Path.{◌≡◌, ◌∙◌}
use Prim.Native.Nat.{ℕ, ◌+◌, ◌-◌, ◌*◌, ◌/◌, ◌%◌, ◌<◌, ◌≤◌}
use native.Mathlib.Decide.{dec_lt}
use native.Mathlib.Nat.{div-add-mod', mul-le-mul_right, mul-add-mod_self_right, mod_self, mod-lt, suc-mul}
use native.Mathlib.Omega.{arith}

module _ (v a : ℕ) (pos : 0 < a) where
  -- v + (a - v % a) is one multiple past the last one at or below v
  next_is : v + (a - v % a) ≡ v / a * a + a
  next_is = omega (arith, div-add-mod' v a, mod-lt v pos)

  pub next_aligned : (v + (a - v % a)) % a ≡ 0
  next_aligned = rw next_is (mul-add-mod_self_right (v / a) a a ∙ mod_self a)

  -- no multiple stands between a v that is none and the next
  pub next_least : (0 < v % a) → (x : ℕ) → v ≤ x → x % a ≡ 0 → v + (a - v % a) ≤ x
  next_least o x h e =
      elim (dec_lt (v / a) (x / a)) [
        | yes q ↦ omega (arith, next_is, div-add-mod' x a, suc-mul (v / a) a, mul-le-mul_right a q)
        | no q ↦ let l : x / a ≤ v / a = omega arith in absurd (omega (arith, div-add-mod' x a, div-add-mod' v a, mul-le-mul_right a l))
      ]
