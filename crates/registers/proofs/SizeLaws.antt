-- The size that a mask says, by the code's test of it. Assumes nothing.
use Rattle.std.proofs.Common.{◌≡◌, ℕ, zero, suc, ◌+◌, ◌-◌, ◌*◌, ◌/◌, ◌%◌, ◌^◌, ◌<◌, ◌≤◌, Bool, true, false, T, ltb, eqb, refl, sym, ap, subst, ◌∙◌, ltb→lt, arith, eq-eqb, ne_eqb, eqb→eq, mod-eq_of_lt}
use Rattle.std.specs.Int.Count.{count_leading_zeros, count_trailing_zeros, under, leading_unique}
use Rattle.std.proofs.lemmas.Nat.{pow_pos, div-mul-add, leading_length}
use Rattle.std.proofs.Math.Nat.{suc-mul}
use Rattle.std.proofs.Math.Pow.{pow_mono}
use lib.Pow.{pow-add}
use Rattle.definition.specs.Base.{bad_mask, Answer, accepted, refused, require}
use Rattle.definition.proofs.BaseLaws.{and_l, t_ext, eq→eqb}
use Rattle.definition.specs.Registers.{topped, good_mask, size_of}
use Rattle.definition.proofs.MaskLaws.{mask_zeros}

-- ---- the machine's counts are of 64 bits: a narrower number has so many leading zeros more, and as many trailing ones

leading_wide : (width x : ℕ) → width ≤ 64 → x < 2 ^ width → count_leading_zeros 64 x ≡ (64 - width) + count_leading_zeros width x
leading_wide width x l h = let (k, s, u, v) = leading_length width x h in sym (leading_unique 64 x ((64 - width) + count_leading_zeros width x) k (omega arith) u v)

trailing_wide : (width more m : ℕ) → width ≤ more → 0 < m → m < 2 ^ width → count_trailing_zeros width m ≡ count_trailing_zeros more m
unfolding count_trailing_zeros
trailing_wide zero more m l p h = absurd (omega arith)
trailing_wide (suc width) zero m l p h = absurd (omega arith)
trailing_wide (suc width) (suc more) m l p h = go (m % 2) refl (trailing_wide width more (m / 2) (omega arith))
  where
    go : (r : ℕ) → m % 2 ≡ r → (0 < m / 2 → m / 2 < 2 ^ width → count_trailing_zeros width (m / 2) ≡ count_trailing_zeros more (m / 2))
        → under r (count_trailing_zeros width (m / 2)) ≡ under r (count_trailing_zeros more (m / 2))
    go zero e below = ap suc (below (omega arith) (omega arith))
    go (suc r) e below = refl

eqb_more : (a b c d : ℕ) → a + c ≡ b → d + c ≡ 64 → eqb a d ≡ eqb b 64
eqb_more a b c d e f = t_ext (eqb a d) (eqb b 64) (λ t. eq→eqb b 64 (omega (arith, eqb→eq a d t))) (λ t. eq→eqb a d (omega (arith, eqb→eq b 64 t)))

-- ---- the size, as the code says it: the ones of so many bits, less the mask, and one more
pub ones_of : (width : ℕ) → width ≤ 64 → 18446744073709551615 / 2 ^ (64 - width) ≡ 2 ^ width - 1
ones_of width l =
    let e : 64 ≡ width + (64 - width) = omega arith in
    let p : 2 ^ 64 ≡ 2 ^ width * 2 ^ (64 - width) = ap (λ k. 2 ^ k) e ∙ pow-add 2 width (64 - width) in
    let s : 18446744073709551615 ≡ (2 ^ width - 1) * 2 ^ (64 - width) + (2 ^ (64 - width) - 1) = parts (2 ^ width) (2 ^ (64 - width)) 18446744073709551615 (pow_pos width) (pow_pos (64 - width)) p in
    ap (λ n. n / 2 ^ (64 - width)) s ∙ div-mul-add (2 ^ width - 1) (2 ^ (64 - width)) (2 ^ (64 - width) - 1) (omega (arith, pow_pos (64 - width)))
  where
    parts : (a b n : ℕ) → 0 < a → 0 < b → n + 1 ≡ a * b → n ≡ (a - 1) * b + (b - 1)
    parts zero b n h k e = absurd (omega arith)
    parts (suc a) b n h k e = let z : suc a - 1 ≡ a = omega arith in omega (arith, suc-mul a b, ap (λ x. x * b) z)

pub lacking_is : (width m : ℕ) → width ≤ 64 → 0 < m → m < 2 ^ width → (18446744073709551615 / 2 ^ (64 - width) - m + 1) % 2 ^ 64 ≡ 2 ^ width - m
lacking_is width m l p h =
    let e : 18446744073709551615 / 2 ^ (64 - width) - m + 1 ≡ 2 ^ width - m = omega (arith, ones_of width l) in
    let low : 18446744073709551615 / 2 ^ (64 - width) - m + 1 < 2 ^ 64 = omega (arith, e, pow_mono {i = width} {j = 64} l) in
    mod-eq_of_lt low ∙ e

-- ---- a mask that is one

pub mask_zero : (width m : ℕ) → m ≡ 0 → good_mask width m ≡ false
unfolding good_mask
mask_zero width m e = ap (good_mask width) e

pub mask_pos : (width m : ℕ) → good_mask width m ≡ true → 0 < m
unfolding good_mask
mask_pos width m e = ltb→lt 0 m (and_l (ltb 0 m) (topped (width - 1) m) (subst T (sym e) tt))

module _ (width m : ℕ) where
  abbrev tested : Bool → Answer ℕ
  tested b = require b bad_mask (accepted (2 ^ width - m))

  pub size_none : m ≡ 0 → refused bad_mask ≡ size_of width m
  unfolding size_of require good_mask
  size_none e = rw e refl

  -- .. of a number that is what the mask lacks
  module _ (l : width ≤ 64) (n : m ≡ 0 → ⊥) (h : m < 2 ^ width) (size : ℕ) (is : size ≡ 2 ^ width - m) where
    abbrev lacked : ℕ
    lacked = count_leading_zeros 64 (size - 1) + count_trailing_zeros 64 m

    inverted_is : size - 1 ≡ (2 ^ width - 1) - m
    inverted_is = omega (arith, is)

    good_is : good_mask width m ≡ eqb lacked 64
    good_is =
        let x : ℕ = (2 ^ width - 1) - m in
        let lead : count_leading_zeros 64 (size - 1) ≡ (64 - width) + count_leading_zeros width x = ap (count_leading_zeros 64) inverted_is ∙ leading_wide width x l (omega arith) in
        mask_zeros width m h (omega arith) ∙ eqb_more (count_leading_zeros width x + count_trailing_zeros width m) lacked (64 - width) width (omega (arith, lead, trailing_wide width 64 m l (omega arith) h)) (omega arith)

    pub lacking_bad : (lacked ≡ 64 → ⊥) → refused bad_mask ≡ size_of width m
    unfolding size_of require
    lacking_bad e = sym (ap tested (good_is ∙ ne_eqb lacked 64 e))

    pub lacking_good : lacked ≡ 64 → accepted size ≡ size_of width m
    unfolding size_of require
    lacking_good e = ap accepted is ∙ sym (ap tested (good_is ∙ eq-eqb lacked 64 e))

  -- .. of the mask inverted and one added
  module _ (l : width ≤ 64) (n : m ≡ 0 → ⊥) (h : m < 2 ^ width) where
    abbrev inverted : ℕ
    inverted = 18446744073709551615 / 2 ^ (64 - width) - m

    abbrev zeros : ℕ
    zeros = count_leading_zeros 64 inverted + count_trailing_zeros 64 m

    size_is : (inverted + 1) % 2 ^ 64 ≡ 2 ^ width - m
    size_is = lacking_is width m l (omega arith) h

    zeros_are : lacked l n h ((inverted + 1) % 2 ^ 64) size_is ≡ zeros
    zeros_are = ap (λ (k : ℕ). count_leading_zeros 64 k + count_trailing_zeros 64 m) (omega (arith, size_is, ones_of width l))

    pub size_bad : (zeros ≡ 64 → ⊥) → refused bad_mask ≡ size_of width m
    size_bad e = lacking_bad l n h _ size_is (λ k. e (sym zeros_are ∙ k))

    pub size_good : zeros ≡ 64 → accepted ((inverted + 1) % 2 ^ 64) ≡ size_of width m
    size_good e = lacking_good l n h _ size_is (zeros_are ∙ e)
