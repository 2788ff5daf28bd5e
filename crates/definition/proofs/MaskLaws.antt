-- A good mask is the ones from some bit to the top, and nothing else; and how a machine's counts of zeros and its wrapping sum read one: once over the width. Assumes nothing.
use Rattle.std.specs.Prelude.{◌≡◌, refl, ◌⊎◌, ◌&&◌, ℕ, zero, suc, ◌+◌, ◌-◌, ◌/◌, ◌%◌, ◌^◌, ◌≤◌, ◌<◌, T, leb, ltb, eqb}
use Rattle.std.proofs.Common.{subst, ap, inl, inr, arith, pow-suc, mod-eq_of_lt, leb→le, ltb→lt, eqb→eq, le→leb, lt→ltb, pow_pos}
use Rattle.std.specs.Int.Count.{count_leading_zeros, count_trailing_zeros, under, leading_unique}
use Rattle.std.proofs.lemmas.Nat.{leading_length}
use Rattle.std.proofs.Math.Pow.{pow-lt}
use Rattle.definition.proofs.BaseLaws.{and_l, and_r, and_i, t_ext, eq→eqb}
use Rattle.definition.specs.Registers.{bit, topped, good_mask}

-- the ones from bit k to the top, of so many bits
abbrev pub Mask : ℕ → ℕ → Type 0
Mask width m = (k : ℕ) × (k < width) × (m ≡ 2 ^ width - 2 ^ k)

-- ---- `topped`, of one bit more than it looks at
topped_says : (n m : ℕ) → m < 2 ^ suc n → T (topped n m) → (m ≡ 0) ⊎ ((k : ℕ) × (k ≤ n) × (m + 2 ^ k ≡ 2 ^ suc n))
unfolding topped
topped_says zero zero h t = inl refl
topped_says zero (suc m) h t = inr (0, omega arith, omega arith)
topped_says (suc n) m h t =
    go (leb→le (bit 0 m) (bit 1 m) (and_l (leb (bit 0 m) (bit 1 m)) (topped n (m / 2)) t)) (m % 2) refl (topped_says n (m / 2) (omega arith) (and_r (leb (bit 0 m) (bit 1 m)) (topped n (m / 2)) t))
  where
    odd : m % 2 ≡ 1 → m / 2 % 2 ≡ 1 → (k : ℕ) → k ≤ n → m / 2 + 2 ^ k ≡ 2 ^ suc n → (k : ℕ) × (k ≤ suc n) × (m + 2 ^ k ≡ 2 ^ suc (suc n))
    odd e f zero l s = (0, omega arith, omega arith)
    odd e f (suc k) l s = absurd (omega arith)

    go : bit 0 m ≤ bit 1 m → (r : ℕ) → m % 2 ≡ r → (m / 2 ≡ 0) ⊎ ((k : ℕ) × (k ≤ n) × (m / 2 + 2 ^ k ≡ 2 ^ suc n)) → (m ≡ 0) ⊎ ((k : ℕ) × (k ≤ suc n) × (m + 2 ^ k ≡ 2 ^ suc (suc n)))
    go l r e (inl z) = inl (omega arith)
    go l zero e (inr (k, u, s)) = inr (suc k, omega arith, omega arith)
    go l (suc r) e (inr (k, u, s)) = inr (odd (omega arith) (omega arith) k u s)

says_topped : (n m k : ℕ) → k ≤ n → m + 2 ^ k ≡ 2 ^ suc n → T (topped n m)
unfolding topped
says_topped zero m k l s = tt
says_topped (suc n) m zero l s =
    let half : m / 2 + 1 ≡ 2 ^ suc n = omega arith in
    let odd : m / 2 % 2 ≡ 1 = omega arith in
    and_i (leb (bit 0 m) (bit 1 m)) (topped n (m / 2)) (le→leb (bit 0 m) (bit 1 m) (omega arith)) (says_topped n (m / 2) 0 (omega arith) half)
says_topped (suc n) m (suc k) l s = and_i (leb (bit 0 m) (bit 1 m)) (topped n (m / 2)) (le→leb (bit 0 m) (bit 1 m) (omega arith)) (says_topped n (m / 2) k (omega arith) (omega arith))

-- of one bit and more
good_suc : (n m : ℕ) → good_mask (suc n) m ≡ ltb 0 m && topped n m
unfolding good_mask
good_suc n m = let e : suc n - 1 ≡ n = omega arith in ap (λ k. ltb 0 m && topped k m) e

-- the test passes for a mask, and for nothing else
pub good_mask_is : (width m : ℕ) → m < 2 ^ width → T (good_mask width m) → Mask width m
unfolding good_mask
good_mask_is zero m h t = absurd (omega (arith, ltb→lt 0 m (and_l (ltb 0 m) (topped 0 m) t)))
good_mask_is (suc n) m h t =
    let u : T (ltb 0 m && topped n m) = rw (good_suc n m) at t in
    go (ltb→lt 0 m (and_l (ltb 0 m) (topped n m) u)) (topped_says n m h (and_r (ltb 0 m) (topped n m) u))
  where
    go : 0 < m → (m ≡ 0) ⊎ ((k : ℕ) × (k ≤ n) × (m + 2 ^ k ≡ 2 ^ suc n)) → Mask (suc n) m
    go p (inl z) = absurd (omega arith)
    go p (inr (k, l, s)) = (k, omega arith, omega arith)

pub mask_good : (width m : ℕ) → Mask width m → T (good_mask width m)
mask_good zero m (k, l, e) = absurd (omega arith)
mask_good (suc n) m (k, l, e) =
    let p : 2 ^ k < 2 ^ suc n = pow-lt l in
    rw (good_suc n m) (and_i (ltb 0 m) (topped n m) (lt→ltb 0 m (omega arith)) (says_topped n m k (omega arith) (omega arith)))

-- ---- the zeros of a mask: those below it and the inverted one's leading ones make the width
trailing_mask : (n m k : ℕ) → k ≤ n → m + 2 ^ k ≡ 2 ^ suc n → count_trailing_zeros (suc n) m ≡ k
unfolding count_trailing_zeros
trailing_mask n m zero l s = let odd : m % 2 ≡ 1 = omega arith in rw odd
trailing_mask zero m (suc k) l s = absurd (omega arith)
trailing_mask (suc n) m (suc k) l s =
    let even : m % 2 ≡ 0 = omega arith in
    rw even (ap suc (trailing_mask n (m / 2) k (omega arith) (omega arith)))

-- a number that lacks no more to the top than its lowest set bit
trailing_topped : (n m : ℕ) → 0 < m → m < 2 ^ suc n → 2 ^ suc n ≤ m + 2 ^ count_trailing_zeros (suc n) m → T (topped n m)
unfolding topped count_trailing_zeros
trailing_topped zero m p h l = tt
trailing_topped (suc n) m p h l = go (m % 2) refl l (trailing_topped n (m / 2))
  where
    go : (r : ℕ) → m % 2 ≡ r → 2 ^ suc (suc n) ≤ m + 2 ^ under r (count_trailing_zeros (suc n) (m / 2))
        → (0 < m / 2 → m / 2 < 2 ^ suc n → 2 ^ suc n ≤ m / 2 + 2 ^ count_trailing_zeros (suc n) (m / 2) → T (topped n (m / 2))) → T (topped (suc n) m)
    go zero e u below = and_i (leb (bit 0 m) (bit 1 m)) (topped n (m / 2)) (le→leb (bit 0 m) (bit 1 m) (omega arith)) (below (omega arith) (omega arith) (omega (arith, pow-suc 2 (count_trailing_zeros (suc n) (m / 2)))))
    go (suc r) e u below = says_topped (suc n) m 0 (omega arith) (omega arith)

-- THE MACHINE'S TEST: the leading zeros of the inverted number and its trailing ones make the width
pub mask_zeros : (width m : ℕ) → m < 2 ^ width → 0 < m → good_mask width m ≡ eqb (count_leading_zeros width ((2 ^ width - 1) - m) + count_trailing_zeros width m) width
mask_zeros zero m h p = absurd (omega arith)
mask_zeros (suc n) m h p =
    t_ext (good_mask (suc n) m) (eqb (count_leading_zeros (suc n) ((2 ^ suc n - 1) - m) + count_trailing_zeros (suc n) m) (suc n)) (λ t. there (good_mask_is (suc n) m h t)) λ t. back (eqb→eq _ _ t)
  where
    there : Mask (suc n) m → T (eqb (count_leading_zeros (suc n) ((2 ^ suc n - 1) - m) + count_trailing_zeros (suc n) m) (suc n))
    there (k, l, e) =
        let q : 2 ^ k < 2 ^ suc n = pow-lt l in
        let lead : suc n - k ≡ count_leading_zeros (suc n) ((2 ^ suc n - 1) - m) = leading_unique (suc n) ((2 ^ suc n - 1) - m) (suc n - k) k (omega arith) (omega (arith, pow_pos k)) (omega (arith, pow_pos k)) in
        eq→eqb _ (suc n) (omega (arith, trailing_mask n m k (omega arith) (omega arith)))

    back : count_leading_zeros (suc n) ((2 ^ suc n - 1) - m) + count_trailing_zeros (suc n) m ≡ suc n → T (good_mask (suc n) m)
    back e =
        let (k, s, u, v) = leading_length (suc n) ((2 ^ suc n - 1) - m) (omega (arith, pow_pos n)) in
        let same : k ≡ count_trailing_zeros (suc n) m = omega arith in
        let low : (2 ^ suc n - 1) - m < 2 ^ count_trailing_zeros (suc n) m = subst (λ x. (2 ^ suc n - 1) - m < 2 ^ x) same u in
        rw (good_suc n m) (and_i (ltb 0 m) (topped n m) (lt→ltb 0 m p) (trailing_topped n m p h (omega arith)))

-- THE MACHINE'S SIZE: the mask inverted and one added, modulo 2 ^ width, is what it lacks to 2 ^ width
pub size_wraps : (width m : ℕ) → 0 < m → m < 2 ^ width → (((2 ^ width - 1) - m) + 1) % 2 ^ width ≡ 2 ^ width - m
size_wraps width m p h =
    let e : ((2 ^ width - 1) - m) + 1 ≡ 2 ^ width - m = omega arith in
    let l : 2 ^ width - m < 2 ^ width = omega arith in
    rw (e, mod-eq_of_lt l)
