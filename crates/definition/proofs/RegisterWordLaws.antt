-- Every size that there may be has its words, and is read from them. Assumes nothing.
use Rattle.std.specs.Prelude.{◌≡◌, refl, ◌⊎◌, Bool, true, false, [], ◌∷◌, ℕ, ◌+◌, ◌-◌, ◌*◌, ◌/◌, ◌%◌, ◌^◌, ◌≤◌, ◌<◌, leb, eqb}
use Rattle.std.proofs.Common.{sym, ap, ap₂, subst, ◌∙◌, inl, inr, arith, mod-lt, div-add-mod', eqb→eq, le→leb, pow_pos, pow_mono, pow-add}
use Rattle.std.proofs.Math.Option.{Option, some}
use Rattle.std.proofs.Math.Nat.{mul-sub, mul-mod_right}
use Rattle.std.proofs.Math.Arith.{digits_mod}
use Rattle.std.proofs.Math.Pow.{pow-lt, field, mod-mod-pow, split}
use Rattle.definition.specs.Base.{ports_too_large, accepted}
use Rattle.definition.proofs.BaseLaws.{T_true, T_false, eq→eqb}
use Rattle.definition.specs.Tables.{top}
use Rattle.definition.specs.Request.{auto, Want, mmio_want, pio_want}
use Rattle.definition.specs.Registers.{bit, cleared, nothing, ports, memory_of, register_of, upper_ones, port_mask, asked}
use Rattle.definition.proofs.RequestLaws.{required}
use Rattle.definition.proofs.RegisterLaws.{size_reads}

-- ---- what a word says

pub register_by : (w : ℕ) (empty odd : Bool) → eqb w 0 ≡ empty → eqb (bit 0 w) 1 ≡ odd → register_of w ≡ elim empty [ true ↦ nothing | false ↦ elim odd [ true ↦ ports | false ↦ memory_of (bit 2 w) (bit 1 w) ] ]
unfolding register_of
register_by w empty odd e f =
    ap (λ b. elim b [ true ↦ nothing | false ↦ elim (eqb (bit 0 w) 1) [ true ↦ ports | false ↦ memory_of (bit 2 w) (bit 1 w) ] ]) e
    ∙ ap (λ b. elim empty [ true ↦ nothing | false ↦ elim b [ true ↦ ports | false ↦ memory_of (bit 2 w) (bit 1 w) ] ]) f

not_zero : (w : ℕ) → 0 < w → eqb w 0 ≡ false
not_zero w p = T_false (eqb w 0) λ t. let z : w ≡ 0 = eqb→eq w 0 t in omega arith

register_ports : (w : ℕ) → w % 2 ≡ 1 → register_of w ≡ ports
register_ports w e = let b : bit 0 w ≡ 1 = omega arith in register_by w false true (not_zero w (omega arith)) (T_true (eqb (bit 0 w) 1) (eq→eqb (bit 0 w) 1 b))

-- a bit is read from the low bits that hold it
low_bit : (i j w : ℕ) → bit i w ≡ bit i (w % 2 ^ (j + (1 + i)))
low_bit i j w = sym (field w 1 i) ∙ ap (λ x. x / 2 ^ i) (sym (mod-mod-pow w j (1 + i))) ∙ field (w % 2 ^ (j + (1 + i))) 1 i

register_memory : (w c : ℕ) → 0 < w → w % 8 ≡ c → bit 0 c ≡ 0 → register_of w ≡ memory_of (bit 2 c) (bit 1 c)
register_memory w c p e z =
    let b : bit 0 w ≡ 0 = low_bit 0 2 w ∙ ap (bit 0) e ∙ z in
    register_by w false false (not_zero w p) (T_false (eqb (bit 0 w) 1) λ t. let o : bit 0 w ≡ 1 = eqb→eq (bit 0 w) 1 t in omega arith)
    ∙ ap₂ memory_of (low_bit 2 0 w ∙ ap (bit 2) e) (low_bit 1 1 w ∙ ap (bit 1) e)

-- low bits go, and leave what is clear there
clear_low : (j a low : ℕ) → a % 2 ^ j ≡ 0 → low < 2 ^ j → cleared j (a + low) ≡ a
clear_low j a low e l =
    let whole : a ≡ a / 2 ^ j * 2 ^ j = omega (arith, div-add-mod' a (2 ^ j)) in
    let rest : (a + low) % 2 ^ j ≡ low = ap (λ x. (x + low) % 2 ^ j) whole ∙ digits_mod (a / 2 ^ j) l in
    omega arith

mask_clear : (width j k : ℕ) → j ≤ k → k < width → (2 ^ width - 2 ^ k) % 2 ^ j ≡ 0
mask_clear width j k l h =
    ap (λ x. x % 2 ^ j) (ap₂ (λ x y. x - y) (parts width (omega arith)) (parts k l) ∙ sym (mul-sub (2 ^ j) (2 ^ (width - j)) (2 ^ (k - j)))) ∙ mul-mod_right (2 ^ j) (2 ^ (width - j) - 2 ^ (k - j))
  where
    parts : (n : ℕ) → j ≤ n → 2 ^ n ≡ 2 ^ j * 2 ^ (n - j)
    parts n l = let e : n ≡ j + (n - j) = omega arith in ap (λ x. 2 ^ x) e ∙ pow-add 2 j (n - j)

type_kept : (a low c : ℕ) → a % 2 ^ 4 ≡ 0 → low % 8 ≡ c → (a + low) % 8 ≡ c
type_kept a low c e f = omega arith

-- a word of 32 bits, as a register, asks for this and no more
abbrev pub Reads : ℕ → Option ℕ → Want → Type 0
Reads w next want = (w ≤ top 32) × (asked (register_of w) w next ≡ accepted (want ∷ []))

-- 2 ^ k of memory, from 16 to 2 ^ 31: its mask, with the prefetchable bit or without
pub memory_reads : (k low : ℕ) (next : Option ℕ) → 4 ≤ k → k < 32 → low < 16 → low % 8 ≡ 0 → Reads (2 ^ 32 - 2 ^ k + low) next (mmio_want (2 ^ k) (2 ^ k) auto)
unfolding asked memory_of
memory_reads k low next l h f c =
    let m : ℕ = 2 ^ 32 - 2 ^ k in
    let p : 2 ^ k < 2 ^ 32 = pow-lt {j = 32} h in
    let e : m % 2 ^ 4 ≡ 0 = mask_clear 32 4 k l h in
    (omega (arith, pow_mono {i = 4} l), rw (register_memory (m + low) 0 (omega arith) (type_kept m low 0 e c) refl, clear_low 4 m low e f, size_reads 32 k h))

-- .. and to 2 ^ 63 as a pair, the mask's halves
pub pair_reads : (k low : ℕ) → 4 ≤ k → k < 64 → low < 16 → low % 8 ≡ 4
    → ((2 ^ 64 - 2 ^ k) / 2 ^ 32 ≤ top 32) × Reads ((2 ^ 64 - 2 ^ k) % 2 ^ 32 + low) (some ((2 ^ 64 - 2 ^ k) / 2 ^ 32)) (mmio_want (2 ^ k) (2 ^ k) auto)
unfolding asked memory_of
pair_reads k low l h f c =
    let m : ℕ = 2 ^ 64 - 2 ^ k in
    let e : m % 2 ^ 32 % 2 ^ 4 ≡ 0 = mod-mod-pow m 28 4 ∙ mask_clear 64 4 k l h in (
      omega (arith, pow_pos k),
      (
        fits (m % 2 ^ 32) (mod-lt m (pow_pos 32)) e,
        rw (register_memory (m % 2 ^ 32 + low) 4 (omega arith) (type_kept (m % 2 ^ 32) low 4 e c) refl, clear_low 4 (m % 2 ^ 32) low e f, split m 32, size_reads 64 k h),
      ),
    )
  where
    fits : (a : ℕ) → a < 2 ^ 32 → a % 2 ^ 4 ≡ 0 → a + low ≤ top 32
    fits a l e = omega arith

pub upper_all : (w : ℕ) → w < 2 ^ 16 → upper_ones w ≡ 2 ^ 32 - 2 ^ 16
unfolding upper_ones
upper_all w l = let e : eqb (w / 2 ^ 16) 0 ≡ true = T_true (eqb (w / 2 ^ 16) 0) (eq→eqb (w / 2 ^ 16) 0 (omega arith)) in ap (λ b. elim b [ true ↦ 2 ^ 32 - 2 ^ 16 | false ↦ 0 ]) e

pub upper_none : (w : ℕ) → 2 ^ 16 ≤ w → upper_ones w ≡ 0
unfolding upper_ones
upper_none w l = ap (λ b. elim b [ true ↦ 2 ^ 32 - 2 ^ 16 | false ↦ 0 ]) (not_zero (w / 2 ^ 16) (omega arith))

port_mask_is : (width k low : ℕ) → (width ≡ 16) ⊎ (width ≡ 32) → 2 ≤ k → k ≤ 15 → low < 4 → port_mask (2 ^ width - 2 ^ k + low) ≡ 2 ^ 32 - 2 ^ k
port_mask_is width k low is l h f = go is
  where
    p : 2 ^ k < 2 ^ 16
    p = pow-lt {j = 16} (omega arith)

    go : (width ≡ 16) ⊎ (width ≡ 32) → port_mask (2 ^ width - 2 ^ k + low) ≡ 2 ^ 32 - 2 ^ k
    go (inl e) =
        let c : cleared 2 (2 ^ 16 - 2 ^ k + low) ≡ 2 ^ 16 - 2 ^ k = clear_low 2 (2 ^ 16 - 2 ^ k) low (mask_clear 16 2 k l (omega arith)) f in
        let u : upper_ones (2 ^ 16 - 2 ^ k + low) ≡ 2 ^ 32 - 2 ^ 16 = upper_all (2 ^ 16 - 2 ^ k + low) (omega (arith, p, pow_mono {i = 2} l)) in
        subst (λ n. port_mask (2 ^ n - 2 ^ k + low) ≡ 2 ^ 32 - 2 ^ k) (sym e) (ap₂ (λ x y. x + y) c u ∙ (omega (arith, p)))
    go (inr e) =
        let c : cleared 2 (2 ^ 32 - 2 ^ k + low) ≡ 2 ^ 32 - 2 ^ k = clear_low 2 (2 ^ 32 - 2 ^ k) low (mask_clear 32 2 k l (omega arith)) f in
        let u : upper_ones (2 ^ 32 - 2 ^ k + low) ≡ 0 = upper_none (2 ^ 32 - 2 ^ k + low) (omega (arith, p)) in
        subst (λ n. port_mask (2 ^ n - 2 ^ k + low) ≡ 2 ^ 32 - 2 ^ k) (sym e) (ap₂ (λ x y. x + y) c u ∙ (omega (arith, p)))

-- 2 ^ k ports, from 4 to 2 ^ 15: the mask, of 32 bits or of the lower 16 alone
pub ports_read : (width k low : ℕ) (next : Option ℕ) → (width ≡ 16) ⊎ (width ≡ 32) → 2 ≤ k → k ≤ 15 → low < 4 → low % 2 ≡ 1 → Reads (2 ^ width - 2 ^ k + low) next (pio_want (2 ^ k) (2 ^ k) auto)
unfolding asked
ports_read width k low next is l h f c =
    let w : ℕ = 2 ^ width - 2 ^ k + low in
    let p : 2 ^ k < 2 ^ 16 = pow-lt {j = 16} (omega arith) in
    let (wide, fits) = held is in
    let even : (2 ^ width - 2 ^ k) % 2 ≡ 0 = mask_clear width 1 k (omega arith) wide in
    let odd : w % 2 ≡ 1 = omega arith in (
      omega (arith, pow-lt wide, pow_mono {i = 2} l, pow_mono {j = 32} fits),
      rw (register_ports w odd, port_mask_is width k low is l h f, size_reads 32 k (omega arith))
          (required (leb (2 ^ k) (top 16)) ports_too_large (accepted (pio_want (2 ^ k) (2 ^ k) auto ∷ [])) (le→leb (2 ^ k) (top 16) (omega arith))),
    )
  where
    held : (width ≡ 16) ⊎ (width ≡ 32) → (k < width) × (width ≤ 32)
    held (inl e) = omega arith
    held (inr e) = omega arith
