-- The test of a range is the definition's test of MMIO and of PIO, and what a good request says of its numbers. Assumes nothing.
use mathlib.Core.Path.{◌≡◌, refl}
use mathlib.Core.Bool.{Bool, true, false, ◌&&◌}
use Prim.Native.Nat.{ℕ, ◌^◌, ◌<◌, ◌≤◌}
use native.Mathlib.Omega.{arith}
use lib.Dec.{T, leb, ltb, ltb→lt}
use borrow.Author.Tests.{leb-true}
use Rattle.definition.proofs.BaseLaws.{and_l, and_r, T_true, true_T}
use Rattle.definition.specs.Request.{Choice, good_choice, one_bit, good_want, good_request, mmio_want, pio_want, msi_want}
use Rattle.definition.specs.Request as R
use Rattle.definition.proofs.RequestLaws.{one_bit_pos}
use Rattle.search.proofs.OnesLaws.{one_bit_wide}
use Rattle.request.specs.Asked.{good_span}

pub mmio_good : (s a : ℕ) (c : Choice) → good_span 18446744073709551615 s a c ≡ good_want (mmio_want s a c)
unfolding good_span good_want
mmio_good s a c = refl

pub pio_good : (s a : ℕ) (c : Choice) → a < 2 ^ 64 → good_span 65535 s a c ≡ good_want (pio_want s a c)
unfolding good_span good_want
pio_good s a c l = go (leb a 65535) refl
  where
    go : (b : Bool) → leb a 65535 ≡ b → ltb 0 s && (leb s 65535 && (b && (one_bit 64 a && good_choice 65535 c))) ≡ ltb 0 s && (leb s 65535 && (b && (one_bit 16 a && good_choice 65535 c)))
    go false e = refl
    go true e = let z : a ≤ 65535 = leb-true a 65535 e in rw (one_bit_wide 64 16 a l (omega arith))

-- ---- what a good request says

pub record SpanGood (s a : ℕ) : Type 0 where
  pub size : 0 < s
  pub alignment : 0 < a

pub mmio_says : (s a : ℕ) (c : Choice) → good_want (mmio_want s a c) ≡ true → SpanGood s a
unfolding good_want
mmio_says s a c e =
    let t : T (good_want (mmio_want s a c)) = true_T _ e in
    let p : T (ltb 0 s) = search (and_l) in
    let q : T (one_bit 64 a) = search (and_l, and_r) in
    record { size = ltb→lt 0 s p; alignment = one_bit_pos 64 a q }

pub pio_says : (s a : ℕ) (c : Choice) → good_want (pio_want s a c) ≡ true → SpanGood s a
unfolding good_want
pio_says s a c e =
    let t : T (good_want (pio_want s a c)) = true_T _ e in
    let p : T (ltb 0 s) = search (and_l) in
    let q : T (one_bit 16 a) = search (and_l, and_r) in
    record { size = ltb→lt 0 s p; alignment = one_bit_pos 16 a q }

pub msi_says : (k i n : ℕ) (d e l : Choice) → good_want (msi_want k i n d e l) ≡ true → 0 < n
unfolding good_want
msi_says k i n d e l h =
    let t : T (good_want (msi_want k i n d e l)) = true_T _ h in
    let p : T (ltb 0 n) = search (and_l, and_r) depth 8 in
    ltb→lt 0 n p

pub request_says : (r : R.Request) → good_request r ≡ true → good_want r.want ≡ true
unfolding good_request
request_says r e = T_true (good_want r.want) (let t : T (good_request r) = true_T _ e in search (and_l, and_r))
