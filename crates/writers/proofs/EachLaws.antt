-- Lines put one after the other, each from its own numbers of a list: once over the line and over how many numbers it has. Assumes nothing.
use mathlib.Core.Path.{◌≡◌, sym, ap, ◌∙◌}
use mathlib.Core.List.{List, [], ◌++◌, append_assoc, append-nil}
use Prim.Native.Nat.{ℕ, zero, suc, ◌+◌, ◌-◌, ◌*◌, ◌<◌}
use native.Mathlib.Nat.{mul-zero, mul-suc, add_comm}
use native.Mathlib.Omega.{arith}
use lib.ListN.{length, take, drop, length-append, length-drop}
use lib.Seq.{drop-drop, take_all}
use Rattle.writers.specs.declared.put.Page.{Page}
use Rattle.writers.specs.Put.{Room, Puts}
use Rattle.writers.proofs.PutLaws.{puts_none, puts_length, puts_then}

-- a list from k on, as the code lends it
pub rest_is : (rs : List ℕ) (k : ℕ) → take (length rs - k) (drop k rs) ≡ drop k rs
rest_is rs k = take_all (length rs - k) (drop k rs) (omega (arith, length-drop k rs))

module _ (line : List ℕ → List ℕ) (size : ℕ) (lines : ℕ → List ℕ → List ℕ) (none : (rs : List ℕ) → lines 0 rs ≡ []) (next : (n : ℕ) (rs : List ℕ) → lines (suc n) rs ≡ line rs ++ lines n (drop size rs)) where
  pub lines_part : (i k : ℕ) (rs : List ℕ) → lines (i + k) rs ≡ lines i rs ++ lines k (drop (size * i) rs)
  lines_part zero k rs =
      let e : 0 + k ≡ k = omega arith in
      ap (λ (j : ℕ). lines j rs) e ∙ sym (ap (λ (b : List ℕ). b ++ lines k (drop (size * 0) rs)) (none rs) ∙ ap (λ (j : ℕ). lines k (drop j rs)) (mul-zero size))
  lines_part (suc i) k rs =
      let e : suc i + k ≡ suc (i + k) = omega arith in
      let d : size + size * i ≡ size * suc i = add_comm size (size * i) ∙ sym (mul-suc size i) in
      ap (λ (j : ℕ). lines j rs) e ∙ next (i + k) rs
      ∙ ap (λ (b : List ℕ). line rs ++ b) (lines_part i k (drop size rs))
      ∙ sym (append_assoc (line rs) (lines i (drop size rs)) (lines k (drop (size * i) (drop size rs))))
      ∙ ap (λ (b : List ℕ). b ++ lines k (drop (size * i) (drop size rs))) (sym (next i rs))
      ∙ ap (λ (l : List ℕ). lines (suc i) rs ++ lines k l) (drop-drop (size * i) size rs ∙ ap (λ (j : ℕ). drop j rs) d)

  lines_more : (i : ℕ) (rs : List ℕ) → lines (i + 1) rs ≡ lines i rs ++ line (drop (size * i) rs)
  lines_more i rs =
      let r : List ℕ = drop (size * i) rs in
      lines_part i 1 rs ∙ ap (λ (b : List ℕ). lines i rs ++ b) (next 0 r ∙ ap (λ (b : List ℕ). line r ++ b) (none (drop size r)) ∙ append-nil (line r))

  pub lines_none : (p : Page) (rs : List ℕ) → Puts p (lines 0 rs) p
  lines_none p rs = rw (none rs) (puts_none p)

  -- one more of n
  module _ (p : Page) (rs : List ℕ) (i : ℕ) (q : Page) (a : Puts p (lines i rs) q) where
    pub lines_room : (n : ℕ) → i < n → Room p (lines n rs) → Room q (line (drop (size * i) rs))
    lines_room n l room =
        let e : i + 1 + (n - (i + 1)) ≡ n = omega arith in
        omega (
          arith,
          room,
          a.put.0,
          puts_length p (lines i rs) q a,
          ap (λ (j : ℕ). length (lines j rs)) (sym e),
          ap length (lines_part (i + 1) (n - (i + 1)) rs),
          length-append (lines (i + 1) rs) (lines (n - (i + 1)) (drop (size * (i + 1)) rs)),
          ap length (lines_more i rs),
          length-append (lines i rs) (line (drop (size * i) rs)),
        )

    pub lines_turn : (r : Page) → Puts q (line (drop (size * i) rs)) r → Puts p (lines (i + 1) rs) r
    lines_turn r b = rw (lines_more i rs) (puts_then p (lines i rs) q a (line (drop (size * i) rs)) r b)
