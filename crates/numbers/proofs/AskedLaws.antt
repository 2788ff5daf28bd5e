-- Every table asked in turn: the row is told where it is there, by no other table. Assumes nothing.
use Rattle.std.proofs.Common.{◌≡◌, ℕ, zero, suc, ◌<◌, ◌≤◌, Bool, true, false, ◌&&◌, ltb, leb, eqb, List, refl, arith}
use Rattle.std.proofs.Math.Option.{Option, none}
use borrow.Author.Tests.{le-ltb, lt-ltb, lt-leb, ne_eqb}
use Rattle.definition.specs.Calls.{State}
use Rattle.numbers.specs.Rows.{tells_row, rows_in, there}
use Rattle.numbers.specs.Back.{pick, row_in}

-- ---- the tables of a part, asked by their kinds from 1 to q (on: this part is asked for; c: its tables have so many rows)

abbrev pub chain : (on c : Bool) (kind : ℕ) → (ℕ → List ℕ) → Option (List ℕ) → ℕ → Option (List ℕ)
chain on c kind row before zero = before
chain on c kind row before (suc q) = pick (on && (c && eqb kind (suc q))) (row (suc q)) (chain on c kind row before q)

-- .. one table after another
pub seven : (on c : Bool) (kind : ℕ) (row : ℕ → List ℕ) (x₀ x₁ x₂ x₃ x₄ x₅ x₆ x₇ : Option (List ℕ))
    → x₁ ≡ pick (on && (c && eqb kind 1)) (row 1) x₀ → x₂ ≡ pick (on && (c && eqb kind 2)) (row 2) x₁ → x₃ ≡ pick (on && (c && eqb kind 3)) (row 3) x₂ → x₄ ≡ pick (on && (c && eqb kind 4)) (row 4) x₃
    → x₅ ≡ pick (on && (c && eqb kind 5)) (row 5) x₄ → x₆ ≡ pick (on && (c && eqb kind 6)) (row 6) x₅ → x₇ ≡ pick (on && (c && eqb kind 7)) (row 7) x₆ → x₇ ≡ chain on c kind row x₀ 7
seven on c kind row x₀ x₁ x₂ x₃ x₄ x₅ x₆ x₇ e₁ e₂ e₃ e₄ e₅ e₆ e₇ = rw (e₇, e₆, e₅, e₄, e₃, e₂, e₁)

chained : (on c : Bool) (kind : ℕ) (row : ℕ → List ℕ) (before : Option (List ℕ)) → chain on c kind row before 7 ≡ pick (on && (c && (ltb 0 kind && leb kind 7))) (row kind) before
chained false c kind row before = refl
chained true false kind row before = refl
chained true true zero row before = refl
chained true true (suc zero) row before = refl
chained true true (suc (suc zero)) row before = refl
chained true true (suc (suc (suc zero))) row before = refl
chained true true (suc (suc (suc (suc zero)))) row before = refl
chained true true (suc (suc (suc (suc (suc zero))))) row before = refl
chained true true (suc (suc (suc (suc (suc (suc zero)))))) row before = refl
chained true true (suc (suc (suc (suc (suc (suc (suc zero))))))) row before = refl
chained true true (suc (suc (suc (suc (suc (suc (suc (suc k)))))))) row before = far (suc (suc (suc (suc (suc (suc (suc (suc k)))))))) (omega arith)
  where
    far : (n : ℕ) → 7 < n → chain true true n row before 7 ≡ pick (ltb 0 n && leb n 7) (row n) before
    far n l =
        let p : 0 < n = omega arith in
        rw (ne_eqb n 7 (λ e. omega arith), ne_eqb n 6 (λ e. omega arith), ne_eqb n 5 (λ e. omega arith), ne_eqb n 4 (λ e. omega arith), ne_eqb n 3 (λ e. omega arith), ne_eqb n 2 (λ e. omega arith), ne_eqb n 1 (λ e. omega arith), lt-ltb 0 n p, lt-leb n 7 l)

module _ (s : State) (kind i : ℕ) where
  -- what is found once the tables of a part up to the kind q were asked; and once all of a part were, and those before it
  abbrev pub up_to : (asked part : ℕ) → Option (List ℕ) → ℕ → Option (List ℕ)
  up_to asked part before q = chain (eqb asked part) (ltb i (rows_in part)) kind (λ k. tells_row s part k i) before q

  abbrev pub auto : ℕ → Option (List ℕ)
  auto asked = up_to asked 1 none 7

  abbrev pub fixed : ℕ → Option (List ℕ)
  fixed asked = up_to asked 2 (auto asked) 7

  abbrev pub held : ℕ → Option (List ℕ)
  held asked = up_to asked 3 (fixed asked) 7

  nowhere : (part : ℕ) → rows_in part ≤ i → none ≡ row_in s part kind i
  unfolding there
  nowhere part l = rw (le-ltb i (rows_in part) l, there)

  -- THE ROW IS TOLD WHERE IT IS THERE, by no other table
  pub all_asked : (part : ℕ) → up_to part 4 (held part) 7 ≡ row_in s part kind i
  unfolding there
  all_asked zero = nowhere zero (omega arith)
  all_asked (suc zero) = chained true (ltb i (rows_in 1)) kind (λ k. tells_row s 1 k i) none
  all_asked (suc (suc zero)) = chained true (ltb i (rows_in 2)) kind (λ k. tells_row s 2 k i) none
  all_asked (suc (suc (suc zero))) = chained true (ltb i (rows_in 3)) kind (λ k. tells_row s 3 k i) none
  all_asked (suc (suc (suc (suc zero)))) = chained true (ltb i (rows_in 4)) kind (λ k. tells_row s 4 k i) none
  all_asked (suc (suc (suc (suc (suc p))))) = far (suc (suc (suc (suc (suc p))))) (omega arith)
    where
      far : (n : ℕ) → 4 < n → up_to n 4 (held n) 7 ≡ row_in s (suc (suc (suc (suc (suc p))))) kind i
      far n l = rw (ne_eqb n 4 (λ e. omega arith), ne_eqb n 3 (λ e. omega arith), ne_eqb n 2 (λ e. omega arith), ne_eqb n 1 (λ e. omega arith)) (nowhere (suc (suc (suc (suc (suc p))))) (omega arith))
