-- Laws of wired rows: one for each way out of the code. Assumes nothing.
use mathlib.Core.Path.{◌≡◌, refl, sym, ◌∙◌, ap, ap₂}
use mathlib.Core.Bool.{Bool, true, false, not, ◌&&◌, ◌||◌}
use Prim.Native.Nat.{ℕ, suc, ◌<◌, ◌≤◌}
use native.Mathlib.Omega.{arith}
use lib.Dec.{eqb, leb, ltb, eqb→eq, ltb→lt, lt→ltb}
use borrow.Author.Tests.{le-leb, lt-ltb, eq-eqb, ne_eqb}
use Rattle.definition.specs.Tables.{row_limit, top, last_trigger, shared, input, wired_row, same_dom, within, overlap, meets, joins, clash, same_row, fits, floored, good_row, used, begins}
use Rattle.tables.specs.Views.{input_of, input_at, inputs_view}
use Rattle.tables.specs.declared.Inputs.{Inputs}
use Rattle.definition.proofs.BaseLaws.{and_l, and_r, and_i, and_true, t_ext, eq→eqb}
use Rattle.tables.proofs.TableLaws.{begins_used}
use Rattle.table_tests.specs.Rows.{rows_begin}
use Rattle.sound.specs.Tests.{input_fit}

-- ---- one row

pub input_good :
    (c x t s o : ℕ) → c ≤ top 32 → x ≤ top 64 → o ≤ top 32
    → good_row input (wired_row c x t s o) ≡ leb t last_trigger && (leb s shared && ltb 0 o)
unfolding good_row fits floored within
input_good c x t s o p q r =
    rw (le-leb c (top 32) p, le-leb x (top 64) q, eq-eqb (suc x) (suc x) refl, le-leb o (top 32) r, lt-ltb x (suc x) (omega arith), le-leb 0 x (omega arith))
    (turn (leb t last_trigger) (leb s shared) (ltb 0 o))
  where
    turn : (a b c : Bool) → (a && (b && true)) && c ≡ a && (b && c)
    turn true b c = ap (λ z. z && c) (and_true b)
    turn false b c = refl

-- ---- two rows

module _ (c x t s w c' x' t' s' w' : ℕ) where
  -- two numbers n..n+1 overlap where they are one
  one_number : ltb x (suc x') && ltb x' (suc x) ≡ eqb x x'
  one_number = t_ext _ _
      (λ h.
      let l : x < suc x' = ltb→lt x (suc x') (and_l (ltb x (suc x')) (ltb x' (suc x)) h) in
      let m : x' < suc x = ltb→lt x' (suc x) (and_r (ltb x (suc x')) (ltb x' (suc x)) h) in
      eq→eqb x x' (omega arith))
      (λ h.
      let q : x ≡ x' = eqb→eq x x' h in
      and_i (ltb x (suc x')) (ltb x' (suc x)) (lt→ltb x (suc x') (omega arith)) (lt→ltb x' (suc x) (omega arith)))

  pub input_meets : meets (wired_row c x t s w) (wired_row c' x' t' s' w') ≡ eqb c c' && eqb x x'
  unfolding meets same_dom overlap
  input_meets = ap₂ (λ a b. a && b) (and_true (eqb c c')) one_number

  or_false : (a : Bool) → a || false ≡ a
  or_false true = refl
  or_false false = refl

  not_and : (a b : Bool) → not (a && not b) ≡ not a || b
  not_and true true = refl
  not_and true false = refl
  not_and false b = refl

  -- another input, or a shared one
  pub input_fits : (single : Bool)
      → input_fit single (wired_row c x t s w) (wired_row c' x' t' s' w')
      ≡ not (eqb c c' && eqb x x') || (not single && (eqb s shared && (eqb s' shared && eqb t t')))
  unfolding clash joins
  input_fits true = ap not input_meets ∙ sym (or_false (not (eqb c c' && eqb x x')))
  input_fits false =
      not_and (meets (wired_row c x t s w) (wired_row c' x' t' s' w')) (eqb s shared && (eqb s' shared && eqb t t'))
      ∙ ap (λ a. not a || (eqb s shared && (eqb s' shared && eqb t t'))) input_meets

  pub input_apart : (single : Bool) → (x ≡ x' → ⊥) → input_fit single (wired_row c x t s w) (wired_row c' x' t' s' w') ≡ true
  input_apart single h = input_fits single ∙ rw (ne_eqb x x' h) (off (eqb c c'))
    where
      off : (a : Bool) → not (a && false) || (not single && (eqb s shared && (eqb s' shared && eqb t t'))) ≡ true
      off true = refl
      off false = refl

-- ---- two tables

pub inputs_begin_is : (h o : Inputs)
    → begins (used (inputs_view h)) (used (inputs_view o)) ≡ rows_begin row_limit (λ a b. same_row (input_of a) (input_of b)) (input_at h) (input_at o) h.n o.n
inputs_begin_is h o = begins_used row_limit (λ k. input_of (input_at h k)) (λ k. input_of (input_at o k)) h.n o.n
