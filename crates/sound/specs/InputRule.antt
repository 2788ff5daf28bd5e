-- Laws of tables of inputs: what their test comes to, and which rows it need not compare. Assumes nothing.
use mathlib.Core.Path.{◌≡◌}
use mathlib.Core.Bool.{Bool, true, false, ◌&&◌}
use Prim.Native.Nat.{ℕ, suc, ◌<◌, ◌≤◌}
use native.Mathlib.Omega.{arith}
use lib.Dec.{ltb, ltb→lt}
use borrow.Author.Tests.{ltb-true}
use Rattle.definition.specs.Tables.{row_limit, input, same_row, good_row, overlap, meets, joins, clash}
use Rattle.definition.proofs.BaseLaws.{and_r, and_false, T_false}
use Rattle.tables.specs.Below.{all_below, row_ok}
use Rattle.tables.specs.Views.{input_of, input_at}
use Rattle.tables.specs.declared.Inputs.{Inputs}
use Rattle.tables.specs.declared.InputRow.{InputRow}
use Rattle.tables.proofs.TableLaws.{sound_is}
use Rattle.table_tests.specs.Tests.{blank_input, tidy_inputs}
use Rattle.sound.specs.Tests.{input_fit, sound_inputs}

pub inputs_is : (single : Bool) (t : Inputs) → sound_inputs single t ≡ tidy_inputs t && all_below (row_ok (good_row input) (input_fit single) (λ k. input_of (input_at t k))) t.n
unfolding sound_inputs tidy_inputs
inputs_is single t = sound_is row_limit (λ k. input_of (input_at t k)) t.n (same_row blank_input) (good_row input) (input_fit single)

module _ (a b : InputRow) (l : a.input < b.input) where
  lower : meets (input_of a) (input_of b) ≡ false
  unfolding meets overlap
  lower = rw (T_false (ltb a.input (suc b.input) && ltb b.input (suc a.input)) (λ t. let m = ltb→lt b.input (suc a.input) (and_r (ltb a.input (suc b.input)) (ltb b.input (suc a.input)) t) in omega arith), and_false)

  fit_lower : (single : Bool) → input_fit single (input_of a) (input_of b) ≡ true
  unfolding clash joins
  fit_lower true = rw lower
  fit_lower false = rw lower

-- a higher input can stand with each lower one
pub input_clear : (single : Bool) (a b : InputRow) (h : ℕ) → a.input ≤ h → ltb h b.input ≡ true → input_fit single (input_of a) (input_of b) ≡ true
input_clear single a b h p q = fit_lower a b (omega (arith, ltb-true h b.input q)) single
