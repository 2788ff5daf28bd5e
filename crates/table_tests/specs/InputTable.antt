-- Laws of tables of inputs: when they are tidy, and two rows the same. Assumes nothing.
use mathlib.Core.Path.{◌≡◌, refl, ap}
use mathlib.Core.Bool.{Bool, true, false, ◌&&◌}
use Prim.Native.Nat.{ℕ, suc}
use native.Mathlib.Omega.{arith}
use lib.Dec.{eqb, eqb→eq}
use Rattle.definition.specs.Tables.{row_limit, same_row}
use Rattle.definition.proofs.BaseLaws.{and_true, t_ext, eq→eqb}
use Rattle.tables.specs.Views.{input_of, input_at}
use Rattle.tables.specs.declared.Inputs.{Inputs}
use Rattle.tables.proofs.TableLaws.{tidy_is}
use Rattle.table_tests.specs.Rows.{rows_tidy}
use Rattle.table_tests.specs.Tests.{blank_input, tidy_inputs}

pub inputs_tidy : (t : Inputs) → tidy_inputs t ≡ rows_tidy row_limit (λ r. same_row blank_input (input_of r)) (input_at t) t.n
unfolding tidy_inputs
inputs_tidy t = tidy_is row_limit (λ k. input_of (input_at t k)) t.n (same_row blank_input)

-- an input is the range from it to the number behind it: where the first numbers are the same so are the last
pub once : (c : Bool) (x x' : ℕ) (r : Bool) → c && (eqb x x' && r) ≡ (c && true) && (eqb x x' && (eqb (suc x) (suc x') && r))
once c x x' r = rw (and_true c, next) (ap (λ z. c && z) (twice (eqb x x') r))
  where
    next : eqb (suc x) (suc x') ≡ eqb x x'
    next = t_ext _ _ (λ t. let e = eqb→eq (suc x) (suc x') t in eq→eqb x x' (omega arith)) (λ t. eq→eqb (suc x) (suc x') (ap suc (eqb→eq x x' t)))

    twice : (a r : Bool) → a && r ≡ a && (a && r)
    twice true r = refl
    twice false r = refl
