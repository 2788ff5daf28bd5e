-- Whose number it is, by the steps of the code. Assumes nothing.
use mathlib.Core.Path.{◌≡◌, refl, sym, ap, ◌∙◌}
use mathlib.Core.Bool.{Bool, false, not, ◌&&◌}
use Prim.Native.Nat.{ℕ, zero, suc, ◌<◌}
use native.Mathlib.Omega.{arith}
use lib.Dec.{leb, eqb}
use borrow.Author.Tests.{lt-ltb, le-leb, lt-leb, ne_eqb}
use Rattle.std.specs.Prelude.{Option, None, Result, Ok, Err}
use Rattle.std.specs.Option.{MatchOption}
use Rattle.std.specs.Bool.{then_some}
use Rattle.std.specs.Result.{result_ok, OkIff}
use Rattle.definition.specs.Tables.{top}
use Rattle.definition.specs.Withdraw.{a_requester}
use Rattle.withdraw.specs.Answers.{requester_of}

fits : (q : ℕ) → q < 4294967296 → a_requester q ≡ not (eqb q 0)
unfolding a_requester
fits zero l = refl
fits (suc q) l =
    ap (λ (b : Bool). b && leb (suc q) (top 32)) (lt-ltb 0 (suc q) (omega arith)) ∙ le-leb (suc q) (top 32) (omega (arith, l)) ∙ sym (ap not (ne_eqb (suc q) 0 (λ e. omega (arith, e))))

wide : (q : ℕ) → (q < 4294967296 → ⊥) → a_requester q ≡ false
unfolding a_requester
wide zero n = refl
wide (suc q) n = ap (λ (b : Bool). b && leb (suc q) (top 32)) (lt-ltb 0 (suc q) (omega arith)) ∙ lt-leb (suc q) (top 32) (omega (arith, n))

-- a number that is cut to 32 bits where it fits, and passes where it is not 0
pub requester_is : {E : Type 0} (q : ℕ) (t : Result ℕ E) (r : Option ℕ) (Tested : ℕ → Bool → Type 0)
    → OkIff t (q < 4294967296) q → ((x : ℕ) (b : Bool) → Tested x b → b ≡ not (eqb x 0)) → MatchOption (result_ok t) (r ≡ None) (λ x. (b : Bool) × Tested x b × (r ≡ then_some b x)) → r ≡ requester_of q
requester_is q (Ok x) r Tested o d m =
    m.2 ∙ ap (λ (b : Bool). then_some b x) (d x m.0 m.1) ∙ ap (λ (x : ℕ). then_some (not (eqb x 0)) x) o.1 ∙ ap (λ (b : Bool). then_some b q) (sym (fits q o.0))
requester_is q (Err e) r Tested o d m = m ∙ ap (λ (b : Bool). then_some b q) (sym (wide q o))
