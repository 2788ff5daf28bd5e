-- The first row that passes, as a loop finds it and as the definition has it over a table's used rows. Assumes nothing.
use mathlib.Core.Path.{◌≡◌, ◌∙◌, ap}
use mathlib.Core.Bool.{Bool, true, false}
use mathlib.Core.Option.{some, none}
use Prim.Native.Nat.{ℕ, ◌<◌, ◌≤◌}
use Rattle.definition.specs.Base.{any_of, first_of}
use Rattle.definition.specs.Tables.{used}
use Rattle.definition.proofs.BaseLaws.{T_true, T_false, true_T, false_T}
use Rattle.tables.specs.Below.{listed, first}
use Rattle.std.specs.Prelude.{Some, None}
use Rattle.tables.proofs.IndexLaws.{any_in, any_out, first_tells, first_listed}
use Rattle.tables.proofs.TableLaws.{table, used_is}

pub hit_below : (q : ℕ → Bool) (n k : ℕ) → Some k ≡ first q n → k < n
hit_below q n k e = (first_tells q n (Some k) e).0

module _ {A : Type 0} (p : A → Bool) (size : ℕ) (f : ℕ → A) (n : ℕ) (within : n ≤ size) where
  pub used_hit : (k : ℕ) → Some k ≡ first (λ j. p (f j)) n → first_of p (used (table size f n)) ≡ some (f k)
  used_hit k e = ap (first_of p) (used_is size f n within) ∙ first_listed p f n (Some k) e

  pub used_clear : None ≡ first (λ j. p (f j)) n → first_of p (used (table size f n)) ≡ none
  used_clear e = ap (first_of p) (used_is size f n within) ∙ first_listed p f n None e

  pub used_any : (k : ℕ) → Some k ≡ first (λ j. p (f j)) n → any_of p (used (table size f n)) ≡ true
  used_any k e =
      let h = first_tells (λ j. p (f j)) n (Some k) e in
      ap (any_of p) (used_is size f n within) ∙ T_true (any_of p (listed f n)) (any_in p f n k h.0 (true_T (p (f k)) h.1))

  pub used_none : None ≡ first (λ j. p (f j)) n → any_of p (used (table size f n)) ≡ false
  used_none e =
      ap (any_of p) (used_is size f n within)
      ∙ T_false (any_of p (listed f n)) (λ t. let (k, l, q) = any_out p f n t in false_T (p (f k)) (first_tells (λ j. p (f j)) n None e k l) q)
