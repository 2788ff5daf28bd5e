-- The five numbers that writing back answers, as a `no` line has them, and how many bytes were written. Assumes nothing.
use Rattle.std.specs.Prelude.{◌≡◌, List, [], ◌∷◌, ℕ, Result, Ok, Err}
use Rattle.writers.specs.declared.output.Refused.{Refused}

abbrev pub numbers_of : Refused → List ℕ
numbers_of r = r.line ∷ r.number ∷ r.namespace ∷ r.owner ∷ r.detail ∷ []

abbrev pub answer_of : Result ℕ Refused → List ℕ
answer_of (Ok n) = 0 ∷ 0 ∷ 0 ∷ 0 ∷ 0 ∷ []
answer_of (Err r) = numbers_of r

abbrev pub count_of : Result ℕ Refused → ℕ
count_of (Ok n) = n
count_of (Err r) = 0

-- a refusal has a number
abbrev pub Numbered : Result ℕ Refused → Type 0
Numbered (Ok n) = Unit {0}
Numbered (Err r) = r.number ≡ 0 → ⊥
