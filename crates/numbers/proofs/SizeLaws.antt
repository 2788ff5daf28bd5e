-- Lists read at a place, and how many numbers a call needs. Assumes nothing.
use Rattle.std.proofs.Common.{◌≡◌, ℕ, zero, suc, ◌<◌, ◌≤◌, List, [], ◌∷◌, length, get_or, refl, arith}
use Rattle.numbers.specs.Coding.{size_in}

-- what stands past the end does not matter to what stands in the list
pub any_default : {A : Type 0} (l : List A) (k : ℕ) (d d' : A) → k < length l → get_or l k d ≡ get_or l k d'
any_default [] k d d' h = absurd (omega arith)
any_default (x ∷ l) zero d d' h = refl
any_default (x ∷ l) (suc k) d d' h = any_default l k d d' (omega arith)

pub past_end : {A : Type 0} (l : List A) (k : ℕ) (d : A) → length l ≤ k → d ≡ get_or l k d
past_end [] k d h = refl
past_end (x ∷ l) zero d h = absurd (omega arith)
past_end (x ∷ l) (suc k) d h = past_end l k d (omega arith)

pub size_none : (first kind : ℕ) → (first ≡ 1 → ⊥) → (first ≡ 2 → ⊥) → (first ≡ 4 → ⊥) → (first ≡ 5 → ⊥) → 1 ≡ size_in first kind
unfolding size_in
size_none zero kind n₁ n₂ n₄ n₅ = refl
size_none (suc zero) kind n₁ n₂ n₄ n₅ = absurd (n₁ refl)
size_none (suc (suc zero)) kind n₁ n₂ n₄ n₅ = absurd (n₂ refl)
size_none (suc (suc (suc zero))) kind n₁ n₂ n₄ n₅ = refl
size_none (suc (suc (suc (suc zero)))) kind n₁ n₂ n₄ n₅ = absurd (n₄ refl)
size_none (suc (suc (suc (suc (suc zero))))) kind n₁ n₂ n₄ n₅ = absurd (n₅ refl)
size_none (suc (suc (suc (suc (suc (suc first)))))) kind n₁ n₂ n₄ n₅ = refl
