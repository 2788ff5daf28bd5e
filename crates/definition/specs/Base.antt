-- What every other file uses: tests over lists; the refusals, their numbers and what each names, said once. Assumes nothing.
use Rattle.std.specs.Prelude.{Bool, true, false, ◌&&◌, ◌||◌, List, [], ◌∷◌, ℕ, min}
use Rattle.std.proofs.Math.Option.{Option, none, some}

-- ---- tests over lists
unfoldable pub any_of {ℓ} : {A : Type ℓ} → (A → Bool) → List A → Bool  -- some element passes
any_of p [] = false
any_of p (x ∷ xs) = p x || any_of p xs

unfoldable pub all_of {ℓ} : {A : Type ℓ} → (A → Bool) → List A → Bool  -- all elements pass
all_of p [] = true
all_of p (x ∷ xs) = p x && all_of p xs

unfoldable pub pairs_of {ℓ} : {A : Type ℓ} → (A → A → Bool) → List A → Bool  -- every two elements pass, the earlier one first
pairs_of p [] = true
pairs_of p (x ∷ xs) = all_of (p x) xs && pairs_of p xs

unfoldable pub first_of {ℓ} : {A : Type ℓ} → (A → Bool) → List A → Option A  -- the first element that passes
first_of p [] = none
first_of p (x ∷ xs) = elim (p x) [ true ↦ some x | false ↦ first_of p xs ]

unfoldable pub only_of {ℓ} : {A : Type ℓ} → (A → Bool) → List A → List A  -- the elements that pass, in their order
only_of p [] = []
only_of p (x ∷ xs) = elim (p x) [ true ↦ x ∷ only_of p xs | false ↦ only_of p xs ]

unfoldable pub lower : ℕ → Option ℕ → ℕ  -- the lesser of the two, where there is a second
lower x none = x
lower x (some y) = min x y

unfoldable pub least_of : (ℕ → Bool) → List ℕ → Option ℕ  -- the least number that passes
least_of p [] = none
least_of p (x ∷ xs) = let rest : Option ℕ = least_of p xs in elim (p x) [ true ↦ some (lower x rest) | false ↦ rest ]

-- ---- refusals and answers
pub data Refusal : Type 0 where  -- what stands behind a name is what it names: an owner, a namespace, a detail
  malformed bad_input bad_owner empty_range full bad_line short bad_lpi not_found bad_type bad_pair bad_mask ports_too_large : Refusal
  reserved : ℕ → Refusal  -- the owner
  fixed_not_allowed exhausted : ℕ → Refusal  -- the namespace
  conflict : ℕ → ℕ → ℕ → Refusal  -- namespace, owner, detail

pub record Said : Type 0 where  -- the five numbers of an answer
  pub number : ℕ
  pub index : ℕ
  pub namespace : ℕ
  pub owner : ℕ
  pub detail : ℕ

abbrev pub says : ℕ → ℕ → ℕ → ℕ → ℕ → Said
says i n s o d = record { number = n; index = i; namespace = s; owner = o; detail = d }

abbrev pub silence : Said  -- accepted: no line below applies
silence = says 0 0 0 0 0

abbrev pub tell : ℕ → Refusal → Said  -- THE TABLE of numbers; i is the index of a plan's request, else 0; unused fields are 0
tell i malformed = says i 1 0 0 0
tell i bad_input = says i 2 0 0 0
tell i bad_owner = says i 3 0 0 0
tell i empty_range = says i 4 0 0 0
tell i (reserved o) = says i 5 0 o 0
tell i (fixed_not_allowed s) = says i 6 s 0 0
tell i (exhausted s) = says i 7 s 0 0
tell i (conflict s o d) = says i 8 s o d
tell i full = says i 9 0 0 0
tell i bad_line = says i 10 0 0 0
tell i short = says i 11 0 0 0
tell i bad_lpi = says i 12 0 0 0
tell i not_found = says i 13 0 0 0
tell i bad_type = says i 14 0 0 0
tell i bad_pair = says i 15 0 0 0
tell i bad_mask = says i 16 0 0 0
tell i ports_too_large = says i 17 0 0 0

pub data Answer (A : Type 0) : Type 0 where
  accepted : A → Answer A
  refused : Refusal → Answer A

unfoldable pub require : {A : Type 0} → Bool → Refusal → Answer A → Answer A  -- refused with r unless the test passes: the order of the refusals is the order of the lines
require true r a = a
require false r a = refused r

abbrev pub ◌then◌ : {A B : Type 0} → Answer A → (A → Answer B) → Answer B
◌then◌ (accepted v) f = f v
◌then◌ (refused r) f = refused r

infixl 20 ◌then◌
