-- The code's values in the definition's words. Assumes nothing.
use Rattle.std.specs.Prelude.{List, [], ◌∷◌, ◌++◌, take, get_or, ℕ, suc, ◌≤◌, ◌≡◌, eqb}
use Rattle.std.specs.Prelude as code
use Rattle.std.specs.Borrow.{Bor}
use Rattle.std.proofs.Math.Option.{Option, none, some}
use Rattle.lines.specs.declared.form.Field.{Field}
use Rattle.lines.specs.declared.form.Field.TheVariants.{UpTo, Auto}
use Rattle.lines.specs.Base.{bytes, same, when, pick, ◌and_then◌}
use Rattle.lines.specs.Numbers.{number}
use Rattle.lines.specs.Forms.{the_auto}

-- the place of the first c, or the length
unfoldable pub first : ℕ → List ℕ → ℕ
first c [] = 0
first c (x ∷ xs) = pick (eqb x c) 0 (suc (first c xs))

abbrev pub number_says : code.Option ℕ → Option ℕ
number_says (code.Some m) = some m
number_says code.None = none

-- ---- fields

-- what a field says: a number up to m, or `auto`, which counts as 0
abbrev pub field_says : Field → List ℕ → Option ℕ
field_says (UpTo m) f = number m f
field_says Auto f = when (same f (bytes "auto")) (some 0)

-- .. and what stands for it in a form
abbrev pub field_code : Field → ℕ
field_code (UpTo m) = m
field_code Auto = the_auto

-- as many fields as there are xs, each read as its x says
unfoldable pub numbers_by : {A : Type 0} → (A → List ℕ → Option ℕ) → List A → List (List ℕ) → Option (List ℕ)
numbers_by says [] [] = some []
numbers_by says [] (f ∷ fs) = none
numbers_by says (x ∷ xs) [] = none
numbers_by says (x ∷ xs) (f ∷ fs) = says x f and_then λ v. numbers_by says xs fs and_then λ vs. some (v ∷ vs)

-- .. and the number of each is at most its x's; i is the place of the first of them
abbrev pub Within : ℕ → List Field → List ℕ → Type 0
Within i [] ns = Unit {0}
Within i (x ∷ xs) ns = (get_or ns i 0 ≤ field_code x) × Within (suc i) xs ns

-- a row's numbers: the first i of them stand in v, the others are read
abbrev pub row_from : List ℕ → ℕ → Option (List ℕ) → code.Option (List ℕ)
row_from v i none = code.None
row_from v i (some ns) = code.Some (take i v ++ ns)

abbrev pub row_of : Option (List ℕ) → code.Option (List ℕ)
row_of none = code.None
row_of (some ns) = code.Some ns

-- .. as they stand in a list that was lent, if they were read
abbrev pub filled : {A : Type 0} → code.Option A → List ℕ → code.Option (List ℕ)
filled code.None ns = code.None
filled (code.Some u) ns = code.Some ns

-- P of what the answers of a function say, where they say it of a field and an x
abbrev pub ReadAs : {A : Type 0} → (Bor (List ℕ) → A → code.Option ℕ → Type 0) → ((A → List ℕ → Option ℕ) → Type 0) → Type 0
ReadAs {A} Answers P = (says : A → List ℕ → Option ℕ) → ((f : Bor (List ℕ)) (x : A) (r : code.Option ℕ) → Answers f x r → number_says r ≡ says x f.now) → P says
