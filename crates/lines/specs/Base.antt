-- Bytes as numbers below 256, the sizes of a text, and a text parted at a byte. Assumes nothing.
use Rattle.std.specs.Prelude.{Bool, true, false, ◌&&◌, List, [], ◌∷◌, ℕ, eqb}
use Rattle.std.proofs.Math.Option.{Option, none, some}
use Prim.Native.Char.{code}
use Prim.Native.String.{String, [] as empty, ◌∷◌ as ◌before◌}

-- ---- sizes, in bytes: a line without its newline; the whole text

abbrev pub line_limit : ℕ
line_limit = 200

abbrev pub text_limit : ℕ
text_limit = 65536

-- ---- bytes

-- the bytes of a literal, which has ASCII characters only
abbrev pub bytes : String → List ℕ
bytes empty = []
bytes (c before s) = code c ∷ bytes s

abbrev pub tab : ℕ
tab = 9

abbrev pub newline : ℕ
newline = 10

-- the same bytes
unfoldable pub same : List ℕ → List ℕ → Bool
same [] [] = true
same [] (y ∷ ys) = false
same (x ∷ xs) [] = false
same (x ∷ xs) (y ∷ ys) = eqb x y && same xs ys

-- ---- parts: always one more than there are bytes c. Lines are the parts at newlines, fields the parts at tabs

abbrev pub pick : {A : Type 0} → Bool → A → A → A
pick true a b = a
pick false a b = b

-- the byte x put before the first part
unfoldable pub grow : ℕ → List (List ℕ) → List (List ℕ)
grow x [] = (x ∷ []) ∷ []
grow x (p ∷ ps) = (x ∷ p) ∷ ps

unfoldable pub split : ℕ → List ℕ → List (List ℕ)
split c [] = [] ∷ []
split c (x ∷ xs) = pick (eqb x c) ([] ∷ split c xs) (grow x (split c xs))

-- ---- what may be missing

unfoldable pub when : {A : Type 0} → Bool → Option A → Option A
when true o = o
when false o = none

unfoldable pub ◌and_then◌ : {A B : Type 0} → Option A → (A → Option B) → Option B
◌and_then◌ none f = none
◌and_then◌ (some a) f = f a

unfoldable pub ◌or_else◌ : {A : Type 0} → Option A → Option A → Option A
◌or_else◌ none o = o
◌or_else◌ (some a) o = some a

infixl 30 ◌and_then◌
infixr 20 ◌or_else◌
