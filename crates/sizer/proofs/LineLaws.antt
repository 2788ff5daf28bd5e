-- Laws of the input's line: one turn of the code that reads its fields, and what its last byte decides. Assumes nothing.
use mathlib.Core.Path.{◌≡◌, refl, ap}
use mathlib.Core.List.{List, [], ◌∷◌}
use mathlib.Core.Option.{Option, none, some}
use Prim.Native.Nat.{ℕ, zero, suc, ◌-◌, ◌<◌, ◌≤◌}
use native.Mathlib.Omega.{arith}
use lib.Dec.{leb}
use lib.ListN.{length, take, get_or, replicate}
use borrow.Author.Tests.{eq-eqb, ne_eqb, le-leb, lt-leb}
use Rattle.definition.proofs.BaseLaws.{and_false}
use Rattle.lines.specs.Base.{tab, newline, split, when, ◌and_then◌}
use Rattle.lines.specs.Code.{numbers_by}
use Rattle.sizer.specs.Words.{size_text_limit, fields, field_count, line_by}

-- the fields, as many as the code has places, each read alike
pub fields_as : (read : List ℕ → Option ℕ) (n : ℕ) (fs : List (List ℕ)) → fields read n fs ≡ numbers_by (λ (x : Unit {0}). read) (replicate n tt) fs
unfolding fields numbers_by
fields_as read zero [] = refl
fields_as read zero (f ∷ fs) = refl
fields_as read (suc n) [] = refl
fields_as read (suc n) (f ∷ fs) = ap (λ o. read f and_then λ v. o and_then λ vs. some (v ∷ vs)) (fields_as read n fs)

module _ (read : List ℕ → Option ℕ) where
  -- ---- the whole input

  module _ (text : List ℕ) where
    pub line_long : size_text_limit < length text → line_by read text ≡ none
    unfolding line_by when
    line_long l = rw (lt-leb (length text) size_text_limit l)

    pub line_open : (get_or text (length text - 1) 0 ≡ newline → ⊥) → line_by read text ≡ none
    unfolding line_by when
    line_open n = rw (ne_eqb (get_or text (length text - 1) 0) newline n, and_false (leb (length text) size_text_limit))

    pub line_closed : length text ≤ size_text_limit → get_or text (length text - 1) 0 ≡ newline → line_by read text ≡ fields read field_count (split tab (take (length text - 1) text))
    unfolding line_by when
    line_closed l e = rw (le-leb (length text) size_text_limit l, eq-eqb (get_or text (length text - 1) 0) newline e)

  pub line_empty : (text : List ℕ) → length text ≡ 0 → line_by read text ≡ none
  line_empty [] e = line_open [] (λ z. omega (arith, z))
  line_empty (x ∷ xs) e = absurd (omega arith)
