-- Laws of reading a number: digit by digit, what is left decides. Assumes nothing.
use mathlib.Core.Path.{◌≡◌, refl, ◌∙◌}
use mathlib.Core.Bool.{true, ◌&&◌}
use mathlib.Core.List.{List, [], ◌∷◌}
use mathlib.Core.Option.{Option, none, some}
use Prim.Native.Nat.{ℕ, ◌+◌, ◌*◌, ◌-◌, ◌<◌, ◌≤◌}
use native.Mathlib.Omega.{arith}
use native.Mathlib.Numerals.{add-one}
use lib.Dec.{leb}
use lib.ListN.{length, drop, get_or, drop_of_length-le}
use lib.Seq.{drop-cons}
use borrow.Author.Tests.{eq-eqb, ne_eqb, le-leb, lt-leb}
use Rattle.definition.specs.Base.{all_of}
use Rattle.definition.proofs.BaseLaws.{and_false}
use Rattle.lines.specs.Base.{when}
use Rattle.lines.specs.Numbers.{digit, value_from, plain, number}

-- digits never make a number smaller
pub value_grows : (v : ℕ) (bs : List ℕ) → v ≤ value_from v bs
unfolding value_from
value_grows v [] = omega arith
value_grows v (b ∷ bs) = omega (arith, value_grows (v * 10 + (b - 48)) bs)

-- ---- fields that cannot be numbers

pub number_empty : (most : ℕ) (f : List ℕ) → length f ≡ 0 → number most f ≡ none
unfolding number plain when
number_empty most [] e = refl
number_empty most (x ∷ xs) e = absurd (omega arith)

pub number_zeros : (most : ℕ) (f : List ℕ) → 1 < length f → get_or f 0 0 ≡ 48 → number most f ≡ none
unfolding number plain when
number_zeros most [] l e = absurd (omega arith)
number_zeros most (x ∷ []) l e = absurd (omega arith)
number_zeros most (x ∷ y ∷ ys) l e = rw (eq-eqb x 48 e)

plain_is : (f : List ℕ) → 0 < length f → (1 < length f → get_or f 0 0 ≡ 48 → ⊥) → plain f ≡ true
unfolding plain
plain_is [] l e = absurd (omega arith)
plain_is (x ∷ []) l e = refl
plain_is (x ∷ y ∷ ys) l e = rw (ne_eqb x 48 (e (omega arith)))

-- ---- the rest bs of a field, after digits that said v

unfoldable pub number_from : ℕ → ℕ → List ℕ → Option ℕ
number_from most v bs = when (all_of digit bs && leb (value_from v bs) most) (some (value_from v bs))

pub number_starts : (most : ℕ) (f : List ℕ) → 0 < length f → (1 < length f → get_or f 0 0 ≡ 48 → ⊥) → number most f ≡ number_from most 0 f
unfolding number number_from
number_starts most f l e = rw (plain_is f l e)

too_large : (most v : ℕ) (bs : List ℕ) → most < v → number_from most v bs ≡ none
unfolding number_from when
too_large most v bs h =
    let g : most < value_from v bs = omega (arith, value_grows v bs) in
    rw (lt-leb (value_from v bs) most g, and_false (all_of digit bs))

-- one turn: the digit at i is taken, or ends it
module _ (most : ℕ) (f : List ℕ) (i v : ℕ) (l : i < length f) where
  abbrev grown : ℕ
  grown = v * 10 + (get_or f i 0 - 48)

  pub from_more : 48 ≤ get_or f i 0 → get_or f i 0 ≤ 57 → number_from most v (drop i f) ≡ number_from most grown (drop (i + 1) f)
  unfolding number_from all_of value_from
  from_more a b = rw (drop-cons f i 0 l, add-one, le-leb 48 (get_or f i 0) a, le-leb (get_or f i 0) 57 b)

  pub from_low : get_or f i 0 < 48 → number_from most v (drop i f) ≡ none
  unfolding number_from all_of when
  from_low a = rw (drop-cons f i 0 l, lt-leb 48 (get_or f i 0) a)

  pub from_high : 57 < get_or f i 0 → number_from most v (drop i f) ≡ none
  unfolding number_from all_of when
  from_high a = rw (drop-cons f i 0 l, lt-leb (get_or f i 0) 57 a, and_false (leb 48 (get_or f i 0)))

  pub from_large : 48 ≤ get_or f i 0 → get_or f i 0 ≤ 57 → most < grown → number_from most v (drop i f) ≡ none
  from_large a b h = from_more a b ∙ too_large most grown (drop (i + 1) f) h

module _ (most : ℕ) (f : List ℕ) (i v : ℕ) (l : length f ≤ i) where
  pub from_end : v ≤ most → number_from most v (drop i f) ≡ some v
  unfolding number_from all_of value_from when
  from_end h = rw (drop_of_length-le f {i = i} l, le-leb v most h)

  pub from_over : most < v → number_from most v (drop i f) ≡ none
  from_over h = too_large most v (drop i f) h
