-- Laws of one line written back: what the code asks of it, and how long it is. Assumes nothing.
use mathlib.Core.Path.{◌≡◌, refl, ◌∙◌, ap}
use mathlib.Core.Bool.{Bool, true, false}
use mathlib.Core.List.{List, [], ◌∷◌, ◌++◌}
use Prim.Native.Nat.{ℕ, suc, ◌+◌, ◌-◌, ◌*◌, ◌≤◌, ◌<◌}
use native.Mathlib.Omega.{arith}
use native.Mathlib.Numerals.{add-one}
use lib.Dec.{eqb}
use lib.ListN.{length, take, drop, get_or, length-append, drop_of_length-le}
use lib.Seq.{drop-cons, length-take-le}
use borrow.Author.Tests.{eq-eqb, ne_eqb}
use Rattle.definition.specs.Tables.{record_size}
use Rattle.lines.specs.Base.{pick}
use Rattle.lines.specs.Numbers.{digits}
use Rattle.lines.specs.Line.{behind}
use Rattle.lines.specs.Output.{field}
use Rattle.lines.proofs.DigitLaws.{digits_length}
use Rattle.writers.proofs.PutLaws.{tabbed}
use Rattle.write_back.specs.Bytes.{is_want, ends_in_auto, auto_size, granted_in, pinned_bytes, used_by}

-- ---- the two tests, on a line that is empty

pub empty_no_want : (l : List ℕ) → length l ≡ 0 → is_want l ≡ false
unfolding is_want
empty_no_want [] e = refl
empty_no_want (x ∷ l) e = absurd (omega arith)

pub empty_no_auto : (l : List ℕ) → length l ≡ 0 → ends_in_auto l ≡ false
unfolding ends_in_auto
empty_no_auto [] e = refl
empty_no_auto (x ∷ l) e = absurd (omega arith)

-- ---- numbers, each after a tab

-- the first of those from i on, and the others
pub tabbed_next : (xs : List ℕ) (i : ℕ) → i < length xs → length (tabbed (drop i xs)) ≡ 1 + length (digits (get_or xs i 0)) + length (tabbed (drop (i + 1) xs))
unfolding behind
tabbed_next xs i l =
    rw (add-one, drop-cons xs i 0 l)
    (omega (arith, length-append (digits (get_or xs i 0)) (tabbed (drop (suc i) xs))))

pub tabbed_end : (xs : List ℕ) (i : ℕ) → length xs ≤ i → length (tabbed (drop i xs)) ≡ 0
unfolding behind
tabbed_end xs i l = rw (drop_of_length-le xs {i = i} l)

pub tabbed_short : (xs : List ℕ) → length (tabbed xs) ≤ field * length xs
unfolding behind
tabbed_short [] = omega arith
tabbed_short (x ∷ xs) = omega (arith, length-append (digits x) (tabbed xs), digits_length x, tabbed_short xs)

-- ---- the numbers that a record grants

module _ (r : List ℕ) where
  pub granted_few : length (granted_in r) ≤ 3
  unfolding granted_in
  granted_few = go (eqb (get_or r 0 0) 3) (eqb (get_or r 0 0) 5)
    where
      go : (a b : Bool) → length (pick a (get_or r 4 0 ∷ []) (pick b (get_or r 5 0 ∷ get_or r 6 0 ∷ get_or r 7 0 ∷ []) (get_or r 3 0 ∷ []))) ≤ 3
      go true b = omega arith
      go false true = omega arith
      go false false = omega arith

  -- .. as the code reads them
  module _ (whole : record_size ≤ length r) where
    pub granted_input : get_or r 0 0 ≡ 3 → take 1 (drop 4 r) ≡ granted_in r
    unfolding granted_in
    granted_input e = rw (eq-eqb (get_or r 0 0) 3 e, drop-cons r 4 0 (omega arith))

    pub granted_msi : get_or r 0 0 ≡ 5 → take 3 (drop 5 r) ≡ granted_in r
    unfolding granted_in
    granted_msi e = rw (e, drop-cons r 5 0 (omega arith), drop-cons r 6 0 (omega arith), drop-cons r 7 0 (omega arith))

    pub granted_first : (get_or r 0 0 ≡ 3 → ⊥) → (get_or r 0 0 ≡ 5 → ⊥) → take 1 (drop 3 r) ≡ granted_in r
    unfolding granted_in
    granted_first e f = rw (ne_eqb (get_or r 0 0) 3 e, ne_eqb (get_or r 0 0) 5 f, drop-cons r 3 0 (omega arith))

-- ---- the line pinned

pub kept_length : (l : List ℕ) → length (take (length l - auto_size) l) ≡ length l - auto_size
kept_length l = length-take-le (length l - auto_size) l (omega arith)

module _ (l r : List ℕ) where
  pub pinned_as_is : ends_in_auto l ≡ false → pinned_bytes l r ≡ l
  unfolding pinned_bytes
  pinned_as_is e = rw (pinned_bytes, e)

  pub pinned_auto : ends_in_auto l ≡ true → pinned_bytes l r ≡ take (length l - auto_size) l ++ tabbed (granted_in r)
  unfolding pinned_bytes
  pinned_auto e = rw (pinned_bytes, e)

  pub pinned_length : ends_in_auto l ≡ true → length (pinned_bytes l r) ≡ length l - auto_size + length (tabbed (granted_in r))
  pinned_length e = ap length (pinned_auto e) ∙ omega (arith, length-append (take (length l - auto_size) l) (tabbed (granted_in r)), kept_length l)

  -- at most three numbers longer
  pub pinned_short : length (pinned_bytes l r) ≤ length l + 3 * field
  pinned_short = go (ends_in_auto l) refl
    where
      go : (b : Bool) → ends_in_auto l ≡ b → length (pinned_bytes l r) ≤ length l + 3 * field
      go true e = omega (arith, pinned_length e, tabbed_short (granted_in r), granted_few r)
      go false e = omega (arith, ap length (pinned_as_is e))

-- ---- the records that it takes

pub used_one : (l : List ℕ) → is_want l ≡ true → used_by l ≡ record_size
unfolding used_by
used_one l e = rw (used_by, e)

pub used_none : (l : List ℕ) → is_want l ≡ false → used_by l ≡ 0
unfolding used_by
used_none l e = rw (used_by, e)
