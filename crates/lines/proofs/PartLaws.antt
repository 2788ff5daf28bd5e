-- Laws of parts: one turn of the code that looks for a byte or compares bytes, and what a first part is. Assumes nothing.
use mathlib.Core.Path.{◌≡◌, refl, sym, ◌∙◌, ap}
use mathlib.Core.Bool.{Bool, true, false, ◌&&◌}
use mathlib.Core.List.{List, [], ◌∷◌}
use Prim.Native.Nat.{ℕ, suc, ◌+◌, ◌-◌, ◌<◌, ◌≤◌}
use native.Mathlib.Omega.{arith}
use native.Mathlib.Numerals.{add-one}
use native.Mathlib.Decide.{dec_lt}
use lib.Dec.{eqb}
use lib.ListN.{length, take, drop, length-drop}
use lib.Seq.{take_all, drop-drop, length-take-le}
use borrow.Author.Tests.{eq-eqb, ne_eqb}
use Rattle.std.specs.Prelude.{Option, None, Some, MatchOption, unwrap_or, ◌≢◌}
use Rattle.std.specs.Str.{bytes_eq}
use Rattle.std.specs.List.{AllWithin, HoldsAt}
use Rattle.std.proofs.lemmas.Iterator.{index_from_first}
use Rattle.lines.specs.Base.{pick, same, grow, split}
use Rattle.lines.specs.Code.{first}

-- ---- the same bytes

-- what `==` says of slices
pub same_bytes : (a b : List ℕ) → bytes_eq a b ≡ same a b
unfolding same
same_bytes [] [] = refl
same_bytes [] (y ∷ ys) = refl
same_bytes (x ∷ xs) [] = refl
same_bytes (x ∷ xs) (y ∷ ys) = ap (λ (t : Bool). eqb x y && t) (same_bytes xs ys)

-- .. as the code asks, whether a is the literal b, which is lent as s
pub same_says : (a b s : List ℕ) (t : Bool) → s ≡ b → t ≡ bytes_eq a s → same a b ≡ t
same_says a b s t e h = sym (same_bytes a b) ∙ sym (rw e at h)

-- ---- the place of the first c

-- what `position` says of it
module _ (c : ℕ) where
  abbrev FirstAt : List ℕ → Option ℕ → Type 0
  FirstAt s r = MatchOption r (AllWithin (λ x. x ≢ c) s 0 (length s)) (λ i. (i < length s) × HoldsAt (λ x. x ≡ c) s i × AllWithin (λ x. x ≢ c) s 0 i)

  pub first_found : (s : List ℕ) (r : Option ℕ) → FirstAt s r → unwrap_or r (length s) ≡ first c s
  unfolding first
  first_found s r h = sym (index_from_first (first c) (λ x. x ≡ c) (λ x. x ≢ c) refl (λ x xs e. rw (eq-eqb x c e)) (λ x xs n. rw (ne_eqb x c n, add-one)) s r h)

  -- .. from a place on
  pub first_from : (s : List ℕ) (at : ℕ) → at ≤ length s → (r : Option ℕ) → FirstAt (take (length s - at) (drop at s)) r → unwrap_or r (length s - at) ≡ first c (drop at s)
  first_from s at inside r h =
      let rest : List ℕ = take (length s - at) (drop at s) in
      let whole : rest ≡ drop at s = take_all (length s - at) (drop at s) (omega (arith, length-drop at s)) in
      let size : length rest ≡ length s - at = rw whole (length-drop at s) in
      rw (size, whole) at (first_found rest r h)

pub first_within : (c : ℕ) (s : List ℕ) → first c s ≤ length s
unfolding first
first_within c [] = omega arith
first_within c (x ∷ xs) = go (eqb x c) (first_within c xs)
  where
    go : (t : Bool) → first c xs ≤ length xs → pick t 0 (suc (first c xs)) ≤ suc (length xs)
    go true h = omega arith
    go false h = omega arith

-- a part ends within the text
pub first_inside : (c : ℕ) (l : List ℕ) (at : ℕ) → at ≤ length l → at + first c (drop at l) ≤ length l
first_inside c l at h = omega (arith, first_within c (drop at l), length-drop at l)

-- ---- parts: the first one ends at the first c, and the rest is parted in turn

pub split_last : (c : ℕ) (s : List ℕ) → length s ≤ first c s → split c s ≡ s ∷ []
unfolding split first grow
split_last c [] l = refl
split_last c (x ∷ xs) l = go (split_last c xs) (eqb x c) l
  where
    go : (length xs ≤ first c xs → split c xs ≡ xs ∷ []) → (t : Bool) → suc (length xs) ≤ pick t 0 (suc (first c xs)) → pick t ([] ∷ split c xs) (grow x (split c xs)) ≡ (x ∷ xs) ∷ []
    go below true h = absurd (omega arith)
    go below false h = rw (below (omega arith), grow)

pub split_first : (c : ℕ) (s : List ℕ) → first c s < length s → split c s ≡ take (first c s) s ∷ split c (drop (suc (first c s)) s)
unfolding split first grow
split_first c [] l = absurd (omega arith)
split_first c (x ∷ xs) l = go (split_first c xs) (eqb x c) l
  where
    go : (first c xs < length xs → split c xs ≡ take (first c xs) xs ∷ split c (drop (suc (first c xs)) xs)) → (t : Bool) → pick t 0 (suc (first c xs)) < suc (length xs)
        → pick t ([] ∷ split c xs) (grow x (split c xs)) ≡ take (pick t 0 (suc (first c xs))) (x ∷ xs) ∷ split c (drop (suc (pick t 0 (suc (first c xs)))) (x ∷ xs))
    go below true h = refl
    go below false h = rw (below (omega arith), grow)

-- .. as `position` finds it
module _ (c : ℕ) (s : List ℕ) where
  pub cut_none : FirstAt c s None → split c s ≡ s ∷ []
  cut_none h = split_last c s (omega (arith, first_found c s None h))

  pub cut_some : (e : ℕ) → FirstAt c s (Some e) → split c s ≡ take e s ∷ split c (take (length s - (e + 1)) (drop (e + 1) s))
  cut_some e h =
      let found : e ≡ first c s = first_found c s (Some e) h in
      let behind : take (length s - (e + 1)) (drop (e + 1) s) ≡ drop (e + 1) s = take_all (length s - (e + 1)) (drop (e + 1) s) (omega (arith, length-drop (e + 1) s)) in
      rw (behind, add-one, found) (split_first c s (omega arith))

-- .. as the code finds it: the part that starts at `at` ends at e
module _ (c : ℕ) (s : List ℕ) (at e : ℕ) (inside : at ≤ length s) (end : e ≡ at + first c (drop at s)) where
  width : e - at ≡ first c (drop at s)
  width = omega arith

  pub part_last : length s ≤ e → split c (drop at s) ≡ take (e - at) (drop at s) ∷ []
  part_last h =
      let q : length (drop at s) ≤ first c (drop at s) = omega (arith, length-drop at s) in
      let w : take (e - at) (drop at s) ≡ drop at s = take_all (e - at) (drop at s) (omega (arith, length-drop at s)) in
      rw (split_last c (drop at s) q, w)

  pub part_next : e < length s → split c (drop at s) ≡ take (e - at) (drop at s) ∷ split c (drop (e + 1) s)
  part_next h =
      let q : first c (drop at s) < length (drop at s) = omega (arith, length-drop at s) in
      let p : at + suc (first c (drop at s)) ≡ e + 1 = omega arith in
      rw (split_first c (drop at s) q, width, drop-drop, p)

  -- whatever is behind it
  pub part_first : (rest : List (List ℕ)) × (split c (drop at s) ≡ take (e - at) (drop at s) ∷ rest)
  part_first = elim (dec_lt e (length s)) [ yes h ↦ (split c (drop (e + 1) s), part_next h) | no h ↦ ([], part_last (omega arith)) ]

-- there is always a first part
pub split_some : (c : ℕ) (s : List ℕ) → (p : List ℕ) × (ps : List (List ℕ)) × (split c s ≡ p ∷ ps)
unfolding split grow
split_some c [] = ([], [], refl)
split_some c (x ∷ xs) = go (eqb x c) (split c xs)
  where
    go : (t : Bool) (qs : List (List ℕ)) → (p : List ℕ) × (ps : List (List ℕ)) × (pick t ([] ∷ qs) (grow x qs) ≡ p ∷ ps)
    go true qs = ([], qs, refl)
    go false [] = (x ∷ [], [], refl)
    go false (q ∷ qs) = (x ∷ q, qs, refl)

-- a part has its own length
pub part_length : (c : ℕ) (s : List ℕ) (e : ℕ) → e ≡ 0 + first c (drop 0 s) → e ≡ length (take e s)
part_length c s e end = sym (length-take-le e s (omega (arith, first_within c s)))
