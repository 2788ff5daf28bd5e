-- Laws of spelling: a field that was read is the one that is written, and one that is written is read; a text joined is parted again. Assumes nothing.
use mathlib.Core.Path.{◌≡◌, refl, sym, ◌∙◌, ap}
use mathlib.Core.Bool.{Bool, true, false, not, ◌&&◌}
use mathlib.Core.List.{List, [], ◌∷◌, ◌++◌, append_assoc, append-nil}
use mathlib.Core.Option.{Option, none, some}
use Prim.Native.Nat.{ℕ, suc, ◌+◌, ◌*◌, ◌-◌, ◌/◌, ◌%◌, ◌≤◌}
use native.Mathlib.Omega.{arith}
use lib.Dec.{eqb, leb}
use lib.ListN.{get_or}
use lib.Seq.{append_snoc}
use borrow.Author.Tests.{leb-true, eqb-true, eqb-false, not-true, eq-eqb, ne_eqb, le-leb}
use Rattle.definition.specs.Tables.{top}
use Rattle.definition.specs.Base.{all_of}
use Rattle.definition.proofs.BaseLaws.{true_T}
use Rattle.lines.specs.Base.{bytes, tab, same, grow, split, pick, when, ◌and_then◌}
use Rattle.lines.specs.Numbers.{digit, value_from, plain, number, digits}
use Rattle.lines.specs.Forms.{the_auto, entry, numbers, field_of, fields_of}
use Rattle.lines.specs.Line.{behind, numbers_fit}
use Rattle.lines.proofs.PartLaws.{split_some}
use Rattle.lines.proofs.NumberLaws.{value_grows}
use Rattle.lines.proofs.DigitLaws.{digits_small, digits_more}
use Rattle.lines.proofs.RoundTrip.{number_digits, digits_digits}
use Rattle.lines.proofs.FormLaws.{when_some, and_both, entry_within}

-- ---- the same bytes

pub same_eq : (a b : List ℕ) → same a b ≡ true → a ≡ b
unfolding same
same_eq [] [] e = refl
same_eq [] (y ∷ ys) e = absurd (true_T false e)
same_eq (x ∷ xs) [] e = absurd (true_T false e)
same_eq (x ∷ xs) (y ∷ ys) e =
    let (p, q) = and_both (eqb x y) (same xs ys) e in
    let h : x ≡ y = eqb-true x y p in
    let t : xs ≡ ys = same_eq xs ys q in
    cc

pub same_refl : (a : List ℕ) → same a a ≡ true
unfolding same
same_refl [] = refl
same_refl (x ∷ xs) = rw (eq-eqb x x refl) (same_refl xs)

-- ---- what was made of an option was made of a value

pub and_then_some : {A B : Type 0} (o : Option A) (f : A → Option B) (b : B) → (o and_then f) ≡ some b → (a : A) × (o ≡ some a) × (f a ≡ some b)
unfolding ◌and_then◌
and_then_some none f b e = absurd (let z : ◌≡◌ {A = ℕ} 0 1 = cc in omega arith)
and_then_some (some a) f b e = (a, refl, e)

-- ---- a number's field

-- a digit behind a number of at least one digit
digits_one_more : (v b : ℕ) → 1 ≤ v → 48 ≤ b → b ≤ 57 → v * 10 + (b - 48) ≤ top 64 → digits (v * 10 + (b - 48)) ≡ digits v ++ (b ∷ [])
digits_one_more v b p l h t =
    let n : ℕ = v * 10 + (b - 48) in
    let front : n / 10 ≡ v = omega arith in
    let last : 48 + n % 10 ≡ b = omega arith in
    digits_more n (omega arith) t ∙ rw (front, last)

pub digit_between : (b : ℕ) → digit b ≡ true → (48 ≤ b) × (b ≤ 57)
digit_between b e = let (p, q) = and_both (leb 48 b) (leb b 57) e in (leb-true 48 b p, leb-true b 57 q)

-- digits behind it
value_digits : (v : ℕ) (bs : List ℕ) → 1 ≤ v → all_of digit bs ≡ true → value_from v bs ≤ top 64 → digits (value_from v bs) ≡ digits v ++ bs
unfolding all_of value_from
value_digits v [] p d t = sym (append-nil (digits v))
value_digits v (b ∷ bs) p d t =
    let (x, y) = and_both (digit b) (all_of digit bs) d in
    let (low, high) = digit_between b x in
    let grown : ℕ = v * 10 + (b - 48) in
    value_digits grown bs (omega arith) y t
    ∙ ap (λ (l : List ℕ). l ++ bs) (digits_one_more v b p low high (omega (arith, value_grows grown bs)))
    ∙ append_snoc (digits v) b bs

first_digit : (b : ℕ) → digit b ≡ true → digits (0 * 10 + (b - 48)) ≡ b ∷ []
first_digit b e =
    let (low, high) = digit_between b e in
    let v : 0 * 10 + (b - 48) ≡ b - 48 = omega arith in
    let back : 48 + (b - 48) ≡ b = omega arith in
    rw (v, digits_small (b - 48) (omega arith), back)

plain_digits : (f : List ℕ) → plain f ≡ true → all_of digit f ≡ true → value_from 0 f ≤ top 64 → digits (value_from 0 f) ≡ f
unfolding plain all_of value_from
plain_digits [] p d t = absurd (true_T false p)
plain_digits (b ∷ []) p d t = first_digit b (and_both (digit b) true d).0
plain_digits (b ∷ c ∷ bs) p d t =
    let (x, y) = and_both (digit b) (all_of digit (c ∷ bs)) d in
    let (low, high) = digit_between b x in
    let no_zero : b ≡ 48 → ⊥ = eqb-false b 48 (not-true (eqb b 48) p) in
    value_digits (0 * 10 + (b - 48)) (c ∷ bs) (omega arith) y t
    ∙ ap (λ (l : List ℕ). l ++ (c ∷ bs)) (first_digit b x)

pub number_back : (m : ℕ) (f : List ℕ) (v : ℕ) → m ≤ top 64 → number m f ≡ some v → digits v ≡ f
unfolding number
number_back m f v l e =
    let w : ℕ = value_from 0 f in
    let (t, q) = when_some (plain f && (all_of digit f && leb w m)) (some w) v e in
    let (p, r) = and_both (plain f) (all_of digit f && leb w m) t in
    let (d, s) = and_both (all_of digit f) (leb w m) r in
    let same_value : w ≡ v = cc in
    rw (← same_value) (plain_digits f p d (omega (arith, leb-true w m s)))

-- ---- a field, and the fields of a form

-- digits are never the word `auto`
digits_no_word : (f : List ℕ) → all_of digit f ≡ true → same f (bytes "auto") ≡ false
unfolding all_of same
digits_no_word [] d = refl
digits_no_word (b ∷ bs) d =
    let (low, high) = digit_between b (and_both (digit b) (all_of digit bs) d).0 in
    rw (ne_eqb b 97 (λ e. omega arith))

pub auto_no_digits : (v : ℕ) → entry the_auto (digits v) ≡ none
unfolding entry when
auto_no_digits v = rw (digits_no_word (digits v) (digits_digits v))

pub entry_back : (m : ℕ) (f : List ℕ) (v : ℕ) → m ≤ top 64 → entry m f ≡ some v → field_of m v ≡ f
unfolding entry field_of
entry_back m f v l e = go (eqb m the_auto) e
  where
    go : (t : Bool) → pick t (when (same f (bytes "auto")) (some 0)) (number m f) ≡ some v → pick t (bytes "auto") (digits v) ≡ f
    go true q = sym (same_eq f (bytes "auto") (when_some (same f (bytes "auto")) (some 0) v q).0)
    go false q = number_back m f v l q

pub entry_of : (m v : ℕ) → m ≤ top 64 → v ≤ m → entry m (field_of m v) ≡ some v
unfolding entry field_of when
entry_of m v l h = go (eqb m the_auto) refl
  where
    go : (t : Bool) → eqb m the_auto ≡ t → let f : List ℕ = pick t (bytes "auto") (digits v) in pick t (when (same f (bytes "auto")) (some 0)) (number m f) ≡ some v
    go true e =
        let none_left : m ≡ 0 = eqb-true m 0 e in
        let zero_there : 0 ≡ v = omega arith in
        rw (same_refl (bytes "auto")) (ap some zero_there)
    go false e = number_digits m v (omega arith) h

-- every number of a form has at most 64 bits
abbrev pub narrow : List ℕ → Bool
narrow ms = all_of (λ m. leb m (top 64)) ms

narrow_head : (m : ℕ) (ms : List ℕ) → narrow (m ∷ ms) ≡ true → (m ≤ top 64) × (narrow ms ≡ true)
unfolding all_of
narrow_head m ms e = let (p, q) = and_both (leb m (top 64)) (narrow ms) e in (leb-true m (top 64) p, q)

-- a form's numbers that were read are those of its first field, and of the others
numbers_parts : (m : ℕ) (ms f : List ℕ) (fs : List (List ℕ)) (vs : List ℕ) → numbers (m ∷ ms) (f ∷ fs) ≡ some vs
    → (v : ℕ) × (l : List ℕ) × (entry m f ≡ some v) × (numbers ms fs ≡ some l) × (v ∷ l ≡ vs)
unfolding numbers
numbers_parts m ms f fs vs e =
    let (v, p, q) = and_then_some (entry m f) (λ n. numbers ms fs and_then λ l. some (n ∷ l)) vs e in
    let (l, r, s) = and_then_some (numbers ms fs) (λ l. some (v ∷ l)) vs q in
    (v, l, p, r, cc)

pub numbers_back : (ms : List ℕ) (fs : List (List ℕ)) (vs : List ℕ) → narrow ms ≡ true → numbers ms fs ≡ some vs → fields_of ms (λ i. get_or vs i 0) ≡ fs
unfolding numbers fields_of
numbers_back [] [] vs n e = refl
numbers_back [] (f ∷ fs) vs n e = absurd (let z : ◌≡◌ {A = ℕ} 0 1 = cc in omega arith)
numbers_back (m ∷ ms) [] vs n e = absurd (let z : ◌≡◌ {A = ℕ} 0 1 = cc in omega arith)
numbers_back (m ∷ ms) (f ∷ fs) vs n e =
    let (v, l, p, q, r) = numbers_parts m ms f fs vs e in
    let (h, t) = narrow_head m ms n in
    rw (← r, entry_back m f v h p, numbers_back ms fs l t q)

-- .. and each is within its field
pub numbers_within : (ms : List ℕ) (fs : List (List ℕ)) (vs : List ℕ) → numbers ms fs ≡ some vs → numbers_fit ms vs ≡ true
unfolding numbers numbers_fit
numbers_within [] [] vs e = let q : [] ≡ vs = cc in rw (← q)
numbers_within [] (f ∷ fs) vs e = absurd (let z : ◌≡◌ {A = ℕ} 0 1 = cc in omega arith)
numbers_within (m ∷ ms) [] vs e = absurd (let z : ◌≡◌ {A = ℕ} 0 1 = cc in omega arith)
numbers_within (m ∷ ms) (f ∷ fs) vs e =
    let (v, l, p, q, r) = numbers_parts m ms f fs vs e in
    rw (← r, le-leb v m (entry_within m f v p)) (numbers_within ms fs l q)

-- numbers within a form's are read from the fields that are written of them
pub numbers_of : (ms vs : List ℕ) → narrow ms ≡ true → numbers_fit ms vs ≡ true → numbers ms (fields_of ms (λ i. get_or vs i 0)) ≡ some vs
unfolding numbers fields_of numbers_fit ◌and_then◌
numbers_of [] [] n e = refl
numbers_of [] (v ∷ vs) n e = absurd (true_T false e)
numbers_of (m ∷ ms) [] n e = absurd (true_T false e)
numbers_of (m ∷ ms) (v ∷ vs) n e =
    let (h, t) = narrow_head m ms n in
    let (p, q) = and_both (leb v m) (numbers_fit ms vs) e in
    rw (entry_of m v h (leb-true v m p), ◌and_then◌, numbers_of ms vs t q)

-- the numbers that a form's fields are written of: none at an `auto`
unfoldable pub values_of : List ℕ → (ℕ → ℕ) → List ℕ
values_of [] n = []
values_of (m ∷ ms) n = pick (eqb m the_auto) 0 (n 0) ∷ values_of ms (λ i. n (suc i))

pub values_within : (ms vs : List ℕ) → numbers_fit ms vs ≡ true → values_of ms (λ i. get_or vs i 0) ≡ vs
unfolding values_of numbers_fit
values_within [] [] e = refl
values_within [] (v ∷ vs) e = absurd (true_T false e)
values_within (m ∷ ms) [] e = absurd (true_T false e)
values_within (m ∷ ms) (v ∷ vs) e =
    let (p, q) = and_both (leb v m) (numbers_fit ms vs) e in
    let small : v ≤ m = leb-true v m p in
    rw (values_within ms vs q) (ap (λ (x : ℕ). x ∷ vs) (go (eqb m the_auto) refl small))
  where
    go : (t : Bool) → eqb m the_auto ≡ t → v ≤ m → pick t 0 v ≡ v
    go true z l = omega (arith, eqb-true m 0 z)
    go false z l = refl

-- ---- parts, at any byte c

-- no byte is c
abbrev pub without : ℕ → List ℕ → Bool
without c l = all_of (λ b. not (eqb b c)) l

-- fields, each after a byte c
unfoldable pub after : ℕ → List (List ℕ) → List ℕ
after c [] = []
after c (f ∷ fs) = c ∷ (f ++ after c fs)

pub after_tab : (fs : List (List ℕ)) → after tab fs ≡ behind fs
unfolding after behind
after_tab [] = refl
after_tab (f ∷ fs) = rw (after_tab fs)

module _ (c : ℕ) where
  without_head : (b : ℕ) (bs : List ℕ) → without c (b ∷ bs) ≡ true → (eqb b c ≡ false) × (without c bs ≡ true)
  unfolding all_of
  without_head b bs e = let (p, q) = and_both (not (eqb b c)) (without c bs) e in (not-true (eqb b c) p, q)

  -- a part is closed by the first c behind it
  pub part_closed : (w rest : List ℕ) → without c w ≡ true → split c (w ++ (c ∷ rest)) ≡ w ∷ split c rest
  unfolding split grow
  part_closed [] rest e = rw (eq-eqb c c refl)
  part_closed (b ∷ bs) rest e = let (p, q) = without_head b bs e in rw (p, part_closed bs rest q)

  pub part_alone : (w : List ℕ) → without c w ≡ true → split c w ≡ w ∷ []
  unfolding split grow
  part_alone [] e = refl
  part_alone (b ∷ bs) e = let (p, q) = without_head b bs e in rw (p, part_alone bs q)

  pub parted : (w : List ℕ) (fs : List (List ℕ)) → without c w ≡ true → all_of (without c) fs ≡ true → split c (w ++ after c fs) ≡ w ∷ fs
  unfolding after all_of
  parted w [] e d = rw (append-nil w) (part_alone w e)
  parted w (f ∷ fs) e d =
      let (p, q) = and_both (without c f) (all_of (without c) fs) d in
      part_closed w (f ++ after c fs) e ∙ ap (λ (l : List (List ℕ)). w ∷ l) (parted f fs p q)

  pub joined : (l w : List ℕ) (fs : List (List ℕ)) → split c l ≡ w ∷ fs → w ++ after c fs ≡ l
  unfolding split grow after
  joined [] w fs e = let p : [] ≡ w = cc in let q : [] ≡ fs = cc in rw (← p, ← q)
  joined (x ∷ xs) w fs e =
      let (p, ps, h) = split_some c xs in
      go (eqb x c) refl p ps (joined xs p ps h) (rw h at e)
    where
      go : (t : Bool) → eqb x c ≡ t → (p : List ℕ) (ps : List (List ℕ)) → p ++ after c ps ≡ xs → pick t ([] ∷ p ∷ ps) (grow x (p ∷ ps)) ≡ w ∷ fs → w ++ after c fs ≡ x ∷ xs
      go true z p ps below q =
          let first : [] ≡ w = cc in
          let others : p ∷ ps ≡ fs = cc in
          let at_c : x ≡ c = eqb-true x c z in
          rw (← first, ← others, below, at_c)
      go false z p ps below q =
          let first : x ∷ p ≡ w = cc in
          let others : ps ≡ fs = cc in
          rw (← first, ← others, below)

-- .. and at tabs
pub fields_parted : (w : List ℕ) (fs : List (List ℕ)) → without tab w ≡ true → all_of (without tab) fs ≡ true → split tab (w ++ behind fs) ≡ w ∷ fs
fields_parted w fs e d = rw (← after_tab fs) (parted tab w fs e d)

pub fields_joined : (l w : List ℕ) (fs : List (List ℕ)) → split tab l ≡ w ∷ fs → w ++ behind fs ≡ l
fields_joined l w fs e = rw (← after_tab fs) (joined tab l w fs e)

-- the fields of one list behind those of another
pub behind_append : (fs gs : List (List ℕ)) → behind (fs ++ gs) ≡ behind fs ++ behind gs
unfolding behind
behind_append [] gs = refl
behind_append (f ∷ fs) gs =
    ap {B = List ℕ} (λ l. tab ∷ l) (ap (λ l. f ++ l) (behind_append fs gs) ∙ sym (append_assoc f (behind fs) (behind gs)))
