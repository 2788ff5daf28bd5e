-- Laws of reading a word: digit by digit, what is left decides; a number above 32 bits may be cut to the least of them; a decimal word is a number of 01. Assumes nothing.
use mathlib.Core.Path.{◌≡◌, refl, sym, ap, ◌∙◌}
use mathlib.Core.Bool.{Bool, true, false, cond, ◌&&◌}
use mathlib.Core.Logic.{◌⊎◌, inl, inr}
use mathlib.Core.List.{List, [], ◌∷◌}
use mathlib.Core.Option.{Option, none, some}
use Prim.Native.Nat.{ℕ, zero, suc, ◌+◌, ◌*◌, ◌-◌, ◌<◌, ◌≤◌}
use native.Mathlib.Omega.{arith}
use native.Mathlib.Numerals.{add-one}
use native.Mathlib.Decide.{dec_lt}
use native.Mathlib.Nat.{mul-le-mul_left}
use lib.Dec.{leb, ltb, eqb}
use lib.ListN.{length, take, drop, get_or, drop_of_length-le}
use lib.Seq.{drop-cons}
use Rattle.std.proofs.Math.Seq.{take_all}
use borrow.Author.Tests.{eq-eqb, eqb-false, ne_eqb, le-leb, lt-leb, lt-ltb, le-ltb, leb-true, ltb-true, ltb-false}
use Rattle.std.specs.Char as Std
use Rattle.definition.specs.Base.{all_of}
use Rattle.definition.proofs.BaseLaws.{and_false}
use Rattle.lines.specs.Base.{pick, same, when, ◌and_then◌, ◌or_else◌}
use Rattle.lines.specs.Numbers.{digit, value_from, plain, number}
use Rattle.lines.proofs.NumberLaws.{number_from}
use Rattle.lines.proofs.FormLaws.{and_both}
use Rattle.sizer.specs.Words.{digit_value, said_in, decimal, hexadecimal, word}
use Rattle.sizer.specs.Code.{capped, capped_said}

-- ---- a digit

module _ (b low high : ℕ) where
  within : low ≤ b → b ≤ high → (leb low b && leb b high) ≡ true
  within l h = rw (le-leb low b l, le-leb b high h)

  below : b < low → (leb low b && leb b high) ≡ false
  below l = rw (lt-leb low b l)

  above : high < b → (leb low b && leb b high) ≡ false
  above h = rw (lt-leb b high h, and_false (leb low b))

module _ (b : ℕ) where
  value_decimal : 48 ≤ b → b ≤ 57 → digit_value b ≡ b - 48
  unfolding digit_value
  value_decimal l h = rw (within b 48 57 l h)

  value_upper : 65 ≤ b → b ≤ 70 → digit_value b ≡ b - 55
  unfolding digit_value
  value_upper l h = rw (above b 48 57 (omega arith), below b 97 102 (omega arith), within b 65 70 l h)

  value_lower : 97 ≤ b → b ≤ 102 → digit_value b ≡ b - 87
  unfolding digit_value
  value_lower l h = rw (above b 48 57 (omega arith), within b 97 102 l h)

  -- the bytes before, between and behind the digits
  value_before : b < 48 → digit_value b ≡ 16
  unfolding digit_value
  value_before h = rw (below b 48 57 h, below b 97 102 (omega arith), below b 65 70 (omega arith))

  value_between : 57 < b → b < 65 → digit_value b ≡ 16
  unfolding digit_value
  value_between l h = rw (above b 48 57 l, below b 97 102 (omega arith), below b 65 70 h)

  value_middle : 70 < b → b < 97 → digit_value b ≡ 16
  unfolding digit_value
  value_middle l h = rw (above b 48 57 (omega arith), below b 97 102 h, above b 65 70 l)

  value_behind : 102 < b → digit_value b ≡ 16
  unfolding digit_value
  value_behind h = rw (above b 48 57 (omega arith), above b 97 102 h, above b 65 70 (omega arith))

-- std's digits of up to base 36 are the same below sixteen
module _ (b : ℕ) where
  abbrev said : Bool → Bool → Bool → Bool → Bool → Bool → ℕ
  said s t u v w x = cond s 36 (cond t (b - 48) (cond u 36 (cond v (b - 55) (cond w 36 (cond x (b - 87) 36)))))

  abbrev Alike : ℕ → Type 0
  Alike n = ((n ≡ digit_value b) × (n < 16)) ⊎ ((16 ≤ n) × (digit_value b ≡ 16))

  alike_by : (s : Bool) → ltb b 48 ≡ s → (t : Bool) → ltb b 58 ≡ t → (u : Bool) → ltb b 65 ≡ u → (v : Bool) → ltb b 91 ≡ v → (w : Bool) → ltb b 97 ≡ w → (x : Bool) → ltb b 123 ≡ x → Alike (said s t u v w x)
  alike_by true e t f u g v h w i x j = inr (omega arith, value_before b (ltb-true b 48 e))
  alike_by false e true f u g v h w i x j = inl (sym (value_decimal b (ltb-false b 48 e) (omega (arith, ltb-true b 58 f))), omega (arith, ltb-true b 58 f))
  alike_by false e false f true g v h w i x j = inr (omega arith, value_between b (omega (arith, ltb-false b 58 f)) (ltb-true b 65 g))
  alike_by false e false f false g true h w i x j =
      elim (dec_lt 70 b) [
        | yes l ↦ inr (omega arith, value_middle b l (omega (arith, ltb-true b 91 h)))
        | no l ↦ inl (sym (value_upper b (ltb-false b 65 g) (omega arith)), omega arith)
      ]
  alike_by false e false f false g false h true i x j = inr (omega arith, value_middle b (omega (arith, ltb-false b 91 h)) (ltb-true b 97 i))
  alike_by false e false f false g false h false i true j =
      elim (dec_lt 102 b) [
        | yes l ↦ inr (omega arith, value_behind b l)
        | no l ↦ inl (sym (value_lower b (ltb-false b 97 i) (omega arith)), omega arith)
      ]
  alike_by false e false f false g false h false i false j = inr (omega arith, value_behind b (omega (arith, ltb-false b 123 j)))

  digits_alike : Alike (Std.digit_value b)
  digits_alike = alike_by (ltb b 48) refl (ltb b 58) refl (ltb b 65) refl (ltb b 91) refl (ltb b 97) refl (ltb b 123) refl

  pub digit_is : Std.digit_value b < 16 → Std.digit_value b ≡ digit_value b
  digit_is l = go digits_alike
    where
      go : Alike (Std.digit_value b) → Std.digit_value b ≡ digit_value b
      go (inl e) = e.0
      go (inr h) = absurd (omega (arith, h.0))

  pub digit_none : (Std.digit_value b < 16 → ⊥) → digit_value b ≡ 16
  digit_none n = go digits_alike
    where
      go : Alike (Std.digit_value b) → digit_value b ≡ 16
      go (inl e) = absurd (n e.1)
      go (inr h) = h.1

-- ---- one turn: the digit at i is taken, or ends it

module _ (f : List ℕ) (i base v : ℕ) (l : i < length f) where
  abbrev grown : ℕ
  grown = v * base + digit_value (get_or f i 0)

  said_more : digit_value (get_or f i 0) < base → said_in base v (drop i f) ≡ said_in base grown (drop (i + 1) f)
  unfolding said_in when
  said_more h = rw (drop-cons f i 0 l, add-one, lt-ltb (digit_value (get_or f i 0)) base h)

  said_stop : base ≤ digit_value (get_or f i 0) → said_in base v (drop i f) ≡ none
  unfolding said_in when
  said_stop h = rw (drop-cons f i 0 l, le-ltb (digit_value (get_or f i 0)) base h)

-- ---- numbers above 32 bits

-- two that are cut to the same number stay so, whatever digits follow
module _ (base : ℕ) (positive : 0 < base) where
  capped_grows : (v w d : ℕ) → capped v ≡ capped w → capped (v * base + d) ≡ capped (w * base + d)
  capped_grows v w d e =
      elim (dec_lt v 4294967296) [
        | yes h ↦ let same_number : v ≡ w = omega arith in ap (λ (x : ℕ). capped (x * base + d)) same_number
        | no h ↦ omega (arith, mul-le-mul_left v positive, mul-le-mul_left w positive)
      ]

  capped_said_is : (bs : List ℕ) (v w : ℕ) → capped v ≡ capped w → capped_said (said_in base v bs) ≡ capped_said (said_in base w bs)
  unfolding said_in when
  capped_said_is [] v w e = ap some e
  capped_said_is (b ∷ bs) v w e = go (ltb (digit_value b) base) (capped_said_is bs (v * base + digit_value b) (w * base + digit_value b) (capped_grows v w (digit_value b) e))
    where
      go : (t : Bool) → capped_said (said_in base (v * base + digit_value b) bs) ≡ capped_said (said_in base (w * base + digit_value b) bs)
          → capped_said (when t (said_in base (v * base + digit_value b) bs)) ≡ capped_said (when t (said_in base (w * base + digit_value b) bs))
      go true h = h
      go false h = refl

-- one turn of the code: no digit of the base ends it ..
module _ (f : List ℕ) (i base v : ℕ) (inside : i < length f) where
  pub capped_stop : base ≤ digit_value (get_or f i 0) → capped_said (said_in base v (drop i f)) ≡ none
  capped_stop l = ap capped_said (said_stop f i base v inside l)

  -- .. or it is taken
  pub capped_more : (d w : ℕ) → 0 < base → d ≡ digit_value (get_or f i 0) → d < base → w ≡ capped (v * base + d) → capped_said (said_in base v (drop i f)) ≡ capped_said (said_in base w (drop (i + 1) f))
  capped_more d w p is l m =
      ap capped_said (said_more f i base v inside (omega (arith, is, l)))
      ∙ capped_said_is base p (drop (i + 1) f) (v * base + digit_value (get_or f i 0)) w (omega (arith, m, ap (λ x. v * base + x) is))

-- behind the last
pub capped_end : (f : List ℕ) (i base v : ℕ) → length f ≤ i → v ≤ 4294967296 → capped_said (said_in base v (drop i f)) ≡ some v
unfolding said_in
capped_end f i base v l h = let e : capped v ≡ v = omega arith in rw (drop_of_length-le f {i = i} l, e)

-- ---- the field's first bytes

or_none : (o : Option ℕ) → (o or_else none) ≡ o
unfolding ◌or_else◌
or_none none = refl
or_none (some v) = refl

pub word_empty : (f : List ℕ) → length f ≡ 0 → word f ≡ none
unfolding word decimal hexadecimal plain same when ◌or_else◌
word_empty [] e = refl
word_empty (x ∷ xs) e = absurd (omega arith)

-- a leading zero, and behind it what is no `x`
pub word_zeros : (f : List ℕ) → 1 < length f → get_or f 0 0 ≡ 48 → (get_or f 1 0 ≡ 120 → ⊥) → word f ≡ none
unfolding word decimal hexadecimal plain same when ◌or_else◌
word_zeros [] l e n = absurd (omega arith)
word_zeros (x ∷ []) l e n = absurd (omega arith)
word_zeros (x ∷ y ∷ ys) l e n = rw (eq-eqb x 48 e, ne_eqb y 120 n)

-- .. or nothing behind the `x`
pub word_bare : (f : List ℕ) → length f ≡ 2 → get_or f 0 0 ≡ 48 → word f ≡ none
unfolding word decimal hexadecimal plain same when ◌or_else◌
word_bare [] l e = absurd (omega arith)
word_bare (x ∷ []) l e = absurd (omega arith)
word_bare (x ∷ y ∷ []) l e = rw (eq-eqb x 48 e, and_false (eqb y 120 && true))
word_bare (x ∷ y ∷ z ∷ zs) l e = absurd (omega arith)

-- .. or digits
pub word_hexadecimal : (f : List ℕ) → 2 ≤ length f → eqb (length (take (length f - 2) (drop 2 f))) 0 ≡ false → get_or f 0 0 ≡ 48 → get_or f 1 0 ≡ 120 → word f ≡ said_in 16 0 (take (length f - 2) (drop 2 f))
unfolding word decimal hexadecimal plain same when ◌or_else◌
word_hexadecimal [] l n e h = absurd (omega arith)
word_hexadecimal (x ∷ []) l n e h = absurd (omega arith)
word_hexadecimal (x ∷ y ∷ ys) l n e h =
    let k : length (x ∷ y ∷ ys) - 2 ≡ length ys = omega arith in
    let all : take (length (x ∷ y ∷ ys) - 2) ys ≡ ys = ap (λ m. take m ys) k ∙ take_all (length ys) ys (omega arith) in
    let more : 2 < length (x ∷ y ∷ ys) = go (length ys) (ap (λ zs. eqb (length zs) 0) (sym all) ∙ n) in
    rw (eq-eqb x 48 e, eq-eqb y 120 h, lt-ltb 2 (length (x ∷ y ∷ ys)) more, all)
  where
    go : (m : ℕ) → eqb m 0 ≡ false → 2 < suc (suc m)
    go zero z = absurd (eqb-false 0 0 z refl)
    go (suc m) z = omega arith

pub word_decimal : (f : List ℕ) → 0 < length f → (1 < length f → get_or f 0 0 ≡ 48 → ⊥) → word f ≡ said_in 10 0 (drop 0 f)
unfolding word decimal hexadecimal plain same when
word_decimal [] l n = absurd (omega arith)
word_decimal (x ∷ []) l n = rw (and_false (eqb x 48)) (or_none (said_in 10 0 (x ∷ [])))
word_decimal (x ∷ y ∷ ys) l n = rw (ne_eqb x 48 (n (omega arith))) (or_none (said_in 10 0 (x ∷ y ∷ ys)))

-- ---- a decimal word is a number as 01 writes them

not_decimal : (b : ℕ) → digit b ≡ false → 10 ≤ digit_value b
unfolding digit_value
not_decimal b e = rw e (go (leb 97 b && leb b 102) refl (leb 65 b && leb b 70) refl)
  where
    go : (s : Bool) → (leb 97 b && leb b 102) ≡ s → (t : Bool) → (leb 65 b && leb b 70) ≡ t → 10 ≤ pick s (b - 87) (pick t (b - 55) 16)
    go true p t q = omega (arith, leb-true 97 b (and_both (leb 97 b) (leb b 102) p).0)
    go false p true q = omega (arith, leb-true 65 b (and_both (leb 65 b) (leb b 70) q).0)
    go false p false q = omega arith

decimal_value : (b : ℕ) → digit b ≡ true → (digit_value b ≡ b - 48) × (digit_value b < 10)
decimal_value b e =
    let (l, h) = and_both (leb 48 b) (leb b 57) e in
    let v : digit_value b ≡ b - 48 = value_decimal b (leb-true 48 b l) (leb-true b 57 h) in
    (v, omega (arith, leb-true b 57 h))

-- the number, if it is at most so large
abbrev pub at_most : ℕ → Option ℕ → Option ℕ
at_most most o = o and_then λ v. when (leb v most) (some v)

one_more : (most v b : ℕ) (bs : List ℕ) → at_most most (said_in 10 (v * 10 + (b - 48)) bs) ≡ number_from most (v * 10 + (b - 48)) bs → at_most most (said_in 10 v (b ∷ bs)) ≡ number_from most v (b ∷ bs)
unfolding said_in number_from all_of value_from when ◌and_then◌
one_more most v b bs below = go (digit b) refl
  where
    go : (t : Bool) → digit b ≡ t → at_most most (said_in 10 v (b ∷ bs)) ≡ number_from most v (b ∷ bs)
    go true e = let (is, small) = decimal_value b e in rw (e, lt-ltb (digit_value b) 10 small, is) below
    go false e = rw (e, le-ltb (digit_value b) 10 (not_decimal b e))

decimal_from : (most v : ℕ) (bs : List ℕ) → at_most most (said_in 10 v bs) ≡ number_from most v bs
unfolding said_in number_from all_of value_from ◌and_then◌
decimal_from most v [] = refl
decimal_from most v (b ∷ bs) = one_more most v b bs (decimal_from most (v * 10 + (b - 48)) bs)

-- THE LAW: 01's number of at most so much is the decimal word, where it is at most so much
pub decimal_number : (most : ℕ) (f : List ℕ) → number most f ≡ at_most most (decimal f)
unfolding number decimal number_from when ◌and_then◌
decimal_number most f = go (plain f)
  where
    go : (t : Bool) → when (t && (all_of digit f && leb (value_from 0 f) most)) (some (value_from 0 f)) ≡ at_most most (when t (said_in 10 0 f))
    go true = sym (decimal_from most 0 f)
    go false = refl
