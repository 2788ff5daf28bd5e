-- Laws of forms: one turn of the code that reads the fields behind a kind's word, and what a row that was read is good for. Assumes nothing.
use mathlib.Core.Path.{◌≡◌, refl, sym, ◌∙◌, ap}
use mathlib.Core.Bool.{Bool, true, false, ◌&&◌}
use mathlib.Core.List.{List, map, [], ◌∷◌, ◌++◌}
use mathlib.Core.Option.{Option, none, some}
use Prim.Native.Nat.{ℕ, suc, ◌+◌, ◌-◌, ◌<◌, ◌≤◌}
use native.Mathlib.Omega.{arith}
use native.Mathlib.Numerals.{add-one}
use lib.Dec.{eqb, leb, ltb}
use lib.ListN.{length, take, drop, get_or, set, length-set, drop_of_length-le}
use Rattle.std.proofs.Common.{append_assoc, append-nil}
use lib.Seq.{drop-cons}
use borrow.Author.Tests.{leb-true, ltb-true, ne_eqb}
use Rattle.definition.specs.Base.{all_of}
use Rattle.std.specs.Prelude.{None, Some, IfSome}
use Rattle.std.specs.Prelude as code
use Rattle.std.proofs.Math.Seq.{take_all}
use Rattle.std.proofs.lemmas.List.{take_more_set}
use Rattle.lines.specs.Base.{bytes, tab, same, split, pick, when, ◌and_then◌}
use Rattle.lines.specs.Numbers.{digit, value_from, plain, number}
use Rattle.lines.specs.declared.form.Field.{Field}
use Rattle.lines.specs.declared.form.Field.TheVariants.{UpTo, Auto}
use Rattle.lines.specs.Forms.{the_auto, entry, numbers}
use Rattle.lines.specs.Code.{first, field_says, field_code, numbers_by, Within, row_from, row_of}
use Rattle.lines.proofs.PartLaws.{part_last, part_next, part_first, split_some}

-- ---- one field more

module _ {A : Type 0} (says : A → List ℕ → Option ℕ) where
  -- fields read from the front: all of them
  pub row_starts : (v : List ℕ) (o : Option (List ℕ)) → row_of o ≡ row_from v 0 o
  row_starts v none = refl
  row_starts v (some ns) = refl

  module _ (n : List ℕ) (i : ℕ) (x : A) (xs : List A) (f : List ℕ) (fs : List (List ℕ)) where
    row_stop : says x f ≡ none → row_from n i (numbers_by says (x ∷ xs) (f ∷ fs)) ≡ None
    unfolding numbers_by ◌and_then◌
    row_stop e = rw (e, ◌and_then◌)

    row_more : (v : ℕ) → says x f ≡ some v → i < length n → row_from n i (numbers_by says (x ∷ xs) (f ∷ fs)) ≡ row_from (set n i v) (i + 1) (numbers_by says xs fs)
    unfolding numbers_by ◌and_then◌
    row_more v e l = rw (e, ◌and_then◌) (go (numbers_by says xs fs))
      where
        go : (o : Option (List ℕ)) → row_from n i (o and_then λ ns. some (v ∷ ns)) ≡ row_from (set n i v) (i + 1) o
        go none = refl
        go (some ns) = ap (λ (l : List ℕ). Some l) (sym (ap (λ (l : List ℕ). l ++ ns) (take_more_set n i v l) ∙ append_assoc (take i n) (v ∷ []) ns))

  -- ---- as the code reads: the field from `at` to e, the form's place i

  module _ (rest : List ℕ) (form : List A) (n : List ℕ) (d : A) (at e i : ℕ) (inside : at ≤ length rest) (end : e ≡ at + first tab (drop at rest)) (turn : i < length form) where
    abbrev x : A
    x = get_or form i d

    here : drop i form ≡ x ∷ drop (i + 1) form
    here = rw (drop-cons form i d turn, add-one)

    abbrev now_field : Option ℕ
    now_field = says x (take (e - at) (drop at rest))

    pub read_stop : now_field ≡ none → row_from n i (numbers_by says (drop i form) (split tab (drop at rest))) ≡ None
    read_stop h =
        let (fs, q) = part_first tab rest at e inside end in
        rw (q, here) (row_stop n i x (drop (i + 1) form) (take (e - at) (drop at rest)) fs h)

    pub read_next : (v : ℕ) → now_field ≡ some v → i < length n → e < length rest
        → row_from n i (numbers_by says (drop i form) (split tab (drop at rest))) ≡ row_from (set n i v) (i + 1) (numbers_by says (drop (i + 1) form) (split tab (drop (e + 1) rest)))
    read_next v h k l =
        rw (part_next tab rest at e inside end l, here)
        (row_more n i x (drop (i + 1) form) (take (e - at) (drop at rest)) (split tab (drop (e + 1) rest)) v h k)

    read_last : (v : ℕ) → now_field ≡ some v → i < length n → length rest ≤ e
        → row_from n i (numbers_by says (drop i form) (split tab (drop at rest))) ≡ row_from (set n i v) (i + 1) (numbers_by says (drop (i + 1) form) [])
    read_last v h k l =
        rw (part_last tab rest at e inside end l, here)
        (row_more n i x (drop (i + 1) form) (take (e - at) (drop at rest)) [] v h k)

    -- the last field is the form's last
    pub read_end : (v : ℕ) → now_field ≡ some v → length n ≡ i + 1 → length rest ≤ e → length form ≤ i + 1
        → row_from n i (numbers_by says (drop i form) (split tab (drop at rest))) ≡ Some (set n i v)
    unfolding numbers_by
    read_end v h w l k =
        read_last v h (omega arith) l
        ∙ rw (drop_of_length-le form {i = i + 1} k, append-nil, take_all (i + 1) (set n i v) (omega (arith, length-set n i v)))

    -- .. or the form asks for more
    pub read_short : (v : ℕ) → now_field ≡ some v → i < length n → length rest ≤ e → i + 1 < length form
        → row_from n i (numbers_by says (drop i form) (split tab (drop at rest))) ≡ None
    unfolding numbers_by
    read_short v h w l k = read_last v h w l ∙ rw (drop-cons form (i + 1) d k)

  -- fields are left where the form ends
  pub read_over : (form : List A) (n xs : List ℕ) (i : ℕ) → length form ≤ i → row_from n i (numbers_by says (drop i form) (split tab xs)) ≡ None
  unfolding numbers_by
  read_over form n xs i l =
      let (p, ps, e) = split_some tab xs in
      rw (drop_of_length-le form {i = i} l, e)

-- ---- the numbers that were read keep to the form

pub when_some : {A : Type 0} (t : Bool) (o : Option A) (v : A) → when t o ≡ some v → (t ≡ true) × (o ≡ some v)
unfolding when
when_some true o v e = (refl, e)
when_some false o v e = absurd (let z : ◌≡◌ {A = ℕ} 0 1 = cc in omega arith)

pub and_both : (a b : Bool) → (a && b) ≡ true → (a ≡ true) × (b ≡ true)
and_both true b e = (refl, e)
and_both false b e = absurd (let z : ◌≡◌ {A = ℕ} 0 1 = cc in omega arith)

pub number_within : (most : ℕ) (f : List ℕ) (v : ℕ) → number most f ≡ some v → v ≤ most
unfolding number
number_within most f v e =
    let w : ℕ = value_from 0 f in
    let (t, q) = when_some (plain f && (all_of digit f && leb w most)) (some w) v e in
    let s : leb w most ≡ true = (and_both (all_of digit f) (leb w most) (and_both (plain f) (all_of digit f && leb w most) t).1).1 in
    let same_value : w ≡ v = cc in
    omega (arith, leb-true w most s)

pub entry_within : (m : ℕ) (f : List ℕ) (v : ℕ) → entry m f ≡ some v → v ≤ m
unfolding entry
entry_within m f v e = go (eqb m 0) e
  where
    go : (t : Bool) → pick t (when (same f (bytes "auto")) (some 0)) (number m f) ≡ some v → v ≤ m
    go true q = let (s, z) = when_some (same f (bytes "auto")) (some 0) v q in let w : 0 ≡ v = cc in omega arith
    go false q = number_within m f v q

-- .. so do those of the code's fields
field_within : (x : Field) (f : List ℕ) (v : ℕ) → field_says x f ≡ some v → v ≤ field_code x
field_within (UpTo m) f v e = number_within m f v e
field_within Auto f v e = let (s, z) = when_some (same f (bytes "auto")) (some 0) v e in let w : 0 ≡ v = cc in omega arith

within_more : (i v : ℕ) (xs : List Field) (ns : List ℕ) → Within i xs ns → Within (suc i) xs (v ∷ ns)
within_more i v [] ns w = tt
within_more i v (x ∷ xs) ns (p, q) = (p, within_more (suc i) v xs ns q)

pub row_within : (form : List Field) (fs : List (List ℕ)) (ns : List ℕ) → Some ns ≡ row_of (numbers_by field_says form fs) → Within 0 form ns
unfolding numbers_by ◌and_then◌
row_within [] fs ns e = tt
row_within (x ∷ xs) [] ns e = absurd (let z : ◌≡◌ {A = ℕ} 0 1 = cc in omega arith)
row_within (x ∷ xs) (f ∷ fs) ns e = first_of (row_within xs fs) (field_says x f) refl e
  where
    rest_of : (v : ℕ) → v ≤ field_code x → (o : Option (List ℕ)) → ((l : List ℕ) → Some l ≡ row_of o → Within 0 xs l) → Some ns ≡ row_of (o and_then λ l. some (v ∷ l)) → Within 0 (x ∷ xs) ns
    rest_of v l none below q = absurd (let z : ◌≡◌ {A = ℕ} 0 1 = cc in omega arith)
    rest_of v l (some rs) below q = let p : v ∷ rs ≡ ns = cc in rw (sym p) (l, within_more 0 v xs rs (below rs refl))

    first_of : ((l : List ℕ) → Some l ≡ row_of (numbers_by field_says xs fs) → Within 0 xs l) → (o : Option ℕ) → field_says x f ≡ o → Some ns ≡ row_of (o and_then λ n. numbers_by field_says xs fs and_then λ l. some (n ∷ l)) → Within 0 (x ∷ xs) ns
    first_of below none p q = absurd (let z : ◌≡◌ {A = ℕ} 0 1 = cc in omega arith)
    first_of below (some v) p q = rest_of v (field_within x f v p) (numbers_by field_says xs fs) below q

pub row_kept : (form : List Field) (fs : List (List ℕ)) (r : code.Option (List ℕ)) → r ≡ row_of (numbers_by field_says form fs) → IfSome r (λ ns. Within 0 form ns)
row_kept form fs None e = tt
row_kept form fs (Some ns) e = row_within form fs ns e

-- ---- the code's fields say what a form of the table says: none is a number up to 0, which stands for `auto` there

unfoldable pub counts : Field → Bool
counts (UpTo m) = ltb 0 m
counts Auto = true

field_coded : (x : Field) (f : List ℕ) → counts x ≡ true → field_says x f ≡ entry (field_code x) f
unfolding counts entry
field_coded (UpTo m) f e =
    let above : 0 < m = ltb-true 0 m e in
    rw (ne_eqb m the_auto (λ z. omega arith))
field_coded Auto f e = refl

pub numbers_coded : (form : List Field) (fs : List (List ℕ)) → all_of counts form ≡ true → numbers_by field_says form fs ≡ numbers (map field_code form) fs
unfolding all_of numbers_by numbers
numbers_coded [] [] e = refl
numbers_coded [] (f ∷ fs) e = refl
numbers_coded (x ∷ xs) [] e = refl
numbers_coded (x ∷ xs) (f ∷ fs) e =
    let (p, q) = and_both (counts x) (all_of counts xs) e in
    rw (field_coded x f p, numbers_coded xs fs q)
