-- A number above 32 bits is answered like the least of them, as a word and as the requester. Assumes nothing.
use mathlib.Core.Path.{◌≡◌, refl, ap, ◌∙◌}
use mathlib.Core.Bool.{Bool, true, false, ◌&&◌}
use mathlib.Core.List.{List, [], ◌∷◌, map}
use mathlib.Core.Option.{Option, none, some}
use Prim.Native.Nat.{ℕ, zero, suc, ◌-◌}
use native.Mathlib.Omega.{arith}
use native.Mathlib.Decide.{dec_lt}
use lib.Dec.{eqb, leb, ltb}
use lib.ListN.{length, take, get_or}
use borrow.Author.Tests.{lt-leb, lt-ltb, leb-true}
use Rattle.definition.specs.Base.{bad_input, short, Answer, accepted, require, all_of, ◌then◌}
use Rattle.definition.specs.Tables.{top}
use Rattle.definition.specs.Request.{Request}
use Rattle.definition.specs.Registers.{register_count, asked_from, registers}
use Rattle.lines.specs.Base.{tab, newline, split, when, ◌and_then◌}
use Rattle.lines.proofs.FormLaws.{and_both}
use Rattle.sizer.specs.Words.{size_text_limit, word, fields, field_count, line_by, words_of}
use Rattle.sizer.specs.Sizes.{sizes_of}
use Rattle.sizer.specs.Code.{capped, capped_said, capped_word}

-- ---- the numbers of a line, each cut

abbrev capped_all : Option (List ℕ) → Option (List ℕ)
capped_all none = none
capped_all (some vs) = some (map capped vs)

fields_more : (n : ℕ) (f : List ℕ) (fs : List (List ℕ)) → fields capped_word n fs ≡ capped_all (fields word n fs) → fields capped_word (suc n) (f ∷ fs) ≡ capped_all (fields word (suc n) (f ∷ fs))
unfolding fields ◌and_then◌
fields_more n f fs below = go (word f)
  where
    rest : (v : ℕ) (o : Option (List ℕ)) → (capped_all o and_then λ vs. some (capped v ∷ vs)) ≡ capped_all (o and_then λ vs. some (v ∷ vs))
    rest v none = refl
    rest v (some vs) = refl

    go : (o : Option ℕ) → (capped_said o and_then λ v. fields capped_word n fs and_then λ vs. some (v ∷ vs)) ≡ capped_all (o and_then λ v. fields word n fs and_then λ vs. some (v ∷ vs))
    go none = refl
    go (some v) = rw below (rest v (fields word n fs))

fields_capped : (n : ℕ) (fs : List (List ℕ)) → fields capped_word n fs ≡ capped_all (fields word n fs)
unfolding fields
fields_capped zero [] = refl
fields_capped zero (f ∷ fs) = refl
fields_capped (suc n) [] = refl
fields_capped (suc n) (f ∷ fs) = fields_more n f fs (fields_capped n fs)

line_capped : (text : List ℕ) → line_by capped_word text ≡ capped_all (words_of text)
unfolding line_by when
line_capped text = go (leb (length text) size_text_limit && eqb (get_or text (length text - 1) 0) newline)
  where
    go : (t : Bool) → when t (fields capped_word field_count (split tab (take (length text - 1) text))) ≡ capped_all (when t (fields word field_count (split tab (take (length text - 1) text))))
    go true = fields_capped field_count (split tab (take (length text - 1) text))
    go false = refl

-- ---- a cut number is as large as before, or too large as before

fits_capped : (v : ℕ) → leb (capped v) (top 32) ≡ leb v (top 32)
fits_capped v =
    elim (dec_lt v 4294967296) [
      | yes h ↦ let e : capped v ≡ v = omega arith in rw e
      | no h ↦ rw (lt-leb (capped v) (top 32) (omega arith), lt-leb v (top 32) (omega arith))
    ]

asks_capped : (q : ℕ) → ltb 0 (capped q) ≡ ltb 0 q
asks_capped q =
    elim (dec_lt 0 q) [
      | yes h ↦ rw (lt-ltb 0 (capped q) (omega arith), lt-ltb 0 q h)
      | no h ↦ let e : capped q ≡ q = omega arith in rw e
    ]

all_capped : (ws : List ℕ) → all_of (λ w. leb w (top 32)) (map capped ws) ≡ all_of (λ w. leb w (top 32)) ws
unfolding all_of
all_capped [] = refl
all_capped (w ∷ ws) = rw (fits_capped w, all_capped ws)

same_capped : (v : ℕ) → leb v (top 32) ≡ true → capped v ≡ v
same_capped v e = omega (arith, leb-true v (top 32) e)

all_same : (ws : List ℕ) → all_of (λ w. leb w (top 32)) ws ≡ true → map capped ws ≡ ws
unfolding all_of
all_same [] e = refl
all_same (w ∷ ws) e =
    let (a, b) = and_both (leb w (top 32)) (all_of (λ x. leb x (top 32)) ws) e in
    rw (same_capped w a, all_same ws b)

-- what is answered where all numbers have 32 bits
abbrev answer : ℕ → ℕ → List ℕ → Answer (List Request)
answer most q ws = asked_from q 0 ws then λ rs. require (leb (length rs) most) short (accepted rs)

-- THE LAW: the answer is the same
pub registers_capped : (q : ℕ) (ws : List ℕ) (most : ℕ) → registers (capped q) (map capped ws) most ≡ registers q ws most
unfolding registers require
registers_capped q ws most = rw (asks_capped q, fits_capped q, all_capped ws) (first (ltb 0 q && leb q (top 32)) refl)
  where
    second : (t : Bool) → all_of (λ w. leb w (top 32)) ws ≡ t → (q' : ℕ) → q' ≡ q → require t bad_input (answer most q' (map capped ws)) ≡ require t bad_input (answer most q ws)
    second true e q' s = rw (s, all_same ws e)
    second false e q' s = refl

    first : (t : Bool) → (ltb 0 q && leb q (top 32)) ≡ t
        → require t bad_input (require (all_of (λ w. leb w (top 32)) ws) bad_input (answer most (capped q) (map capped ws))) ≡ require t bad_input (require (all_of (λ w. leb w (top 32)) ws) bad_input (answer most q ws))
    first true e = second (all_of (λ w. leb w (top 32)) ws) refl (capped q) (same_capped q (and_both (ltb 0 q) (leb q (top 32)) e).1)
    first false e = refl

-- ---- .. of a line

map_take : (n : ℕ) (vs : List ℕ) → take n (map capped vs) ≡ map capped (take n vs)
map_take zero vs = refl
map_take (suc n) [] = refl
map_take (suc n) (v ∷ vs) = ap (λ (x : List ℕ). capped v ∷ x) (map_take n vs)

map_at : (n : ℕ) (vs : List ℕ) → get_or (map capped vs) n 0 ≡ capped (get_or vs n 0)
map_at n [] = refl
map_at zero (v ∷ vs) = refl
map_at (suc n) (v ∷ vs) = map_at n vs

pub sizes_capped : (text : List ℕ) → sizes_of (line_by capped_word text) ≡ sizes_of (words_of text)
sizes_capped text = ap sizes_of (line_capped text) ∙ go (words_of text)
  where
    go : (o : Option (List ℕ)) → sizes_of (capped_all o) ≡ sizes_of o
    go none = refl
    go (some vs) = rw (map_take register_count vs, map_at register_count vs) (registers_capped (get_or vs register_count 0) (take register_count vs) register_count)
