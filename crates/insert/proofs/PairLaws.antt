-- Two reservations at once: the answer is the earlier of the two, as the definition has it. Assumes nothing.
use mathlib.Core.Path.{◌≡◌, refl, sym, ◌∙◌}
use mathlib.Core.Bool.{Bool, true, false, ◌&&◌, true≢false}
use mathlib.Core.List.{List, [], ◌∷◌}
use mathlib.Core.Option.{Option, some, none}
use lib.Dec.{ltb, leb-zero}
use lib.ListN.{length}
use Rattle.std.specs.Prelude.{Ok, Err, is_ok}
use Rattle.definition.specs.Base.{all_of, first_of, Answer, accepted, bad_input, bad_owner, empty_range, full, require}
use Rattle.definition.specs.Tables.{row_limit, Kind, nature, Row, meets, fits, floored}
use Rattle.definition.specs.Pools.{at_kind, Holders, Claim, room, unreserved, all_unreserved, reserve}
use Rattle.insert.specs.Answers.{Reply, number_of, telling, heard, reserve_one, pick, comes_before, earlier_of}
use Rattle.insert.proofs.TellLaws.{sooner, heard_earlier}

-- the turns of one row, and of two
unfoldable one : List Claim → Bool → Bool → Bool → Option Row → Bool → Answer (List Claim)
one cs f o g m r =
    require (f && true) bad_input (require (o && true) bad_owner (require (g && true) empty_range (unreserved m (require (r && true) full (accepted cs)))))

unfoldable two : List Claim → Bool → Bool → Bool → Option Row → Bool → Bool → Bool → Bool → Option Row → Bool → Answer (List Claim)
two cs f o g m r f' o' g' m' r' =
    require (f && (f' && true)) bad_input (require (o && (o' && true)) bad_owner (require (g && (g' && true)) empty_range
    (unreserved m (unreserved m' (require (r && (r' && true)) full (accepted cs))))))

turns : (cs ds es : List Claim) (f o g : Bool) (m : Option Row) (r f' o' g' : Bool) (m' : Option Row) (r' : Bool)
    → sooner (telling (one ds f o g m r)) (telling (one es f' o' g' m' r')) ≡ telling (two cs f o g m r f' o' g' m' r')
unfolding one two require unreserved sooner comes_before
turns cs ds es false o g m r false o' g' m' r' = refl
turns cs ds es false o g m r true false g' m' r' = refl
turns cs ds es false o g m r true true false m' r' = refl
turns cs ds es false o g m r true true true (some x') r' = refl
turns cs ds es false o g m r true true true none false = refl
turns cs ds es false o g m r true true true none true = refl
turns cs ds es true false g m r false o' g' m' r' = refl
turns cs ds es true false g m r true false g' m' r' = refl
turns cs ds es true false g m r true true false m' r' = refl
turns cs ds es true false g m r true true true (some x') r' = refl
turns cs ds es true false g m r true true true none false = refl
turns cs ds es true false g m r true true true none true = refl
turns cs ds es true true false m r false o' g' m' r' = refl
turns cs ds es true true false m r true false g' m' r' = refl
turns cs ds es true true false m r true true false m' r' = refl
turns cs ds es true true false m r true true true (some x') r' = refl
turns cs ds es true true false m r true true true none false = refl
turns cs ds es true true false m r true true true none true = refl
turns cs ds es true true true (some x) r false o' g' m' r' = refl
turns cs ds es true true true (some x) r true false g' m' r' = refl
turns cs ds es true true true (some x) r true true false m' r' = refl
turns cs ds es true true true (some x) r true true true (some x') r' = refl
turns cs ds es true true true (some x) r true true true none false = refl
turns cs ds es true true true (some x) r true true true none true = refl
turns cs ds es true true true none false false o' g' m' r' = refl
turns cs ds es true true true none false true false g' m' r' = refl
turns cs ds es true true true none false true true false m' r' = refl
turns cs ds es true true true none false true true true (some x') r' = refl
turns cs ds es true true true none false true true true none false = refl
turns cs ds es true true true none false true true true none true = refl
turns cs ds es true true true none true false o' g' m' r' = refl
turns cs ds es true true true none true true false g' m' r' = refl
turns cs ds es true true true none true true true false m' r' = refl
turns cs ds es true true true none true true true true (some x') r' = refl
turns cs ds es true true true none true true true true none false = refl
turns cs ds es true true true none true true true true none true = refl

-- of kinds whose ranges start anywhere
module _ (R : Holders) (j k : Kind) (p q : Row) (j-low : (nature j).floor ≡ 0) (k-low : (nature k).floor ≡ 0) where
  pub pair_told : (a b : Reply) → heard a ≡ telling (reserve_one j p (R j)) → heard b ≡ telling (reserve_one k q (R k))
      → heard (earlier_of a b) ≡ telling (reserve R (at_kind j p ∷ at_kind k q ∷ []))
  unfolding reserve all_of all_unreserved room one two floored require
  pair_told a b e h =
      heard_earlier a b ∙ (λ i. sooner (e i) (h i))
      ∙ rw (j-low, k-low, leb-zero p.start, leb-zero q.start) (turns (at_kind j p ∷ at_kind k q ∷ []) (at_kind j p ∷ []) (at_kind k q ∷ [])
      (fits j p) (ltb 0 p.owner) (ltb p.start p.end) (first_of (meets p) (R j)) (ltb (length (R j)) row_limit)
      (fits k q) (ltb 0 q.owner) (ltb q.start q.end) (first_of (meets q) (R k)) (ltb (length (R k)) row_limit))

-- neither is refused just when the earlier is not
pub earlier_ok : (a b : Reply) → is_ok (earlier_of a b) ≡ true → (is_ok a ≡ true) × (is_ok b ≡ true)
unfolding earlier_of
earlier_ok (Ok u) b e = (refl, e)
earlier_ok (Err x) (Ok u) e = absurd (true≢false (sym e))
earlier_ok (Err x) (Err y) e = absurd (go (comes_before (number_of y) (number_of x)) e)
  where
    go : (b : Bool) → is_ok {T = Unit {0}} (pick b (Err y) (Err x)) ≡ true → ⊥
    go true e = true≢false (sym e)
    go false e = true≢false (sym e)
