-- Ranges added at once: the answer is the earliest of their answers, as the definition has it. Assumes nothing.
use mathlib.Core.Path.{◌≡◌, refl, ◌∙◌}
use mathlib.Core.Bool.{Bool, true, false, ◌&&◌}
use mathlib.Core.List.{List, [], ◌∷◌}
use lib.Dec.{T, leb, ltb}
use Rattle.definition.specs.Base.{all_of, Answer, accepted, bad_input, empty_range, full, bad_lpi, require}
use Rattle.definition.proofs.BaseLaws.{T_true, and_true}
use Rattle.definition.specs.Tables.{Kind, nature, Span, fits_span, floored}
use Rattle.definition.specs.Pools.{In, has_place, admit}
use Rattle.insert.specs.Answers.{Reply, telling, heard, admit_any, comes_before, earlier_of}
use Rattle.insert.proofs.TellLaws.{tell_required, sooner, heard_earlier}

-- the turns of one range, and of others beside it
unfoldable one : Bool → Bool → Bool → Answer (Unit {0})
one l h r = require l empty_range (require h bad_lpi (require r full (accepted tt)))

unfoldable more : List (In Span) → Bool → Bool → Bool → Bool → Answer (List (In Span))
more cs f l h r = require f bad_input (require l empty_range (require h bad_lpi (require r full (accepted cs))))

turns : (cs ds : List (In Span)) (l h r f' l' h' r' : Bool) → sooner (telling (one l h r)) (telling (more ds f' l' h' r')) ≡ telling (more cs f' (l && l') (h && h') (r && r'))
unfolding one more require sooner comes_before
turns cs ds false h r false l' h' r' = refl
turns cs ds false h r true false h' r' = refl
turns cs ds false h r true true false r' = refl
turns cs ds false h r true true true false = refl
turns cs ds false h r true true true true = refl
turns cs ds true false r false l' h' r' = refl
turns cs ds true false r true false h' r' = refl
turns cs ds true false r true true false r' = refl
turns cs ds true false r true true true false = refl
turns cs ds true false r true true true true = refl
turns cs ds true true false false l' h' r' = refl
turns cs ds true true false true false h' r' = refl
turns cs ds true true false true true false r' = refl
turns cs ds true true false true true true false = refl
turns cs ds true true false true true true true = refl
turns cs ds true true true false l' h' r' = refl
turns cs ds true true true true false h' r' = refl
turns cs ds true true true true true false r' = refl
turns cs ds true true true true true true false = refl
turns cs ds true true true true true true true = refl

module _ (P : Kind → List Span) (c : In Span) (ok : T (fits_span c.kind c.row)) (a : Reply) (e : heard a ≡ telling (admit_any (nature c.kind).floor c.row (P c.kind))) where
  pub admit_one : heard a ≡ telling (admit P (c ∷ []))
  unfolding admit_any admit all_of floored require
  admit_one = e ∙ rw (T_true (fits_span c.kind c.row) ok, and_true (ltb c.row.start c.row.end), and_true (leb (nature c.kind).floor c.row.start), and_true (has_place c.row (P c.kind)))
      (tell_required _ _ (tell_required _ _ (tell_required _ _ refl (has_place c.row (P c.kind)) full) (leb (nature c.kind).floor c.row.start) bad_lpi) (ltb c.row.start c.row.end) empty_range)

  pub admit_more : (cs : List (In Span)) (b : Reply) → heard b ≡ telling (admit P cs) → heard (earlier_of a b) ≡ telling (admit P (c ∷ cs))
  unfolding admit_any admit all_of floored one more
  admit_more cs b h =
      heard_earlier a b ∙ (λ i. sooner (e i) (h i))
      ∙ rw (T_true (fits_span c.kind c.row) ok) (turns (c ∷ cs) cs (ltb c.row.start c.row.end) (leb (nature c.kind).floor c.row.start) (has_place c.row (P c.kind))
      (all_of (λ c. fits_span c.kind c.row) cs) (all_of (λ c. ltb c.row.start c.row.end) cs) (all_of (λ c. floored c.kind c.row.start) cs) (all_of (λ c. has_place c.row (P c.kind)) cs))
