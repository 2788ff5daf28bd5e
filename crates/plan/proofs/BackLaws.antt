-- A refusal cuts the owner tables back, and nothing else does. Assumes nothing.
use mathlib.Core.Path.{◌≡◌, sym, ap, ◌∙◌}
use mathlib.Core.Bool.{Bool, true, false}
use Rattle.definition.specs.Calls as C
use Rattle.tables.specs.Views.{state_view}
use Rattle.tables.specs.declared.State.{State}
use Rattle.definition.specs.Cut.{cutting}
use Rattle.definition.proofs.CutLaws.{counts_of}
use Rattle.inplace.specs.Marks.{marks_of, counts_in, taken_out}
use Rattle.inplace.specs.declared.marks.Marks.{Marks}
use Rattle.inplace.proofs.CutViews.{counts_view, cut_back_view}
use Rattle.plan.specs.Turns.{back_to}
use Rattle.plan.proofs.StepLaws.{is_clear_is, not_clear}
use Rattle.plan.proofs.InPlaceLaws.{cut_back}

abbrev cut_if : Marks → C.State → Bool → C.State
cut_if m t b = elim b as (λ _. C.State) [ true ↦ t | false ↦ cutting (counts_in m) t ]

module _ (m : Marks) (h : State) where
  pub back_quiet : h.number ≡ 0 → state_view h ≡ back_to m (state_view h)
  unfolding back_to
  back_quiet e = sym (ap (cut_if m (state_view h)) (is_clear_is (state_view h) e))

  pub back_cut : (h.number ≡ 0 → ⊥) → state_view (taken_out m 0 h) ≡ back_to m (state_view h)
  unfolding back_to
  back_cut f = cut_back_view m h ∙ sym (ap (cut_if m (state_view h)) (not_clear (state_view h) f))

-- ---- the counts that were marked are the tables' own

pub back_is : (m : Marks) (h : State) (t : C.State) → m ≡ marks_of h → back_to m t ≡ cut_back (counts_of (state_view h)) t
unfolding back_to
back_is m h t e = ap (λ (z : Marks). cut_back (counts_in z) t) e ∙ (λ j. cut_back (λ k. counts_view h.owners h k j) t)
