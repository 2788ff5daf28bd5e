-- What a plan's loop leaves, once the tables are settled, is the definition's plan. Assumes nothing.
use Rattle.std.proofs.Common.{◌≡◌, ap, sym, ◌∙◌, List, ℕ, ◌≤◌, length}
use Rattle.definition.specs.Request.{Request}
use Rattle.definition.specs.Calls as C
use Rattle.definition.specs.Plan.{lent, plan}
use Rattle.tables.specs.Views.{state_view}
use Rattle.tables.specs.declared.State.{State}
use Rattle.inplace.specs.Marks.{marks_of}
use Rattle.inplace.specs.declared.marks.Marks.{Marks}
use Rattle.plan.specs.Turns.{back_to}
use Rattle.plan.proofs.BackLaws.{back_is}
use Rattle.plan.proofs.InPlaceLaws.{Left, Ends, ends, ends_plan}

pub run_ends : (qs : List Request) (q : Request) (h : State) (zs₀ : List ℕ) (n : ℕ) (m : Marks) (t i : ℕ) (d : C.State) (zs : List ℕ) (e : C.State)
    → length qs ≡ n → m ≡ marks_of h → t ≤ i → Left qs q (state_view h) zs₀ n t i d zs → e ≡ back_to m d → lent e zs ≡ plan qs (state_view h) zs₀
run_ends qs q h zs₀ n m t i d zs e long mark over left u =
    ends qs q (state_view h) zs₀ n long t i d zs e over left (u ∙ back_is m h d mark) ∙ ap (Ends qs (state_view h) zs₀) (sym long) ∙ ends_plan qs (state_view h) zs₀
