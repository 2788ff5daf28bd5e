-- What is judged before the first request is what the definition says of the tables. Assumes nothing.
use mathlib.Core.Path.{◌≡◌, refl, sym, ap, ◌∙◌}
use mathlib.Core.Bool.{Bool, true, false}
use Prim.Native.Nat.{ℕ}
use Rattle.definition.specs.Base.{malformed, short, silence, Said, tell}
use Rattle.definition.specs.Tables.{kinds}
use Rattle.definition.specs.Calls.{sound, saying}
use Rattle.definition.specs.Calls as C
use Rattle.definition.proofs.PlanLaws.{tell_number}
use Rattle.tables.specs.Views.{state_view}
use Rattle.tables.specs.declared.State.{State}
use Rattle.request.specs.Asked.{said_of}
use Rattle.std.specs.Prelude.{Result}
use Rattle.choose.specs.declared.Refusal.{Refusal}
use Rattle.request.specs.declared.Said.{Said as Numbers}
use Rattle.decide.specs.Kept.{said_in}
use Rattle.plan.specs.Steps.{clear, opened}
use Rattle.plan.proofs.StepLaws.{not_clear, opened_unsound, opened_short, opened_clear}
use Rattle.plan.specs.Turns.{fits_in, judged_of, judged_said, turns_of, Judges, turns_in, turns_after}
use Rattle.plan.proofs.JudgeLaws.{judged_clear, judged_short, judged_unsound, turns_all, turns_short, turns_unsound}

-- ---- what is said, and how many turns follow

module _ (n room : ℕ) (s : C.State) where
  abbrev Opening : Bool → Type 0
  Opening b = (saying (judged_of b n room) s ≡ opened n room s) × (turns_in b n room ≡ turns_after n (opened n room s))

  turning : (t : C.State) → t ≡ opened n room s → (b : Bool) → clear t ≡ b → elim b as (λ _. ℕ) [ false ↦ 0 | true ↦ n ] ≡ turns_after n (opened n room s)
  turning t e b c = ap (λ (x : Bool). elim x as (λ _. ℕ) [ false ↦ 0 | true ↦ n ]) (sym c) ∙ ap (turns_after n) e

  opens_as : (b : Bool) → sound kinds s ≡ b → (f : Bool) → fits_in n room ≡ f → Opening b
  opens_as false e f u = (
    ap (λ (w : Said). saying w s) (sym (judged_unsound false n room refl)) ∙ opened_unsound n room s e,
    sym (turns_unsound false n room refl) ∙ turning (saying (tell 0 malformed) s) (opened_unsound n room s e) false (not_clear (saying (tell 0 malformed) s) (tell_number 0 malformed)),
  )
  opens_as true e false u = (
    ap (λ (w : Said). saying w s) (sym (judged_short true n room refl u)) ∙ opened_short n room s e u,
    sym (turns_short true n room refl u) ∙ turning (saying (tell 0 short) s) (opened_short n room s e u) false (not_clear (saying (tell 0 short) s) (tell_number 0 short)),
  )
  opens_as true e true u = (
    ap (λ (w : Said). saying w s) (sym (judged_clear true n room refl u)) ∙ opened_clear n room s e u,
    sym (turns_all true n room refl u) ∙ turning (saying silence s) (opened_clear n room s e u) true refl,
  )

module _ (n room : ℕ) (h : State) (b : Bool) (e : b ≡ sound kinds (state_view h)) (r : Result (Unit {0}) Refusal) (j : Judges b n room r) where
  pub open_state : (w : Numbers) → said_of w ≡ judged_said r → state_view (said_in w h) ≡ opened n room (state_view h)
  open_state w u = ap (λ (x : Said). saying x (state_view h)) (u ∙ j.said) ∙ (opens_as n room (state_view h) b (sym e) (fits_in n room) refl).0

  pub open_turns : (d : State) → state_view d ≡ opened n room (state_view h) → turns_of r n ≡ turns_after n (state_view d)
  open_turns d u = j.turns ∙ (opens_as n room (state_view h) b (sym e) (fits_in n room) refl).1 ∙ ap (turns_after n) (sym u)
