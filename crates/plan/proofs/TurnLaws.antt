-- What one turn does, of the state's record: its test, a request left alone, and a request answered in place. Assumes nothing.
use mathlib.Core.Path.{◌≡◌, ap, ap₂, sym, ◌∙◌}
use mathlib.Core.Bool.{Bool, true, false, ◌&&◌, not}
use mathlib.Core.List.{List}
use Prim.Native.Nat.{ℕ, ◌/◌}
use lib.Dec.{T, ltb, eqb}
use lib.ListN.{length}
use Rattle.definition.proofs.BaseLaws.{T_true, true_T, and_l, and_r}
use Rattle.definition.specs.Tables.{record_size}
use Rattle.definition.specs.Base.{Answer}
use Rattle.definition.specs.Pools.{Claim}
use Rattle.definition.specs.Request as D
use Rattle.definition.specs.Calls.{pools_of, owners_of, saying}
use Rattle.definition.specs.Calls as C
use Rattle.definition.specs.Plan.{lent}
use Rattle.tables.specs.Views.{state_view}
use Rattle.tables.specs.declared.State.{State}
use Rattle.request.specs.Asked.{request_of}
use Rattle.request.specs.declared.Request.{Request}
use Rattle.decide.specs.Outcome.{bases_in, after}
use Rattle.std.specs.Prelude.{Option}
use Rattle.decide.specs.declared.Bases.{Bases}
use Rattle.plan.specs.Steps.{clear, Steady, indexed, index_for, turned, written_at}
use Rattle.plan.proofs.StepLaws.{written_is, turned_skips}
use Rattle.plan.proofs.PlanLaws.{turned_in_place}

abbrev pub with_index : ℕ → State → State
with_index x d =
    record { auto = d.auto; fixed = d.fixed; held = d.held; owners = d.owners; number = d.number; index = x; namespace = d.namespace; owner = d.owner; detail = d.detail }

pub not_T : (b : Bool) → T (not b) → b ≡ false
not_T true t = absurd t
not_T false t = λ _. false

module _ (h : State) (r : Request) (i : ℕ) (ys : List ℕ) where
  -- the definition's answer to the request
  abbrev pub answer_to : Answer (List Claim)
  answer_to = D.resolve (pools_of (state_view h)) (owners_of (state_view h)) (request_of r)

  -- what the callees say: the test, the request answered, its index, its record
  abbrev pub Went : Bool → Type 0
  Went y = y ≡ eqb h.number 0 && ltb i (length ys / record_size)

  abbrev pub Ready : Type 0
  Ready = (clear (state_view h) ≡ true) × (ltb i (length ys / record_size) ≡ true)

  abbrev pub Answered : State → Option Bases → Type 0
  Answered d e = (state_view d ≡ after (state_view h) answer_to) × (e ≡ bases_in (request_of r).want answer_to)

  abbrev pub Index : Option Bases → ℕ → Type 0
  Index e x = x ≡ index_for e i

  abbrev pub Wrote : Option Bases → List ℕ → Type 0
  Wrote e zs = zs ≡ written_at i r e ys

  abbrev pub Done : State → List ℕ → Type 0
  Done d zs = lent (state_view d) zs ≡ turned i (request_of r) (state_view h) ys

  pub ready : (y : Bool) → Went y → T y → Ready
  ready y e t =
      let both : T (eqb h.number 0 && ltb i (length ys / record_size)) = true_T _ (sym e ∙ T_true y t) in
      (T_true _ (and_l (eqb h.number 0) (ltb i (length ys / record_size)) both), T_true _ (and_r (eqb h.number 0) (ltb i (length ys / record_size)) both))

  pub left_alone : (y : Bool) → Went y → T (not y) → Done h ys
  left_alone y e t = turned_skips i (request_of r) (state_view h) ys (sym e ∙ not_T y t)

  pub answered_in_place : Steady (state_view h) → Ready → (d : State) (e : Option Bases) (x : ℕ) (zs : List ℕ) → Answered d e → Index e x → Wrote e zs → Done (with_index x d) zs
  answered_in_place steady (c, l) d e x zs (s, b) j w =
      ap₂ lent (ap₂ (λ (n : ℕ) (u : C.State). saying (indexed n u.said) u) (j ∙ ap (λ (f : Option Bases). index_for f i) b) s) (w ∙ ap (λ (f : Option Bases). written_at i r f ys) b ∙ written_is i r answer_to ys) ∙ turned_in_place i (request_of r) (state_view h) ys c l (steady c)
