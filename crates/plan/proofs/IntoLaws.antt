-- One request with its record is a turn of a plan of one; without it, what a plan of one is opened with, and the answer. Assumes nothing.
use mathlib.Core.Path.{◌≡◌, refl, sym, ap, subst, ◌∙◌}
use mathlib.Core.Bool.{Bool, true, false, not, ◌&&◌}
use mathlib.Core.List.{List}
use Prim.Native.Nat.{ℕ, ◌/◌, ◌≤◌}
use native.Mathlib.Omega.{arith}
use lib.Dec.{T, leb, ltb, eqb, eqb→eq}
use lib.ListN.{length}
use borrow.Author.Tests.{leb-true, lt-ltb, leb-false}
use Rattle.definition.proofs.BaseLaws.{true_T}
use Rattle.definition.specs.Base.{Refusal, malformed, short, Said, silence, tell, Answer, accepted, refused}
use Rattle.definition.specs.Tables.{record_size, kinds}
use Rattle.definition.specs.Pools.{Claim}
use Rattle.definition.specs.Request.{Request, resolve}
use Rattle.definition.specs.Calls.{State, pools_of, owners_of, sound, saying, want, serve}
use Rattle.definition.proofs.StateLaws.{sound_for, for_sound, sound_saying}
use Rattle.definition.specs.Plan.{Lent, lent, allocate_into}
use Rattle.definition.proofs.PlanLaws.{tell_number, told_at}
use Rattle.allocation.proofs.ServeLaws.{serve_unsound, serve_sound, into_unsound, into_short, into_refused, into_granted}
use Rattle.decide.specs.Outcome.{bases_in, after}
use Rattle.plan.specs.Steps.{clear, opened, indexed, index_for, recorded, turned}
use Rattle.plan.proofs.StepLaws.{not_clear, opened_unsound, opened_short, opened_clear, turned_skips}
use Rattle.plan.proofs.PlanLaws.{turned_in_place}
use Rattle.plan.specs.Turns.{turns_after}

module _ (r : Request) (s : State) (out : List ℕ) where
  -- nothing is done after a refusal
  skips : (x : Refusal) (t : State) → saying (tell 0 x) s ≡ t → turned 0 r t out ≡ lent (saying (tell 0 x) s) out
  skips x t e =
      ap (λ (u : State). turned 0 r u out) (sym e)
      ∙ sym (turned_skips 0 r (saying (tell 0 x) s) out (ap (λ (b : Bool). b && ltb 0 (length out / record_size)) (not_clear (saying (tell 0 x) s) (tell_number 0 x))))

  answers : sound kinds s ≡ true → record_size ≤ length out → turned 0 r (saying silence s) out ≡ allocate_into kinds r s out
  answers e l = go (resolve (pools_of s) (owners_of s) r) refl
    where
      t : State
      t = saying silence s

      -- the turn's answer, as a function of what is resolved
      Made : Answer (List Claim) → Lent
      Made a = lent (saying (indexed (index_for (bases_in r.want a) 0) (after t a).said) (after t a)) (recorded 0 r a out)

      made : Made (resolve (pools_of s) (owners_of s) r) ≡ turned 0 r t out
      made =
          turned_in_place 0 r t out refl (lt-ltb 0 (length out / record_size) (omega (arith, l)))
          (for_sound kinds t (λ k m. sound_saying silence s k (sound_for kinds s (true_T (sound kinds s) e) k m)))

      go : (a : Answer (List Claim)) → resolve (pools_of s) (owners_of s) r ≡ a → turned 0 r t out ≡ allocate_into kinds r s out
      go (accepted cs) q = sym made ∙ ap Made q ∙ into_granted kinds r s out e l cs q
      go (refused x) q = sym made ∙ ap Made q ∙ ap (λ (w : Said). lent (saying w s) out) (told_at 0 x) ∙ into_refused kinds r s out e l x q

  pub turn_is_into : turned 0 r (opened 1 (length out) s) out ≡ allocate_into kinds r s out
  turn_is_into = go (sound kinds s) refl (leb record_size (length out)) refl
    where
      go : (b : Bool) → sound kinds s ≡ b → (f : Bool) → leb record_size (length out) ≡ f → turned 0 r (opened 1 (length out) s) out ≡ allocate_into kinds r s out
      go false e f u = skips malformed (opened 1 (length out) s) (opened_unsound 1 (length out) s e) ∙ into_unsound kinds r s out e
      go true e false u = skips short (opened 1 (length out) s) (opened_short 1 (length out) s e u) ∙ into_short kinds r s out e (leb-false record_size (length out) u)
      go true e true u = ap (λ (t : State). turned 0 r t out) (sym (opened_clear 1 (length out) s e u)) ∙ answers e (leb-true record_size (length out) u)

-- ---- without its record: d is what the opening leaves, and t how many turns it allows
module _ (r : Request) (s d : State) (t : ℕ) (d-is : d ≡ opened 1 record_size s) (t-is : t ≡ turns_after 1 d) where
  unsound_opens : sound kinds s ≡ false → saying (tell 0 malformed) s ≡ d
  unsound_opens u = opened_unsound 1 record_size s u ∙ sym d-is

  sound_opens : sound kinds s ≡ true → saying silence s ≡ d
  sound_opens u = opened_clear 1 record_size s u refl ∙ sym d-is

  pub unserved : T (eqb t 0) → d ≡ serve kinds (want r) s
  unserved z = go (sound kinds s) refl
    where
      go : (b : Bool) → sound kinds s ≡ b → d ≡ serve kinds (want r) s
      go false u = sym (unsound_opens u) ∙ serve_unsound kinds r s u
      go true u = let one : t ≡ 1 = t-is ∙ ap (turns_after 1) (sym (sound_opens u)) in let none : t ≡ 0 = eqb→eq t 0 z in absurd (omega arith)

  served_sound : T (not (eqb t 0)) → sound kinds s ≡ true
  served_sound z = go (sound kinds s) refl
    where
      go : (b : Bool) → sound kinds s ≡ b → sound kinds s ≡ true
      go true u = u
      go false u =
          let none : t ≡ 0 = t-is ∙ ap (λ (b : Bool). elim b as (λ _. ℕ) [ false ↦ 0 | true ↦ 1 ]) (sym (ap clear (unsound_opens u)) ∙ not_clear (saying (tell 0 malformed) s) (tell_number 0 malformed)) in
          absurd (subst (λ (n : ℕ). T (not (eqb n 0))) none z)

  pub ready : T (not (eqb t 0)) → T (sound kinds d)
  ready z = let u : sound kinds s ≡ true = served_sound z in subst (λ (v : State). T (sound kinds v)) (sound_opens u) (for_sound kinds (saying silence s) (λ k m. sound_saying silence s k (sound_for kinds s (true_T (sound kinds s) u) k m)))

  pub served : T (not (eqb t 0)) → (e : State) → e ≡ after d (resolve (pools_of d) (owners_of d) r) → e ≡ serve kinds (want r) s
  served z e e-is =
      let u : sound kinds s ≡ true = served_sound z in
      e-is ∙ ap (λ (v : State). after v (resolve (pools_of v) (owners_of v) r)) (sym (sound_opens u)) ∙ same (resolve (pools_of s) (owners_of s) r) ∙ serve_sound kinds r s u
    where
      same : (a : Answer (List Claim)) → after (saying silence s) a ≡ after s a
      same (accepted cs) = refl
      same (refused x) = refl
