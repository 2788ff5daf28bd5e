-- What the steps' code does, in the words of Steps.antt. Assumes nothing.
use mathlib.Core.Path.{◌≡◌, refl, ap, ap₂, sym}
use mathlib.Core.Bool.{Bool, true, false, ◌&&◌}
use mathlib.Core.List.{List}
use Prim.Native.Nat.{ℕ, ◌*◌, ◌/◌, ◌<◌}
use lib.Dec.{leb, ltb, eqb, eqb→eq}
use lib.ListN.{length}
use borrow.Author.Tests.{lt-ltb}
use Rattle.definition.proofs.BaseLaws.{T_false}
use Rattle.definition.specs.Tables.{plan_limit, record_size, kinds}
use Rattle.definition.specs.Base.{malformed, short, silence, tell, Answer, accepted, refused, require}
use Rattle.definition.specs.Request.{Request}
use Rattle.definition.specs.Calls.{State, sound, saying}
use Rattle.definition.specs.Plan.{lent}
use Rattle.definition.specs.Pools.{Claim}
use Rattle.plan.specs.Steps.{put_from, clear, opened, indexed, numbered, answered, turned, recorded, written_at, settled}
use Rattle.request.specs.Asked.{request_of}
use Rattle.request.specs.declared.Request as R
use Rattle.decide.specs.Outcome.{bases_in}
use Rattle.allocation.proofs.RecordLaws.{record_granted}

pub is_clear_is : (s : State) → s.said.number ≡ 0 → clear s ≡ true
is_clear_is s e = ap (λ (k : ℕ). eqb k 0) e

pub not_clear : (s : State) → (s.said.number ≡ 0 → ⊥) → clear s ≡ false
not_clear s f = T_false (clear s) (λ t. f (eqb→eq s.said.number 0 t))

-- ---- before the first

pub opened_unsound : (n room : ℕ) (s : State) → sound kinds s ≡ false → saying (tell 0 malformed) s ≡ opened n room s
unfolding opened require
opened_unsound n room s e = rw e

pub opened_short : (n room : ℕ) (s : State) → sound kinds s ≡ true → leb n plan_limit && leb (record_size * n) room ≡ false → saying (tell 0 short) s ≡ opened n room s
unfolding opened require
opened_short n room s e f = rw (e, f)

pub opened_clear : (n room : ℕ) (s : State) → sound kinds s ≡ true → leb n plan_limit && leb (record_size * n) room ≡ true → saying silence s ≡ opened n room s
unfolding opened require
opened_clear n room s e f = rw (e, f)

-- ---- what is written of an answer

pub written_is : (i : ℕ) (r : R.Request) (a : Answer (List Claim)) (out : List ℕ) → written_at i r (bases_in (request_of r).want a) out ≡ recorded i (request_of r) a out
written_is i r (accepted cs) out = ap (λ xs. put_from (record_size * i) xs out) (record_granted r cs)
written_is i r (refused y) out = refl

-- ---- the index of a refusal, and the last step

pub numbered_clear : (i : ℕ) (s : State) → s.said.number ≡ 0 → s ≡ numbered i s
numbered_clear i s e = sym (ap (λ (b : Bool). elim b [ true ↦ s | false ↦ saying (indexed i s.said) s ]) (is_clear_is s e))

pub numbered_refused : (i : ℕ) (s : State) → (s.said.number ≡ 0 → ⊥) → saying (indexed i s.said) s ≡ numbered i s
numbered_refused i s f = sym (ap (λ (b : Bool). elim b [ true ↦ s | false ↦ saying (indexed i s.said) s ]) (not_clear s f))

pub settled_clear : (s t : State) → t.said.number ≡ 0 → t ≡ settled s t
settled_clear s t e = sym (ap (λ (b : Bool). elim b [ true ↦ t | false ↦ saying t.said s ]) (is_clear_is t e))

pub settled_refused : (s t : State) → (t.said.number ≡ 0 → ⊥) → saying t.said s ≡ settled s t
settled_refused s t f = sym (ap (λ (b : Bool). elim b [ true ↦ t | false ↦ saying t.said s ]) (not_clear t f))

-- ---- one request

module _ (i : ℕ) (r : Request) (s : State) (out : List ℕ) where
  -- where it is not answered: one before it was refused, or the list ends before its record
  pub turned_skips : clear s && ltb i (length out / record_size) ≡ false → lent s out ≡ turned i r s out
  unfolding turned
  turned_skips e = sym (ap (λ (b : Bool). elim b [ true ↦ answered i r s out | false ↦ lent s out ]) e)

  pub turned_answers : s.said.number ≡ 0 → i < length out / record_size → answered i r s out ≡ turned i r s out
  unfolding turned
  turned_answers e l = sym (ap (λ (b : Bool). elim b [ true ↦ answered i r s out | false ↦ lent s out ]) (ap₂ ◌&&◌ (is_clear_is s e) (lt-ltb i (length out / record_size) l)))
