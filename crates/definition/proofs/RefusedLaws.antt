-- A refused call, whichever it is, leaves all tables as handed in. Assumes nothing.
use Rattle.std.specs.Prelude.{◌≡◌, refl, Bool, true, false, List, [], ◌∷◌}
use Rattle.std.proofs.Common.{ap}
use Rattle.definition.specs.Base.{Refusal, malformed, Said, silence, tell, Answer, accepted, refused, require, ◌then◌}
use Rattle.definition.specs.Tables.{Kind, Span}
use Rattle.definition.specs.Pools.{In, spans, admit, held_rows, reserve}
use Rattle.definition.specs.Request.{Use, resolve}
use Rattle.definition.specs.Calls.{State, pools_of, held_of, owners_of, given, sound, saying, holding, granting, starting, entering, Call, pool, hold, start, want, settle, serve}

-- accepted, or the five numbers of a refusal and every table as handed in
pub data Leaves (s : State) : State → Type 0 where
  went : {s' : State} → s'.said ≡ silence → Leaves s s'
  left : (x : Refusal) → Leaves s (saying (tell 0 x) s)

leaves_settled : {A : Type 0} (s : State) (a : Answer A) (f : A → State) → ((x : A) → (f x).said ≡ silence) → Leaves s (settle s (a then λ x. accepted (f x)))
leaves_settled s (accepted x) f z = went (z x)
leaves_settled s (refused x) f z = left x

leaves_required : (s : State) (b : Bool) (a : Answer State) → Leaves s (settle s a) → Leaves s (settle s (require b malformed a))
unfolding require
leaves_required s true a h = h
leaves_required s false a h = left malformed

pub entering_said : (u : Use) (cs : List (In Span)) (s : State) → (entering u cs s).said ≡ silence
unfolding entering
entering_said u [] s = refl
entering_said u (c ∷ cs) s = entering_said u cs _

-- A REFUSED CALL LEAVES ALL TABLES
pub call_leaves : (ks : List Kind) (c : Call) (s : State) → Leaves s (serve ks c s)
unfolding serve
call_leaves ks (pool u p) s = leaves_required s (given ks s) (admit (pools_of s u) (spans p) then λ cs. accepted (entering u cs s)) (leaves_settled s (admit (pools_of s u) (spans p)) (λ cs. entering u cs s) (λ cs. entering_said u cs s))
call_leaves ks (hold o h) s = leaves_required s (given ks s) (reserve (held_of s) (held_rows o h) then λ cs. accepted (holding cs s)) (leaves_settled s (reserve (held_of s) (held_rows o h)) (λ cs. holding cs s) (λ cs. refl))
call_leaves ks start s = leaves_required s (given ks s) (accepted (starting s)) (went refl)
call_leaves ks (want r) s = leaves_required s (sound ks s) (resolve (pools_of s) (owners_of s) r then λ cs. accepted (granting cs s)) (leaves_settled s (resolve (pools_of s) (owners_of s) r) (λ cs. granting cs s) (λ cs. refl))

pub call_same : (ks : List Kind) (c : Call) (s : State) → ((serve ks c s).said.number ≡ 0 → ⊥) → (x : Refusal) × (serve ks c s ≡ saying (tell 0 x) s)
call_same ks c s = go (call_leaves ks c s)
  where
    go : {s' : State} → Leaves s s' → (s'.said.number ≡ 0 → ⊥) → (x : Refusal) × (s' ≡ saying (tell 0 x) s)
    go (went z) u = absurd (u (ap (λ (w : Said). w.number) z))
    go (left x) u = (x, refl)
