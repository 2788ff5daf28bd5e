-- The front part that an answer's numbers name is made of the records of the accepted requests. Assumes nothing.
use mathlib.Core.Path.{◌≡◌, refl, ap, sym, ◌∙◌}
use mathlib.Core.Bool.{Bool, true, false}
use mathlib.Core.List.{List}
use Prim.Native.Nat.{ℕ, ◌*◌}
use lib.Dec.{eqb, eqb→eq}
use lib.ListN.{length, length-map, take, drop}
use lib.Seq.{take_at}
use Rattle.definition.proofs.BaseLaws.{T_false}
use Rattle.definition.specs.Tables.{record_size}
use Rattle.definition.specs.Base.{Refusal, tell}
use Rattle.definition.specs.Request.{Request}
use Rattle.definition.specs.Calls.{State}
use Rattle.definition.specs.Plan.{lent, Grant, Run, done, stopped, plan_run, grants_of, records, written, ended, plan}
use Rattle.definition.proofs.PlanLaws.{tell_number, tell_index, plan_requests}
use Rattle.definition.proofs.RunLaws.{records_length}
use Rattle.plan.specs.Front.{accepted_of, front_of, filled}

pub accepted_all : (number index n : ℕ) → number ≡ 0 → n ≡ accepted_of number index n
accepted_all number index n e = sym (ap (λ (k : ℕ). accepted_of k index n) e)

pub accepted_some : (number index n : ℕ) → (number ≡ 0 → ⊥) → index ≡ accepted_of number index n
accepted_some number index n f = sym (ap (λ (b : Bool). elim b [ true ↦ n | false ↦ index ]) (T_false (eqb number 0) (λ t. f (eqb→eq number 0 t))))

-- a refused answer names how many were accepted by its index
pub refused_index : (i n : ℕ) (x : Refusal) → accepted_of (tell i x).number (tell i x).index n ≡ i
refused_index i n x = sym (accepted_some (tell i x).number (tell i x).index n (tell_number i x)) ∙ tell_index i x

-- the records stand in front
pub front_written : (gs : List Grant) (out : List ℕ) → take (record_size * length gs) (written (records gs) out) ≡ records gs
front_written gs out = take_at (records gs) (drop (length (records gs)) out) (record_size * length gs) (records_length gs)

pub plan_front : (rs : List Request) (s : State) (out : List ℕ) → front_of (plan rs s out) (length rs) ≡ filled rs s out
unfolding plan
plan_front rs s out = go (plan_run rs s out) refl
  where
    go : (v : Run) → plan_run rs s out ≡ v → front_of (lent (ended s v) (written (records (grants_of v)) out)) (length rs) ≡ records (grants_of v)
    go (done gs) e = ap (λ (n : ℕ). take (record_size * n) (written (records gs) out)) (sym (ap length (plan_requests rs s out gs e)) ∙ length-map gs (λ g. g.request)) ∙ front_written gs out
    go (stopped gs x) e = ap (λ (n : ℕ). take (record_size * n) (written (records gs) out)) (refused_index (length gs) (length rs) x) ∙ front_written gs out
