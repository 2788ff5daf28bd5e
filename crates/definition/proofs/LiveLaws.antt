-- DEMAND 3 OVER HISTORIES: any of the live lines, pinned, as one plan from a fresh start. Assumes nothing.
use Rattle.std.specs.Prelude.{◌≡◌, Bool, not, ℕ, ◌*◌, ◌≤◌, length, T}
use Rattle.std.proofs.Common.{sym, subst, ap, ◌∙◌}
use mathlib.Core.List.{List, [], ◌∷◌, ◌++◌, map, append-nil}
use Rattle.definition.specs.Base.{only_of}
use Rattle.definition.specs.Tables.{plan_limit, record_size, Kind, kinds, used}
use Rattle.definition.specs.Pools.{Holders, rows_of, ◌⊕◌}
use Rattle.definition.specs.Request.{Pools}
use Rattle.definition.specs.Calls.{State, pools_of, held_of, owners_of, given, start, serve, granting, starting}
use Rattle.definition.specs.Plan.{Grant, records, written, lent, all_rows, plan, pinned}
use Rattle.definition.specs.History.{Step, step, PoolsStay, HeldStay, granted, takes, outlives, live}
use Rattle.definition.proofs.ClaimLaws.{Fits}
use Rattle.definition.proofs.RequestLaws.{AutoInFixed}
use Rattle.definition.proofs.StateLaws.{SoundFor, sound_for, start_sound, given_for, sound_fits}
use Rattle.definition.proofs.RowLaws.{every_kind}
use Rattle.definition.proofs.ReplayLaws.{Pick, Ready, ready_nil, ready_append, ready_only, run_ready}
use Rattle.definition.proofs.PlanLaws.{all_sounds, all_bounded, all_fits, start_is, ready_replay, ready_rows}
use Rattle.definition.proofs.HistoryLaws.{Does, rests, grants, starts, withdraws, step_does, Stands, next, step_stands, started, next_none, live_from, live_step}

-- ---- live lines can all be added to the reservations, in any order

step_ready : {P : Pools} {H : Holders} {gs : List Grant} {s s' : State} {hs : List Grant} {p : Grant → Bool} → AutoInFixed P → pools_of s ≡ P → Stands H gs s → Does s s' hs p → Ready P H gs → Ready P H (next gs hs p)
unfolding ◌⊕◌
step_ready {gs = gs} inside same stood (rests {p} e none) ready = rw (append-nil (only_of (λ g. not (p g)) gs)) (ready_only (λ g. not (p g)) gs ready)
step_ready {P} {H} {gs} {s} inside same stood (grants {p} rs hs t ran e none) ready =
    ready_append (only_of (λ g. not (p g)) gs) hs (ready_only (λ g. not (p g)) gs ready) (rw kept behind)
  where
    sounds : SoundFor kinds s
    sounds = sound_for kinds s t

    rows : owners_of s ≡ H ⊕ all_rows gs
    rows = λ i k. stood.owners k i

    behind : Ready P (H ⊕ all_rows gs) hs
    behind =
        subst (λ (S : Holders). Ready P S hs) rows
        (subst (λ (Q : Pools). Ready Q (owners_of s) hs) same (run_ready (pools_of s) (all_bounded s sounds) (subst AutoInFixed (sym same) inside) rs (owners_of s) hs (all_sounds s sounds) (all_fits s sounds) ran))

    kept : only_of (λ g. not (p g)) gs ≡ gs
    kept = next_none stood p none
step_ready {gs = gs} inside same stood (starts {p} e all) ready = rw (append-nil (only_of (λ g. not (p g)) gs)) (ready_only (λ g. not (p g)) gs ready)
step_ready {gs = gs} inside same stood (withdraws {p} q t e those) ready = rw (append-nil (only_of (λ g. not (p g)) gs)) (ready_only (λ g. not (p g)) gs ready)

steps_ready : {P : Pools} {H : Holders} (gs : List Grant) (xs : List Step) (s : State) → AutoInFixed P → pools_of s ≡ P → PoolsStay xs s → HeldStay xs s → Stands H gs s → Ready P H gs → Ready P H (live_from gs xs s)
unfolding live outlives
steps_ready gs [] s inside same ps hs stood ready = rw (append-nil (only_of (outlives [] s) gs)) (ready_only (outlives [] s) gs ready)
steps_ready {P} {H} gs (x ∷ xs) s inside same (p, ps) (h, hs) stood ready =
    rw (live_step gs x xs s) at
    (steps_ready (next gs (granted x s) (takes x s)) xs (step x s) inside (ap (λ z u k. used (z u k)) p ∙ same) ps hs (step_stands stood h (step_does s x)) (step_ready inside same stood (step_does s x) ready))

-- ---- the theorem

-- the hypotheses of demand 3 over a history: tables were freshly started; each range of the automatic pools lies inside one range of the fixed pools of its
-- kind and domain; then any calls, accepted or refused, that leave pools and reservations as they were; any of the lines accepted in them outside refused
-- plans and not withdrawn after, each at most once, in any order, at most a plan's number of them; the same pools and reservations; room for their results
pub record LiveAgain (s t : State) (xs : List Step) (ps : List Grant) (out : List ℕ) : Type 0 where
  pub was_started : T (given kinds s)
  pub inside : AutoInFixed (pools_of s)
  pub pools_stay : PoolsStay xs (serve kinds start s)
  pub held_stay : HeldStay xs (serve kinds start s)
  pub picked : Pick ps (live xs (serve kinds start s))
  pub few : length ps ≤ plan_limit
  pub same_pools : t.pools ≡ s.pools
  pub same_held : t.held ≡ s.held
  pub long : record_size * length ps ≤ length out

module _ (s t : State) (xs : List Step) (ps : List Grant) (out : List ℕ) (a : LiveAgain s t xs ps out) where
  ready_live : Ready (pools_of s) (held_of s) (live xs (serve kinds start s))
  unfolding only_of Fits
  ready_live =
      steps_ready [] xs (serve kinds start s) a.inside (ap pools_of (start_is kinds s a.was_started)) a.pools_stay a.held_stay (started s a.was_started)
      (ready_nil (λ k. sound_fits (starting s) k (start_sound s k (given_for kinds s a.was_started k (every_kind k)))))

  -- DEMAND 3: all are accepted (the five numbers are 0), each gets the numbers it had before (the records are those of its own grant), and each owner table
  -- is its reservation table with those lines' rows pushed to its end in the order run
  pub live_replay : plan (map pinned ps) (serve kinds start t) out ≡ lent (granting (all_rows ps) (starting s)) (written (records ps) out)
  live_replay = ready_replay s t (live xs (serve kinds start s)) ps out a.was_started ready_live a.picked a.few a.same_pools a.same_held a.long

  -- .. so the tables hold the reservations and those lines' rows, and nothing else
  pub live_replay_rows : (k : Kind) → owners_of (plan (map pinned ps) (serve kinds start t) out).state k ≡ held_of s k ++ rows_of k (all_rows ps)
  live_replay_rows = ready_rows s t (live xs (serve kinds start s)) ps out a.was_started ready_live a.picked a.few a.same_pools a.same_held a.long
