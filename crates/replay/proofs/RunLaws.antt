-- DEMAND 3 of two runs (Runs.antt): where its conditions hold, so does what it promises. Assumes nothing.
use mathlib.Core.Path.{◌≡◌, refl, sym, subst, ap, ◌∙◌}
use mathlib.Core.Bool.{Bool, true, false}
use mathlib.Core.List.{List}
use Prim.Native.Nat.{ℕ}
use native.Mathlib.Omega.{arith}
use lib.Dec.{eqb}
use borrow.Author.Tests.{eq-eqb, ne_eqb}
use Rattle.definition.specs.Tables.{record_size, kinds}
use Rattle.definition.specs.Base.{malformed, short, accepted, refused, require}
use Rattle.definition.specs.Calls.{State, owners_of, given, sound, starting, granting, start, serve, settle}
use Rattle.definition.specs.Plan.{Run, done, stopped, Lent, lent, written, plan_run, ended, plan}
use Rattle.flat.specs.Flat.{request_size, requests_of, whole_requests, flat_plan}
use Rattle.flat.specs.Pin.{pinned_numbers}
use Rattle.replay.specs.Again.{blocks, rows_for, FlatAgain}
use Rattle.replay.specs.Runs.{Runs, runs, most_taken, first_run, second_run, runs_after, runs_of, Replayable, Replays}
use Rattle.replay.proofs.AgainLaws.{all_taken, flat_replay, flat_replay_rows}

-- ---- a run leaves pools and reservations as they were

abbrev Kept : State → State → Type 0
Kept s t = (t.pools ≡ s.pools) × (t.held ≡ s.held)

start_kept : (s : State) → Kept s (serve kinds start s)
unfolding serve require
start_kept s = go (given kinds s)
  where
    go : (b : Bool) → Kept s (settle s (require b malformed (accepted (starting s))))
    go true = (refl, refl)
    go false = (refl, refl)

flat_kept : (rq : List ℕ) (s : State) (out : List ℕ) → Kept s (flat_plan rq s out).state
unfolding flat_plan plan require
flat_kept rq s out = go (whole_requests rq)
  where
    ran : (v : Run) → Kept s (ended s v)
    ran (done gs) = (refl, refl)
    ran (stopped gs x) = (refl, refl)

    torn : (b : Bool) → Kept s (settle s (require b malformed (refused short)))
    torn true = (refl, refl)
    torn false = (refl, refl)

    go : (b : Bool) → Kept s (elim b as (λ _. Lent) [ true ↦ plan (requests_of rq) s out | false ↦ lent (settle s (require (sound kinds s) malformed (refused short))) out ]).state
    go true = ran (plan_run (requests_of rq) s out)
    go false = torn (sound kinds s)

-- ---- what is handed back, by the answer of the first run

module _ (rq is out out' : List ℕ) (s t : State) (res : List ℕ) (e : lent t res ≡ first_run rq s out) where
  abbrev after : Bool → Runs
  after b =
      let two : Lent = second_run (pinned_numbers rq res) is t out' in
      elim b as (λ _. Runs) [ true ↦ runs two.state (pinned_numbers rq res) res two.results | false ↦ runs t rq res out' ]

  by_answer : (b : Bool) → eqb t.said.number 0 ≡ b → after b ≡ runs_of rq is out out' s
  unfolding runs_of
  by_answer b n = ap after (sym n) ∙ ap (runs_after rq is out') e

  pub runs_refused : (t.said.number ≡ 0 → ⊥) → runs t rq res out' ≡ runs_of rq is out out' s
  runs_refused n = by_answer false (ne_eqb t.said.number 0 n)

  pub runs_accepted : t.said.number ≡ 0 → runs (second_run (pinned_numbers rq res) is t out').state (pinned_numbers rq res) res (second_run (pinned_numbers rq res) is t out').results ≡ runs_of rq is out out' s
  runs_accepted n = by_answer true (eq-eqb t.said.number 0 n)

-- ---- the theorem

module _ (rq is out out' : List ℕ) (s : State) (h : Replayable rq is out out' s) where
  abbrev one : Lent
  one = first_run rq s out

  abbrev lines : List ℕ
  lines = pinned_numbers rq one.results

  abbrev two : Lent
  two = second_run lines is one.state out'

  again : FlatAgain s one.state rq out is out'
  again =
      let a = start_kept s in
      let b = flat_kept rq (serve kinds start s) out in
      record { was_accepted_is = h.was_accepted_is; inside = h.inside; picked = h.picked; same_pools = b.0 ∙ a.0; same_held = b.1 ∙ a.1; long = h.long }

  runs_are : runs_of rq is out out' s ≡ runs two.state lines one.results two.results
  runs_are = sym (runs_accepted rq is out out' s one.state one.results refl h.was_accepted_is)

  all_are : two ≡ flat_plan (blocks request_size lines is) (serve kinds start one.state) out'
  all_are = ap (λ (v : List ℕ). flat_plan v (serve kinds start one.state) out') (all_taken s one.state rq out is out' again most_taken (omega arith))

  two_is : two ≡ lent (granting (rows_for one.results is) (starting s)) (written (blocks record_size one.results is) out')
  two_is = all_are ∙ flat_replay s one.state rq out is out' again

  pub replays : Replays is out' s (runs_of rq is out out' s)
  replays =
      subst (Replays is out' s) (sym runs_are) record {
        accepted = ap (λ (v : Lent). v.state.said) two_is;
        same = ap (λ (v : Lent). v.results) two_is;
        owners = λ k. ap (λ (v : Lent). owners_of v.state k) all_are ∙ flat_replay_rows s one.state rq out is out' again k;
        pools = ap (λ (v : Lent). v.state.pools) two_is;
        held = ap (λ (v : Lent). v.state.held) two_is;
      }
