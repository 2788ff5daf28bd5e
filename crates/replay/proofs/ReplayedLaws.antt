-- What the calls answer is two runs (Runs.antt). Assumes nothing.
use mathlib.Core.Path.{◌≡◌, sym, ap, ◌∙◌}
use mathlib.Core.List.{List}
use Prim.Native.Nat.{ℕ, ◌≤◌}
use native.Mathlib.Omega.{arith}
use lib.ListN.{length, take, drop, length-append}
use lib.Seq.{take_at}
use Rattle.definition.specs.Tables.{kinds}
use Rattle.definition.specs.Calls.{start, serve}
use Rattle.definition.specs.Calls as D
use Rattle.definition.specs.Plan.{lent, written}
use Rattle.tables.specs.Views.{state_view}
use Rattle.tables.specs.declared.State.{State}
use Rattle.flat.specs.Flat.{flat_plan}
use Rattle.flat.specs.Pin.{pinned_numbers}
use Rattle.replay.specs.Again.{taken}
use Rattle.replay.specs.Runs.{runs, most_taken, first_run, second_run, runs_of}
use Rattle.replay.proofs.RunLaws.{runs_refused, runs_accepted}

module _ (rq is out out' : List ℕ) (s s₁ t : State) (res : List ℕ) (started : state_view s₁ ≡ serve kinds start (state_view s)) (planned : lent (state_view t) res ≡ flat_plan rq (state_view s₁) out) where
  first : lent (state_view t) res ≡ first_run rq (state_view s) out
  first = planned ∙ ap (λ (v : D.State). flat_plan rq v out) started

  -- a refused first plan
  pub stops : (t.number ≡ 0 → ⊥) → runs (state_view t) rq res out' ≡ runs_of rq is out out' (state_view s)
  stops n = runs_refused rq is out out' (state_view s) (state_view t) res first n

  -- an accepted one: `chosen` was `blank` before the lines were taken
  pub goes_on : t.number ≡ 0 → (back blank chosen : List ℕ) (n : ℕ) (t₁ u : State) (res' : List ℕ) → back ≡ pinned_numbers rq res → length blank ≡ most_taken
      → chosen ≡ written (taken (length blank) back is) blank → n ≡ length (taken (length blank) back is) → state_view t₁ ≡ serve kinds start (state_view t)
      → lent (state_view u) res' ≡ flat_plan (take n chosen) (state_view t₁) out' → runs (state_view u) back res res' ≡ runs_of rq is out out' (state_view s)
  goes_on z back blank chosen n t₁ u res' pinned long took few restarted replanned =
      let w : List ℕ = taken (length blank) back is in
      let front : take n chosen ≡ taken most_taken (pinned_numbers rq res) is = ap (take n) took ∙ take_at w (drop (length w) blank) n (sym few) ∙ (λ i. taken (long i) (pinned i) is) in
      let two : lent (state_view u) res' ≡ second_run (pinned_numbers rq res) is (state_view t) out' = replanned ∙ (λ i. flat_plan (front i) (restarted i) out') in
      (λ i. runs (two i).state (pinned i) res (two i).results) ∙ runs_accepted rq is out out' (state_view s) (state_view t) res first z

-- what was taken is a front part
pub fits_in : (back is blank chosen : List ℕ) (n : ℕ) → chosen ≡ written (taken (length blank) back is) blank → n ≡ length (taken (length blank) back is) → n ≤ length chosen
fits_in back is blank chosen n e f = let w : List ℕ = taken (length blank) back is in omega (arith, f, ap length e, length-append w (drop (length w) blank))
