-- DEMAND 3 FOR THE CALLS: an accepted plan, its results written back into its requests, any of them in any order run again. Assumes nothing.
use mathlib.Core.Path.{◌≡◌, refl, sym, subst, ap, ◌∙◌}
use mathlib.Core.Bool.{Bool, true, false}
use mathlib.Core.List.{List, ◌++◌, map}
use Prim.Native.Nat.{ℕ, ◌*◌, ◌/◌, ◌≤◌}
use native.Mathlib.Omega.{arith}
use lib.Dec.{T, leb, leb→le}
use lib.ListN.{length, drop, length-map}
use lib.Seq.{take_all}
use Rattle.definition.proofs.BaseLaws.{and_l, eq→eqb, T_true}
use Rattle.definition.specs.Tables.{plan_limit, record_size, Kind, kinds}
use Rattle.definition.specs.Base.{malformed, short, refused, require}
use Rattle.definition.specs.Pools.{rows_of}
use Rattle.definition.specs.Request.{Request}
use Rattle.definition.specs.Calls.{State, pools_of, held_of, owners_of, start, serve, sound, settle, granting, starting}
use Rattle.definition.specs.Plan.{Grant, done, records, written, Lent, lent, all_rows, roomy, plan_run, grants_of, plan, pinned}
use Rattle.definition.proofs.ReplayLaws.{Pick, pick_length}
use Rattle.definition.proofs.PickLaws.{indices, nth, pick_nth}
use Rattle.definition.proofs.PlanLaws.{tell_number, plan_accepted, plan_says, Again, replay, replay_rows}
use Rattle.flat.specs.Flat.{request_size, requests_from, requests_of, whole_requests, flat_plan}
use Rattle.flat.proofs.FlatLaws.{requests_length, flat_whole, flat_torn}
use Rattle.flat.specs.Pin.{pinned_numbers}
use Rattle.flat.proofs.BackLaws.{pinned_length, grants_length, requests_pinned}
use Rattle.replay.specs.Again.{blocks, taken, rows_for, FlatAgain, first_results, run_again}
use Rattle.replay.proofs.BlockLaws.{AllBelow, picked_below, requests_length_blocks, requests_blocks, requests_nth, blocks_records, run_told, rows_for_is}

-- ---- an accepted plan ends with a whole request

torn_number : (s : State) (b : Bool) → (settle s (require b malformed (refused short))).said.number ≡ 0 → ⊥
unfolding require
torn_number s true e = tell_number 0 short e
torn_number s false e = tell_number 0 malformed e

accepted_whole : (rq : List ℕ) (s : State) (out : List ℕ) → (flat_plan rq s out).state.said.number ≡ 0 → whole_requests rq ≡ true
accepted_whole rq s out e = go (whole_requests rq) refl
  where
    go : (b : Bool) → whole_requests rq ≡ b → b ≡ true
    go true w = refl
    go false w = absurd (torn_number s (sound kinds s) (sym (ap (λ (v : Lent). v.state.said.number) (flat_torn rq s out w)) ∙ e))

pub whole_length : (xs : List ℕ) (n : ℕ) → length xs ≡ request_size * n → whole_requests xs ≡ true
unfolding whole_requests
whole_length xs n e = T_true _ (eq→eqb (request_size * (length xs / request_size)) (length xs) (omega arith))

-- ---- the theorem

module _ (s t : State) (rq out is out' : List ℕ) (a : FlatAgain s t rq out is out') where
  abbrev s₀ : State
  s₀ = serve kinds start s

  abbrev res : List ℕ
  res = first_results s rq out

  abbrev gs : List Grant
  gs = grants_of (plan_run (requests_of rq) s₀ out)

  abbrev ps : List Grant
  ps = map (nth gs) is

  first_is : flat_plan rq s₀ out ≡ plan (requests_of rq) s₀ out
  first_is = flat_whole rq s₀ out (accepted_whole rq s₀ out a.was_accepted_is)

  number_is : (plan (requests_of rq) s₀ out).state.said.number ≡ 0
  number_is = sym (ap (λ (v : Lent). v.state.said.number) first_is) ∙ a.was_accepted_is

  ran : plan_run (requests_of rq) s₀ out ≡ done gs
  ran = plan_accepted (requests_of rq) s₀ out number_is

  count : length gs ≡ length rq / request_size
  count = grants_length rq s₀ out gs ran

  results_are : res ≡ written (records gs) out
  unfolding plan
  results_are = ap (λ (v : Lent). v.results) first_is

  all_below : AllBelow (length gs) is
  all_below = picked_below (length gs) (subst (λ (n : ℕ). Pick is (indices 0 n)) (sym count) a.picked)

  again : Again s t (requests_of rq) out ps out'
  again = record {
    was_accepted_is = number_is;
    inside = a.inside;
    picked = pick_nth gs (subst (λ (n : ℕ). Pick is (indices 0 n)) (sym count) a.picked);
    same_pools = a.same_pools;
    same_held = a.same_held;
    long = omega (arith, a.long, length-map is (nth gs));
  }

  abbrev back : List ℕ
  back = pinned_numbers rq (written (records gs) out)

  requests_are : requests_of (blocks request_size back is) ≡ map pinned ps
  unfolding requests_of
  requests_are =
      let n : length back ≡ length rq = pinned_length rq (written (records gs) out) in
      let m : length back / request_size ≡ length gs = ap (λ (k : ℕ). k / request_size) n ∙ sym count in
      let e : requests_from back 0 (length gs) ≡ map pinned gs = ap (requests_from back 0) (sym m) ∙ requests_pinned rq s₀ out gs ran in
      requests_blocks back is (length gs) (omega arith) all_below ∙ requests_nth back pinned gs (length gs) is e refl all_below

  whole_again : whole_requests (blocks request_size back is) ≡ true
  whole_again =
      let n : length back ≡ length rq = pinned_length rq (written (records gs) out) in
      whole_length (blocks request_size back is) (length is) (requests_length_blocks back is (length gs) (omega (arith, count)) all_below)

  records_are : blocks record_size res is ≡ records ps
  records_are = ap (λ (v : List ℕ). blocks record_size v is) results_are ∙ blocks_records gs (drop (length (records gs)) out) is all_below

  rows_are : rows_for res is ≡ all_rows ps
  rows_are = ap (λ (v : List ℕ). rows_for v is) results_are ∙ rows_for_is gs (drop (length (records gs)) out) is (run_told (pools_of s₀) (requests_of rq) (owners_of s₀) gs (plan_says (requests_of rq) s₀ out gs ran).ran) all_below

  run_is : run_again s t rq out is out' ≡ plan (map pinned ps) (serve kinds start t) out'
  run_is =
      ap (λ (v : List ℕ). flat_plan (blocks request_size (pinned_numbers rq v) is) (serve kinds start t) out') results_are
      ∙ flat_whole (blocks request_size back is) (serve kinds start t) out' whole_again
      ∙ ap (λ (rs : List Request). plan rs (serve kinds start t) out') requests_are

  -- where there is room for as many lines as a plan has, all are taken
  pub all_taken : (room : ℕ) → request_size * plan_limit ≤ room → taken room (pinned_numbers rq res) is ≡ blocks request_size (pinned_numbers rq res) is
  unfolding roomy
  all_taken room l =
      let t : T (leb (length (requests_of rq)) plan_limit) = and_l (leb (length (requests_of rq)) plan_limit) _ (plan_says (requests_of rq) s₀ out gs ran).has_room in
      let few : length is ≤ plan_limit = omega (arith, pick_length again.picked, length-map is (nth gs), count, requests_length rq, leb→le (length (requests_of rq)) plan_limit t) in
      let m : length (pinned_numbers rq res) ≡ length rq = pinned_length rq res in
      take_all room (blocks request_size (pinned_numbers rq res) is) (omega (arith, few, l, requests_length_blocks (pinned_numbers rq res) is (length gs) (omega (arith, m, count)) all_below))

  -- all are accepted (the five numbers are 0), each has the nine numbers that it had in the first results, and the owner tables are the
  -- reservations with the rows that these numbers tell of pushed to their ends in the order run
  pub flat_replay : run_again s t rq out is out' ≡ lent (granting (rows_for res is) (starting s)) (written (blocks record_size res is) out')
  flat_replay =
      run_is ∙ replay s t (requests_of rq) out ps out' again ∙ (λ i. lent (granting (sym rows_are i) (starting s)) (written (sym records_are i) out'))

  -- .. so the tables hold the reservations and those rows, and nothing else
  pub flat_replay_rows : (k : Kind) → owners_of (run_again s t rq out is out').state k ≡ held_of s k ++ rows_of k (rows_for res is)
  flat_replay_rows k =
      ap (λ (v : Lent). owners_of v.state k) run_is ∙ replay_rows s t (requests_of rq) out ps out' again k ∙ ap (λ cs. held_of s k ++ rows_of k cs) (sym rows_are)
