-- Laws of the calls and of a plan over the whole state: refusals change no table, an accepted plan is its requests one by one, and DEMAND 3. Assumes nothing.
use Rattle.std.specs.Prelude.{◌≡◌, refl, ◌⊎◌, Bool, true, false, List, ◌++◌, map, ℕ, ◌*◌, ◌≤◌, min, length, take, T, leb}
use Rattle.std.proofs.Common.{sym, subst, ap, ◌∙◌, inl, inr, arith, length-take, leb→le, le→leb}
use Rattle.std.proofs.lemmas.List.{length-map}
use Rattle.definition.proofs.BaseLaws.{and_l, and_r, and_i, either}
use Rattle.definition.specs.Tables.{plan_limit, record_size, Kind, kinds}
use Rattle.definition.specs.Base.{Refusal, malformed, bad_input, bad_owner, empty_range, full, bad_line, short, bad_lpi, not_found, bad_type, bad_pair, bad_mask, ports_too_large, reserved, fixed_not_allowed, exhausted, conflict, Said, says, silence, tell, Answer, accepted, refused, require, ◌then◌}
use Rattle.definition.specs.Pools.{Claim, rows_of, ◌⊕◌, Hold, held_rows, reserve}
use Rattle.definition.specs.Request.{Request, resolve}
use Rattle.definition.specs.Calls.{State, state, pools_of, held_of, owners_of, given, sound, saying, push_all, holding, granting, starting, hold, start, want, settle, serve}
use Rattle.definition.specs.Plan.{Grant, Run, done, stopped, run, records, written, lent, all_rows, roomy, at_once, plan_run, grants_of, ended, plan, pinned}
use Rattle.definition.proofs.RowLaws.{every_kind}
use Rattle.definition.proofs.ClaimLaws.{Fits, length_put, rows_append}
use Rattle.definition.proofs.TableLaws.{push_append}
use Rattle.definition.proofs.RequestLaws.{require_accepted, required, AutoInFixed, Bounded}
use Rattle.definition.proofs.StateLaws.{Sound, GivenFor, SoundFor, given_for, for_given, sound_for, for_sound, sound_saying, sound_ground, sound_fits, granting_sound, start_sound, settle_malformed}
use Rattle.definition.proofs.RunLaws.{run_take, run_requests, run_kept, Sounds, not_done}
use Rattle.definition.proofs.ReplayLaws.{Pick, pick_length, Ready, run_ready, kept, replay_run, kept_rows_is, kept_records}

-- ---- refusals

-- no refusal has the number of 'accepted'
pub tell_number : (i : ℕ) (x : Refusal) → (tell i x).number ≡ 0 → ⊥
tell_number i malformed e = omega arith
tell_number i bad_input e = omega arith
tell_number i bad_owner e = omega arith
tell_number i empty_range e = omega arith
tell_number i full e = omega arith
tell_number i bad_line e = omega arith
tell_number i short e = omega arith
tell_number i bad_lpi e = omega arith
tell_number i not_found e = omega arith
tell_number i bad_type e = omega arith
tell_number i bad_pair e = omega arith
tell_number i bad_mask e = omega arith
tell_number i ports_too_large e = omega arith
tell_number i (reserved o) e = omega arith
tell_number i (fixed_not_allowed s) e = omega arith
tell_number i (exhausted s) e = omega arith
tell_number i (conflict s o d) e = omega arith

-- a refusal's numbers are those of the request alone, but for its index
pub told_at : (i : ℕ) (x : Refusal) → says i (tell 0 x).number (tell 0 x).namespace (tell 0 x).owner (tell 0 x).detail ≡ tell i x
told_at i malformed = refl
told_at i bad_input = refl
told_at i bad_owner = refl
told_at i empty_range = refl
told_at i full = refl
told_at i bad_line = refl
told_at i short = refl
told_at i bad_lpi = refl
told_at i not_found = refl
told_at i bad_type = refl
told_at i bad_pair = refl
told_at i bad_mask = refl
told_at i ports_too_large = refl
told_at i (reserved o) = refl
told_at i (fixed_not_allowed s) = refl
told_at i (exhausted s) = refl
told_at i (conflict s o d) = refl

pub tell_index : (i : ℕ) (x : Refusal) → (tell i x).index ≡ i
tell_index i x = sym (ap (λ (w : Said). w.index) (told_at i x))

-- rows granted one list after another are granted together
pub granting_append : (cs ds : List Claim) (s : State) → granting (cs ++ ds) s ≡ granting ds (granting cs s)
granting_append cs ds s = λ i. state s.pools s.held (λ k. (ap (push_all (s.owners k)) (rows_append k cs ds) ∙ push_append (s.owners k) (rows_of k cs) (rows_of k ds)) i) silence

-- accepted, or every table as handed in
abbrev pub AcceptedOrSame : State → State → Type 0
AcceptedOrSame s s' = (s'.said.number ≡ 0) ⊎ (s' ≡ saying s'.said s)

settle_same : (s : State) (a : Answer (List Claim)) (f : List Claim → State) → ((cs : List Claim) → (f cs).said.number ≡ 0) → AcceptedOrSame s (settle s (a then λ cs. accepted (f cs)))
settle_same s (accepted cs) f z = inl (z cs)
settle_same s (refused x) f z = inr refl

require_same : (s : State) (b : Bool) (a : Answer State) → AcceptedOrSame s (settle s a) → AcceptedOrSame s (settle s (require b malformed a))
unfolding require
require_same s true a h = h
require_same s false a h = inr refl

-- a refused request, reservation or start leaves every table as it was
pub want_same : (ks : List Kind) (r : Request) (s : State) → AcceptedOrSame s (serve ks (want r) s)
unfolding serve
want_same ks r s = require_same s (sound ks s) _ (settle_same s (resolve (pools_of s) (owners_of s) r) (λ cs. granting cs s) (λ cs. refl))

pub hold_same : (ks : List Kind) (o : ℕ) (h : Hold) (s : State) → AcceptedOrSame s (serve ks (hold o h) s)
unfolding serve
hold_same ks o h s = require_same s (given ks s) _ (settle_same s (reserve (held_of s) (held_rows o h)) (λ cs. holding cs s) (λ cs. refl))

pub start_same : (ks : List Kind) (s : State) → AcceptedOrSame s (serve ks start s)
unfolding serve
start_same ks s = require_same s (given ks s) (accepted (starting s)) (inl refl)

-- a refused plan puts the tables back as they were at its start
pub plan_same : (rs : List Request) (s : State) (out : List ℕ) → AcceptedOrSame s (plan rs s out).state
unfolding plan
plan_same rs s out = go (plan_run rs s out)
  where
    go : (v : Run) → AcceptedOrSame s (ended s v)
    go (done gs) = inl refl
    go (stopped gs x) = inr refl

-- ---- accepted plans

-- the answer's number 0 and a finished run are one and the same
pub plan_accepted : (rs : List Request) (s : State) (out : List ℕ) → (plan rs s out).state.said.number ≡ 0 → plan_run rs s out ≡ done (grants_of (plan_run rs s out))
unfolding plan
plan_accepted rs s out e = go (plan_run rs s out) e
  where
    go : (v : Run) → (ended s v).said.number ≡ 0 → v ≡ done (grants_of v)
    go (done gs) h = refl
    go (stopped gs x) h = absurd (tell_number (length gs) x h)

at_once_done : (a : Answer Run) (gs : List Grant) → at_once a ≡ done gs → a ≡ accepted (done gs)
at_once_done (accepted v) gs e = ap accepted e
at_once_done (refused x) gs e = absurd (not_done e)

pub record Done (rs : List Request) (s : State) (out : List ℕ) (gs : List Grant) : Type 0 where
  pub judged : T (sound kinds s)
  pub has_room : T (roomy rs out)
  pub ran : run (pools_of s) (owners_of s) rs ≡ done gs

pub plan_says : (rs : List Request) (s : State) (out : List ℕ) (gs : List Grant) → plan_run rs s out ≡ done gs → Done rs s out gs
unfolding plan_run
plan_says rs s out gs e =
    let e₀ = at_once_done (require (sound kinds s) malformed (require (roomy rs out) short (accepted (run (pools_of s) (owners_of s) rs)))) gs e in
    let (j, e₁) = require_accepted (sound kinds s) malformed _ e₀ in
    let (r, e₂) = require_accepted (roomy rs out) short (accepted (run (pools_of s) (owners_of s) rs)) e₁ in
    record { judged = j; has_room = r; ran = cc }

pub says_plan : (rs : List Request) (s : State) (out : List ℕ) (gs : List Grant) → Done rs s out gs → plan_run rs s out ≡ done gs
unfolding plan_run
says_plan rs s out gs d =
    ap at_once (required (sound kinds s) malformed _ d.judged ∙ required (roomy rs out) short (accepted (run (pools_of s) (owners_of s) rs)) d.has_room) ∙ d.ran

roomy_from : (rs : List Request) (out : List ℕ) → length rs ≤ plan_limit → record_size * length rs ≤ length out → T (roomy rs out)
unfolding roomy
roomy_from rs out few long = search (and_i, le→leb)

roomy_few : (rs : List Request) (out : List ℕ) → T (roomy rs out) → length rs ≤ plan_limit
unfolding roomy
roomy_few rs out t = let t₁ : T (leb (length rs) plan_limit) = search (and_l, and_r) in leb→le (length rs) plan_limit t₁

roomy_long : (rs : List Request) (out : List ℕ) → T (roomy rs out) → record_size * length rs ≤ length out
unfolding roomy
roomy_long rs out t = let t₁ : T (leb (record_size * length rs) (length out)) = search (and_l, and_r) in leb→le (record_size * length rs) (length out) t₁

-- after its first i requests the tables are those of these i lines alone
pub plan_take : (i : ℕ) (rs : List Request) (s : State) (out : List ℕ) (gs : List Grant) → plan_run rs s out ≡ done gs → plan_run (take i rs) s out ≡ done (take i gs)
plan_take i rs s out gs e =
    let d : Done rs s out gs = plan_says rs s out gs e in
    let n : length (take i rs) ≡ min i (length rs) = length-take i rs in
    says_plan (take i rs) s out (take i gs) record {
      judged = d.judged;
      has_room = roomy_from (take i rs) out (omega (arith, roomy_few rs out d.has_room)) (omega (arith, roomy_long rs out d.has_room));
      ran = run_take (pools_of s) i rs (owners_of s) gs d.ran;
    }

-- every line of an accepted plan has its grant, in order
pub plan_requests : (rs : List Request) (s : State) (out : List ℕ) (gs : List Grant) → plan_run rs s out ≡ done gs → map (λ g. g.request) gs ≡ rs
plan_requests rs s out gs e = run_requests (pools_of s) rs (owners_of s) gs (plan_says rs s out gs e).ran

pub all_sounds : (s : State) → SoundFor kinds s → Sounds (owners_of s)
all_sounds s h k = (sound_ground s k (h k (every_kind k))).1

pub all_bounded : (s : State) → SoundFor kinds s → (k : Kind) → Bounded (pools_of s) k
all_bounded s h k = (sound_ground s k (h k (every_kind k))).0

pub all_fits : (s : State) → SoundFor kinds s → Fits (owners_of s)
unfolding Fits
all_fits s h k = sound_fits s k (h k (every_kind k))

-- at the end of a run the owner tables hold what they held, and the granted rows in order; and the state is sound
pub run_done : (rs : List Request) (s : State) (gs : List Grant) → SoundFor kinds s → run (pools_of s) (owners_of s) rs ≡ done gs
    → (k : Kind) → Sound (granting (all_rows gs) s) k × (owners_of (granting (all_rows gs) s) k ≡ (owners_of s ⊕ all_rows gs) k)
unfolding Fits
run_done rs s gs h e k =
    let (rows, few) = run_kept (pools_of s) (all_bounded s h) rs (owners_of s) gs (all_sounds s h) (all_fits s h) e in
    granting_sound s (all_rows gs) k (h k (every_kind k)) (omega (arith, few k, length_put (owners_of s) (all_rows gs) k)) (rows k)

pub plan_done : (rs : List Request) (s : State) (out : List ℕ) (gs : List Grant) → plan_run rs s out ≡ done gs
    → (k : Kind) → Sound (granting (all_rows gs) s) k × (owners_of (granting (all_rows gs) s) k ≡ (owners_of s ⊕ all_rows gs) k)
plan_done rs s out gs e = let d : Done rs s out gs = plan_says rs s out gs e in run_done rs s gs (sound_for kinds s d.judged) d.ran

-- a plan, accepted or refused, leaves a sound state sound
pub plan_sound : (rs : List Request) (s : State) (out : List ℕ) → T (sound kinds s) → T (sound kinds (plan rs s out).state)
unfolding plan
plan_sound rs s out t = go (plan_run rs s out) refl
  where
    go : (v : Run) → plan_run rs s out ≡ v → T (sound kinds (ended s v))
    go (done gs) e = for_sound kinds (granting (all_rows gs) s) (λ k m. (plan_done rs s out gs e k).0)
    go (stopped gs x) e = for_sound kinds (saying (tell (length gs) x) s) (λ k m. sound_saying (tell (length gs) x) s k (sound_for kinds s t k m))

-- ---- demand 3

-- what is started from sound pools and reservations
pub start_is : (ks : List Kind) (s : State) → T (given ks s) → serve ks start s ≡ starting s
unfolding serve
start_is ks s t = rw (required (given ks s) malformed (accepted (starting s)) t)

-- a state that is sound after a start was started
pub started_given : (s : State) → T (sound kinds (serve kinds start s)) → T (given kinds s)
unfolding serve
started_given s t = go (either (given kinds s))
  where
    go : T (given kinds s) ⊎ (T (given kinds s) → ⊥) → T (given kinds s)
    go (inl g) = g
    go (inr u) =
        let h : SoundFor kinds (saying (tell 0 malformed) s) = sound_for kinds (saying (tell 0 malformed) s) (rw (settle_malformed (given kinds s) s (accepted (starting s)) u) at t) in
        for_given kinds s (λ k m. record { pools = (h k m).given.pools; held = (h k m).given.held })

given_alike : (s t : State) → t.pools ≡ s.pools → t.held ≡ s.held → T (given kinds s) → T (given kinds t)
given_alike s t ep eh g =
    let h : GivenFor kinds s = given_for kinds s g in
    for_given kinds t (λ k m. record { pools = rw ep (h k m).pools; held = rw eh (h k m).held })

-- the same pools and reservations, room for the results, and lines that can all be added to the reservations: any of them, pinned, as one plan from a fresh start
module _ (s t : State) (gs ps : List Grant) (out : List ℕ) (g : T (given kinds s)) (ready : Ready (pools_of s) (held_of s) gs) (picked : Pick ps gs) (few : length ps ≤ plan_limit)
    (same_pools : t.pools ≡ s.pools) (same_held : t.held ≡ s.held) (long : record_size * length ps ≤ length out) where
  ready_start : serve kinds start t ≡ starting s
  ready_start = start_is kinds t (given_alike s t same_pools same_held g) ∙ (λ i. state (same_pools i) (same_held i) (same_held i) silence)

  ready_run : plan_run (map pinned ps) (starting s) out ≡ done (map kept ps)
  ready_run = says_plan (map pinned ps) (starting s) out (map kept ps) record {
    judged = for_sound kinds (starting s) (λ k m. start_sound s k (given_for kinds s g k m));
    has_room = roomy_from (map pinned ps) out (omega (arith, length-map ps pinned)) (omega (arith, length-map ps pinned));
    ran = replay_run picked ready;
  }

  -- all are accepted (the five numbers are 0), each gets the numbers it had before, and each owner table is its reservation table with those lines' rows
  -- pushed to its end in the order run
  pub ready_replay : plan (map pinned ps) (serve kinds start t) out ≡ lent (granting (all_rows ps) (starting s)) (written (records ps) out)
  unfolding plan
  ready_replay = rw (ready_start, ready_run, kept_rows_is ps, kept_records ps)

  pub ready_rows : (k : Kind) → owners_of (plan (map pinned ps) (serve kinds start t) out).state k ≡ held_of s k ++ rows_of k (all_rows ps)
  unfolding ◌⊕◌
  ready_rows k =
      let e : owners_of (granting (all_rows (map kept ps)) (starting s)) k ≡ held_of s k ++ rows_of k (all_rows (map kept ps)) = (plan_done (map pinned ps) (starting s) out (map kept ps) ready_run k).1 in
      rw ready_replay (rw (kept_rows_is ps) at e)

-- the hypotheses of demand 3: a plan was accepted from freshly started tables; each range of the automatic pools lies inside one range of the fixed
-- pools of its kind and domain; any of its lines, each at most once, in any order; the same pools and reservations; room for their results
pub record Again (s t : State) (rs : List Request) (out : List ℕ) (ps : List Grant) (out' : List ℕ) : Type 0 where
  pub was_accepted_is : (plan rs (serve kinds start s) out).state.said.number ≡ 0
  pub inside : AutoInFixed (pools_of s)
  pub picked : Pick ps (grants_of (plan_run rs (serve kinds start s) out))
  pub same_pools : t.pools ≡ s.pools
  pub same_held : t.held ≡ s.held
  pub long : record_size * length ps ≤ length out'

module _ (s t : State) (rs : List Request) (out : List ℕ) (ps : List Grant) (out' : List ℕ) (a : Again s t rs out ps out') where
  abbrev first : List Grant
  first = grants_of (plan_run rs (serve kinds start s) out)

  ran_first : Done rs (serve kinds start s) out first
  ran_first = plan_says rs (serve kinds start s) out first (plan_accepted rs (serve kinds start s) out a.was_accepted_is)

  was_given : T (given kinds s)
  was_given = started_given s ran_first.judged

  ready_first : Ready (pools_of s) (held_of s) first
  ready_first =
      let h : SoundFor kinds (starting s) = sound_for kinds (starting s) (rw (start_is kinds s was_given) at ran_first.judged) in
      let ran : run (pools_of (starting s)) (owners_of (starting s)) rs ≡ done first = subst (λ (x : State). run (pools_of x) (owners_of x) rs ≡ done first) (start_is kinds s was_given) ran_first.ran in
      run_ready (pools_of s) (all_bounded (starting s) h) a.inside rs (held_of s) first (all_sounds (starting s) h) (all_fits (starting s) h) ran

  few_first : length ps ≤ plan_limit
  few_first =
      let e : length first ≡ length rs = sym (length-map first (λ g. g.request)) ∙ ap length (plan_requests rs (serve kinds start s) out first (plan_accepted rs (serve kinds start s) out a.was_accepted_is)) in
      omega (arith, pick_length a.picked, roomy_few rs out ran_first.has_room)

  -- DEMAND 3 for one plan: all are accepted (the five numbers are 0), each gets the numbers it had before (the records are those of the first run), and each
  -- owner table is its reservation table with those lines' rows pushed to its end in the order run
  pub replay : plan (map pinned ps) (serve kinds start t) out' ≡ lent (granting (all_rows ps) (starting s)) (written (records ps) out')
  replay = ready_replay s t first ps out' was_given ready_first a.picked few_first a.same_pools a.same_held a.long

  -- .. so the tables hold the reservations and those lines' rows, and nothing else
  pub replay_rows : (k : Kind) → owners_of (plan (map pinned ps) (serve kinds start t) out').state k ≡ held_of s k ++ rows_of k (all_rows ps)
  replay_rows = ready_rows s t first ps out' was_given ready_first a.picked few_first a.same_pools a.same_held a.long
