-- What stays over a history: sound tables, and with that every number of the owner tables; pools and reservations, unless a call adds to them. Assumes nothing.
use Rattle.std.specs.Prelude.{◌≡◌, refl, Bool, true, false, List, [], ◌∷◌, ◌++◌, ℕ, T}
use Rattle.std.proofs.Common.{sym, ap, ◌∙◌}
use Rattle.definition.specs.Base.{all_of, malformed, tell, Answer, accepted, refused, require, ◌then◌}
use Rattle.definition.proofs.BaseLaws.{and_l, and_r}
use Rattle.definition.specs.Tables.{row_limit, Kind, kinds, same_row, blank_row}
use Rattle.definition.specs.Pools.{Claim, rows_of}
use Rattle.definition.specs.Request.{Request, resolve}
use Rattle.definition.specs.Calls.{State, pools_of, held_of, owners_of, given, sound, filled, granting, starting, Call, pool, hold, start, want, settle, serve}
use Rattle.definition.specs.Plan.{Run, done, stopped, all_rows, plan_run, ended, plan}
use Rattle.definition.specs.Withdraw.{withdraw}
use Rattle.definition.specs.History.{Step, called, allocated, planned, withdrawn, unread, step, steps, PoolsStay, HeldStay, live}
use Rattle.definition.proofs.RowLaws.{every_kind, row_eq}
use Rattle.definition.proofs.TableLaws.{filled_same}
use Rattle.definition.proofs.StateLaws.{SoundFor, sound_for, for_sound, sound_saying, serve_given, start_sound, given_for, pool_sound, want_sound}
use Rattle.definition.proofs.RefusedLaws.{call_same}
use Rattle.definition.proofs.PlanLaws.{plan_sound, start_is}
use Rattle.definition.proofs.WithdrawLaws.{Withdraws, unsound, nobody, not_found_when, gone, withdraw_says, withdraw_sound}
use Rattle.definition.proofs.IntoPlanLaws.{into_plan, into_sound}
use Rattle.definition.proofs.HistoryLaws.{does_hold, tables_are_live}

-- ---- soundness

start_stays : (s : State) → SoundFor kinds s → SoundFor kinds (serve kinds start s)
unfolding serve require
start_stays s h = go (given kinds s)
  where
    go : (b : Bool) → SoundFor kinds (settle s (require b malformed (accepted (starting s))))
    go true k m = start_sound s k (h k m).given
    go false k m = sound_saying (tell 0 malformed) s k (h k m)

-- every step leaves sound tables sound, unless it adds a reservation: then they are sound again after a start
pub step_sound : (x : Step) (s : State) → (step x s).held ≡ s.held → T (sound kinds s) → T (sound kinds (step x s))
step_sound (called (pool u p)) s same t = for_sound kinds _ (pool_sound kinds u p s (sound_for kinds s t))
step_sound (called (hold o h)) s same t = for_sound kinds _ λ k m.
    record {
      given = serve_given kinds (hold o h) s (λ j n. (sound_for kinds s t j n).given) k m;
      owners = rw (does_hold s o h) (sound_for kinds s t k m).owners;
      begin = rw (same, does_hold s o h) (sound_for kinds s t k m).begin;
    }
step_sound (called start) s same t = for_sound kinds _ (start_stays s (sound_for kinds s t))
step_sound (called (want r)) s same t = for_sound kinds _ (want_sound kinds r s (λ k m. every_kind k) (sound_for kinds s t))
step_sound (allocated r out) s same t = into_sound r s out t
step_sound (planned rs out) s same t = plan_sound rs s out t
step_sound (withdrawn q) s same t = withdraw_sound q s t
step_sound (unread w) s same t = for_sound kinds _ (λ k m. sound_saying w s k (sound_for kinds s t k m))

pub steps_sound : (xs : List Step) (s : State) → HeldStay xs s → T (sound kinds s) → T (sound kinds (steps xs s))
unfolding steps
steps_sound [] s same t = t
steps_sound (x ∷ xs) s (h, same) t = steps_sound xs (step x s) same (step_sound x s h t)

-- THE TABLES ARE THE LIVE LINES, every number of them: zeros stand behind their rows
pub tables_are_whole : (s : State) (xs : List Step) → T (given kinds s) → HeldStay xs (serve kinds start s)
    → (k : Kind) → (steps xs (serve kinds start s)).owners k ≡ filled row_limit (blank_row k) (held_of s k ++ rows_of k (all_rows (live xs (serve kinds start s))))
tables_are_whole s xs g same k =
    let begun : T (sound kinds (serve kinds start s)) = rw (start_is kinds s g) (for_sound kinds (starting s) (λ j m. start_sound s j (given_for kinds s g j m))) in
    let end : T (sound kinds (steps xs (serve kinds start s))) = steps_sound xs (serve kinds start s) same begun in
    sym (filled_same row_limit (same_row (blank_row k)) (blank_row k) (λ x t. sym (row_eq (blank_row k) x t)) ((steps xs (serve kinds start s)).owners k) (sound_for kinds _ end k (every_kind k)).owners.tidied)
    ∙ ap (filled row_limit (blank_row k)) (tables_are_live s xs g same k)

-- ---- pools and reservations

-- requests, plans, withdrawals and starts
unfoldable pub asking : Step → Bool
asking (called (pool u p)) = false
asking (called (hold o h)) = false
asking (called start) = true
asking (called (want r)) = true
asking (allocated r out) = true
asking (planned rs out) = true
asking (withdrawn q) = true
asking (unread w) = true

abbrev Stays : State → State → Type 0
Stays s s' = (s'.pools ≡ s.pools) × (s'.held ≡ s.held)

want_stays : (r : Request) (s : State) → Stays s (serve kinds (want r) s)
unfolding serve require
want_stays r s = go (sound kinds s) (resolve (pools_of s) (owners_of s) r)
  where
    go : (b : Bool) (a : Answer (List Claim)) → Stays s (settle s (require b malformed (a then λ cs. accepted (granting cs s))))
    go false a = (refl, refl)
    go true (accepted cs) = (refl, refl)
    go true (refused x) = (refl, refl)

begun_stays : (s : State) → Stays s (serve kinds start s)
unfolding serve require
begun_stays s = go (given kinds s)
  where
    go : (b : Bool) → Stays s (settle s (require b malformed (accepted (starting s))))
    go true = (refl, refl)
    go false = (refl, refl)

plan_stays : (rs : List Request) (s : State) (out : List ℕ) → Stays s (plan rs s out).state
unfolding plan
plan_stays rs s out = go (plan_run rs s out)
  where
    go : (v : Run) → Stays s (ended s v)
    go (done gs) = (refl, refl)
    go (stopped gs x) = (refl, refl)

withdraw_stays : (q : ℕ) (s : State) → Stays s (withdraw q s)
withdraw_stays q s = go (withdraw_says q s)
  where
    go : {s' : State} → Withdraws q s s' → Stays s s'
    go (unsound u) = (refl, refl)
    go (nobody j u) = (refl, refl)
    go (not_found_when j a u) = (refl, refl)
    go (gone j a k r m o) = (refl, refl)

pub step_stays : (x : Step) (s : State) → T (asking x) → Stays s (step x s)
unfolding asking
step_stays (called (pool u p)) s t = absurd t
step_stays (called (hold o h)) s t = absurd t
step_stays (called start) s t = begun_stays s
step_stays (called (want r)) s t = want_stays r s
step_stays (allocated r out) s t = rw (into_plan r s out, step) (plan_stays (r ∷ []) s out)
step_stays (planned rs out) s t = plan_stays rs s out
step_stays (withdrawn q) s t = withdraw_stays q s
step_stays (unread w) s t = (refl, refl)

-- a refused call of any kind
pub refused_stays : (c : Call) (s : State) → ((serve kinds c s).said.number ≡ 0 → ⊥) → Stays s (step (called c) s)
refused_stays c s u = let (x, e) = call_same kinds c s u in rw e (refl, refl)

pub steps_stay : (xs : List Step) (s : State) → T (all_of asking xs) → PoolsStay xs s × HeldStay xs s
unfolding all_of
steps_stay [] s t = (tt, tt)
steps_stay (x ∷ xs) s t =
    let (p, h) = step_stays x s (and_l (asking x) (all_of asking xs) t) in
    let (ps, hs) = steps_stay xs (step x s) (and_r (asking x) (all_of asking xs) t) in
    ((p, ps), (h, hs))
