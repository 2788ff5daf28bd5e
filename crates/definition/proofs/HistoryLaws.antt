-- Laws of histories: what each step does, and that the owner tables ARE the reservations and the live lines' rows; the count rule. Assumes nothing.
use Rattle.std.specs.Prelude.{◌≡◌, ◌⊎◌, Bool, ◌&&◌, ℕ, ◌+◌, ◌-◌, drop, T, leb}
use Rattle.std.proofs.Math.Path.{refl, ap}
use Rattle.std.proofs.Common.{sym, ◌∙◌, inl, inr, eqb→eq}
use Rattle.std.proofs.Math.Bool.{true, false, not}
use mathlib.Core.List.Memᴰ
use mathlib.Core.List.{List, [], ◌∷◌, ◌++◌, append-nil, append_assoc, Memᴰ}
use native.Mathlib.Omega.{arith}
use Rattle.std.proofs.Math.ListN.{length, length-append}
use Rattle.std.proofs.Math.Dec.{eqb}
use Rattle.definition.specs.Base.{only_of, malformed, short, tell, Answer, accepted, refused, require, ◌then◌}
use Rattle.definition.proofs.BaseLaws.{→not_T, not_T→, either, eq→eqb}
use Rattle.definition.proofs.OnlyLaws.{only_in, only_out, only_append, only_only, only_mem, only_all, only_none}
use Rattle.definition.specs.Tables.{row_limit, record_size, Kind, kinds, Row, same_row, blank_row, good_row}
use Rattle.definition.specs.Pools.{spans, Pool, admit, Holders, Claim, rows_of, ◌⊕◌, Hold, held_rows, reserve}
use Rattle.definition.specs.Request.{Use, Request, resolve}
use Rattle.definition.specs.Calls.{State, pools_of, held_of, owners_of, given, sound, saying, holding, granting, starting, entering, pool, hold, start, want, settle, serve}
use Rattle.definition.specs.Plan.{Grant, grant, Run, done, stopped, run, written, record_of_grant, Lent, lent, allocate_into, all_rows, plan_run, ended, plan}
use Rattle.definition.specs.Withdraw.{granted_in, owned_by, withdrawing, withdraw}
use Rattle.definition.specs.History.{Step, called, allocated, planned, withdrawn, unread, step, steps, HeldStay, grant_of, all_or_none, granted, accepted_in, was_accepted, takes, outlives, live, lost, asked_of}
use Rattle.definition.proofs.RowLaws.{every_kind}
use Rattle.definition.proofs.ClaimLaws.{rows_in, rows_append}
use Rattle.definition.proofs.TableLaws.{drop_front, table_length}
use Rattle.definition.proofs.StateLaws.{Sound, given_for, sound_for, admitted_given}
use Rattle.definition.proofs.RunLaws.{run_accepted}
use Rattle.definition.proofs.PlanLaws.{plan_says, run_done, start_is}
use Rattle.definition.proofs.WithdrawLaws.{Withdraws, unsound, nobody, not_found_when, gone, withdraw_says, held_length, withdrawing_rows}
use Rattle.definition.proofs.GrantLaws.{bear_owner, Granted, run_granted, rows_asked}

-- ---- what a step does

-- to the owner tables, with what it grants and what it takes away: nothing, or it grants, or it starts, or it withdraws
pub data Does (s s' : State) : List Grant → (Grant → Bool) → Type 0 where
  rests : {p : Grant → Bool} → s'.owners ≡ s.owners → ((g : Grant) → p g ≡ false) → Does s s' [] p
  grants : {p : Grant → Bool} (rs : List Request) (hs : List Grant) → T (sound kinds s) → run (pools_of s) (owners_of s) rs ≡ done hs → s' ≡ granting (all_rows hs) s → ((g : Grant) → p g ≡ false) → Does s s' hs p
  starts : {p : Grant → Bool} → s'.owners ≡ s.held → ((g : Grant) → p g ≡ true) → Does s s' [] p
  withdraws : {p : Grant → Bool} (q : ℕ) → T (sound kinds s) → s' ≡ withdrawing q s → ((g : Grant) → p g ≡ eqb g.request.requester q) → Does s s' [] p

module _ (s : State) where
  -- one request that is granted is a run of one
  one_granted : (p : Grant → Bool) → ((g : Grant) → p g ≡ false) → (r : Request) (cs : List Claim) → T (sound kinds s) → resolve (pools_of s) (owners_of s) r ≡ accepted cs → Does s (granting cs s) (grant r cs ∷ []) p
  unfolding run
  one_granted p none r cs t e =
      grants (r ∷ []) (grant r cs ∷ []) t (run_accepted (pools_of s) (owners_of s) r [] cs e) (ap (λ ds. granting ds s) (sym (append-nil cs))) none

  does_want : (r : Request) → Does s (serve kinds (want r) s) (granted (called (want r)) s) (takes (called (want r)) s)
  unfolding serve granted takes require
  does_want r = go (sound kinds s) refl (resolve (pools_of s) (owners_of s) r) refl
    where
      go : (b : Bool) → sound kinds s ≡ b → (a : Answer (List Claim)) → resolve (pools_of s) (owners_of s) r ≡ a
          → Does s (settle s (require b malformed (a then λ cs. accepted (granting cs s)))) (grant_of r (require b malformed a)) (λ g. false)
      go false j a e = rests refl (λ g. refl)
      go true j (refused x) e = rests refl (λ g. refl)
      go true j (accepted cs) e = one_granted (λ g. false) (λ g. refl) r cs (rw j tt) e

  does_allocate : (r : Request) (out : List ℕ) → Does s (allocate_into kinds r s out).state (granted (allocated r out) s) (takes (allocated r out) s)
  unfolding allocate_into granted takes require
  does_allocate r out = go (sound kinds s) refl (leb record_size (length out)) (resolve (pools_of s) (owners_of s) r) refl
    where
      into : Answer (List Claim) → Lent
      into a = elim a [ accepted cs ↦ lent (granting cs s) (written (record_of_grant (grant r cs)) out) | refused x ↦ lent (saying (tell 0 x) s) out ]

      go : (b : Bool) → sound kinds s ≡ b → (c : Bool) (a : Answer (List Claim)) → resolve (pools_of s) (owners_of s) r ≡ a
          → Does s (into (require b malformed (require c short a))).state (grant_of r (require b malformed (require c short a))) (λ g. false)
      go false j c a e = rests refl (λ g. refl)
      go true j false a e = rests refl (λ g. refl)
      go true j true (refused x) e = rests refl (λ g. refl)
      go true j true (accepted cs) e = one_granted (λ g. false) (λ g. refl) r cs (rw j tt) e

  does_plan : (rs : List Request) (out : List ℕ) → Does s (plan rs s out).state (granted (planned rs out) s) (takes (planned rs out) s)
  unfolding plan granted takes
  does_plan rs out = go (plan_run rs s out) refl
    where
      go : (v : Run) → plan_run rs s out ≡ v → Does s (ended s v) (all_or_none v) (λ g. false)
      go (done gs) e = let d = plan_says rs s out gs e in grants rs gs d.judged d.ran refl (λ g. refl)
      go (stopped gs x) e = rests refl (λ g. refl)

  does_pool : (u : Use) (p : Pool) → (serve kinds (pool u p) s).owners ≡ s.owners
  unfolding serve require
  does_pool u p = go (given kinds s)
    where
      go : (b : Bool) → (settle s (require b malformed (admit (pools_of s u) (spans p) then λ cs. accepted (entering u cs s)))).owners ≡ s.owners
      go true = (admitted_given [] u p s (λ k m. absurd (Memᴰ.not-nil m))).owners
      go false = refl

  pub does_hold : (o : ℕ) (h : Hold) → (serve kinds (hold o h) s).owners ≡ s.owners
  unfolding serve require
  does_hold o h = go (given kinds s) (reserve (held_of s) (held_rows o h))
    where
      go : (b : Bool) (a : Answer (List Claim)) → (settle s (require b malformed (a then λ cs. accepted (holding cs s)))).owners ≡ s.owners
      go false a = refl
      go true (accepted cs) = refl
      go true (refused x) = refl

  does_start : Does s (serve kinds start s) (granted (called start) s) (takes (called start) s)
  unfolding serve granted takes require was_accepted
  does_start = go (given kinds s)
    where
      go : (b : Bool) → Does s (settle s (require b malformed (accepted (starting s)))) [] (λ g. was_accepted (settle s (require b malformed (accepted (starting s)))))
      go true = starts refl (λ g. refl)
      go false = rests refl (λ g. refl)

  does_withdraw : (q : ℕ) → Does s (withdraw q s) (granted (withdrawn q) s) (takes (withdrawn q) s)
  unfolding granted takes was_accepted
  does_withdraw q = go (withdraw_says q s)
    where
      go : {s' : State} → Withdraws q s s' → Does s s' [] (λ g. was_accepted s' && eqb g.request.requester q)
      go (unsound u) = rests refl (λ g. refl)
      go (nobody j u) = rests refl (λ g. refl)
      go (not_found_when j a u) = rests refl (λ g. refl)
      go (gone j a k r m o) = withdraws q j refl (λ g. refl)

  pub step_does : (x : Step) → Does s (step x s) (granted x s) (takes x s)
  unfolding granted takes
  step_does (called (pool u p)) = rests (does_pool u p) (λ g. refl)
  step_does (called (hold o h)) = rests (does_hold o h) (λ g. refl)
  step_does (called start) = does_start
  step_does (called (want r)) = does_want r
  step_does (allocated r out) = does_allocate r out
  step_does (planned rs out) = does_plan rs out
  step_does (withdrawn q) = does_withdraw q
  step_does (unread w) = rests refl (λ g. refl)

owners_length : (s : State) (k : Kind) → Sound s k → length (owners_of s k) ≡ (s.owners k).count
owners_length s k h = table_length row_limit (same_row (blank_row k)) (good_row k) _ (s.owners k) h.owners

-- ---- the rows of grants

all_rows_append : (gs hs : List Grant) → all_rows (gs ++ hs) ≡ all_rows gs ++ all_rows hs
all_rows_append [] hs = refl
all_rows_append (g ∷ gs) hs = ap (λ cs. g.rows ++ cs) (all_rows_append gs hs) ∙ sym (append_assoc g.rows (all_rows gs) (all_rows hs))

pub rows_both : (k : Kind) (gs hs : List Grant) → rows_of k (all_rows (gs ++ hs)) ≡ rows_of k (all_rows gs) ++ rows_of k (all_rows hs)
rows_both k gs hs = ap (rows_of k) (all_rows_append gs hs) ∙ rows_append k (all_rows gs) (all_rows hs)

abbrev pub AllGranted : List Grant → Type 0
AllGranted gs = (g : Grant) → Memᴰ g gs → Granted g

-- the rows without a requester's are the rows of the grants without its grants: all rows of a grant go together
module _ (k : Kind) (q : ℕ) where
  abbrev others : Row → Bool
  others r = not (owned_by q r)

  abbrev stays : Grant → Bool
  stays g = not (eqb g.request.requester q)

  row_owner : (g : Grant) → Granted g → (r : Row) → Memᴰ r (rows_of k g.rows) → r.owner ≡ g.request.requester
  row_owner g b r m = let (c, n, e, f) = rows_in k g.rows r m in ap (λ (x : Row). x.owner) f ∙ bear_owner b c n

  pub rows_others : (gs : List Grant) → AllGranted gs → only_of others (rows_of k (all_rows gs)) ≡ rows_of k (all_rows (only_of stays gs))
  unfolding only_of rows_of owned_by
  rows_others [] a = refl
  rows_others (g ∷ gs) a = ap (only_of others) (rows_append k g.rows (all_rows gs)) ∙ only_append others (rows_of k g.rows) (rows_of k (all_rows gs)) ∙ go (rows_others gs (λ h m. a h (Memᴰ.tail m))) (either (eqb g.request.requester q))
    where
      here : Granted g
      here = a g (Memᴰ.head refl)

      go : only_of others (rows_of k (all_rows gs)) ≡ rows_of k (all_rows (only_of stays gs)) → T (eqb g.request.requester q) ⊎ (T (eqb g.request.requester q) → ⊥)
          → only_of others (rows_of k g.rows) ++ only_of others (rows_of k (all_rows gs)) ≡ rows_of k (all_rows (only_of stays (g ∷ gs)))
      go below (inl t) =
          let none : only_of others (rows_of k g.rows) ≡ [] = only_none others (rows_of k g.rows) (λ r m u. not_T→ (owned_by q r) u (eq→eqb r.owner q (row_owner g here r m ∙ eqb→eq g.request.requester q t))) in
          ap (λ rs. rs ++ only_of others (rows_of k (all_rows gs))) none ∙ below ∙ sym (ap (λ hs. rows_of k (all_rows hs)) (only_out stays g gs (λ u. not_T→ (eqb g.request.requester q) u t)))
      go below (inr u) =
          let all : only_of others (rows_of k g.rows) ≡ rows_of k g.rows = only_all others (rows_of k g.rows) (λ r m. →not_T (owned_by q r) (λ o. u (eq→eqb g.request.requester q (sym (row_owner g here r m) ∙ eqb→eq r.owner q o)))) in
          (λ i. all i ++ below i) ∙ sym (rows_append k g.rows (all_rows (only_of stays gs))) ∙ sym (ap (λ hs. rows_of k (all_rows hs)) (only_in stays g gs (→not_T (eqb g.request.requester q) u)))

-- ---- the owner tables are reservations and rows of grants, step by step

pub record Stands (H : Holders) (gs : List Grant) (s : State) : Type 0 where
  pub held : (k : Kind) → held_of s k ≡ H k
  pub owners : (k : Kind) → owners_of s k ≡ H k ++ rows_of k (all_rows gs)
  pub are : AllGranted gs
  pub counted : (k : Kind) → ((s.held k).count ≡ length (held_of s k)) × ((s.owners k).count ≡ length (owners_of s k))

-- what is left of the grants, and what is granted anew
abbrev pub next : List Grant → List Grant → (Grant → Bool) → List Grant
next gs hs p = only_of (λ g. not (p g)) gs ++ hs

module _ {H : Holders} {gs : List Grant} {s : State} (stood : Stands H gs s) where
  pub next_none : (p : Grant → Bool) → ((g : Grant) → p g ≡ false) → only_of (λ g. not (p g)) gs ≡ gs
  next_none p none = only_all (λ g. not (p g)) gs (λ g m. rw (none g) tt)

  stand_none : (p : Grant → Bool) → ((g : Grant) → p g ≡ false) → next gs [] p ≡ gs
  stand_none p none = append-nil (only_of (λ g. not (p g)) gs) ∙ next_none p none

  are_next : (hs : List Grant) (p : Grant → Bool) → AllGranted hs → AllGranted (next gs hs p)
  are_next hs p a g m = go (Memᴰ.append_cases (only_of (λ g. not (p g)) gs) m)
    where
      go : Memᴰ g (only_of (λ g. not (p g)) gs) ⊎ Memᴰ g hs → Granted g
      go (inl n) = stood.are g (only_mem (λ g. not (p g)) g gs n).0
      go (inr n) = a g n

  pub step_stands : {s' : State} {hs : List Grant} {p : Grant → Bool} → s'.held ≡ s.held → Does s s' hs p → Stands H (next gs hs p) s'
  unfolding ◌⊕◌ rows_of
  step_stands {s'} same (rests {p} e none) = record {
    held = λ k. rw same (stood.held k);
    owners = λ k. rw (e, stand_none p none) (stood.owners k);
    are = are_next [] p (λ g m. absurd (Memᴰ.not-nil m));
    counted = λ k. rw (same, e) (stood.counted k);
  }
  step_stands {s'} same (grants {p} rs hs t ran e none) = record {
    held = λ k. rw same (stood.held k);
    owners = λ k.
        let grown : owners_of (granting (all_rows hs) s) k ≡ (owners_of s ⊕ all_rows hs) k = (run_done rs s hs (sound_for kinds s t) ran k).1 in
        ap (λ (x : State). owners_of x k) e ∙ grown ∙ added k;
    are = are_next hs p (run_granted (pools_of s) rs (owners_of s) hs ran);
    counted = λ k. (rw same (stood.counted k).0, rw e (sym (owners_length (granting (all_rows hs) s) k (run_done rs s hs (sound_for kinds s t) ran k).0)));
  }
    where
      added : (k : Kind) → (owners_of s ⊕ all_rows hs) k ≡ H k ++ rows_of k (all_rows (next gs hs p))
      added k =
          ap (λ rs. rs ++ rows_of k (all_rows hs)) (stood.owners k) ∙ append_assoc (H k) (rows_of k (all_rows gs)) (rows_of k (all_rows hs))
          ∙ ap (λ rs. H k ++ rs) (sym (rows_both k gs hs)) ∙ ap (λ xs. H k ++ rows_of k (all_rows (xs ++ hs))) (sym (next_none p none))
  step_stands {s'} same (starts {p} e all) = record {
    held = λ k. rw same (stood.held k);
    owners = λ k. cleared k;
    are = are_next [] p (λ g m. absurd (Memᴰ.not-nil m));
    counted = λ k. rw (same, e) ((stood.counted k).0, (stood.counted k).0);
  }
    where
      gone_all : next gs [] p ≡ []
      gone_all = append-nil (only_of (λ g. not (p g)) gs) ∙ only_none (λ g. not (p g)) gs (λ g m u. rw (all g) at u)

      cleared : (k : Kind) → owners_of s' k ≡ H k ++ rows_of k (all_rows (next gs [] p))
      cleared k = rw (e, gone_all) (stood.held k ∙ sym (append-nil (H k)))
  step_stands {s'} same (withdraws {p} q t e those) = record {
    held = λ k. rw same (stood.held k);
    owners = λ k. left k;
    are = are_next [] p (λ g m. absurd (Memᴰ.not-nil m));
    counted = λ k. (rw same (stood.counted k).0, rw e (sym (ap length (withdrawing_rows q s k))));
  }
    where
      behind : (k : Kind) → granted_in s k ≡ rows_of k (all_rows gs)
      behind k =
          let n : (s.held k).count ≡ length (H k) = sym (held_length s k (sound_for kinds s t k (every_kind k))) ∙ ap length (stood.held k) in
          (λ i. drop (n i) (stood.owners k i)) ∙ drop_front (H k) (rows_of k (all_rows gs))

      kept : only_of (λ g. not (eqb g.request.requester q)) gs ≡ next gs [] p
      kept = (λ i. only_of (λ g. not (sym (those g) i)) gs) ∙ sym (append-nil (only_of (λ g. not (p g)) gs))

      left : (k : Kind) → owners_of s' k ≡ H k ++ rows_of k (all_rows (next gs [] p))
      left k =
          ap (λ (x : State). owners_of x k) e ∙ withdrawing_rows q s k
          ∙ (λ i. stood.held k i ++ only_of (λ r. not (owned_by q r)) (behind k i)) ∙ ap (λ rs. H k ++ rs) (rows_others k q gs stood.are) ∙ ap (λ xs. H k ++ rows_of k (all_rows xs)) kept

held_counted : (s : State) → T (given kinds s) → (k : Kind) → (s.held k).count ≡ length (held_of s k)
held_counted s g k = sym (table_length row_limit (same_row (blank_row k)) (good_row k) _ (s.held k) (given_for kinds s g k (every_kind k)).held)

-- freshly started
pub started : (s : State) → T (given kinds s) → Stands (held_of s) [] (serve kinds start s)
unfolding rows_of
started s g = rw (start_is kinds s g) record { held = λ k. refl; owners = λ k. sym (append-nil (held_of s k)); are = λ g m. absurd (Memᴰ.not-nil m); counted = λ k. (held_counted s g k, held_counted s g k) }

-- ---- all steps

-- those live before, and live at the end; and those that the steps add
abbrev pub live_from : List Grant → List Step → State → List Grant
live_from gs xs s = only_of (outlives xs s) gs ++ live xs s

pub live_step : (gs : List Grant) (x : Step) (xs : List Step) (s : State) → live_from (next gs (granted x s) (takes x s)) xs (step x s) ≡ live_from gs (x ∷ xs) s
unfolding outlives live
live_step gs x xs s =
    ap (λ zs. zs ++ live xs (step x s)) (only_append (outlives xs (step x s)) (only_of (λ g. not (takes x s g)) gs) (granted x s))
    ∙ append_assoc (only_of (outlives xs (step x s)) (only_of (λ g. not (takes x s g)) gs)) (only_of (outlives xs (step x s)) (granted x s)) (live xs (step x s))
    ∙ ap (λ zs. zs ++ live (x ∷ xs) s) (only_only (λ g. not (takes x s g)) (outlives xs (step x s)) gs)

pub steps_stand : {H : Holders} (gs : List Grant) (xs : List Step) (s : State) → HeldStay xs s → Stands H gs s → Stands H (live_from gs xs s) (steps xs s)
unfolding steps live outlives
steps_stand {H} gs [] s same stood = rw live_nil stood
  where
    live_nil : live_from gs [] s ≡ gs
    live_nil = append-nil (only_of (outlives [] s) gs) ∙ only_all (outlives [] s) gs (λ g m. tt)
steps_stand {H} gs (x ∷ xs) s (same, more) stood =
    rw (live_step gs x xs s) at (steps_stand (next gs (granted x s) (takes x s)) xs (step x s) more (step_stands stood same (step_does s x)))

-- ---- since one start

-- THE TABLES ARE THE LIVE LINES: after an accepted start and any steps that leave the reservations as they were, the used rows of each owner table are
-- the reservations, and behind them the rows of the live lines, in their order
pub tables_are_live : (s : State) (xs : List Step) → T (given kinds s) → HeldStay xs (serve kinds start s)
    → (k : Kind) → owners_of (steps xs (serve kinds start s)) k ≡ held_of s k ++ rows_of k (all_rows (live xs (serve kinds start s)))
unfolding only_of
tables_are_live s xs g same = (steps_stand [] xs (serve kinds start s) same (started s g)).owners

-- .. and each live line has the rows that its request needs, owned by its requester
pub live_granted : (s : State) (xs : List Step) → T (given kinds s) → HeldStay xs (serve kinds start s) → AllGranted (live xs (serve kinds start s))
unfolding only_of
live_granted s xs g same = (steps_stand [] xs (serve kinds start s) same (started s g)).are

-- ---- the count rule

module _ (k : Kind) where
  asked_append : (gs hs : List Grant) → asked_of k (gs ++ hs) ≡ asked_of k gs + asked_of k hs
  unfolding asked_of
  asked_append [] hs = omega arith
  asked_append (g ∷ gs) hs = let below = asked_append gs hs in omega arith

  asked_parts : (p : Grant → Bool) (gs : List Grant) → asked_of k gs ≡ asked_of k (only_of p gs) + asked_of k (only_of (λ g. not (p g)) gs)
  unfolding asked_of only_of
  asked_parts p [] = refl
  asked_parts p (g ∷ gs) = go (asked_parts p gs) (p g)
    where
      go : asked_of k gs ≡ asked_of k (only_of p gs) + asked_of k (only_of (λ g. not (p g)) gs) → (b : Bool)
          → asked_of k (g ∷ gs) ≡ asked_of k (elim b [ true ↦ g ∷ only_of p gs | false ↦ only_of p gs ]) + asked_of k (elim (not b) [ true ↦ g ∷ only_of (λ g. not (p g)) gs | false ↦ only_of (λ g. not (p g)) gs ])
      go below true = omega arith
      go below false = omega arith

  -- accepted is live or lost
  accepted_parts : (xs : List Step) (s : State) → asked_of k (accepted_in xs s) ≡ asked_of k (live xs s) + asked_of k (lost xs s)
  unfolding accepted_in live lost asked_of
  accepted_parts [] s = refl
  accepted_parts (x ∷ xs) s =
      let below = accepted_parts xs (step x s) in
      let here = asked_parts (outlives xs (step x s)) (granted x s) in
      omega (
        arith,
        asked_append (granted x s) (accepted_in xs (step x s)),
        asked_append (only_of (outlives xs (step x s)) (granted x s)) (live xs (step x s)),
        asked_append (only_of (λ g. not (outlives xs (step x s) g)) (granted x s)) (lost xs (step x s)),
      )

  -- THE COUNT RULE: since an accepted start, with the reservations unchanged, a table's count is its reservations plus the requests of its kind accepted
  -- outside refused plans less those of them that were withdrawn (or forgotten by a later start)
  pub count_rule : (xs : List Step) (s : State) → T (given kinds s) → HeldStay xs (serve kinds start s)
      → ((steps xs (serve kinds start s)).owners k).count ≡ (s.held k).count + asked_of k (accepted_in xs (serve kinds start s)) - asked_of k (lost xs (serve kinds start s))
  unfolding only_of
  count_rule xs s g same =
      let stood : Stands (held_of s) (live xs (serve kinds start s)) (steps xs (serve kinds start s)) = steps_stand [] xs (serve kinds start s) same (started s g) in
      let n : length (rows_of k (all_rows (live xs (serve kinds start s)))) ≡ asked_of k (live xs (serve kinds start s)) = rows_asked k (live xs (serve kinds start s)) stood.are in
      let h : (s.held k).count ≡ length (held_of s k) = held_counted s g k in
      omega (arith, (stood.counted k).1, ap length (stood.owners k), length-append (held_of s k) (rows_of k (all_rows (live xs (serve kinds start s)))), accepted_parts xs (serve kinds start s))
