-- An accepted text is its pools and holds, served in order, and then its wants, which run as a plan does; and such a run is an accepted text. Assumes nothing.
--     takes_accepted    of calls that are accepted, one after the other: their order, the run of their wants, and where they end
--     takes_runs        pools and holds that are accepted, and wants that run on the tables which they leave, are accepted and end there
use mathlib.Core.Path.{◌≡◌, refl, sym, ◌∙◌, ap, subst}
use mathlib.Core.Bool.{Bool, true, false}
use mathlib.Core.List.{List, [], ◌∷◌, ◌++◌, map, append-nil, append_assoc}
use mathlib.Core.Option.{some}
use Prim.Native.Nat.{ℕ, suc, ◌+◌, ◌≤◌, ◌<◌}
use native.Mathlib.Omega.{arith}
use native.Mathlib.Nat.{add-zero}
use lib.Dec.{T, eqb, ltb, eqb-suc-zero}
use lib.ListN.{length, replicate, length-append, length-map}
use borrow.Author.Tests.{eqb-true, lt-ltb, ltb-true}
use Rattle.definition.specs.Base.{Refusal, bad_line, silence, tell, Answer, accepted, refused}
use Rattle.definition.proofs.BaseLaws.{T_true}
use Rattle.definition.specs.Tables.{plan_limit, record_size, Kind, kinds}
use Rattle.definition.specs.Pools.{Holders, ◌⊕◌, Claim, Pool, Hold}
use Rattle.definition.specs.Request.{Request, Use, Pools, resolve}
use Rattle.definition.specs.Calls.{State, fresh, pools_of, held_of, owners_of, given, sound, granting, starting, Call, pool, hold, start, want, serve}
use Rattle.definition.specs.Plan.{Grant, grant, Run, done, after, run, grants_of, all_rows, record_of_grant, records, Lent, allocate_into}
use Rattle.definition.proofs.RowLaws.{every_kind}
use Rattle.definition.proofs.ClaimLaws.{fits_one}
use Rattle.definition.proofs.ResolveLaws.{Resolved, resolved, rows_kept}
use Rattle.definition.proofs.StateLaws.{Sound, GivenFor, SoundFor, for_given, for_sound, sound_for, fresh_sound, serve_given, start_sound, sound_ground, sound_fits, granting_sound}
use Rattle.definition.proofs.RunLaws.{run_accepted, run_refused, not_done, after_done}
use Rattle.definition.proofs.PlanLaws.{tell_number, granting_append, start_is}
use Rattle.definition.proofs.RefusedLaws.{Leaves, went, left, call_leaves}
use Rattle.definition.proofs.ServeLaws.{Served, granted, turned_down, serve_says}
use Rattle.lines.specs.Text.{Sofar, sofar, beginning, accepts, next, refuse, set_up, opened, answered, ask, take_line}
use Rattle.lines.specs.Back.{heads, wants, served}
use Rattle.lines.proofs.WantLaws.{want_serves, want_record}
use Rattle.lines.proofs.TakesLaws.{takes, takes_on, takes_append, takes_goes, off}

-- no refusal is accepted
never_told : {A : Type 0} (i : ℕ) (x : Refusal) → accepts (tell i x) ≡ true → A
never_told i x a = absurd (tell_number i x (eqb-true (tell i x).number 0 a))

by_test : {A : Type 0} (P : A → Type 0) (x y : A) (b : Bool) → (b ≡ true → P x) → (b ≡ false → P y) → P (elim b [ true ↦ x | false ↦ y ])
by_test P x y true f g = f refl
by_test P x y false f g = g refl

-- ---- one call more

module _ (t : Sofar) (c : Call) (cs : List Call) (a : accepts (takes t (c ∷ cs)).said ≡ true) where
  on : takes t (c ∷ cs) ≡ takes (take_line t (some c)) cs
  on = takes_on t c cs (takes_goes t (c ∷ cs) a)

  later : accepts (takes (take_line t (some c)) cs).said ≡ true
  later = ap (λ (u : Sofar). accepts u.said) (sym on) ∙ a

  here : accepts (take_line t (some c)).said ≡ true
  here = takes_goes (take_line t (some c)) cs later

-- ---- a want

-- the want was among the first that a plan has, was counted, and was granted
record Asked (t : Sofar) (r : Request) (u : Sofar) : Type 0 where
  few : t.wants < plan_limit
  counted : u.wants ≡ suc t.wants
  served_it : accepts (serve kinds (want r) (opened t)).said ≡ true

asked : (t : Sofar) (r : Request) → accepts (ask t r).said ≡ true → Asked t r (ask t r)
unfolding ask answered
asked t r =
    let v : Lent = allocate_into kinds r (opened t) (replicate record_size 0) in
    let P : Sofar → Type 0 = λ u. accepts u.said ≡ true → Asked t r u in
    by_test P _ _ (ltb t.wants plan_limit)
    (λ e. by_test P _ _ (accepts v.state.said)
    (λ q a. record { few = ltb-true t.wants plan_limit e; counted = refl; served_it = ap (λ (s : State). accepts s.said) (sym (want_serves r (opened t))) ∙ q })
    (λ q a. off (sym q ∙ a)))
    (λ e a. off a)

-- on sound tables, opened as u
module _ (t : Sofar) (u : State) (opens : opened t ≡ u) (sounds : SoundFor kinds u) (r : Request) where
  resolves : accepts (ask t r).said ≡ true → (cs : List Claim) × (resolve (pools_of u) (owners_of u) r ≡ accepted cs)
  resolves a = go (serve_says kinds u (for_sound kinds u sounds) r) (ap (λ (s : State). accepts (serve kinds (want r) s).said) (sym opens) ∙ (asked t r a).served_it)
    where
      go : {x : Answer (List Claim)} {s : State} → Served u x s → accepts s.said ≡ true → (cs : List Claim) × (x ≡ accepted cs)
      go (granted cs) q = (cs, refl)
      go (turned_down x) q = never_told 0 x q

  module _ (cs : List Claim) (is : resolve (pools_of u) (owners_of u) r ≡ accepted cs) where
    abbrev after_want : Sofar
    after_want = sofar (suc t.lines) (granting cs u) (suc t.wants) (t.records ++ record_of_grant (grant r cs)) silence

    ask_is : t.wants < plan_limit → ask t r ≡ after_want
    unfolding ask answered
    ask_is l =
        rw (lt-ltb t.wants plan_limit l, ask)
        (ap (answered t) (ap (λ (s : State). allocate_into kinds r s (replicate record_size 0)) opens ∙ want_record r u cs (T_true (sound kinds u) (for_sound kinds u sounds)) is))

    -- the tables stay open ..
    stays_open : opened after_want ≡ granting cs u
    unfolding opened
    stays_open = ap (λ (b : Bool). elim b [ true ↦ serve kinds start (granting cs u) | false ↦ granting cs u ]) (eqb-suc-zero t.wants)

    -- .. and sound, each with its new row at the end
    grown : (k : Kind) → Sound (granting cs u) k × (owners_of (granting cs u) k ≡ (owners_of u ⊕ cs) k)
    grown k =
        let h : Sound u k = sounds k (every_kind k) in
        let x : Resolved (pools_of u) (owners_of u) r cs = resolved (pools_of u) (owners_of u) r cs (λ j n. sound_ground u j (sounds j (every_kind j))) is in
        granting_sound u cs k h (fits_one (owners_of u) k cs (sound_fits u k h) x.apart x.has_room) (rows_kept (pools_of u) (owners_of u) r cs k x (sound_ground u k h).1)

    runs_on : (rs : List Request) → run (pools_of u) (owners_of (granting cs u)) rs ≡ run (pools_of u) (owners_of u ⊕ cs) rs
    runs_on rs = λ i. run (pools_of u) (λ k. (grown k).1 i) rs

-- ---- wants alone

-- what is left on tables s that are opened as u
abbrev pub leaving : State → State → List Grant → State
leaving s u [] = s
leaving s u (g ∷ gs) = granting (all_rows (g ∷ gs)) u

leaving_more : (cs : List Claim) (u : State) (gs : List Grant) → leaving (granting cs u) (granting cs u) gs ≡ granting (cs ++ all_rows gs) u
leaving_more cs u [] = ap (λ (ds : List Claim). granting ds u) (sym (append-nil cs))
leaving_more cs u (g ∷ gs) = sym (granting_append cs (all_rows (g ∷ gs)) u)

-- wants that are accepted run
accepted_run : (rs : List Request) (t : Sofar) (u : State) → opened t ≡ u → SoundFor kinds u → t.wants ≤ plan_limit → accepts (takes t (map want rs)).said ≡ true
    → (gs : List Grant) × (run (pools_of u) (owners_of u) rs ≡ done gs) × (t.wants + length rs ≤ plan_limit)
unfolding run
accepted_run [] t u o h l a = ([], refl, omega arith)
accepted_run (r ∷ rs) t u o h l a =
    let q : accepts (ask t r).said ≡ true = here t (want r) (map want rs) a in
    let k : Asked t r (ask t r) = asked t r q in
    let (cs, is) = resolves t u o h r q in
    let is' : ask t r ≡ after_want t u o h r cs is = ask_is t u o h r cs is k.few in
    let a' : accepts (takes (after_want t u o h r cs is) (map want rs)).said ≡ true = subst (λ (v : Sofar). accepts (takes v (map want rs)).said ≡ true) is' (later t (want r) (map want rs) a) in
    let (gs, e, few) = accepted_run rs (after_want t u o h r cs is) (granting cs u) (stays_open t u o h r cs is) (λ j n. (grown t u o h r cs is j).0) k.few a' in (
      grant r cs ∷ gs,
      run_accepted (pools_of u) (owners_of u) r rs cs is ∙ ap (after (grant r cs)) (sym (runs_on t u o h r cs is rs) ∙ e),
      omega arith,
    )

-- the first of a finished run
run_first : (P : Pools) (S : Holders) (r : Request) (rs : List Request) (gs : List Grant) → run P S (r ∷ rs) ≡ done gs
    → (cs : List Claim) × (hs : List Grant) × (resolve P S r ≡ accepted cs) × (run P (S ⊕ cs) rs ≡ done hs) × (gs ≡ grant r cs ∷ hs)
run_first P S r rs gs e = go (resolve P S r) refl
  where
    go : (x : Answer (List Claim)) → resolve P S r ≡ x → (cs : List Claim) × (hs : List Grant) × (resolve P S r ≡ accepted cs) × (run P (S ⊕ cs) rs ≡ done hs) × (gs ≡ grant r cs ∷ hs)
    go (refused x) q = absurd (not_done (sym (run_refused P S r rs x q) ∙ e))
    go (accepted cs) q = let (hs, e₁, z) = after_done (grant r cs) (run P (S ⊕ cs) rs) gs (sym (run_accepted P S r rs cs q) ∙ e) in (cs, hs, q, e₁, z)

-- wants that run are accepted
run_accepts : (rs : List Request) (t : Sofar) (u : State) (gs : List Grant) → opened t ≡ u → SoundFor kinds u → t.said ≡ silence → t.wants + length rs ≤ plan_limit → run (pools_of u) (owners_of u) rs ≡ done gs
    → takes t (map want rs) ≡ sofar (t.lines + length rs) (leaving t.state u gs) (t.wants + length gs) (t.records ++ records gs) silence
unfolding takes run records
run_accepts [] t u gs o h q l e =
    let z : [] ≡ gs = cc in
    rw (← z) (λ i. sofar (sym (add-zero t.lines) i) t.state (sym (add-zero t.wants) i) (sym (append-nil t.records) i) (q i))
run_accepts (r ∷ rs) t u gs o h q l e =
    let (cs, hs, is, e₁, z) = run_first (pools_of u) (owners_of u) r rs gs e in
    let t' : Sofar = after_want t u o h r cs is in
    let many : (n m : ℕ) → suc n + m ≡ n + suc m = λ n m. omega arith in
    takes_on t (want r) (map want rs) (ap accepts q)
    ∙ ap (λ (v : Sofar). takes v (map want rs)) (ask_is t u o h r cs is (omega arith))
    ∙ run_accepts rs t' (granting cs u) hs (stays_open t u o h r cs is) (λ j n. (grown t u o h r cs is j).0) refl (omega arith) (runs_on t u o h r cs is rs ∙ e₁)
    ∙ (λ i. sofar (many t.lines (length rs) i) (leaving_more cs u hs i) (many t.wants (length hs) i) (append_assoc t.records (record_of_grant (grant r cs)) (records hs) i) silence)
    ∙ ap (λ (gs : List Grant). sofar (t.lines + suc (length rs)) (leaving t.state u gs) (t.wants + length gs) (t.records ++ records gs) silence) (sym z)

-- ---- pools and holds

-- a call whose number is 0 is accepted, and all its numbers are
silent : (c : Call) (s : State) → accepts (serve kinds c s).said ≡ true → (serve kinds c s).said ≡ silence
silent c s = go (call_leaves kinds c s)
  where
    go : {s' : State} → Leaves s s' → accepts s'.said ≡ true → s'.said ≡ silence
    go (went z) a = z
    go (left x) a = never_told 0 x a

-- before the first want
abbrev at_head : ℕ → State → Sofar
at_head l s = sofar l s 0 [] s.said

-- what pools and holds have in common
record Head (c : Call) : Type 0 where
  headed : (cs : List Call) → heads (c ∷ cs) ≡ c ∷ heads cs
  unwanted : (cs : List Call) → wants (c ∷ cs) ≡ wants cs
  taken : (l : ℕ) (s : State) → take_line (at_head l s) (some c) ≡ at_head (suc l) (serve kinds c s)
  late : (t : Sofar) (n : ℕ) → t.wants ≡ suc n → take_line t (some c) ≡ refuse t bad_line

set_late : (t : Sofar) (c : Call) (n : ℕ) → t.wants ≡ suc n → set_up t c ≡ refuse t bad_line
unfolding set_up
set_late t c n e = ap (λ (b : Bool). elim b [ true ↦ next t (serve kinds c t.state) | false ↦ refuse t bad_line ]) (ap (λ (m : ℕ). eqb m 0) e ∙ eqb-suc-zero n)

pool_head : (u : Use) (p : Pool) → Head (pool u p)
unfolding heads wants set_up
pool_head u p = record { headed = λ cs. refl; unwanted = λ cs. refl; taken = λ l s. refl; late = λ t. set_late t (pool u p) }

hold_head : (o : ℕ) (h : Hold) → Head (hold o h)
unfolding heads wants set_up
hold_head o h = record { headed = λ cs. refl; unwanted = λ cs. refl; taken = λ l s. refl; late = λ t. set_late t (hold o h) }

-- none is accepted after a want
head_late : {A : Type 0} (c : Call) → Head c → (cs : List Call) (t : Sofar) (n : ℕ) → t.wants ≡ suc n → accepts (takes t (c ∷ cs)).said ≡ true → A
head_late c d cs t n e a = off (ap (λ (u : Sofar). accepts u.said) (sym (d.late t n e)) ∙ here t c cs a)

wants_only : (cs : List Call) (t : Sofar) (n : ℕ) → t.wants ≡ suc n → accepts (takes t cs).said ≡ true → cs ≡ map want (wants cs)
unfolding wants
wants_only [] t n e a = refl
wants_only (pool u p ∷ cs) t n e a = head_late (pool u p) (pool_head u p) cs t n e a
wants_only (hold o h ∷ cs) t n e a = head_late (hold o h) (hold_head o h) cs t n e a
wants_only (start ∷ cs) t n e a = off (here t start cs a)
wants_only (want r ∷ cs) t n e a =
    ap {B = List Call} (λ ds. want r ∷ ds) (wants_only cs (ask t r) t.wants (asked t r (here t (want r) cs a)).counted (later t (want r) cs a))

no_heads : (rs : List Request) → heads (map want rs) ≡ []
unfolding heads
no_heads [] = refl
no_heads (r ∷ rs) = no_heads rs

-- calls that are accepted are pools and holds, each accepted, and then wants
record Headed (l : ℕ) (s : State) (cs : List Call) : Type 0 where
  order : cs ≡ heads cs ++ map want (wants cs)
  goes : takes (at_head l s) (heads cs) ≡ at_head (l + length (heads cs)) (served (heads cs) s)
  quiet : (served (heads cs) s).said ≡ silence

module _ (cs : List Call) (l : ℕ) (s : State) (q : s.said ≡ silence) where
  -- no pool and no hold is left
  head_none : heads cs ≡ [] → cs ≡ map want (wants cs) → Headed l s cs
  unfolding takes served
  head_none e w = record {
    order = rw e w;
    goes = rw e (ap (λ (n : ℕ). at_head n s) (sym (add-zero l)));
    quiet = rw e q;
  }

  -- one more
  head_more : (c : Call) → Head c → GivenFor kinds s → accepts (takes (at_head l s) (c ∷ cs)).said ≡ true
      → (GivenFor kinds (serve kinds c s) → (serve kinds c s).said ≡ silence → accepts (takes (at_head (suc l) (serve kinds c s)) cs).said ≡ true → Headed (suc l) (serve kinds c s) cs)
      → Headed l s (c ∷ cs)
  unfolding served
  head_more c d g a below =
      let is : take_line (at_head l s) (some c) ≡ at_head (suc l) (serve kinds c s) = d.taken l s in
      let z : (serve kinds c s).said ≡ silence = silent c s (ap (λ (t : Sofar). accepts t.said) (sym is) ∙ here (at_head l s) c cs a) in
      let b : Headed (suc l) (serve kinds c s) cs = below (serve_given kinds c s g) z (subst (λ (t : Sofar). accepts (takes t cs).said ≡ true) is (later (at_head l s) c cs a)) in
      let n : suc l + length (heads cs) ≡ l + suc (length (heads cs)) = omega arith in
      record {
        order = rw (d.headed cs, d.unwanted cs) (ap {B = List Call} (λ ds. c ∷ ds) b.order);
        goes = rw (d.headed cs)
            (takes_on (at_head l s) c (heads cs) (ap accepts q) ∙ ap (λ (t : Sofar). takes t (heads cs)) is ∙ b.goes ∙ ap (λ (m : ℕ). at_head m (served (heads cs) (serve kinds c s))) n);
        quiet = rw (d.headed cs) b.quiet;
      }

headed : (cs : List Call) (l : ℕ) (s : State) → GivenFor kinds s → s.said ≡ silence → accepts (takes (at_head l s) cs).said ≡ true → Headed l s cs
unfolding heads wants
headed [] l s g q a = head_none [] l s q refl refl
headed (pool u p ∷ cs) l s g q a = head_more cs l s q (pool u p) (pool_head u p) g a (headed cs (suc l) (serve kinds (pool u p) s))
headed (hold o h ∷ cs) l s g q a = head_more cs l s q (hold o h) (hold_head o h) g a (headed cs (suc l) (serve kinds (hold o h) s))
headed (start ∷ cs) l s g q a = off (here (at_head l s) start cs a)
headed (want r ∷ cs) l s g q a =
    let t : Sofar = at_head l s in
    let w : cs ≡ map want (wants cs) = wants_only cs (ask t r) 0 (asked t r (here t (want r) cs a)).counted (later t (want r) cs a) in
    head_none (want r ∷ cs) l s q (ap heads w ∙ no_heads (wants cs)) (ap {B = List Call} (λ ds. want r ∷ ds) w)

-- ---- whole texts

pub heads_again : (cs : List Call) → heads (heads cs) ≡ heads cs
unfolding heads
heads_again [] = refl
heads_again (pool u p ∷ cs) = ap {B = List Call} (λ ds. pool u p ∷ ds) (heads_again cs)
heads_again (hold o h ∷ cs) = ap {B = List Call} (λ ds. hold o h ∷ ds) (heads_again cs)
heads_again (start ∷ cs) = heads_again cs
heads_again (want r ∷ cs) = heads_again cs

pub served_given : (cs : List Call) (s : State) → GivenFor kinds s → GivenFor kinds (served cs s)
unfolding served
served_given [] s g = g
served_given (c ∷ cs) s g = served_given cs (serve kinds c s) (serve_given kinds c s g)

fresh_given : GivenFor kinds fresh
fresh_given k m = (sound_for kinds fresh (fresh_sound kinds) k m).given

-- the tables behind the wants: started at the first of them
abbrev pub standing : State → List Grant → State
standing s gs = leaving s (starting s) gs

opens_at : (l : ℕ) (s : State) → GivenFor kinds s → opened (at_head l s) ≡ starting s
unfolding opened
opens_at l s g = start_is kinds s (for_given kinds s g)

module _ (hs : List Call) (only : heads hs ≡ hs) (a : accepts (takes beginning hs).said ≡ true) where
  abbrev s : State
  s = served hs fresh

  here_given : GivenFor kinds s
  here_given = served_given hs fresh fresh_given

  set_up_is : (takes beginning hs ≡ at_head (length hs) s) × (s.said ≡ silence)
  set_up_is =
      let b : Headed 0 fresh hs = headed hs 0 fresh fresh_given refl a in
      let n : 0 + length hs ≡ length hs = omega arith in
      let e : takes beginning hs ≡ at_head (0 + length hs) s = subst (λ ds. takes beginning ds ≡ at_head (0 + length ds) (served ds fresh)) only b.goes in
      (e ∙ ap (λ (m : ℕ). at_head m s) n, subst (λ ds. (served ds fresh).said ≡ silence) only b.quiet)

  wants_from : (rs : List Request) → takes beginning (hs ++ map want rs) ≡ takes (at_head (length hs) s) (map want rs)
  wants_from rs = takes_append beginning hs (map want rs) ∙ ap (λ (t : Sofar). takes t (map want rs)) set_up_is.0

  runs_to : (rs : List Request) (gs : List Grant) → length rs ≤ plan_limit → run (pools_of s) (held_of s) rs ≡ done gs
      → takes beginning (hs ++ map want rs) ≡ sofar (length hs + length rs) (standing s gs) (length gs) (records gs) silence
  runs_to rs gs l e =
      let n : 0 + length gs ≡ length gs = omega arith in
      wants_from rs
      ∙ run_accepts rs (at_head (length hs) s) (starting s) gs (opens_at (length hs) s here_given) (λ k m. start_sound s k (here_given k m)) set_up_is.1 (omega arith) e
      ∙ ap (λ (m : ℕ). sofar (length hs + length rs) (standing s gs) m (records gs) silence) n

  wants_run : (rs : List Request) → accepts (takes beginning (hs ++ map want rs)).said ≡ true → (gs : List Grant) × (run (pools_of s) (held_of s) rs ≡ done gs) × (length rs ≤ plan_limit)
  wants_run rs w =
      let (gs, e, l) = accepted_run rs (at_head (length hs) s) (starting s) (opens_at (length hs) s here_given) (λ k m. start_sound s k (here_given k m)) (omega arith) (ap (λ (t : Sofar). accepts t.said) (sym (wants_from rs)) ∙ w) in
      (gs, e, omega arith)

-- POOLS AND HOLDS that are accepted, and WANTS that run on the tables which they leave, are accepted
pub takes_runs : (hs : List Call) (rs : List Request) (gs : List Grant) → heads hs ≡ hs → accepts (takes beginning hs).said ≡ true → length rs ≤ plan_limit
    → run (pools_of (served hs fresh)) (held_of (served hs fresh)) rs ≡ done gs
    → takes beginning (hs ++ map want rs) ≡ sofar (length hs + length rs) (standing (served hs fresh) gs) (length gs) (records gs) silence
takes_runs hs rs gs only a l e = runs_to hs only a rs gs l e

-- the tables that the pools and holds of calls leave, and how the wants run there
abbrev pub set_up_for : List Call → State
set_up_for cs = served (heads cs) fresh

abbrev pub run_for : List Call → Run
run_for cs = run (pools_of (set_up_for cs)) (held_of (set_up_for cs)) (wants cs)

pub record Accepted (cs : List Call) : Type 0 where
  pub order : cs ≡ heads cs ++ map want (wants cs)
  pub ran : run_for cs ≡ done (grants_of (run_for cs))
  pub few : length (wants cs) ≤ plan_limit
  pub given : T (given kinds (set_up_for cs))
  pub heads_go : accepts (takes beginning (heads cs)).said ≡ true
  pub end : takes beginning cs ≡ sofar (length cs) (standing (set_up_for cs) (grants_of (run_for cs))) (length (grants_of (run_for cs))) (records (grants_of (run_for cs))) silence

-- CALLS that are accepted
pub takes_accepted : (cs : List Call) → accepts (takes beginning cs).said ≡ true → Accepted cs
takes_accepted cs a =
    let b : Headed 0 fresh cs = headed cs 0 fresh fresh_given refl a in
    let go : accepts (takes beginning (heads cs)).said ≡ true = ap (λ (t : Sofar). accepts t.said) b.goes ∙ ap accepts b.quiet in
    let is : takes beginning cs ≡ takes beginning (heads cs ++ map want (wants cs)) = ap (takes beginning) b.order in
    let (gs, e, l) = wants_run (heads cs) (heads_again cs) go (wants cs) (ap (λ (t : Sofar). accepts t.said) (sym is) ∙ a) in
    let whole : run_for cs ≡ done (grants_of (run_for cs)) = e ∙ ap (λ (v : Run). done (grants_of v)) (sym e) in
    let n : length (heads cs) + length (wants cs) ≡ length cs = omega (arith, ap length b.order, length-append (heads cs) (map want (wants cs)), length-map (wants cs) want) in
    record {
      order = b.order;
      ran = whole;
      few = l;
      given = for_given kinds (set_up_for cs) (served_given (heads cs) fresh fresh_given);
      heads_go = go;
      end = is ∙ takes_runs (heads cs) (wants cs) (grants_of (run_for cs)) (heads_again cs) go l whole
          ∙ ap (λ (m : ℕ). sofar m (standing (set_up_for cs) (grants_of (run_for cs))) (length (grants_of (run_for cs))) (records (grants_of (run_for cs))) silence) n;
    }
