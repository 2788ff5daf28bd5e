-- Each call that ships means a step of the definition's histories: the same state afterwards, entries for what it grants, and it strikes out what it takes. Assumes nothing.
use mathlib.Core.Path.{◌≡◌, refl, sym, subst, ap, ◌∙◌}
use mathlib.Core.Bool.{Bool, true, false, not, ◌&&◌, ◌||◌}
use mathlib.Core.Option.{Option, none, some}
use mathlib.Core.List.{List, [], ◌∷◌}
use Prim.Native.Nat.{ℕ, zero, suc, ◌≤◌, ◌<◌}
use native.Mathlib.Omega.{arith}
use lib.Dec.{T, leb, eqb, leb→le, nleb→lt, eqb→eq}
use lib.ListN.{length, take, drop, replicate, length-drop, length-replicate}
use Rattle.definition.proofs.StayLaws.{asking, step_stays}
use Rattle.definition.proofs.BaseLaws.{and_l, and_r, not_T→, or_l, or_r, and_true, and_false, eq→eqb, true_T, T_false, false_T, →not_T}
use Rattle.definition.specs.Base.{all_of, Refusal, malformed, bad_input, short, tell, refused, require}
use Rattle.definition.specs.Tables.{record_size, kinds}
use Rattle.definition.specs.Pools.{pio_pool, input_pool, msi_pool, pio_hold, input_hold, device_hold, event_hold, lpi_hold, pair_hold}
use Rattle.definition.specs.Request.{Request, Use, automatic, fixed}
use Rattle.definition.specs.Calls.{State, given, sound, saying, settle, start, want, serve}
use Rattle.definition.specs.Calls as C
use Rattle.definition.specs.Plan.{Grant, Lent, lent, plan, pinned}
use Rattle.definition.specs.Withdraw.{withdraw}
use Rattle.definition.specs.History.{Step, called, allocated, planned, withdrawn, unread, step, granted, was_accepted, takes}
use Rattle.definition.proofs.IntoPlanLaws.{into_granted, want_granted}
use Rattle.flat.specs.Flat.{request_size, request_at, requests_of, whole_requests, flat_plan, flat_allocate}
use Rattle.flat.proofs.FlatLaws.{flat_whole, flat_torn, flat_one, flat_too_short}
use Rattle.numbers.specs.Face.{number, asks, withdraws, call_at, adding_at, call_size, judged, face_call}
use Rattle.numbers.specs.Coding.{below, narrow, pool_in, held_in, hold_in, used_in, adding_in, size_in}
use Rattle.door.specs.Served.{serve_of}
use Rattle.ledger.specs.Ledger.{adds, Call, calls, allocates, plans, after, PoolsRest, HeldRest, Entry, entries_of, enters, requester_of, strikes}
use Rattle.ledger.proofs.AlongLaws as L
use Rattle.ledger.proofs.EntryLaws.{Tells, AllTell, refused_number, plan_tells, refused_tells, one_tells}

-- ---- each call means a step

pub record Means (x : Call) (s : State) : Type 0 where
  pub means : Step
  pub same : step means s ≡ after x s
  pub enter : AllTell (enters x s) (granted means s)
  pub rest : T (not (adds x)) → T (asking means)
  pub strike : (e : Entry) (g : Grant) → Tells e g → strikes x s e ≡ takes means s g

-- a refusal that is told before the call is looked at
torn : (b : Bool) (y : Refusal) (s : State) → (x : Refusal) × (settle s (require b malformed (refused y)) ≡ saying (tell 0 x) s)
unfolding require
torn true y s = (y, refl)
torn false y s = (malformed, refl)

means_plan : (rq : List ℕ) (s : State) (out : List ℕ) → Means (plans rq out) s
unfolding enters strikes takes granted asking
means_plan rq s out = go (whole_requests rq) refl
  where
    go : (b : Bool) → whole_requests rq ≡ b → Means (plans rq out) s
    go true w =
        let is : flat_plan rq s out ≡ plan (requests_of rq) s out = flat_whole rq s out w in
        record {
          means = planned (requests_of rq) out;
          same = sym (ap (λ (v : Lent). v.state) is);
          enter = subst (λ (v : Lent). AllTell (entries_of rq v) (granted (planned (requests_of rq) out) s)) (sym is) (plan_tells rq s out);
          rest = λ t. tt;
          strike = λ e g t. refl;
        }
    go false w =
        let (x, e) = torn (sound kinds s) short s in
        let is : flat_plan rq s out ≡ lent (saying (tell 0 x) s) out = flat_torn rq s out w ∙ ap (λ (z : State). lent z out) e in
        record {
          means = unread (tell 0 x);
          same = sym (ap (λ (v : Lent). v.state) is);
          enter = subst (λ (v : Lent). AllTell (entries_of rq v) []) (sym is) (refused_tells rq x s out);
          rest = λ t. tt;
          strike = λ e g t. refl;
        }

-- one request that is too short for its numbers
short_one : (xs : List ℕ) (s : State) (out : List ℕ) → leb request_size (length xs) ≡ false → (x : Refusal) × (flat_allocate xs s out ≡ lent (saying (tell 0 x) s) out)
short_one xs s out w = let (x, e) = torn (sound kinds s) short s in (x, flat_too_short xs s out w ∙ ap (λ (z : State). lent z out) e)

means_allocate : (xs : List ℕ) (s : State) (out : List ℕ) → Means (allocates xs out) s
unfolding enters strikes takes granted asking
means_allocate xs s out = go (leb request_size (length xs)) refl
  where
    go : (b : Bool) → leb request_size (length xs) ≡ b → Means (allocates xs out) s
    go true w = record {
      means = allocated (request_at xs 0) out;
      same = sym (ap (λ (v : Lent). v.state) (flat_one xs s out w));
      enter = subst (λ gs. AllTell (entries_of (take request_size xs) (flat_allocate xs s out)) gs) (sym (into_granted (request_at xs 0) s out)) (one_tells xs s out (leb→le request_size (length xs) (true_T (leb request_size (length xs)) w)));
      rest = λ t. tt;
      strike = λ e g t. refl;
    }
    go false w =
        let (x, is) = short_one xs s out w in
        record {
          means = unread (tell 0 x);
          same = sym (ap (λ (v : Lent). v.state) is);
          enter = entered x is;
          rest = λ t. tt;
          strike = λ e g t. refl;
        }
      where
        entered : (x : Refusal) → flat_allocate xs s out ≡ lent (saying (tell 0 x) s) out → AllTell (enters (allocates xs out) s) (granted (unread (tell 0 x)) s)
        entered x is = subst (λ (v : Lent). AllTell (entries_of (take request_size xs) v) []) (sym is) (refused_tells (take request_size xs) x s out)

-- ---- planner_call

-- numbers that add say a pool or a reservation, or nothing that can be read
abbrev Adds : ℕ → Option C.Call → Type 0
Adds n none = Unit {0}
Adds n (some (C.pool u p)) = n ≡ 1
Adds n (some (C.hold o h)) = n ≡ 2
Adds n (some start) = ⊥
Adds n (some (want r)) = ⊥

narrow_adds : (m bits : ℕ) (xs : List ℕ) (c : Option C.Call) → Adds m c → Adds m (narrow bits xs c)
unfolding narrow
narrow_adds m bits xs c a = go (all_of (below bits) xs)
  where
    go : (b : Bool) → Adds m (elim b as (λ _. Option C.Call) [ true ↦ c | false ↦ none ])
    go true = a
    go false = tt

pool_adds_is : (u : Use) (kind a b c d e f g h : ℕ) → Adds 1 (pool_in u kind a b c d e f g h)
unfolding pool_in
pool_adds_is u zero a b c d e f g h = tt
pool_adds_is u (suc zero) a b c d e f g h = refl
pool_adds_is u (suc (suc zero)) a b c d e f g h = narrow_adds 1 16 (a ∷ b ∷ []) (some (C.pool u (pio_pool a b))) refl
pool_adds_is u (suc (suc (suc zero))) a b c d e f g h = narrow_adds 1 32 (a ∷ []) (some (C.pool u (input_pool a b c))) refl
pool_adds_is u (suc (suc (suc (suc zero)))) a b c d e f g h = refl
pool_adds_is u (suc (suc (suc (suc (suc zero))))) a b c d e f g h =
    narrow_adds 1 32 (a ∷ b ∷ c ∷ d ∷ []) (narrow 32 (e ∷ f ∷ g ∷ h ∷ []) (some (C.pool u (msi_pool a b c d e f g h)))) (narrow_adds 1 32 (e ∷ f ∷ g ∷ h ∷ []) (some (C.pool u (msi_pool a b c d e f g h))) refl)
pool_adds_is u (suc (suc (suc (suc (suc (suc kind)))))) a b c d e f g h = tt

held_adds : (o kind a b c d e : ℕ) → Adds 2 (held_in o kind a b c d e)
unfolding held_in
held_adds o zero a b c d e = tt
held_adds o (suc zero) a b c d e = refl
held_adds o (suc (suc zero)) a b c d e = narrow_adds 2 16 (a ∷ b ∷ []) (some (C.hold o (pio_hold a b))) refl
held_adds o (suc (suc (suc zero))) a b c d e = narrow_adds 2 32 (a ∷ c ∷ d ∷ []) (some (C.hold o (input_hold a b c d))) refl
held_adds o (suc (suc (suc (suc zero)))) a b c d e = refl
held_adds o (suc (suc (suc (suc (suc zero))))) a b c d e = narrow_adds 2 32 (a ∷ b ∷ c ∷ d ∷ []) (some (C.hold o (device_hold a b c d))) refl
held_adds o (suc (suc (suc (suc (suc (suc zero)))))) a b c d e =
    narrow_adds 2 32 (a ∷ b ∷ c ∷ d ∷ []) (narrow 32 (e ∷ []) (some (C.hold o (event_hold a b c d e)))) (narrow_adds 2 32 (e ∷ []) (some (C.hold o (event_hold a b c d e))) refl)
held_adds o (suc (suc (suc (suc (suc (suc (suc zero))))))) a b c d e = narrow_adds 2 32 (a ∷ b ∷ c ∷ []) (some (C.hold o (lpi_hold a b c))) refl
held_adds o (suc (suc (suc (suc (suc (suc (suc (suc zero)))))))) a b c d e = narrow_adds 2 32 (a ∷ c ∷ []) (some (C.hold o (pair_hold a b c d))) refl
held_adds o (suc (suc (suc (suc (suc (suc (suc (suc (suc kind))))))))) a b c d e = tt

used_adds : (which kind a b c d e f g h : ℕ) → Adds 1 (used_in which kind a b c d e f g h)
unfolding used_in
used_adds zero kind a b c d e f g h = pool_adds_is automatic kind a b c d e f g h
used_adds (suc zero) kind a b c d e f g h = pool_adds_is fixed kind a b c d e f g h
used_adds (suc (suc which)) kind a b c d e f g h = tt

adding_adds : (n second kind a b c d e f g h : ℕ) → (n ≡ 3 → ⊥) → Adds n (adding_in n second kind a b c d e f g h)
unfolding adding_in hold_in
adding_adds zero second kind a b c d e f g h u = tt
adding_adds (suc zero) second kind a b c d e f g h u = used_adds second kind a b c d e f g h
adding_adds (suc (suc zero)) second kind a b c d e f g h u = narrow_adds 2 32 (second ∷ []) (held_in second kind a b c d e) (held_adds second kind a b c d e)
adding_adds (suc (suc (suc zero))) second kind a b c d e f g h u = absurd (u refl)
adding_adds (suc (suc (suc (suc n)))) second kind a b c d e f g h u = tt

module _ (xs : List ℕ) (s : State) where
  abbrev n : ℕ
  n = number xs 0

  adding_first : n ≡ 1 → T (not (adds (calls xs))) → ⊥
  unfolding adds
  adding_first e t = not_T→ (eqb n 1 || eqb n 2) t (or_l (eqb n 1) (eqb n 2) (eq→eqb n 1 e))

  adding_second : n ≡ 2 → T (not (adds (calls xs))) → ⊥
  unfolding adds
  adding_second e t = not_T→ (eqb n 1 || eqb n 2) t (or_r (eqb n 1) (eqb n 2) (eq→eqb n 2 e))

  -- what is refused enters nothing and strikes nothing out
  means_refused : (x : Refusal) → face_call xs s ≡ saying (tell 0 x) s → AllTell (enters (calls xs) s) [] → Means (calls xs) s
  unfolding strikes takes granted asking
  means_refused x is empty = record {
    means = unread (tell 0 x);
    same = sym is;
    enter = empty;
    rest = λ t. tt;
    strike = λ e g t. ap (λ (z : State). was_accepted z && (eqb n 3 || (withdraws xs && eqb (requester_of e) (number xs 1)))) is ∙ ap (λ (b : Bool). b && (eqb n 3 || (withdraws xs && eqb (requester_of e) (number xs 1)))) (refused_number 0 x s);
  }

  -- numbers that ask for nothing enter nothing
  no_entry : asks xs ≡ false → AllTell (enters (calls xs) s) []
  unfolding enters
  no_entry a = rw (a, enters) L.none

  short_entry : asks xs ≡ true → length xs < 13 → AllTell (enters (calls xs) s) []
  unfolding enters
  short_entry a l =
      let (x, is) = short_one (drop 1 xs) s (replicate record_size 0) (T_false (leb request_size (length (drop 1 xs))) (λ t. absurd (omega (arith, leb→le request_size (length (drop 1 xs)) t, length-drop 1 xs)))) in
      rw (a, enters) (subst (λ (v : Lent). AllTell (entries_of (take request_size (drop 1 xs)) v) []) (sym is) (refused_tells (take request_size (drop 1 xs)) x s (replicate record_size 0)))

  -- too few numbers
  means_short : leb (call_size xs) (length xs) ≡ false → Means (calls xs) s
  unfolding face_call size_in
  means_short w =
      let (x, e) = torn (judged xs s) short s in
      means_refused x (rw (w, face_call) e) (none_entered (asks xs) refl)
    where
      none_entered : (b : Bool) → asks xs ≡ b → AllTell (enters (calls xs) s) []
      none_entered false a = no_entry a
      none_entered true a =
          let four : n ≡ 4 = eqb→eq n 4 (true_T (eqb n 4) a) in
          let size : call_size xs ≡ 13 = ap (λ k. size_in k (number xs 2)) four in
          let few : length xs < call_size xs = nleb→lt (call_size xs) (length xs) (→not_T (leb (call_size xs) (length xs)) (λ t. false_T (leb (call_size xs) (length xs)) w t)) in
          short_entry a (omega (arith, few, size))

  module _ (w : leb (call_size xs) (length xs) ≡ true) where
    -- one request
    means_want : asks xs ≡ true → Means (calls xs) s
    unfolding face_call call_at size_in enters strikes takes asking
    means_want a =
        let four : n ≡ 4 = eqb→eq n 4 (true_T (eqb n 4) a) in
        let size : call_size xs ≡ 13 = ap (λ k. size_in k (number xs 2)) four in
        let not5 : withdraws xs ≡ false = ap (λ k. eqb k 5) four in
        let not3 : eqb n 3 ≡ false = ap (λ k. eqb k 3) four in
        let r : Request = request_at (drop 1 xs) 0 in
        let long : request_size ≤ length (drop 1 xs) = omega (arith, leb→le (call_size xs) (length xs) (true_T (leb (call_size xs) (length xs)) w), size, length-drop 1 xs) in
        let is : face_call xs s ≡ serve kinds (want r) s = rw (w, not5, a, face_call, call_at) refl in
        record {
          means = called (want r);
          same = sym is;
          enter = rw (a, enters) (subst (λ gs. AllTell (entries_of (take request_size (drop 1 xs)) (flat_allocate (drop 1 xs) s (replicate record_size 0))) gs)
              (sym (want_granted r s (replicate record_size 0) (omega (arith, length-replicate {A = ℕ} record_size 0)))) (one_tells (drop 1 xs) s (replicate record_size 0) long));
          rest = λ t. tt;
          strike = λ e g t. ap (λ (b : Bool). was_accepted (face_call xs s) && (b || (withdraws xs && eqb (requester_of e) (number xs 1)))) not3 ∙ ap (λ (b : Bool). was_accepted (face_call xs s) && (b && eqb (requester_of e) (number xs 1))) not5 ∙ and_false (was_accepted (face_call xs s));
        }

    -- a withdrawal
    means_withdraw : withdraws xs ≡ true → Means (calls xs) s
    unfolding face_call strikes takes granted pinned asking
    means_withdraw a =
        let five : n ≡ 5 = eqb→eq n 5 (true_T (eqb n 5) a) in
        let not4 : asks xs ≡ false = ap (λ k. eqb k 4) five in
        let not3 : eqb n 3 ≡ false = ap (λ k. eqb k 3) five in
        let is : face_call xs s ≡ withdraw (number xs 1) s = rw (w, a, face_call) refl in
        record {
          means = withdrawn (number xs 1);
          same = sym is;
          enter = no_entry not4;
          rest = λ t. tt;
          strike = λ e g t.
              ap (λ (b : Bool). was_accepted (face_call xs s) && (b || (withdraws xs && eqb (requester_of e) (number xs 1)))) not3 ∙ ap (λ (b : Bool). was_accepted (face_call xs s) && (b && eqb (requester_of e) (number xs 1))) a
              ∙ (λ i. was_accepted (is i) && eqb (ap (λ (q : Request). q.requester) t.reads i) (number xs 1));
        }

    -- all else
    module _ (not4 : asks xs ≡ false) (not5 : withdraws xs ≡ false) where
      served : face_call xs s ≡ serve_of (adding_at xs) s
      unfolding face_call call_at
      served = rw (w, not5, not4, face_call, call_at) refl

      unstruck : (e : Entry) → eqb n 3 ≡ false → strikes (calls xs) s e ≡ false
      unfolding strikes
      unstruck e not3 =
          ap (λ (b : Bool). was_accepted (face_call xs s) && (b || (withdraws xs && eqb (requester_of e) (number xs 1)))) not3 ∙ ap (λ (b : Bool). was_accepted (face_call xs s) && (b && eqb (requester_of e) (number xs 1))) not5 ∙ and_false (was_accepted (face_call xs s))

      means_start : eqb n 3 ≡ true → Means (calls xs) s
      unfolding adding_in strikes takes granted asking
      means_start a =
          let three : n ≡ 3 = eqb→eq n 3 (true_T (eqb n 3) a) in
          let says : adding_at xs ≡ some start = ap (λ k. adding_in k (number xs 1) (number xs 2) (number xs 3) (number xs 4) (number xs 5) (number xs 6) (number xs 7) (number xs 8) (number xs 9) (number xs 10)) three in
          let is : face_call xs s ≡ serve kinds start s = served ∙ ap (λ c. serve_of c s) says in
          record {
            means = called start;
            same = sym is;
            enter = no_entry not4;
            rest = λ t. tt;
            strike = λ e g t.
                ap (λ (b : Bool). was_accepted (face_call xs s) && (b || (withdraws xs && eqb (requester_of e) (number xs 1)))) a ∙ and_true (was_accepted (face_call xs s)) ∙ ap was_accepted is;
          }

      means_adding : eqb n 3 ≡ false → Means (calls xs) s
      unfolding takes granted asking
      means_adding not3 = go (adding_at xs) refl (adding_adds n (number xs 1) (number xs 2) (number xs 3) (number xs 4) (number xs 5) (number xs 6) (number xs 7) (number xs 8) (number xs 9) (number xs 10) (λ e. false_T (eqb n 3) not3 (eq→eqb n 3 e)))
        where
          go : (c : Option C.Call) → adding_at xs ≡ c → Adds n c → Means (calls xs) s
          go none says a = let (x, e) = torn (given kinds s) bad_input s in means_refused x (served ∙ ap (λ c. serve_of c s) says ∙ e) (no_entry not4)
          go (some (C.pool u p)) says a = record { means = called (C.pool u p); same = sym (served ∙ ap (λ c. serve_of c s) says); enter = no_entry not4; rest = λ t. absurd (adding_first a t); strike = λ e g t. unstruck e not3 }
          go (some (C.hold o h)) says a = record { means = called (C.hold o h); same = sym (served ∙ ap (λ c. serve_of c s) says); enter = no_entry not4; rest = λ t. absurd (adding_second a t); strike = λ e g t. unstruck e not3 }
          go (some start) says a = absurd a
          go (some (want r)) says a = absurd a

  means_call : Means (calls xs) s
  means_call = whole (leb (call_size xs) (length xs)) refl
    where
      first : leb (call_size xs) (length xs) ≡ true → (a b c : Bool) → asks xs ≡ a → withdraws xs ≡ b → eqb n 3 ≡ c → Means (calls xs) s
      first w true b c p q r = means_want w p
      first w false true c p q r = means_withdraw w q
      first w false false true p q r = means_start w p q r
      first w false false false p q r = means_adding w p q r

      whole : (b : Bool) → leb (call_size xs) (length xs) ≡ b → Means (calls xs) s
      whole false w = means_short w
      whole true w = first w (asks xs) (withdraws xs) (eqb n 3) refl refl refl

pub means : (x : Call) (s : State) → Means x s
means (calls xs) s = means_call xs s
means (allocates xs out) s = means_allocate xs s out
means (plans rq out) s = means_plan rq s out

-- a call that adds nothing leaves the pools and the reservations
pub call_rests : (x : Call) (s : State) → T (not (adds x)) → ((after x s).pools ≡ s.pools) × ((after x s).held ≡ s.held)
call_rests x s t = subst (λ (z : State). (z.pools ≡ s.pools) × (z.held ≡ s.held)) (means x s).same (step_stays (means x s).means s ((means x s).rest t))

pub calls_rest : (xs : List Call) (s : State) → T (all_of (λ x. not (adds x)) xs) → PoolsRest xs s × HeldRest xs s
unfolding all_of
calls_rest [] s t = (tt, tt)
calls_rest (x ∷ xs) s t =
    let (p, h) = call_rests x s (and_l (not (adds x)) (all_of (λ x. not (adds x)) xs) t) in
    let (ps, hs) = calls_rest xs (after x s) (and_r (not (adds x)) (all_of (λ x. not (adds x)) xs) t) in
    ((p, ps), (h, hs))
