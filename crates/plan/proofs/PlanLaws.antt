-- The steps make the definition's plan, and a turn in place is a turn. Assumes nothing.
use mathlib.Core.Path.{◌≡◌, refl, ap, ap₂, sym, subst, ◌∙◌}
use mathlib.Core.Bool.{Bool, true, false, ◌&&◌}
use mathlib.Core.List.{List, [], ◌∷◌, ◌++◌}
use Prim.Native.Nat.{ℕ, suc, ◌+◌, ◌*◌, ◌/◌, ◌-◌, ◌≤◌, ◌<◌}
use native.Mathlib.Omega.{arith}
use native.Mathlib.Nat.{add-zero, zero-add}
use lib.Dec.{T, leb, ltb, eqb→eq}
use lib.ListN.{length, take, drop, length-append, length-take, length-drop, take-append-drop}
use borrow.Author.Tests.{leb-true, ltb-true}
use Rattle.definition.proofs.BaseLaws.{T_true, true_T, and_l, and_r}
use Rattle.definition.specs.Tables.{plan_limit, record_size, Kind, kinds}
use Rattle.definition.proofs.RowLaws.{every_kind}
use Rattle.definition.specs.Base.{Refusal, malformed, short, Said, silence, tell, Answer, accepted, refused, require}
use Rattle.definition.proofs.TableLaws.{push_nil}
use Rattle.definition.specs.Pools.{Holders, Claim, rows_of, ◌⊕◌}
use Rattle.definition.proofs.ClaimLaws.{fits_one}
use Rattle.definition.specs.Request.{Request, resolve}
use Rattle.definition.proofs.ResolveLaws.{Resolved, resolved, rows_kept}
use Rattle.definition.specs.Calls.{State, state, pools_of, owners_of, sound, saying, granting}
use Rattle.definition.proofs.StateLaws.{Sound, SoundFor, sound_for, for_sound, sound_saying, sound_ground, sound_fits, granting_sound}
use Rattle.definition.specs.Plan.{Grant, grant, Run, done, stopped, after as and_then, run, record_of_grant, records, written, Lent, lent, all_rows, roomy, plan_run, ended, grants_of, plan}
use Rattle.definition.proofs.PlanLaws.{tell_number, told_at, granting_append}
use Rattle.definition.proofs.RunLaws.{run_accepted, run_refused, record_length}
use Rattle.plan.specs.Steps.{put_from, clear, Steady, opened, indexed, numbered, answered, turned, turns, recorded, index_for, settled, steps}
use Rattle.plan.proofs.PutLaws.{put_append, put_nil}
use Rattle.allocation.proofs.ServeLaws.{into_refused, into_granted}
use Rattle.decide.specs.Outcome.{bases_in, after}
use Rattle.plan.proofs.StepLaws.{not_clear, opened_unsound, opened_short, opened_clear, numbered_clear, numbered_refused, settled_clear, settled_refused, turned_skips, turned_answers}

-- ---- the results

put_length : (out us : List ℕ) (a : ℕ) → a + length us ≤ length out → length (put_from a us out) ≡ length out
put_length out us a l =
    length-append (take a out) (us ++ drop (length us) (drop a out)) ∙ ap₂ ◌+◌ (length-take a out) (length-append us (drop (length us) (drop a out)) ∙ ap (λ n. length us + n) (length-drop (length us) (drop a out) ∙ ap (λ n. n - length us) (length-drop a out))) ∙ omega arith

-- ---- the tables

granting_nil : (w : Said) (t : State) → saying w (granting [] t) ≡ saying w t
unfolding rows_of
granting_nil w t = λ j. state t.pools t.held (λ k. push_nil (t.owners k) j) w

-- ---- what is left after i requests, of which t and out are the tables and the results

abbrev pub finished : ℕ → State → List ℕ → Run → Lent
finished i t out (done gs) = lent (granting (all_rows gs) t) (put_from (record_size * i) (records gs) out)
finished i t out (stopped gs x) = lent (saying (tell (i + length gs) x) (granting (all_rows gs) t)) (put_from (record_size * i) (records gs) out)

finished_after : (i : ℕ) (t : State) (out : List ℕ) (g : Grant) (R : Run) → record_size * i ≤ length out → finished i t out (and_then g R) ≡ finished (i + 1) (granting g.rows t) (put_from (record_size * i) (record_of_grant g) out) R
unfolding records
finished_after i t out g (done gs) l = ap₂ lent (granting_append g.rows (all_rows gs) t) (put_append out (record_of_grant g) (records gs) (record_size * i) (record_size * (i + 1)) (omega (arith, record_length g)) l)
finished_after i t out g (stopped gs x) l =
    let q : i + suc (length gs) ≡ i + 1 + length gs = omega arith in
    ap₂ lent (ap₂ (λ (m : ℕ) (u : State). saying (tell m x) u) q (granting_append g.rows (all_rows gs) t)) (put_append out (record_of_grant g) (records gs) (record_size * i) (record_size * (i + 1)) (omega (arith, record_length g)) l)

-- after a refusal nothing is done
pub turns_skip : (rs : List Request) (i : ℕ) (s : State) (out : List ℕ) → (s.said.number ≡ 0 → ⊥) → turns i rs s out ≡ lent s out
unfolding turns
turns_skip [] i s out f = refl
turns_skip (r ∷ rs) i s out f =
    ap (λ (p : Lent). turns (i + 1) rs p.state p.results) (sym (turned_skips i r s out (ap (λ b. b && ltb i (length out / record_size)) (not_clear s f)))) ∙ turns_skip rs (i + 1) s out f

module _ (i : ℕ) (r : Request) (t : State) (out : List ℕ) (snd : sound kinds t ≡ true) (quiet : t.said.number ≡ 0) (l : record_size * i + record_size ≤ length out) where
  abbrev a : ℕ
  a = record_size * i

  part_room : record_size ≤ length (drop a out)
  part_room = omega (arith, l, length-drop a out)

  turned_accepted : (cs : List Claim) → resolve (pools_of t) (owners_of t) r ≡ accepted cs → turned i r t out ≡ lent (granting cs t) (put_from a (record_of_grant (grant r cs)) out)
  unfolding answered
  turned_accepted cs e =
      sym (turned_answers i r t out quiet (omega (arith, l)))
      ∙ ap (λ (p : Lent). lent (numbered i p.state) (take a out ++ p.results)) (sym (into_granted kinds r t (drop a out) snd part_room cs e))
      ∙ ap (λ (u : State). lent u (put_from a (record_of_grant (grant r cs)) out)) (sym (numbered_clear i (granting cs t) refl))

  turned_refused : (x : Refusal) → resolve (pools_of t) (owners_of t) r ≡ refused x → turned i r t out ≡ lent (saying (tell i x) t) out
  unfolding answered
  turned_refused x e =
      sym (turned_answers i r t out quiet (omega (arith, l)))
      ∙ ap (λ (p : Lent). lent (numbered i p.state) (take a out ++ p.results)) (sym (into_refused kinds r t (drop a out) snd part_room x e))
      ∙ ap₂ lent (sym (numbered_refused i (saying (tell 0 x) t) (tell_number 0 x)) ∙ ap (λ (w : Said). saying w t) (told_at i x)) (take-append-drop a out)

-- rows granted to a request keep the tables sound
granted_sound : (r : Request) (t : State) (cs : List Claim) → SoundFor kinds t → resolve (pools_of t) (owners_of t) r ≡ accepted cs → (k : Kind) → Sound (granting cs t) k × (owners_of (granting cs t) k ≡ (owners_of t ⊕ cs) k)
granted_sound r t cs h q k =
    let a : Resolved (pools_of t) (owners_of t) r cs = resolved (pools_of t) (owners_of t) r cs (λ j n. sound_ground t j (h j (every_kind j))) q in
    granting_sound t cs k (h k (every_kind k)) (fits_one (owners_of t) k cs (sound_fits t k (h k (every_kind k))) a.apart a.has_room) (rows_kept (pools_of t) (owners_of t) r cs k a (sound_ground t k (h k (every_kind k))).1)

-- ---- a request in place: the tables are granted to, the index is stored, the record is written

module _ (i : ℕ) (r : Request) (t : State) (out : List ℕ) where
  abbrev answer : Answer (List Claim)
  answer = resolve (pools_of t) (owners_of t) r

  -- the turn's test, taken apart
  quiet_of : clear t ≡ true → t.said.number ≡ 0
  quiet_of e = eqb→eq t.said.number 0 (true_T (clear t) e)

  pub room_of : ltb i (length out / record_size) ≡ true → record_size * i + record_size ≤ length out
  room_of e = let l : i < length out / record_size = ltb-true i (length out / record_size) e in omega (arith, l)

  pub turned_in_place : clear t ≡ true → ltb i (length out / record_size) ≡ true → T (sound kinds t)
      → lent (saying (indexed (index_for (bases_in r.want answer) i) (after t answer).said) (after t answer)) (recorded i r answer out) ≡ turned i r t out
  turned_in_place c e h = go answer refl
    where
      snd : sound kinds t ≡ true
      snd = T_true (sound kinds t) h

      go : (x : Answer (List Claim)) → answer ≡ x → lent (saying (indexed (index_for (bases_in r.want x) i) (after t x).said) (after t x)) (recorded i r x out) ≡ turned i r t out
      go (accepted cs) q = sym (turned_accepted i r t out snd (quiet_of c) (room_of e) cs q)
      go (refused x) q = ap (λ (w : Said). lent (saying w t) out) (told_at i x) ∙ sym (turned_refused i r t out snd (quiet_of c) (room_of e) x q)

  -- while no request was refused the tables stay sound
  pub turned_steady : Steady t → Steady (turned i r t out).state
  turned_steady h = go (clear t && ltb i (length out / record_size)) refl
    where
      at : (p : Lent) → turned i r t out ≡ p → Steady p.state → Steady (turned i r t out).state
      at p q = subst (λ (u : Lent). Steady u.state) (sym q)

      went : clear t ≡ true → ltb i (length out / record_size) ≡ true → (x : Answer (List Claim)) → answer ≡ x → Steady (turned i r t out).state
      went c e (accepted cs) q =
          at _ (turned_accepted i r t out (T_true (sound kinds t) (h c)) (quiet_of c) (room_of e) cs q) (λ _. for_sound kinds (granting cs t) (λ k m. (granted_sound r t cs (sound_for kinds t (h c)) q k).0))
      went c e (refused x) q =
          at _ (turned_refused i r t out (T_true (sound kinds t) (h c)) (quiet_of c) (room_of e) x q) (λ _. for_sound kinds (saying (tell i x) t) (λ k m. sound_saying (tell i x) t k (sound_for kinds t (h c) k m)))

      go : (b : Bool) → clear t && ltb i (length out / record_size) ≡ b → Steady (turned i r t out).state
      go false e = at (lent t out) (sym (turned_skips i r t out e)) h
      go true e =
          went (T_true _ (and_l (clear t) (ltb i (length out / record_size)) (true_T _ e))) (T_true _ (and_r (clear t) (ltb i (length out / record_size)) (true_T _ e))) answer refl

pub opened_steady : (n room : ℕ) (s : State) → Steady (opened n room s)
opened_steady n room s = go (sound kinds s) refl (leb n plan_limit && leb (record_size * n) room) refl
  where
    go : (b : Bool) → sound kinds s ≡ b → (f : Bool) → leb n plan_limit && leb (record_size * n) room ≡ f → Steady (opened n room s)
    go false e f u = subst Steady (opened_unsound n room s e) (λ c. absurd (true_T false c))
    go true e false u = subst Steady (opened_short n room s e u) (λ c. absurd (true_T false c))
    go true e true u = subst Steady (opened_clear n room s e u) (λ _. for_sound kinds (saying silence s) (λ k m. sound_saying silence s k (sound_for kinds s (true_T (sound kinds s) e) k m)))

-- ---- the turns of a list

pub turns_run : (rs : List Request) (i : ℕ) (t : State) (out : List ℕ) → SoundFor kinds t → t.said ≡ silence → record_size * (i + length rs) ≤ length out → turns i rs t out ≡ finished i t out (run (pools_of t) (owners_of t) rs)
unfolding turns run records
turns_run [] i t out h e l = ap₂ lent (sym (granting_nil silence t ∙ (λ j. state t.pools t.held t.owners (sym e j)))) (sym (put_nil out (record_size * i)))
turns_run (r ∷ rs) i t out h e l = go (turns_run rs (i + 1)) (resolve (pools_of t) (owners_of t) r) refl
  where
    snd : sound kinds t ≡ true
    snd = T_true (sound kinds t) (for_sound kinds t h)

    quiet : t.said.number ≡ 0
    quiet = ap (λ (w : Said). w.number) e

    fit : record_size * i + record_size ≤ length out
    fit = omega (arith, l)

    go : ((t : State) (out : List ℕ) → SoundFor kinds t → t.said ≡ silence → record_size * (i + 1 + length rs) ≤ length out → turns (i + 1) rs t out ≡ finished (i + 1) t out (run (pools_of t) (owners_of t) rs))
        → (x : Answer (List Claim)) → resolve (pools_of t) (owners_of t) r ≡ x → turns (i + 1) rs (turned i r t out).state (turned i r t out).results ≡ finished i t out (run (pools_of t) (owners_of t) (r ∷ rs))
    go below (refused x) q =
        ap (λ (p : Lent). turns (i + 1) rs p.state p.results) (turned_refused i r t out snd quiet fit x q) ∙ turns_skip rs (i + 1) (saying (tell i x) t) out (tell_number i x)
        ∙ ap₂ lent (ap (λ (m : ℕ). saying (tell m x) t) (sym (add-zero i)) ∙ sym (granting_nil (tell (i + 0) x) t)) (sym (put_nil out (record_size * i)))
        ∙ ap (finished i t out) (sym (run_refused (pools_of t) (owners_of t) r rs x q))
    go below (accepted cs) q =
        let kept : (k : Kind) → Sound (granting cs t) k × (owners_of (granting cs t) k ≡ (owners_of t ⊕ cs) k) = granted_sound r t cs h q in
        let owned : owners_of (granting cs t) ≡ owners_of t ⊕ cs = λ j k. (kept k).1 j in
        let out' : List ℕ = put_from (record_size * i) (record_of_grant (grant r cs)) out in
        let long : length out' ≡ length out = put_length out (record_of_grant (grant r cs)) (record_size * i) (omega (arith, fit, record_length (grant r cs))) in
        ap (λ (p : Lent). turns (i + 1) rs p.state p.results) (turned_accepted i r t out snd quiet fit cs q)
        ∙ below (granting cs t) out' (λ k m. (kept k).0) refl (omega (arith, l, long))
        ∙ ap (λ (S : Holders). finished (i + 1) (granting cs t) out' (run (pools_of t) S rs)) owned
        ∙ sym (finished_after i t out (grant r cs) (run (pools_of t) (owners_of t ⊕ cs) rs) (omega (arith, fit)))
        ∙ ap (finished i t out) (sym (run_accepted (pools_of t) (owners_of t) r rs cs q))

-- ---- the whole

module _ (rs : List Request) (s : State) (out : List ℕ) where
  abbrev Fits : Bool
  Fits = leb (length rs) plan_limit && leb (record_size * length rs) (length out)

  plan_unsound : sound kinds s ≡ false → lent (saying (tell 0 malformed) s) out ≡ plan rs s out
  unfolding plan plan_run require records
  plan_unsound e = rw e

  plan_short : sound kinds s ≡ true → Fits ≡ false → lent (saying (tell 0 short) s) out ≡ plan rs s out
  unfolding plan plan_run require records roomy
  plan_short e f = rw (e, f)

  closed : (v : Run) → let p : Lent = finished 0 (saying silence s) out v in lent (settled s p.state) p.results ≡ lent (ended s v) (written (records (grants_of v)) out)
  closed (done gs) = ap (λ (u : State). lent u (written (records gs) out)) (sym (settled_clear s (granting (all_rows gs) s) refl))
  closed (stopped gs x) =
      ap (λ (u : State). lent u (written (records gs) out)) (sym (settled_refused s (saying (tell (0 + length gs) x) (granting (all_rows gs) s)) (tell_number (0 + length gs) x)) ∙ ap (λ (m : ℕ). saying (tell m x) s) (zero-add (length gs)))

  plan_runs : sound kinds s ≡ true → Fits ≡ true → lent (ended s (run (pools_of s) (owners_of s) rs)) (written (records (grants_of (run (pools_of s) (owners_of s) rs))) out) ≡ plan rs s out
  unfolding plan plan_run require roomy
  plan_runs e f = rw (e, f)

  abbrev from : State → Lent
  from t = let p : Lent = turns 0 rs t out in lent (settled s p.state) p.results

  stops : (x : Refusal) → from (saying (tell 0 x) s) ≡ lent (saying (tell 0 x) s) out
  stops x =
      ap (λ (p : Lent). lent (settled s p.state) p.results) (turns_skip rs 0 (saying (tell 0 x) s) out (tell_number 0 x))
      ∙ ap (λ (u : State). lent u out) (sym (settled_refused s (saying (tell 0 x) s) (tell_number 0 x)))

  runs : sound kinds s ≡ true → Fits ≡ true → from (saying silence s) ≡ plan rs s out
  runs e f =
      let g : SoundFor kinds s = sound_for kinds s (true_T (sound kinds s) e) in
      let room : record_size * length rs ≤ length out = leb-true (record_size * length rs) (length out) (T_true _ (and_r (leb (length rs) plan_limit) (leb (record_size * length rs) (length out)) (true_T Fits f))) in
      ap (λ (p : Lent). lent (settled s p.state) p.results) (turns_run rs 0 (saying silence s) out (λ k m. sound_saying silence s k (g k m)) refl (omega (arith, room)))
      ∙ closed (run (pools_of s) (owners_of s) rs) ∙ plan_runs e f

  pub steps_plan : steps rs s out ≡ plan rs s out
  unfolding steps
  steps_plan = go (sound kinds s) refl Fits refl
    where
      go : (b : Bool) → sound kinds s ≡ b → (f : Bool) → Fits ≡ f → from (opened (length rs) (length out) s) ≡ plan rs s out
      go false e f u = ap from (sym (opened_unsound (length rs) (length out) s e)) ∙ stops malformed ∙ plan_unsound e
      go true e false u = ap from (sym (opened_short (length rs) (length out) s e u)) ∙ stops short ∙ plan_short e u
      go true e true u = ap from (sym (opened_clear (length rs) (length out) s e u)) ∙ runs e u
