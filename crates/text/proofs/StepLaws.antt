-- The parts of the code's line step make the definition's, and the tables stay sound by law. Assumes nothing.
--     no_want, a_want    what comes of a line that asks nothing, and of one that does
--     steady, kept       what is asked of the tables holds at each want, and behind each line that is accepted
use mathlib.Core.Path.{◌≡◌, refl, sym, ap, ap₂, subst, ◌∙◌}
use mathlib.Core.Bool.{Bool, true, false}
use mathlib.Core.List.{List, ◌++◌, append_assoc}
use mathlib.Core.Option.{Option, none, some}
use Rattle.std.proofs.Math.Option.{some-injective}
use Rattle.std.specs.Prelude as P
use Rattle.std.specs.Prelude.{None, Some}
use Prim.Native.Nat.{ℕ, suc, ◌+◌, ◌*◌, ◌/◌, ◌≤◌, ◌<◌}
use native.Mathlib.Omega.{arith}
use native.Mathlib.Numerals.{add-one}
use lib.Dec.{eqb, ltb, eqb→eq}
use lib.ListN.{length, take, drop, replicate, length-append, length-take}
use lib.Seq.{take-append_seam, drop-append_seam, drop-drop}
use borrow.Author.Tests.{eq-eqb, ne_eqb, lt-ltb, ltb-true, ltb-false}
use Rattle.definition.proofs.BaseLaws.{T_true, true_T}
use Rattle.definition.proofs.RowLaws.{every_kind}
use Rattle.definition.specs.Base.{Refusal, bad_line, short, Said, says, silence, tell, Answer, accepted, refused}
use Rattle.definition.specs.Tables.{plan_limit, record_size, kinds}
use Rattle.definition.specs.Pools.{Claim}
use Rattle.definition.specs.Request.{Request, resolve}
use Rattle.definition.specs.Calls.{State, pools_of, owners_of, sound, granting, Call, pool, hold, start, want, serve}
use Rattle.definition.proofs.StateLaws.{SoundFor, given_for, for_given, sound_for, for_sound, serve_given, started_sound, want_sound}
use Rattle.definition.specs.Plan.{grant, record_of_grant, Lent, lent, allocate_into}
use Rattle.definition.proofs.RunLaws.{record_length}
use Rattle.definition.proofs.PlanLaws.{tell_number, start_is}
use Rattle.definition.proofs.RefusedLaws.{Leaves, went, left, call_leaves}
use Rattle.lines.specs.Text as Text
use Rattle.lines.specs.Text.{sofar, accepts, next, refuse, set_up, opened, naming, answered, ask, take_line}
use Rattle.lines.proofs.WantLaws.{want_serves, want_record}
use Rattle.allocation.proofs.ServeLaws.{into_refused}
use Rattle.decide.specs.Outcome.{bases_in, after}
use Rattle.plan.specs.Steps.{Steady, index_for, recorded, put_from, turned}
use Rattle.plan.proofs.StepLaws.{is_clear_is}
use Rattle.plan.proofs.PlanLaws.{turned_in_place}
use Rattle.inplace.specs.declared.marks.Marks.{Marks}
use Rattle.door.specs.Applied.{apply_of}
use Rattle.text.specs.Sofar.{said_of, is_none, Named, sofar_of, at_first, head_of, asked_of, left_by, failed, told, added_to, wanted_to, advanced_to}
use Rattle.text.specs.Step.{Ready, results_size, behind, Stepped}
use Rattle.text.specs.declared.feed.sofar.Reason.{Reason}
use Rattle.text.specs.declared.feed.sofar.Sofar.{Sofar}
use Rattle.text.proofs.SofarLaws.{not_first}

-- the five numbers that were read of a state
abbrev pub marked : Marks → Said
marked m = says m.index m.number m.namespace m.owner m.detail

-- .. are those of a refusal, or of none
said_left : (m : Marks) (w : Said) → marked m ≡ w → (w.number ≡ 0 → w ≡ silence) → said_of (left_by m) ≡ w
said_left m w e quiet = go (eqb m.number 0) refl
  where
    go : (b : Bool) → eqb m.number 0 ≡ b → said_of (elim b [ true ↦ None | false ↦ Some (record { number = m.number; index = m.index; namespace = m.namespace; owner = m.owner; detail = m.detail }) ]) ≡ w
    go true q = sym (quiet (ap (λ (v : Said). v.number) (sym e) ∙ eqb→eq m.number 0 (true_T _ q)))
    go false q = e

-- an accepted call leaves five zeros
serve_quiet : (c : Call) (s : State) → (serve kinds c s).said.number ≡ 0 → (serve kinds c s).said ≡ silence
serve_quiet c s = go (call_leaves kinds c s)
  where
    go : {s' : State} → Leaves s s' → s'.said.number ≡ 0 → s'.said ≡ silence
    go (went z) e = z
    go (left x) e = absurd (tell_number 0 x e)

off : {A : Type 0} → ◌≡◌ {A = Bool} false true → A
off e = absurd (let z : ◌≡◌ {A = ℕ} 0 1 = cc in omega arith)

-- ---- a want finds sound tables: the first starts them

opened_sound : (t : Text.Sofar) → Ready t → SoundFor kinds (opened t)
unfolding opened
opened_sound t r = go (eqb t.wants 0) refl
  where
    go : (b : Bool) → eqb t.wants 0 ≡ b → SoundFor kinds (elim b [ true ↦ serve kinds start t.state | false ↦ t.state ])
    go true e = started_sound kinds t.state (given_for kinds t.state r.given)
    go false e = sound_for kinds t.state (r.wanted (λ z. off (sym e ∙ eq-eqb t.wants 0 z))).1

opened_quiet : (t : Text.Sofar) → Ready t → (opened t).said.number ≡ 0
unfolding opened
opened_quiet t r = go (eqb t.wants 0) refl
  where
    go : (b : Bool) → eqb t.wants 0 ≡ b → let s : State = elim b [ true ↦ serve kinds start t.state | false ↦ t.state ] in s.said.number ≡ 0
    go true e = ap (λ (s : State). s.said.number) (start_is kinds t.state r.given)
    go false e = eqb→eq t.state.said.number 0 (true_T _ (r.wanted (λ z. off (sym e ∙ eq-eqb t.wants 0 z))).0)

-- ---- a line that is accepted leaves them sound

pub either : {A : Type 0} (P : A → Type 0) (x y : A) (b : Bool) → (b ≡ true → P x) → (b ≡ false → P y) → P (elim b [ true ↦ x | false ↦ y ])
either P x y true f g = f refl
either P x y false f g = g refl

module _ (t : Text.Sofar) (ready : Ready t) where
  abbrev Keeps : Text.Sofar → Type 0
  Keeps u = accepts u.said ≡ true → Ready u

  set_up_keeps : (c : Call) → Keeps (set_up t c)
  unfolding set_up
  set_up_keeps c =
      either Keeps _ _ (eqb t.wants 0)
      (λ e a. record {
        given = for_given kinds (serve kinds c t.state) (serve_given kinds c t.state (given_for kinds t.state ready.given));
        wanted = λ f. absurd (f (eqb→eq t.wants 0 (true_T _ e)));
      }) (λ e a. off a)

  granted : (r : Request) → SoundFor kinds (allocate_into kinds r (opened t) (replicate record_size 0)).state
  granted r = subst (SoundFor kinds) (sym (want_serves r (opened t))) (want_sound kinds r (opened t) (λ k m. every_kind k) (opened_sound t ready))

  ask_keeps : (r : Request) → Keeps (ask t r)
  unfolding ask answered
  ask_keeps r =
      let p : Lent = allocate_into kinds r (opened t) (replicate record_size 0) in
      either Keeps _ _ (ltb t.wants plan_limit)
      (λ e. either Keeps _ _ (accepts p.state.said)
      (λ q a. record { given = for_given kinds p.state (λ k m. (granted r k m).given); wanted = λ f. (q, for_sound kinds p.state (granted r)) })
      (λ q a. off (sym q ∙ a)))
      (λ e a. off a)

  pub kept : (c : Option Call) → Keeps (take_line t c)
  kept none a = off a
  kept (some (pool u p)) a = set_up_keeps (pool u p) a
  kept (some (hold o h)) a = set_up_keeps (hold o h) a
  kept (some start) a = off a
  kept (some (want r)) a = ask_keeps r a

-- ---- a want is answered, or it is not

abbrev answered_if : Request → Bool → Option Request
answered_if r b = elim b [ true ↦ some r | false ↦ none ]

not_asked : (r : Request) (b : Bool) → answered_if r b ≡ none → b ≡ false
not_asked r true e = absurd (let z : ◌≡◌ {A = ℕ} 0 1 = cc in omega arith)
not_asked r false e = refl

is_asked : (r q : Request) (b : Bool) → answered_if r b ≡ some q → (b ≡ true) × (r ≡ q)
is_asked r q true e = (refl, some-injective r q e)
is_asked r q false e = absurd (let z : ◌≡◌ {A = ℕ} 0 1 = cc in omega arith)

nobody : {A : Type 0} (q : Request) → ◌≡◌ {A = Option Request} none (some q) → A
nobody q e = absurd (let z : ◌≡◌ {A = ℕ} 0 1 = cc in omega arith)

-- ---- the step, the next line starting at e, m read of the state that is left
module _ (t : Sofar) (s : State) (zs : List ℕ) (e : ℕ) (m : Marks) where
  abbrev t₀ : Text.Sofar
  t₀ = sofar_of t s zs

  abbrev front : List ℕ
  front = take (record_size * t.wants) zs

  fails : (x : Refusal) (n : ℕ) → says 0 n 0 0 0 ≡ tell 0 x → sofar_of (failed t e n) s zs ≡ refuse t₀ x
  fails x n q = λ i. sofar (add-one t.lines i) s t.wants front (q i)

  tells : (s' : State) → marked m ≡ s'.said → (s'.said.number ≡ 0 → s'.said ≡ silence) → sofar_of (told t e t.wants m) s' zs ≡ next t₀ s'
  tells s' q quiet = λ i. sofar (add-one t.lines i) s' t.wants front (said_left m s'.said q quiet i)

  adds : (k : Call) → apply_of (some k) s ≡ serve kinds k s → (s' : State) → s' ≡ apply_of (at_first t.wants k) s → marked m ≡ s'.said → sofar_of (added_to t e m) s' zs ≡ set_up t₀ k
  unfolding set_up
  adds k served s' is q = go (eqb t.wants 0) is
    where
      go : (b : Bool) → s' ≡ apply_of (elim b [ true ↦ some k | false ↦ none ]) s
          → sofar_of (elim b [ true ↦ told t e t.wants m | false ↦ failed t e 10 ]) s' zs ≡ elim b [ true ↦ next t₀ (serve kinds k s) | false ↦ refuse t₀ bad_line ]
      go true i = tells s' q (subst (λ (x : State). x.said.number ≡ 0 → x.said ≡ silence) (sym (i ∙ served)) (serve_quiet k s)) ∙ ap (next t₀) (i ∙ served)
      go false i = ap (λ (x : State). sofar_of (failed t e 10) x zs) i ∙ fails bad_line 10 refl

  over : (r : Request) → ltb t.wants plan_limit ≡ false → sofar_of (wanted_to t e m) s zs ≡ ask t₀ r
  unfolding ask
  over r a = rw (wanted_to, a, ask) (fails short 11 refl)

  comes_to : (c : Option Call) → asked_of t.wants c ≡ none → (s' : State) → s' ≡ apply_of (head_of t.wants c) s → marked m ≡ s'.said → sofar_of (advanced_to t c e m) s' zs ≡ take_line t₀ c
  comes_to none a s' is q = ap (λ (x : State). sofar_of (failed t e 10) x zs) is ∙ fails bad_line 10 refl
  comes_to (some (pool u p)) a s' is q = adds (pool u p) refl s' is q
  comes_to (some (hold o h)) a s' is q = adds (hold o h) refl s' is q
  comes_to (some start) a s' is q = ap (λ (x : State). sofar_of (failed t e 10) x zs) is ∙ fails bad_line 10 refl
  comes_to (some (want r)) a s' is q =
      let f : ltb t.wants plan_limit ≡ false = not_asked r (ltb t.wants plan_limit) a in
      let l : plan_limit ≤ t.wants = ltb-false t.wants plan_limit f in
      let z : s' ≡ s = is ∙ ap (λ (o : Option Call). apply_of o s) (not_first t.wants start (λ h. omega arith)) in
      ap (λ (x : State). sofar_of (wanted_to t e m) x zs) z ∙ over r f

  -- a line that asks nothing
  pub no_want : (c : Option Call) → asked_of t.wants c ≡ none → (s' : State) → s' ≡ apply_of (head_of t.wants c) s → marked m ≡ s'.said → Stepped c t s zs (advanced_to t c e m) s' zs
  no_want c a s' is q = (comes_to c a s' is q, refl)

-- one that is a want and is answered
module _ (t : Sofar) (s : State) (zs : List ℕ) (r : Request) (ready : Ready (sofar_of t s zs)) (few : ltb t.wants plan_limit ≡ true) (long : length zs ≡ results_size) where
  abbrev first : State
  first = opened (sofar_of t s zs)

  abbrev n : ℕ
  n = t.wants

  abbrev a : ℕ
  a = record_size * n

  -- the state that the code answers it on
  pub opens : (s₁ : State) → s₁ ≡ apply_of (at_first n start) s → s₁ ≡ first
  unfolding opened
  opens s₁ is = go (eqb n 0) is
    where
      go : (b : Bool) → s₁ ≡ apply_of (elim b [ true ↦ some start | false ↦ none ]) s → s₁ ≡ elim b [ true ↦ serve kinds start s | false ↦ s ]
      go true i = i
      go false i = i

  pub steady : (s₁ : State) → s₁ ≡ apply_of (at_first n start) s → Steady s₁
  steady s₁ is = subst Steady (sym (opens s₁ is)) (λ c. for_sound kinds first (opened_sound (sofar_of t s zs) ready))

  inside : a + record_size ≤ length zs
  inside = let l : n < plan_limit = ltb-true n plan_limit few in omega (arith, long)

  -- the answer, as the code makes it
  Made : Answer (List Claim) → Lent
  Made x = lent (naming (index_for (bases_in r.want x) n) (after first x)) (recorded n r x zs)

  made : turned n r first zs ≡ Made (resolve (pools_of first) (owners_of first) r)
  unfolding Made
  made = sym (turned_in_place n r first zs (is_clear_is first (opened_quiet (sofar_of t s zs) ready)) (lt-ltb n (length zs / record_size) (omega (arith, inside))) (for_sound kinds first (opened_sound (sofar_of t s zs) ready)))

  -- the records with one more
  module _ (cs : List Claim) where
    abbrev us : List ℕ
    us = record_of_grant (grant r cs)

    abbrev far : List ℕ
    far = drop (length us) (drop a zs)

    front_long : length (take a zs ++ us) ≡ record_size * (n + 1)
    front_long = length-append (take a zs) us ∙ omega (arith, length-take a zs, record_length (grant r cs), inside)

    flat : put_from a us zs ≡ (take a zs ++ us) ++ far
    flat = sym (append_assoc (take a zs) us far)

    more : take (record_size * (n + 1)) (put_from a us zs) ≡ take a zs ++ us
    more = ap₂ take (sym front_long) flat ∙ take-append_seam (take a zs ++ us) far

    rest_stays : drop (record_size * (n + 1)) (put_from a us zs) ≡ drop (record_size * (n + 1)) zs
    rest_stays =
        let k : a + length us ≡ record_size * (n + 1) = omega (arith, record_length (grant r cs)) in
        ap₂ drop (sym front_long) flat ∙ drop-append_seam (take a zs ++ us) far ∙ drop-drop (length us) a zs ∙ ap (λ (j : ℕ). drop j zs) k

  module _ (e : ℕ) (m : Marks) (s₂ : State) (zs₂ : List ℕ) (said : marked m ≡ s₂.said) where
    abbrev before : Text.Sofar
    before = sofar_of t s zs

    asks_into : ask before r ≡ answered before (allocate_into kinds r first (replicate record_size 0))
    unfolding ask
    asks_into = rw (few, ask)

    goes_to : (k : ℕ) → elim (eqb m.number 0) [ true ↦ n + 1 | false ↦ n ] ≡ k → wanted_to t e m ≡ told t e k m
    goes_to k q = rw (wanted_to, few) (ap (λ (j : ℕ). told t e j m) q)

    sound_first : sound kinds first ≡ true
    sound_first = T_true (sound kinds first) (for_sound kinds first (opened_sound before ready))

    took : (cs : List Claim) → resolve (pools_of first) (owners_of first) r ≡ accepted cs → lent s₂ zs₂ ≡ Made (accepted cs) → Stepped (some (want r)) t s zs (wanted_to t e m) s₂ zs₂
    unfolding Made answered
    took cs q is =
        let st : s₂ ≡ granting cs first = ap (λ (p : Lent). p.state) is in
        let rs : zs₂ ≡ put_from a (us cs) zs = ap (λ (p : Lent). p.results) is in
        let w : marked m ≡ (granting cs first).said = said ∙ ap (λ (x : State). x.said) st in
        let g : wanted_to t e m ≡ told t e (n + 1) m = goes_to (n + 1) (ap (λ (v : Said). elim (eqb v.number 0) [ true ↦ n + 1 | false ↦ n ]) w) in
        let came : ask before r ≡ sofar (suc t.lines) (granting cs first) (suc n) (take a zs ++ us cs) (granting cs first).said = asks_into ∙ ap (answered before) (want_record r first cs sound_first q) in (
          ap (λ (u : Sofar). sofar_of u s₂ zs₂) g
              ∙ (λ i. sofar (add-one t.lines i) (st i) (add-one n i) ((ap (take (record_size * (n + 1))) rs ∙ more cs) i) (said_left m silence w (λ q. refl) i)) ∙ sym came,
          ap (λ (u : Sofar). behind u zs₂) g ∙ ap (drop (record_size * (n + 1))) rs ∙ rest_stays cs ∙ ap (λ (u : Sofar). behind u zs) (sym g),
        )

    failed_by : (x : Refusal) → resolve (pools_of first) (owners_of first) r ≡ refused x → lent s₂ zs₂ ≡ Made (refused x) → Stepped (some (want r)) t s zs (wanted_to t e m) s₂ zs₂
    unfolding Made answered
    failed_by x q is =
        let u : State = naming n (after first (refused x)) in
        let st : s₂ ≡ u = ap (λ (p : Lent). p.state) is in
        let rs : zs₂ ≡ zs = ap (λ (p : Lent). p.results) is in
        let w : marked m ≡ u.said = said ∙ ap (λ (y : State). y.said) st in
        let z : eqb m.number 0 ≡ false = ne_eqb m.number 0 (λ h. tell_number 0 x (sym (ap (λ (v : Said). v.number) w) ∙ h)) in
        let g : wanted_to t e m ≡ told t e n m = goes_to n (ap (λ (b : Bool). elim b [ true ↦ n + 1 | false ↦ n ]) z) in
        let came : ask before r ≡ next before u =
        asks_into ∙ ap (answered before) (sym (into_refused kinds r first (replicate record_size 0) sound_first (omega arith) x q))
        ∙ ap (λ (b : Bool). elim b [ true ↦ sofar (suc t.lines) (after first (refused x)) (suc n) (take a zs ++ replicate record_size 0) (tell 0 x) | false ↦ next before u ]) (ne_eqb (tell 0 x).number 0 (tell_number 0 x)) in (
          ap (λ (v : Sofar). sofar_of v s₂ zs₂) g ∙ (λ i. sofar (add-one t.lines i) (st i) n (take a (rs i)) (said_left m u.said w (λ h. absurd (tell_number 0 x h)) i)) ∙ sym came,
          ap (behind (wanted_to t e m)) rs,
        )

    pub a_want : (s₁ : State) → s₁ ≡ apply_of (at_first n start) s → lent s₂ zs₂ ≡ turned n r s₁ zs → Stepped (some (want r)) t s zs (wanted_to t e m) s₂ zs₂
    a_want s₁ is did = go (resolve (pools_of first) (owners_of first) r) refl (did ∙ ap (λ (x : State). turned n r x zs) (opens s₁ is) ∙ made)
      where
        go : (x : Answer (List Claim)) → resolve (pools_of first) (owners_of first) r ≡ x → lent s₂ zs₂ ≡ Made (resolve (pools_of first) (owners_of first) r) → Stepped (some (want r)) t s zs (wanted_to t e m) s₂ zs₂
        go (accepted cs) q d = took cs q (d ∙ ap Made q)
        go (refused x) q d = failed_by x q (d ∙ ap Made q)

-- ---- by what the line says

pub advanced_at : (t : Sofar) (c : Option Call) (e : ℕ) (m : Marks) → (advanced_to t c e m).at ≡ e
advanced_at t none e m = refl
advanced_at t (some (pool u p)) e m = either (λ (u : Sofar). u.at ≡ e) _ _ (eqb t.wants 0) (λ q. refl) (λ q. refl)
advanced_at t (some (hold o h)) e m = either (λ (u : Sofar). u.at ≡ e) _ _ (eqb t.wants 0) (λ q. refl) (λ q. refl)
advanced_at t (some start) e m = refl
advanced_at t (some (want r)) e m = either (λ (u : Sofar). u.at ≡ e) _ _ (ltb t.wants plan_limit) (λ q. refl) (λ q. refl)

-- a refusal that is left has a number
left_named : (m : Marks) → accepts (said_of (left_by m)) ≡ is_none (left_by m)
left_named m = go (eqb m.number 0) refl
  where
    go : (b : Bool) → eqb m.number 0 ≡ b → let o : P.Option Reason = elim b [ true ↦ None | false ↦ Some (record { number = m.number; index = m.index; namespace = m.namespace; owner = m.owner; detail = m.detail }) ] in accepts (said_of o) ≡ is_none o
    go true q = refl
    go false q = q

pub advanced_named : (t : Sofar) (c : Option Call) (e : ℕ) (m : Marks) → Named (advanced_to t c e m)
advanced_named t none e m = refl
advanced_named t (some (pool u p)) e m = either Named _ _ (eqb t.wants 0) (λ q. left_named m) (λ q. refl)
advanced_named t (some (hold o h)) e m = either Named _ _ (eqb t.wants 0) (λ q. left_named m) (λ q. refl)
advanced_named t (some start) e m = refl
advanced_named t (some (want r)) e m = either Named _ _ (ltb t.wants plan_limit) (λ q. left_named m) (λ q. refl)

module _ (t : Sofar) (s : State) (zs : List ℕ) (ready : Ready (sofar_of t s zs)) (long : length zs ≡ results_size) (q : Request) where
  pub steady_at : (c : Option Call) → asked_of t.wants c ≡ some q → (s₁ : State) → s₁ ≡ apply_of (head_of t.wants c) s → Steady s₁
  steady_at none a s₁ is = nobody q a
  steady_at (some (pool u p)) a s₁ is = nobody q a
  steady_at (some (hold o h)) a s₁ is = nobody q a
  steady_at (some start) a s₁ is = nobody q a
  steady_at (some (want r)) a s₁ is = steady t s zs r ready (is_asked r q (ltb t.wants plan_limit) a).0 long s₁ is

  pub stepped_at : (c : Option Call) → asked_of t.wants c ≡ some q → (s₁ : State) → s₁ ≡ apply_of (head_of t.wants c) s → (e : ℕ) (m : Marks) (s₂ : State) (zs₂ : List ℕ) → marked m ≡ s₂.said
      → lent s₂ zs₂ ≡ turned t.wants q s₁ zs → Stepped c t s zs (advanced_to t c e m) s₂ zs₂
  stepped_at none a s₁ is e m s₂ zs₂ said did = nobody q a
  stepped_at (some (pool u p)) a s₁ is e m s₂ zs₂ said did = nobody q a
  stepped_at (some (hold o h)) a s₁ is e m s₂ zs₂ said did = nobody q a
  stepped_at (some start) a s₁ is e m s₂ zs₂ said did = nobody q a
  stepped_at (some (want r)) a s₁ is e m s₂ zs₂ said did =
      let (few, same) = is_asked r q (ltb t.wants plan_limit) a in
      a_want t s zs r ready few long e m s₂ zs₂ said s₁ is (did ∙ ap (λ x. turned t.wants x s₁ zs) (sym same))
