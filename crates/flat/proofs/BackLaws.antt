-- What is written back is the definition's `pinned`: an accepted plan's requests, pinned with its results, are the grants' pinned requests. Assumes nothing.
use mathlib.Core.Path.{◌≡◌, refl, sym, subst, ap, ◌∙◌}
use mathlib.Core.Bool.{Bool, true, false, not, ◌&&◌}
use mathlib.Core.List.{List, [], ◌∷◌, ◌++◌, map}
use Prim.Native.Nat.{ℕ, zero, suc, ◌+◌, ◌*◌, ◌/◌, ◌≤◌, ◌<◌, min}
use native.Mathlib.Omega.{arith}
use lib.Dec.{T, eqb, ltb, ltb→lt}
use borrow.Author.Tests.{eq-eqb, ne_eqb}
use lib.ListN.{length, get_or, drop, length-append, length-map, get_or-append}
use lib.Seq.{get_or-append-add}
use Rattle.definition.proofs.BaseLaws.{and_l, and_r, T_true}
use Rattle.definition.specs.Tables.{top, record_size, Kind, kinds}
use Rattle.definition.specs.Pools.{Claim}
use Rattle.definition.specs.Request.{Choice, Want, mmio_want, pio_want, input_want, host_want, msi_want, Request, good_request}
use Rattle.definition.specs.Calls.{State, pools_of, owners_of}
use Rattle.definition.specs.Plan.{Grant, grant, done, plan_run, base_at, record_of, record_of_grant, records, written, pin_choice, pin_want, pinned}
use Rattle.definition.proofs.RunLaws.{record_length, records_length}
use Rattle.definition.proofs.ResolveLaws.{Ground}
use Rattle.definition.proofs.RowLaws.{every_kind}
use Rattle.definition.proofs.StateLaws.{sound_ground, sound_for}
use Rattle.definition.proofs.PlanLaws.{plan_says, plan_requests}
use Rattle.flat.specs.Flat.{request_size, choice_at, fits, Form, unknown, mmio, pio, input, host, msi, form_at, readable, want_at, or_bad, request_in, number_at, request_at, requests_from, requests_of}
use Rattle.flat.proofs.FlatLaws.{request_reads, requests_read, requests_length}
use Rattle.flat.specs.Pin.{pin_choice_at, pin_form, granted_at, pin_choices, tells_of, own_record, pin_one, pin_from, pinned_numbers}
use Rattle.flat.proofs.PinLaws.{one_own, one_length}
use Rattle.flat.proofs.NarrowLaws.{Narrow, Good, AllGood, run_good}
use Rattle.flat.proofs.ChoiceLaws.{pin_code, pin_number, choice_other, choice_pinned, readable_one, readable_three, one_choice, three_choices, Single}

-- ---- one request: by its form

abbrev asks : ℕ → ℕ → Want → Request
asks q s w = record { requester = q; slot = s; want = w }

module _ (q s a b c x n y m z l : ℕ) (cs : List Claim) where
  abbrev reads : Form → ℕ → ℕ → ℕ → ℕ → ℕ → ℕ → Bool
  reads f x' n' y' m' z' l' = fits q && (fits s && readable f a b c x' n' y' m' z' l')

  abbrev formed : Form → ℕ → ℕ → ℕ → ℕ → ℕ → ℕ → Request
  formed f x' n' y' m' z' l' = or_bad (reads f x' n' y' m' z' l') (asks q s (want_at f a b c (choice_at x' n') (choice_at y' m') (choice_at z' l')))

  abbrev wanted : Form → Want
  wanted f = want_at f a b c (choice_at x n) (choice_at y m) (choice_at z l)

  form_one : (f : Form) (g : ℕ) → Single f → T (reads f x n y m z l) → want_at f a b c (pin_choice (choice_at x n) g) (choice_at y m) (choice_at z l) ≡ pin_want (wanted f) cs
      → formed f (pin_code x) (pin_number x n g) y m z l ≡ pinned (grant (asks q s (wanted f)) cs)
  unfolding pinned
  form_one f g one t w =
      let e : reads f (pin_code x) (pin_number x n g) y m z l ≡ true = ap (λ (v : Bool). fits q && (fits s && v)) (readable_one f a b c x n (pin_number x n g) y m z l one) ∙ T_true (reads f x n y m z l) t in
      let p : Request = asks q s (want_at f a b c (choice_at (pin_code x) (pin_number x n g)) (choice_at y m) (choice_at z l)) in
      ap (λ (v : Bool). or_bad v p) e ∙ ap (λ (d : Choice). asks q s (want_at f a b c d (choice_at y m) (choice_at z l))) (choice_pinned x n g) ∙ ap (asks q s) w

  form_three : (g h k : ℕ) → g ≤ top 32 → h ≤ top 32 → k ≤ top 32 → T (reads msi x n y m z l) → g ≡ base_at 0 cs → h ≡ base_at 1 cs → k ≡ base_at 2 cs
      → formed msi (pin_code x) (pin_number x n g) (pin_code y) (pin_number y m h) (pin_code z) (pin_number z l k) ≡ pinned (grant (asks q s (wanted msi)) cs)
  unfolding pinned want_at pin_want
  form_three g h k lg lh lk t eg eh ek =
      let e : reads msi (pin_code x) (pin_number x n g) (pin_code y) (pin_number y m h) (pin_code z) (pin_number z l k) ≡ true =
      ap (λ (v : Bool). fits q && (fits s && v)) (readable_three a b c x n y m z l g h k lg lh lk) ∙ T_true (reads msi x n y m z l) t in
      let p : Request = asks q s (msi_want a b c (choice_at (pin_code x) (pin_number x n g)) (choice_at (pin_code y) (pin_number y m h)) (choice_at (pin_code z) (pin_number z l k))) in
      ap (λ (v : Bool). or_bad v p) e ∙ (λ t. asks q s (msi_want a b c (choice_pinned x n g t) (choice_pinned y m h t) (choice_pinned z l k t)))
      ∙ (λ t. asks q s (msi_want a b c (pin_choice (choice_at x n) (eg t)) (pin_choice (choice_at y m) (eh t)) (pin_choice (choice_at z l) (ek t))))

module _ (i : ℕ) (rq : List ℕ) (G : ℕ → ℕ) (cs : List Claim) (long : request_size * i + request_size ≤ length rq) where
  abbrev N : ℕ → ℕ
  N j = number_at rq i j

  abbrev asked : Form → Request
  asked f = asks (N 1) (N 2) (want_at f (N 3) (N 4) (N 5) (choice_at (N 6) (N 7)) (choice_at (N 8) (N 9)) (choice_at (N 10) (N 11)))

  abbrev can_read : Form → Bool
  can_read f = fits (N 1) && (fits (N 2) && readable f (N 3) (N 4) (N 5) (N 6) (N 7) (N 8) (N 9) (N 10) (N 11))

  one_formed : (f : Form) (g : ℕ) → Single f → form_at (N 0) ≡ f → T (can_read f)
      → want_at f (N 3) (N 4) (N 5) (pin_choice (choice_at (N 6) (N 7)) g) (choice_at (N 8) (N 9)) (choice_at (N 10) (N 11)) ≡ pin_want (asked f).want cs
      → request_at (pin_choice_at (request_size * i + 6) g rq) i ≡ pinned (grant (asked f) cs)
  unfolding request_in
  one_formed f g one e t w =
      one_choice i g rq long
      ∙ ap (λ (F : Form). formed (N 1) (N 2) (N 3) (N 4) (N 5) (N 6) (N 7) (N 8) (N 9) (N 10) (N 11) cs F (pin_code (N 6)) (pin_number (N 6) (N 7) g) (N 8) (N 9) (N 10) (N 11)) e
      ∙ form_one (N 1) (N 2) (N 3) (N 4) (N 5) (N 6) (N 7) (N 8) (N 9) (N 10) (N 11) cs f g one t w

  by_form : (f : Form) → form_at (N 0) ≡ f → T (can_read f) → Narrow (asked f).want cs → ((j : ℕ) → j < record_size → G j ≡ get_or (record_of_grant (grant (asked f) cs)) j 0)
      → request_at (pin_form f G (request_size * i) rq) i ≡ pinned (grant (asked f) cs)
  unfolding readable want_at pin_want record_of_grant request_in
  by_form unknown e t low gr = absurd (let u : T false = search (and_r) in u)
  by_form mmio e t low gr = one_formed mmio (G 3) tt e t (ap (λ (v : ℕ). mmio_want (N 3) (N 4) (pin_choice (choice_at (N 6) (N 7)) v)) (gr 3 (omega arith)))
  by_form pio e t low gr = one_formed pio (G 3) tt e t (ap (λ (v : ℕ). pio_want (N 3) (N 4) (pin_choice (choice_at (N 6) (N 7)) v)) (gr 3 (omega arith)))
  by_form input e t low gr = one_formed input (G 4) tt e t (ap (λ (v : ℕ). input_want (N 3) (N 4) (N 5) (pin_choice (choice_at (N 6) (N 7)) v)) (gr 4 (omega arith)))
  by_form host e t low gr = one_formed host (G 3) tt e t (ap (λ (v : ℕ). host_want (pin_choice (choice_at (N 6) (N 7)) v)) (gr 3 (omega arith)))
  by_form msi e t low gr =
      three_choices i (G 5) (G 6) (G 7) rq long
      ∙ ap
      (λ (F : Form). formed (N 1) (N 2) (N 3) (N 4) (N 5) (N 6) (N 7) (N 8) (N 9) (N 10) (N 11) cs F (pin_code (N 6)) (pin_number (N 6) (N 7) (G 5)) (pin_code (N 8)) (pin_number (N 8) (N 9) (G 6)) (pin_code (N 10)) (pin_number (N 10) (N 11) (G 7)))
      e
      ∙ form_three (N 1) (N 2) (N 3) (N 4) (N 5) (N 6) (N 7) (N 8) (N 9) (N 10) (N 11) cs (G 5) (G 6) (G 7) (omega (arith, low.0, gr 5 (omega arith))) (omega (arith, low.1, gr 6 (omega arith))) (omega (arith, low.2, gr 7 (omega arith))) t (gr 5 (omega arith)) (gr 6 (omega arith)) (gr 7 (omega arith))

-- a good request could be read
good_reads : (b : Bool) (r : Request) → T (good_request (or_bad b r)) → T b
unfolding good_request
good_reads true r t = tt
good_reads false r t = t

-- a readable request's record begins with its kind's number
kind_told : (k q s a b c x n y m z l : ℕ) (cs : List Claim) → T (readable (form_at k) a b c x n y m z l)
    → get_or (record_of q s (want_at (form_at k) a b c (choice_at x n) (choice_at y m) (choice_at z l)) cs) 0 0 ≡ k
unfolding readable want_at
kind_told zero q s a b c x n y m z l cs t = absurd t
kind_told (suc zero) q s a b c x n y m z l cs t = refl
kind_told (suc (suc zero)) q s a b c x n y m z l cs t = refl
kind_told (suc (suc (suc zero))) q s a b c x n y m z l cs t = refl
kind_told (suc (suc (suc (suc zero)))) q s a b c x n y m z l cs t = refl
kind_told (suc (suc (suc (suc (suc zero))))) q s a b c x n y m z l cs t = refl
kind_told (suc (suc (suc (suc (suc (suc k)))))) q s a b c x n y m z l cs t = absurd t

-- .. then its requester and its slot
requester_told : (q s : ℕ) (w : Want) (cs : List Claim) → get_or (record_of q s w cs) 1 0 ≡ q
requester_told q s (mmio_want n a c) cs = refl
requester_told q s (pio_want n a c) cs = refl
requester_told q s (input_want k t h c) cs = refl
requester_told q s (host_want c) cs = refl
requester_told q s (msi_want k i n d e l) cs = refl

slot_told : (q s : ℕ) (w : Want) (cs : List Claim) → get_or (record_of q s w cs) 2 0 ≡ s
slot_told q s (mmio_want n a c) cs = refl
slot_told q s (pio_want n a c) cs = refl
slot_told q s (input_want k t h c) cs = refl
slot_told q s (host_want c) cs = refl
slot_told q s (msi_want k i n d e l) cs = refl

-- somebody asks
good_somebody : (r : Request) → T (good_request r) → eqb r.requester 0 ≡ false
unfolding good_request
good_somebody r t = let l : T (ltb 0 r.requester) = and_l (ltb 0 r.requester) _ t in ne_eqb r.requester 0 (λ e. omega (arith, ltb→lt 0 r.requester l))

-- the i-th request, and a record that holds the numbers of its grant
module _ (res : List ℕ) (i : ℕ) (rq : List ℕ) (g : Grant) (long : request_size * i + request_size ≤ length rq) (e : request_at rq i ≡ g.request) (good : Good g)
    (gr : (j : ℕ) → j < record_size → granted_at res i j ≡ get_or (record_of_grant g) j 0) where
  abbrev F : Form
  F = form_at (number_at rq i 0)

  abbrev R : Request
  R = asked i rq (granted_at res i) g.rows long F

  abbrev reads_it : Bool
  reads_it = can_read i rq (granted_at res i) g.rows long F

  could_read : T reads_it
  unfolding request_at request_in
  could_read = good_reads reads_it R (subst (λ (v : Request). T (good_request v)) (sym e) good.0)

  same : g.request ≡ R
  unfolding request_at request_in
  same = let is : request_at rq i ≡ R = ap (λ (v : Bool). or_bad v R) (T_true reads_it could_read) in sym e ∙ is

  -- it is the request's own ..
  own_record_is : own_record res i rq ≡ true
  unfolding own_record tells_of record_of_grant
  own_record_is =
      let N : ℕ → ℕ = λ j. number_at rq i j in
      let t : T (readable F (N 3) (N 4) (N 5) (N 6) (N 7) (N 8) (N 9) (N 10) (N 11)) = and_r (fits (N 2)) _ (and_r (fits (N 1)) _ could_read) in
      let some : eqb (request_at rq i).requester 0 ≡ false = ap (λ (v : Request). eqb v.requester 0) e ∙ good_somebody g.request good.0 in
      let k : granted_at res i 0 ≡ N 0 = gr 0 (omega arith) ∙ ap (λ (v : Request). get_or (record_of_grant (grant v g.rows)) 0 0) same ∙ kind_told (N 0) (N 1) (N 2) (N 3) (N 4) (N 5) (N 6) (N 7) (N 8) (N 9) (N 10) (N 11) g.rows t in
      let q : granted_at res i 1 ≡ (request_at rq i).requester = gr 1 (omega arith) ∙ requester_told g.request.requester g.request.slot g.request.want g.rows ∙ ap (λ (v : Request). v.requester) (sym e) in
      let s : granted_at res i 2 ≡ (request_at rq i).slot = gr 2 (omega arith) ∙ slot_told g.request.requester g.request.slot g.request.want g.rows ∙ ap (λ (v : Request). v.slot) (sym e) in
      λ t. not (some t) && (eq-eqb _ _ k t && (eq-eqb _ _ q t && eq-eqb _ _ s t))

  -- .. so the request is pinned at what was granted
  choices_pinned : request_at (pin_choices res i rq) i ≡ pinned g
  unfolding pin_choices
  choices_pinned =
      by_form i rq (granted_at res i) g.rows long F refl could_read (subst (λ (v : Request). Narrow v.want g.rows) same good.1) (λ j s. gr j s ∙ ap (λ (v : Request). get_or (record_of_grant (grant v g.rows)) j 0) same)
      ∙ ap (λ (v : Request). pinned (grant v g.rows)) (sym same)

  pub one_pinned : request_at (pin_one res i rq) i ≡ pinned g
  one_pinned = ap (λ (v : List ℕ). request_at v i) (sym (one_own res i rq own_record_is)) ∙ choices_pinned

-- ---- the list

-- the other requests stay
form_other : (f : Form) (G : ℕ → ℕ) (i : ℕ) (rq : List ℕ) (h j : ℕ) → j < request_size → (h ≡ i → ⊥) → number_at (pin_form f G (request_size * i) rq) h j ≡ number_at rq h j
form_other f G i rq h j s u = go f
  where
    one : (q g : ℕ) (xs : List ℕ) → q ≤ 10 → number_at (pin_choice_at (request_size * i + q) g xs) h j ≡ number_at xs h j
    one q g xs l = choice_other (request_size * i + q) g xs (request_size * h + j) (λ e. u (omega arith)) (λ e. u (omega arith))

    go : (f' : Form) → number_at (pin_form f' G (request_size * i) rq) h j ≡ number_at rq h j
    go unknown = refl
    go mmio = one 6 (G 3) rq (omega arith)
    go pio = one 6 (G 3) rq (omega arith)
    go input = one 6 (G 4) rq (omega arith)
    go host = one 6 (G 3) rq (omega arith)
    go msi =
        let p : ℕ = request_size * i in
        one 10 (G 7) (pin_choice_at (p + 8) (G 6) (pin_choice_at (p + 6) (G 5) rq)) (omega arith) ∙ one 8 (G 6) (pin_choice_at (p + 6) (G 5) rq) (omega arith) ∙ one 6 (G 5) rq (omega arith)

one_other : (res : List ℕ) (i : ℕ) (rq : List ℕ) (h j : ℕ) → j < request_size → (h ≡ i → ⊥) → number_at (pin_one res i rq) h j ≡ number_at rq h j
unfolding pin_one pin_choices
one_other res i rq h j s u = go (own_record res i rq)
  where
    go : (b : Bool) → number_at (elim b as (λ _. List ℕ) [ true ↦ pin_choices res i rq | false ↦ rq ]) h j ≡ number_at rq h j
    go true = form_other (form_at (number_at rq i 0)) (granted_at res i) i rq h j s u
    go false = refl

from_before : (res : List ℕ) (i k : ℕ) (rq : List ℕ) (h j : ℕ) → j < request_size → h < i → number_at (pin_from res i k rq) h j ≡ number_at rq h j
unfolding pin_from
from_before res i zero rq h j s l = refl
from_before res i (suc k) rq h j s l = from_before res (suc i) k (pin_one res i rq) h j s (omega arith) ∙ one_other res i rq h j s (λ e. omega arith)

pub from_length : (res : List ℕ) (i k : ℕ) (rq : List ℕ) → length (pin_from res i k rq) ≡ length rq
unfolding pin_from
from_length res i zero rq = refl
from_length res i (suc k) rq = from_length res (suc i) k (pin_one res i rq) ∙ one_length res i rq

-- as many numbers as before
pub pinned_length : (rq res : List ℕ) → length (pinned_numbers rq res) ≡ length rq
unfolding pinned_numbers
pinned_length rq res = from_length res 0 (min (length rq / request_size) (length res / record_size)) rq

abbrev requests : List Grant → List Request
requests gs = map (λ g. g.request) gs

from_pinned : (res : List ℕ) (gs : List Grant) (i : ℕ) (rq : List ℕ) → request_size * (i + length gs) ≤ length rq → requests gs ≡ requests_from rq i (length gs) → AllGood gs
    → ((h : ℕ) → h < record_size * length gs → get_or res (record_size * i + h) 0 ≡ get_or (records gs) h 0)
    → requests_from (pin_from res i (length gs) rq) i (length gs) ≡ map pinned gs
unfolding requests_from pin_from records
from_pinned res [] i rq l e good gr = refl
from_pinned res (g ∷ gs) i rq l e good gr =
    let rq₁ : List ℕ = pin_one res i rq in
    let n₁ : length rq₁ ≡ length rq = one_length res i rq in
    let e₀ : request_at rq i ≡ g.request = cc in
    let e₁ : requests gs ≡ requests_from rq (suc i) (length gs) = cc in
    let n : length (record_of_grant g) ≡ record_size = record_length g in
    let here : request_at rq₁ i ≡ pinned g = one_pinned res i rq g (omega arith) e₀ good.0 (λ j s. gr j (omega arith) ∙ get_or-append (record_of_grant g) (records gs) 0 j (omega arith)) in
    let stays : request_at (pin_from res (suc i) (length gs) rq₁) i ≡ request_at rq₁ i = request_reads (pin_from res (suc i) (length gs) rq₁) rq₁ i i (λ j s. from_before res (suc i) (length gs) rq₁ i j s (omega arith)) in
    let same : requests_from rq₁ (suc i) (length gs) ≡ requests_from rq (suc i) (length gs) = requests_read rq₁ rq (suc i) (suc i) (length gs) (λ h m j s. one_other res i rq (suc i + h) j s (λ z. omega arith)) in
    let more : requests_from (pin_from res (suc i) (length gs) rq₁) (suc i) (length gs) ≡ map pinned gs =
    from_pinned res gs (suc i) rq₁ (omega arith) (e₁ ∙ sym same) good.1 (λ h s. moved h ∙ gr (record_size + h) (omega arith) ∙ behind n h) in
    λ t. (stays ∙ here) t ∷ more t
  where
    moved : (h : ℕ) → get_or res (record_size * suc i + h) 0 ≡ get_or res (record_size * i + (record_size + h)) 0
    moved h = let z : record_size * suc i + h ≡ record_size * i + (record_size + h) = omega arith in ap (λ (k : ℕ). get_or res k 0) z

    behind : length (record_of_grant g) ≡ record_size → (h : ℕ) → get_or (record_of_grant g ++ records gs) (record_size + h) 0 ≡ get_or (records gs) h 0
    behind n h = ap (λ (k : ℕ). get_or (record_of_grant g ++ records gs) (k + h) 0) (sym n) ∙ get_or-append-add (record_of_grant g) (records gs) h 0

-- as many grants as requests
pub grants_length : (rq : List ℕ) (s : State) (out : List ℕ) (gs : List Grant) → plan_run (requests_of rq) s out ≡ done gs → length gs ≡ length rq / request_size
grants_length rq s out gs e = sym (length-map gs (λ g. g.request)) ∙ ap length (plan_requests (requests_of rq) s out gs e) ∙ requests_length rq

-- WRITTEN BACK IS WHAT WAS GRANTED: an accepted plan's requests, pinned with the results that it wrote, are the definition's pinned requests
pub requests_pinned : (rq : List ℕ) (s : State) (out : List ℕ) (gs : List Grant) → plan_run (requests_of rq) s out ≡ done gs
    → requests_of (pinned_numbers rq (written (records gs) out)) ≡ map pinned gs
unfolding requests_of pinned_numbers
requests_pinned rq s out gs e =
    let res : List ℕ = written (records gs) out in
    let n : length gs ≡ length rq / request_size = grants_length rq s out gs e in
    let m : length (records gs) ≡ record_size * length gs = records_length gs in
    let r : length res ≡ length (records gs) + length (drop (length (records gs)) out) = length-append (records gs) (drop (length (records gs)) out) in
    let k : min (length rq / request_size) (length res / record_size) ≡ length gs = omega arith in
    let few : length (pinned_numbers rq res) / request_size ≡ length gs = ap (λ (v : ℕ). v / request_size) (pinned_length rq res) ∙ sym n in
    let is : requests gs ≡ requests_from rq 0 (length gs) = plan_requests (requests_of rq) s out gs e ∙ ap (requests_from rq 0) (sym n) in
    let d = plan_says (requests_of rq) s out gs e in
    let ground : (k : Kind) → Ground (pools_of s) (owners_of s) k = λ k. sound_ground s k (sound_for kinds s d.judged k (every_kind k)) in
    ap (requests_from (pinned_numbers rq res) 0) few ∙ ap (λ (v : ℕ). requests_from (pin_from res 0 v rq) 0 (length gs)) k
    ∙ from_pinned res gs 0 rq (omega arith) is (run_good (pools_of s) (λ k. (ground k).0) (requests_of rq) (owners_of s) gs (λ k. (ground k).1) d.ran) (λ h l. first h ∙ get_or-append (records gs) (drop (length (records gs)) out) 0 h (omega arith))
  where
    first : (h : ℕ) → get_or (written (records gs) out) (record_size * 0 + h) 0 ≡ get_or (written (records gs) out) h 0
    first h = let z : record_size * 0 + h ≡ h = omega arith in ap (λ (k : ℕ). get_or (written (records gs) out) k 0) z
