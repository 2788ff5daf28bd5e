-- The requests made from registers: each is a good one, of a size that is a power of two within its kind; slots rise. Assumes nothing.
use Rattle.std.specs.Prelude.{◌≡◌, refl, ◌⊎◌, ◌↔◌, Bool, true, false, not, ◌&&◌, ℕ, zero, suc, ◌+◌, ◌-◌, ◌*◌, ◌/◌, ◌%◌, ◌^◌, ◌≤◌, ◌<◌, ltb, eqb, length}
use Rattle.std.proofs.Common.{sym, subst, ◌∙◌, inl, inr, arith, le_of_suc-le-suc, lt_of_not-le, div-add-mod', leb→le, ltb→lt, eqb→eq, pow_pos, pow_mono}
use Rattle.std.proofs.Math.Path.{ap}
use mathlib.Core.List.Memᴰ
use mathlib.Core.List.{List, [], ◌∷◌, ◌++◌, map, append-nil, Memᴰ}
use Rattle.std.proofs.Math.Option.{Option, none, some}
use Rattle.std.proofs.Math.Arith.{digits_mod}
use Rattle.std.specs.Int.Count.{ones_in}
use Rattle.std.proofs.Math.Dec.{T, leb, nleb→lt, le→leb, lt→ltb}
use Rattle.std.proofs.Math.Pow.{pow-lt}
use Rattle.definition.specs.Base.{all_of, pairs_of, Refusal, bad_input, short, bad_mask, ports_too_large, Answer, accepted, refused, require, ◌then◌}
use Rattle.definition.proofs.BaseLaws.{and_l, and_r, and_i, eq→eqb, all_from}
use Rattle.definition.specs.Tables.{top}
use Rattle.definition.specs.Request.{auto, Want, mmio_want, pio_want, Request, good_choice, one_bit, good_want, good_request}
use Rattle.definition.specs.Registers.{cleared, Register, nothing, ports, memory, pair, unknown, register_of, memory_mask, pair_mask, upper_ones, port_mask, good_mask, size_of, memory_want, ports_want, asked, ◌also◌, asked_at, takes_next, asked_from, registers}
use Rattle.definition.proofs.RequestLaws.{not_accepted, then_accepted, require_accepted, required, ones_zero}
use Rattle.definition.proofs.MaskLaws.{good_mask_is, mask_good}

-- ---- sizes

-- a power of two has one bit set
pub power_one : (width k : ℕ) → k < width → ones_in width (2 ^ k) ≡ 1
unfolding ones_in
power_one zero k l = absurd (omega arith)
power_one (suc w) zero l = rw (ones_zero w)
power_one (suc w) (suc k) l =
    let even : 2 ^ suc k % 2 ≡ 0 = omega arith in
    let half : 2 ^ suc k / 2 ≡ 2 ^ k = omega arith in
    rw (even, half, power_one w k (omega arith))

-- bits that are clear in a mask are below its lowest one
clear_le : (j k m n : ℕ) → m % 2 ^ j ≡ 0 → n % 2 ^ j ≡ 0 → m + 2 ^ k ≡ n → j ≤ k
clear_le j k m n e f s = le_of_suc-le-suc (lt_of_not-le λ g.
    let l : 2 ^ k < 2 ^ j = pow-lt g in
    let whole : m / 2 ^ j * 2 ^ j + 2 ^ k ≡ n = omega (arith, div-add-mod' m (2 ^ j)) in
    let rest : 2 ^ k ≡ n % 2 ^ j = sym (digits_mod (m / 2 ^ j) l) ∙ ap (λ x. x % 2 ^ j) whole in
    omega (arith, pow_pos k))

-- a size that is read is a power of two, and no less than the bits cleared
size_says : (width j m s : ℕ) → m < 2 ^ width → m % 2 ^ j ≡ 0 → 2 ^ width % 2 ^ j ≡ 0 → size_of width m ≡ accepted s → (k : ℕ) × (j ≤ k) × (k < width) × (2 ^ k ≡ s)
unfolding size_of
size_says width j m s h c d e =
    let (t, e₁) = require_accepted (good_mask width m) bad_mask (accepted (2 ^ width - m)) e in
    let (k, l, q) = good_mask_is width m h t in
    let p : 2 ^ k < 2 ^ width = pow-lt l in
    let same : 2 ^ width - m ≡ s = cc in
    (k, clear_le j k m (2 ^ width) c d (omega arith), l, omega arith)

-- .. and the size of a mask is read
pub size_reads : (width k : ℕ) → k < width → size_of width (2 ^ width - 2 ^ k) ≡ accepted (2 ^ k)
unfolding size_of
size_reads width k l =
    let p : 2 ^ k < 2 ^ width = pow-lt l in
    let e : 2 ^ width - (2 ^ width - 2 ^ k) ≡ 2 ^ k = omega arith in
    required (good_mask width (2 ^ width - 2 ^ k)) bad_mask _ (mask_good width (2 ^ width - 2 ^ k) (k, l, refl)) ∙ ap accepted e

-- ---- what a register may ask for: a power of two, as size and as alignment, from 16 to 2 ^ 63 of memory, from 4 to 2 ^ 15 ports
pub data Made : Want → Type 0 where
  memory_made : (k : ℕ) → 4 ≤ k → k ≤ 63 → Made (mmio_want (2 ^ k) (2 ^ k) auto)
  ports_made : (k : ℕ) → 2 ≤ k → k ≤ 15 → Made (pio_want (2 ^ k) (2 ^ k) auto)

power_good : (width k : ℕ) → k < width → T (ltb 0 (2 ^ k) && (leb (2 ^ k) (top width) && (leb (2 ^ k) (top width) && (one_bit width (2 ^ k) && true))))
unfolding one_bit
power_good width k l =
    let p : 2 ^ k < 2 ^ width = pow-lt l in
    let low : T (ltb 0 (2 ^ k)) = lt→ltb 0 (2 ^ k) (pow_pos k) in
    let high : T (leb (2 ^ k) (top width)) = le→leb (2 ^ k) (top width) (omega arith) in
    let one : T (eqb (ones_in width (2 ^ k)) 1) = eq→eqb (ones_in width (2 ^ k)) 1 (power_one width k l) in
    search and_i depth 8

-- that is never 2
pub made_good : {want : Want} → Made want → T (good_want want)
unfolding good_want good_choice
made_good (memory_made k low high) = power_good 64 k (omega arith)
made_good (ports_made k low high) = power_good 16 k (omega arith)

-- ---- one register asks for nothing, or for one thing

pub data AskedSays : List Want → Type 0 where
  nothing_asked : AskedSays []
  one_asked : {want : Want} → Made want → AskedSays (want ∷ [])

memory_says : (width m : ℕ) (ws : List Want) → width ≤ 64 → m < 2 ^ width → m % 2 ^ 4 ≡ 0 → 2 ^ width % 2 ^ 4 ≡ 0 → (size_of width m then memory_want) ≡ accepted ws → AskedSays ws
memory_says width m ws l h c d e =
    let (s, e₁, e₂) = then_accepted (size_of width m) memory_want e in
    let (k, low, high, q) = size_says width 4 m s h c d e₁ in
    let z : mmio_want (2 ^ k) (2 ^ k) auto ∷ [] ≡ ws = cc in
    subst AskedSays z (one_asked (memory_made k low (omega arith)))

ports_says : (m : ℕ) (ws : List Want) → m < 2 ^ 32 → m % 2 ^ 2 ≡ 0 → (size_of 32 m then ports_want) ≡ accepted ws → AskedSays ws
ports_says m ws h c e =
    let (s, e₁, e₂) = then_accepted (size_of 32 m) ports_want e in
    let (k, low, high, q) = size_says 32 2 m s h c refl e₁ in
    let (t, e₃) = require_accepted (leb s (top 16)) ports_too_large (accepted (pio_want s s auto ∷ [])) e₂ in
    let z : pio_want (2 ^ k) (2 ^ k) auto ∷ [] ≡ ws = cc in
    let few : 2 ^ k < 2 ^ 16 = omega (arith, leb→le s (top 16) t) in
    let small : k ≤ 15 = le_of_suc-le-suc (lt_of_not-le {n = 16} λ g. let p : 2 ^ 16 ≤ 2 ^ k = pow_mono {i = 16} g in omega arith) in
    subst AskedSays z (one_asked (ports_made k low small))

port_mask_fits : (w : ℕ) → w < 2 ^ 32 → (port_mask w < 2 ^ 32) × (port_mask w % 2 ^ 2 ≡ 0)
unfolding upper_ones
port_mask_fits w h = go (eqb (w / 2 ^ 16) 0) (eqb→eq (w / 2 ^ 16) 0)
  where
    go : (b : Bool) → (T b → w / 2 ^ 16 ≡ 0) → (cleared 2 w + (elim b [ true ↦ 2 ^ 32 - 2 ^ 16 | false ↦ 0 ]) < 2 ^ 32) × ((cleared 2 w + (elim b [ true ↦ 2 ^ 32 - 2 ^ 16 | false ↦ 0 ])) % 2 ^ 2 ≡ 0)
    go true f = let z : w / 2 ^ 16 ≡ 0 = f tt in (omega arith, omega arith)
    go false f = (omega arith, omega arith)

-- words of 32 bits; a high half, where there is one
abbrev pub Words : List ℕ → Type 0
Words ws = T (all_of (λ w. leb w (top 32)) ws)

abbrev pub High : Option ℕ → Type 0
High none = T true
High (some w) = w ≤ top 32

-- what one register asks for, if it is not refused
pub asked_says : (w : ℕ) (next : Option ℕ) (ws : List Want) → w ≤ top 32 → High next → asked (register_of w) w next ≡ accepted ws → AskedSays ws
unfolding asked
asked_says w next ws h hn e = go (register_of w) next hn e
  where
    go : (r : Register) (next : Option ℕ) → High next → asked r w next ≡ accepted ws → AskedSays ws
    go nothing next hn e = let z : [] ≡ ws = cc in subst AskedSays z nothing_asked
    go ports next hn e = let (l, c) = port_mask_fits w (omega arith) in ports_says (port_mask w) ws l c e
    go memory next hn e = memory_says 32 (memory_mask w) ws (omega arith) (omega arith) (omega arith) refl e
    go pair none hn e = absurd (not_accepted e)
    go pair (some high) hn e = memory_says 64 (pair_mask w high) ws (omega arith) (omega arith) (omega arith) refl e
    go unknown next hn e = absurd (not_accepted e)

-- ---- all of them

abbrev pub asks : ℕ → ℕ → Want → Request
asks q i want = record { requester = q; slot = i; want = want }

-- requests of q as registers make them, in slots from i on and below n, each above the one before it
pub data Rising (q n : ℕ) : ℕ → List Request → Type 0 where
  stop : {i : ℕ} → Rising q n i []
  rise : {i : ℕ} (s : ℕ) {want : Want} {rs : List Request} → i ≤ s → s < n → Made want → Rising q n (suc s) rs → Rising q n i (asks q s want ∷ rs)

rising_from : {q i j n : ℕ} {rs : List Request} → i ≤ j → Rising q n j rs → Rising q n i rs
rising_from {i} l stop = stop
rising_from {i} l (rise s low high m rest) = rise {i = i} s (omega arith) high m rest

also_accepted : {A : Type 0} (a b : Answer (List A)) (zs : List A) → a also b ≡ accepted zs → (xs : List A) × (ys : List A) × (a ≡ accepted xs) × (b ≡ accepted ys) × (xs ++ ys ≡ zs)
also_accepted (refused x) b zs e = absurd (not_accepted e)
also_accepted (accepted xs) (refused y) zs e = absurd (not_accepted e)
also_accepted (accepted xs) (accepted ys) zs e = (xs, ys, refl, refl, cc)

-- one register's requests, in front of those of later ones
at_rising : (q i n w : ℕ) (next : Option ℕ) (xs ys : List Request) → i < n → w ≤ top 32 → High next → asked_at q i w next ≡ accepted xs → Rising q n (suc i) ys → Rising q n i (xs ++ ys)
unfolding asked_at
at_rising q i n w next xs ys l h hn e r =
    let (ws, e₁, e₂) = then_accepted (asked (register_of w) w next) (λ ws. accepted (map (asks q i) ws)) e in
    let z : map (asks q i) ws ≡ xs = cc in
    subst (λ zs. Rising q n i (zs ++ ys)) z (go ws (asked_says w next ws h hn e₁))
  where
    go : (ws : List Want) → AskedSays ws → Rising q n i (map (asks q i) ws ++ ys)
    go ws nothing_asked = rising_from (omega arith) r
    go ws (one_asked m) = rise {i = i} i (omega arith) l m r

-- THE SHAPE of all that is asked from the i-th word on
pub asked_rising : (q i n : ℕ) (ws : List ℕ) (rs : List Request) → i + length ws ≤ n → Words ws → asked_from q i ws ≡ accepted rs → Rising q n i rs
unfolding asked_from all_of
asked_rising q i n [] rs l h e = let z : [] ≡ rs = cc in subst (Rising q n i) z stop
asked_rising q i n (w ∷ []) rs l h e =
    let h₁ : T (leb w (top 32)) = search (and_l, and_r) in
    subst (Rising q n i) (append-nil rs) (at_rising q i n w none rs [] (omega arith) (leb→le w (top 32) h₁) tt e stop)
asked_rising q i n (w ∷ next ∷ ws) rs l h e =
    let h₁ : T (leb w (top 32)) = search (and_l, and_r) in
    let h₂ : T (leb next (top 32)) = search (and_l, and_r) in
    let h₃ : Words ws = search (and_l, and_r) in
    let (xs, ys, e₁, e₂, z) = also_accepted (asked_at q i w (some next)) (elim (takes_next (register_of w)) [ true ↦ asked_from q (suc (suc i)) ws | false ↦ asked_from q (suc i) (next ∷ ws) ]) rs e in
    let later : Rising q n (suc i) ys =
    go (takes_next (register_of w)) ys (asked_rising q (suc (suc i)) n ws ys (omega arith) h₃) (asked_rising q (suc i) n (next ∷ ws) ys (omega arith) (and_i (leb next (top 32)) (all_of (λ w. leb w (top 32)) ws) h₂ h₃)) e₂ in
    subst (Rising q n i) z (at_rising q i n w (some next) xs ys (omega arith) (leb→le w (top 32) h₁) (leb→le next (top 32) h₂) e₁ later)
  where
    go : (b : Bool) (ys : List Request) → (asked_from q (suc (suc i)) ws ≡ accepted ys → Rising q n (suc (suc i)) ys) → (asked_from q (suc i) (next ∷ ws) ≡ accepted ys → Rising q n (suc i) ys)
        → elim b [ true ↦ asked_from q (suc (suc i)) ws | false ↦ asked_from q (suc i) (next ∷ ws) ] ≡ accepted ys → Rising q n (suc i) ys
    go true ys f g e = rising_from (omega arith) (f e)
    go false ys f g e = g e

-- what each of them says
pub record MadeFor (q n i : ℕ) (r : Request) : Type 0 where
  pub asker : r.requester ≡ q
  pub low : i ≤ r.slot
  pub high : r.slot < n
  pub made : Made r.want

rising_in : {q n i : ℕ} {r : Request} {rs : List Request} → Rising q n i rs → Memᴰ r rs → MadeFor q n i r
rising_in stop m = absurd (Memᴰ.not-nil m)
rising_in {q} {n} {i} {r} (rise s {want} {rs} low high made rest) m = go (Memᴰ.cases_cons m) (λ m'. rising_in rest m')
  where
    go : (r ≡ asks q s want) ⊎ Memᴰ r rs → (Memᴰ r rs → MadeFor q n (suc s) r) → MadeFor q n i r
    go (inl e) below = subst (MadeFor q n i) (sym e) record { asker = refl; low = low; high = high; made = made }
    go (inr m') below = let f : MadeFor q n (suc s) r = below m' in record { asker = f.asker; low = omega arith; high = f.high; made = f.made }

rising_slots : {q n i : ℕ} {rs : List Request} → Rising q n i rs → T (pairs_of (λ r s. ltb r.slot s.slot) rs)
unfolding pairs_of
rising_slots stop = tt
rising_slots {q} (rise s {want} {rs} low high made rest) =
    and_i (all_of (λ r. ltb s r.slot) rs) (pairs_of (λ r s. ltb r.slot s.slot) rs) (all_from (λ r. ltb s r.slot) rs (λ r m. lt→ltb s r.slot (rising_in rest m).low)) (rising_slots rest)

rising_length : {q n i : ℕ} {rs : List Request} → i ≤ n → Rising q n i rs → i + length rs ≤ n
rising_length l stop = omega arith
rising_length l (rise s low high made rest) = let k = rising_length high rest in omega arith

-- ---- what an accepted call says
pub record Registered (q : ℕ) (ws : List ℕ) (most : ℕ) (rs : List Request) : Type 0 where
  pub asker : (0 < q) × (q ≤ top 32)
  pub words : Words ws
  pub asked : asked_from q 0 ws ≡ accepted rs
  pub room : length rs ≤ most
  pub rising : Rising q (length ws) 0 rs

pub registers_says : (q : ℕ) (ws : List ℕ) (most : ℕ) (rs : List Request) → registers q ws most ≡ accepted rs → Registered q ws most rs
unfolding registers
registers_says q ws most rs e =
    let (a, e₁) = require_accepted (ltb 0 q && leb q (top 32)) bad_input _ e in
    let (h, e₂) = require_accepted (all_of (λ w. leb w (top 32)) ws) bad_input _ e₁ in
    let (xs, e₃, e₄) = then_accepted (asked_from q 0 ws) (λ rs. require (leb (length rs) most) short (accepted rs)) e₂ in
    let (f, e₅) = require_accepted (leb (length xs) most) short (accepted xs) e₄ in
    let z : xs ≡ rs = cc in
    go z a h e₃ f
  where
    go : {xs : List Request} → xs ≡ rs → T (ltb 0 q && leb q (top 32)) → Words ws → asked_from q 0 ws ≡ accepted xs → T (leb (length xs) most) → Registered q ws most rs
    go {xs} z a h e f = subst (Registered q ws most) z record {
      asker = (ltb→lt 0 q (and_l (ltb 0 q) (leb q (top 32)) a), leb→le q (top 32) (and_r (ltb 0 q) (leb q (top 32)) a));
      words = h;
      asked = e;
      room = leb→le (length xs) most f;
      rising = asked_rising q 0 (length ws) ws xs (omega arith) h e;
    }

module _ (q : ℕ) (ws : List ℕ) (rs : List Request) where
  -- THE REQUESTS: this requester's, in slots below the number of words, each of a size that a register may ask for
  pub asked_made : Words ws → asked_from q 0 ws ≡ accepted rs → {r : Request} → Memᴰ r rs → MadeFor q (length ws) 0 r
  asked_made h e m = rising_in (asked_rising q 0 (length ws) ws rs (omega arith) h e) m

  -- GOOD ONES: never 2 when planned
  pub asked_good : 0 < q → q ≤ top 32 → length ws ≤ 2 ^ 32 → Words ws → asked_from q 0 ws ≡ accepted rs → {r : Request} → Memᴰ r rs → T (good_request r)
  unfolding good_request
  asked_good p l n h e {r} m =
      let f : MadeFor q (length ws) 0 r = asked_made h e m in
      let g : T (good_want r.want) = made_good f.made in
      let a : T (ltb 0 r.requester) = lt→ltb 0 r.requester (omega arith) in
      let b : T (leb r.requester (top 32)) = le→leb r.requester (top 32) (omega arith) in
      let c : T (leb r.slot (top 32)) = le→leb r.slot (top 32) (omega arith) in
      search and_i depth 8

  -- no more requests than words
  pub asked_few : Words ws → asked_from q 0 ws ≡ accepted rs → length rs ≤ length ws
  asked_few h e = let l : 0 + length rs ≤ length ws = rising_length (omega arith) (asked_rising q 0 (length ws) ws rs (omega arith) h e) in omega arith

module _ (q : ℕ) (ws : List ℕ) (most : ℕ) (rs : List Request) where
  -- so it is of an accepted call
  pub registers_made : registers q ws most ≡ accepted rs → {r : Request} → Memᴰ r rs → MadeFor q (length ws) 0 r
  registers_made e m = rising_in (registers_says q ws most rs e).rising m

  pub registers_good : length ws ≤ 2 ^ 32 → registers q ws most ≡ accepted rs → {r : Request} → Memᴰ r rs → T (good_request r)
  registers_good n e m = let s : Registered q ws most rs = registers_says q ws most rs e in asked_good q ws rs s.asker.0 s.asker.1 n s.words s.asked m

  -- slots rise
  pub slots_rise : registers q ws most ≡ accepted rs → T (pairs_of (λ r s. ltb r.slot s.slot) rs)
  slots_rise e = rising_slots (registers_says q ws most rs e).rising

  judged_by : 0 < q → q ≤ top 32 → Words ws → asked_from q 0 ws ≡ accepted rs → registers q ws most ≡ require (leb (length rs) most) short (accepted rs)
  unfolding registers
  judged_by p l h e =
      required (ltb 0 q && leb q (top 32)) bad_input _ (and_i (ltb 0 q) (leb q (top 32)) (lt→ltb 0 q p) (le→leb q (top 32) l)) ∙ required (all_of (λ w. leb w (top 32)) ws) bad_input _ h
      ∙ ap (λ a. a then λ rs. require (leb (length rs) most) short (accepted rs)) e

  -- SHORT EXACTLY when every register is judged and the list holds fewer requests than are made
  pub short_exactly : 0 < q → q ≤ top 32 → Words ws → asked_from q 0 ws ≡ accepted rs → (registers q ws most ≡ refused short) ↔ (most < length rs)
  unfolding require
  short_exactly p l h e = (λ f. there (leb (length rs) most) (nleb→lt (length rs) most) (sym judged ∙ f), λ m. judged ∙ back (leb (length rs) most) (leb→le (length rs) most) m)
    where
      judged : registers q ws most ≡ require (leb (length rs) most) short (accepted rs)
      judged = judged_by p l h e

      there : (t : Bool) → (T (not t) → most < length rs) → require t short (accepted rs) ≡ refused short → most < length rs
      there true f e = absurd (not_accepted (sym e))
      there false f e = f tt

      back : (t : Bool) → (T t → length rs ≤ most) → most < length rs → require t short (accepted rs) ≡ refused short
      back true f m = let l : length rs ≤ most = f tt in absurd (omega arith)
      back false f m = refl

-- a call is refused with one refusal
pub refused_one : (q : ℕ) (ws : List ℕ) (most : ℕ) (x y : Refusal) → registers q ws most ≡ refused x → registers q ws most ≡ refused y → x ≡ y
refused_one q ws most x y e f = cc
