-- How the line of a call begins and ends: a want begins with 'w', and only an automatic want ends in 'o'; with its answer written back it is the same line up to
-- its last field. Assumes nothing.
use mathlib.Core.Path.{◌≡◌, refl, sym, ◌∙◌, ap}
use mathlib.Core.Bool.{Bool, true, false}
use mathlib.Core.List.{List, [], ◌∷◌, ◌++◌, map, append_assoc, append-nil}
use Prim.Native.Nat.{ℕ, suc, ◌+◌, ◌-◌, ◌/◌, ◌%◌, ◌<◌}
use native.Mathlib.Omega.{arith}
use native.Mathlib.Nat.{mod-lt}
use lib.Dec.{T, ltb}
use lib.ListN.{length, take, get_or, length-append}
use lib.Seq.{take_at}
use borrow.Author.Tests.{ne_eqb, ltb-true}
use Rattle.definition.specs.Pools.{Claim, Pool, mmio_pool, pio_pool, host_pool, input_pool, msi_pool, Hold, mmio_hold, pio_hold, host_hold, input_hold, device_hold, event_hold, lpi_hold, pair_hold}
use Rattle.definition.specs.Request.{auto, at, Want, mmio_want, pio_want, input_want, host_want, msi_want, Use}
use Rattle.definition.specs.Calls.{pool, hold, want}
use Rattle.definition.specs.Plan.{base_at, record_of, pin_want}
use Rattle.lines.specs.Base.{tab, bytes, pick}
use Rattle.lines.specs.Numbers.{digit_limit, digits_up_to, digits}
use Rattle.lines.specs.Forms.{field_of, fields_of, want_spelling}
use Rattle.lines.proofs.SpellLaws.{behind_append}
use Rattle.lines.specs.Line.{behind, use_word, line_from, line_of, spellable}
use Rattle.write_back.specs.Bytes.{is_want, ends_in_auto, auto_size, granted_in, pinned_bytes, Plain}

-- ---- fields behind fields

-- a line whose last fields are gs
more_fields : (w : List ℕ) (fs gs : List (List ℕ)) → w ++ behind (fs ++ gs) ≡ (w ++ behind fs) ++ behind gs
more_fields w fs gs = ap (λ l. w ++ l) (behind_append fs gs) ∙ sym (append_assoc w (behind fs) (behind gs))

one_behind : (f : List ℕ) → behind (f ∷ []) ≡ tab ∷ f
unfolding behind
one_behind f = ap {B = List ℕ} (λ l. tab ∷ l) (append-nil f)

last_field : (w : List ℕ) (fs : List (List ℕ)) (f : List ℕ) → w ++ behind (fs ++ (f ∷ [])) ≡ (w ++ behind fs) ++ (tab ∷ f)
last_field w fs f = more_fields w fs (f ∷ []) ∙ ap (λ l. (w ++ behind fs) ++ l) (one_behind f)

-- ---- the last byte

byte_past : (z : List ℕ) (b : ℕ) → get_or (z ++ (b ∷ [])) (length z) 0 ≡ b
byte_past [] b = refl
byte_past (x ∷ z) b = byte_past z b

last_byte : (z : List ℕ) (b : ℕ) → get_or (z ++ (b ∷ [])) (length (z ++ (b ∷ [])) - 1) 0 ≡ b
last_byte z b = let e : length (z ++ (b ∷ [])) - 1 ≡ length z = omega (arith, length-append z (b ∷ [])) in rw e (byte_past z b)

ten : 0 < 10
ten = omega arith

digits_end : (k n : ℕ) → (y : List ℕ) × (d : ℕ) × (d < 10) × (digits_up_to (suc k) n ≡ y ++ ((48 + d) ∷ []))
unfolding digits_up_to
digits_end k n = go (ltb n 10) refl
  where
    go : (t : Bool) → ltb n 10 ≡ t → (y : List ℕ) × (d : ℕ) × (d < 10) × (pick t ((48 + n) ∷ []) (digits_up_to k (n / 10) ++ ((48 + n % 10) ∷ [])) ≡ y ++ ((48 + d) ∷ []))
    go true e = ([], n, ltb-true n 10 e, refl)
    go false e = (digits_up_to k (n / 10), n % 10, mod-lt n ten, refl)

ends_in_digit : (x : List ℕ) (v : ℕ) → ends_in_auto (x ++ (tab ∷ digits v)) ≡ false
unfolding ends_in_auto digits
ends_in_digit x v =
    let (y, d, l, e) = digits_end (digit_limit - 1) v in
    let z : x ++ (tab ∷ digits_up_to digit_limit v) ≡ (x ++ (tab ∷ y)) ++ ((48 + d) ∷ []) = ap (λ k. x ++ (tab ∷ k)) e ∙ sym (append_assoc x (tab ∷ y) ((48 + d) ∷ [])) in
    rw (z, last_byte (x ++ (tab ∷ y)) (48 + d)) (ne_eqb (48 + d) 111 (λ q. omega arith))

abbrev automatic : List ℕ → List ℕ
automatic x = x ++ (tab ∷ bytes "auto")

ends_in_auto_is : (x : List ℕ) → ends_in_auto (automatic x) ≡ true
unfolding ends_in_auto
ends_in_auto_is x =
    let z : automatic x ≡ (x ++ (tab ∷ 97 ∷ 117 ∷ 116 ∷ [])) ++ (111 ∷ []) = sym (append_assoc x (tab ∷ 97 ∷ 117 ∷ 116 ∷ []) (111 ∷ [])) in
    rw (z, last_byte (x ++ (tab ∷ 97 ∷ 117 ∷ 116 ∷ [])) 111) refl

auto_long : (x : List ℕ) → length (automatic x) ≡ length x + auto_size
auto_long x = length-append x (tab ∷ bytes "auto")

before_auto : (x : List ℕ) → take (length (automatic x) - auto_size) (automatic x) ≡ x
before_auto x = let e : length (automatic x) - auto_size ≡ length x = omega (arith, auto_long x) in rw e (take_at x (tab ∷ bytes "auto") (length x) refl)

-- ---- pools and holds

-- a line that is no want and does not end in `auto`
pub record Stays (l : List ℕ) : Type 0 where
  pub no_want : is_want l ≡ false
  pub no_auto : ends_in_auto l ≡ false

stays : (l w : List ℕ) (fs : List (List ℕ)) (v : ℕ) → is_want l ≡ false → l ≡ w ++ behind (fs ++ (digits v ∷ [])) → Stays l
stays l w fs v n e = record { no_want = n; no_auto = ap ends_in_auto (e ∙ last_field w fs (digits v)) ∙ ends_in_digit (w ++ behind fs) v }

pub pool_stays : (u : Use) (p : Pool) → Stays (line_of (pool u p))
unfolding is_want line_of line_from fields_of field_of
pool_stays u (mmio_pool s e) = stays _ (bytes "pool") (use_word u ∷ bytes "mmio" ∷ digits s ∷ []) e refl refl
pool_stays u (pio_pool s e) = stays _ (bytes "pool") (use_word u ∷ bytes "pio" ∷ digits s ∷ []) e refl refl
pool_stays u (host_pool s e) = stays _ (bytes "pool") (use_word u ∷ bytes "host" ∷ digits s ∷ []) e refl refl
pool_stays u (input_pool c s e) = stays _ (bytes "pool") (use_word u ∷ bytes "input" ∷ digits c ∷ digits s ∷ []) e refl refl
pool_stays u (msi_pool c i ds de es ee ls le) =
    stays _ (bytes "pool") (use_word u ∷ bytes "msi" ∷ digits c ∷ digits i ∷ digits ds ∷ digits de ∷ digits es ∷ digits ee ∷ digits ls ∷ []) le refl refl

pub hold_stays : (o : ℕ) (h : Hold) → Stays (line_of (hold o h))
unfolding is_want ends_in_auto line_of line_from fields_of field_of
hold_stays o (mmio_hold s e) = stays _ (bytes "hold") (digits o ∷ bytes "mmio" ∷ digits s ∷ []) e refl refl
hold_stays o (pio_hold s e) = stays _ (bytes "hold") (digits o ∷ bytes "pio" ∷ digits s ∷ []) e refl refl
hold_stays o (host_hold s e) = stays _ (bytes "hold") (digits o ∷ bytes "host" ∷ digits s ∷ []) e refl refl
hold_stays o (input_hold c n t s) = stays _ (bytes "hold") (digits o ∷ bytes "input" ∷ digits c ∷ digits n ∷ digits t ∷ []) s refl refl
hold_stays o (device_hold c i s e) = stays _ (bytes "hold") (digits o ∷ bytes "device" ∷ digits c ∷ digits i ∷ digits s ∷ []) e refl refl
hold_stays o (event_hold c i d s e) = stays _ (bytes "hold") (digits o ∷ bytes "event" ∷ digits c ∷ digits i ∷ digits d ∷ digits s ∷ []) e refl refl
hold_stays o (lpi_hold c s e) = stays _ (bytes "hold") (digits o ∷ bytes "lpi" ∷ digits c ∷ digits s ∷ []) e refl refl
hold_stays o (pair_hold c n t h) = record { no_want = refl; no_auto = refl }

-- ---- wants

-- with the record r of its grant in front of rs, the line l of a want becomes the line m
pub record Pins (l m r : List ℕ) : Type 0 where
  pub a_want : is_want l ≡ true
  pub plain : Plain l
  pub pins : (rs : List ℕ) → pinned_bytes l (r ++ rs) ≡ m

-- its number stands there already
keeps : (l m r x : List ℕ) (v : ℕ) → is_want l ≡ true → l ≡ x ++ (tab ∷ digits v) → l ≡ m → Pins l m r
unfolding pinned_bytes
keeps l m r x v w e same =
    let n : ends_in_auto l ≡ false = ap ends_in_auto e ∙ ends_in_digit x v in
    record { a_want = w; plain = λ q. absurd (let z : ◌≡◌ {A = ℕ} 0 1 = cc in omega arith); pins = λ rs. rw (pinned_bytes, n) same }

-- .. or goes in the place of `auto`
fills : (l m r x : List ℕ) (ns : List ℕ) → is_want l ≡ true → l ≡ automatic x → ((rs : List ℕ) → granted_in (r ++ rs) ≡ ns) → m ≡ x ++ behind (map digits ns) → Pins l m r
unfolding pinned_bytes
fills l m r x ns w e g same =
    let n : ends_in_auto l ≡ true = ap ends_in_auto e ∙ ends_in_auto_is x in
    record {
      a_want = w;
      plain = λ q. (w, omega (arith, ap length e, auto_long x));
      pins = λ rs. rw (pinned_bytes, n) (λ i. (ap (λ k. take (length k - auto_size) k) e ∙ before_auto x) i ++ behind (map digits (g rs i))) ∙ sym same;
    }

-- the line of a want, and the line of the want with its answer written back
module _ (q slot : ℕ) (cs : List Claim) where
  abbrev line : Want → List ℕ
  line w = line_of (want (record { requester = q; slot = slot; want = w }))

  abbrev Pinning : Want → Type 0
  Pinning w = Pins (line w) (line (pin_want w cs)) (record_of q slot w cs)

  abbrev before : List (List ℕ) → List ℕ
  before fs = bytes "want" ++ behind (digits q ∷ digits slot ∷ fs)

  -- one number
  one : (l m r : List ℕ) (fs : List (List ℕ)) (b : ℕ) → is_want l ≡ true → l ≡ bytes "want" ++ behind ((digits q ∷ digits slot ∷ fs) ++ (bytes "auto" ∷ []))
      → m ≡ bytes "want" ++ behind ((digits q ∷ digits slot ∷ fs) ++ (digits b ∷ [])) → ((rs : List ℕ) → granted_in (r ++ rs) ≡ b ∷ []) → Pins l m r
  one l m r fs b w e e' g =
      fills l m r (before fs) (b ∷ []) w (e ∙ last_field (bytes "want") (digits q ∷ digits slot ∷ fs) (bytes "auto")) g
      (e' ∙ more_fields (bytes "want") (digits q ∷ digits slot ∷ fs) (digits b ∷ []))

  same : (l r : List ℕ) (fs : List (List ℕ)) (b : ℕ) → is_want l ≡ true → l ≡ bytes "want" ++ behind ((digits q ∷ digits slot ∷ fs) ++ (digits b ∷ [])) → Pins l l r
  same l r fs b w e = keeps l l r (before fs) b w (e ∙ last_field (bytes "want") (digits q ∷ digits slot ∷ fs) (digits b)) refl

  pub want_pins : (w : Want) → T (spellable (want_spelling q slot w)) → Pinning w
  unfolding is_want granted_in line_of line_from fields_of field_of pin_want
  want_pins (mmio_want size a auto) t = one _ _ _ (bytes "mmio" ∷ digits size ∷ digits a ∷ []) (base_at 0 cs) refl refl refl (λ rs. refl)
  want_pins (mmio_want size a (at b)) t = same _ _ (bytes "mmio" ∷ digits size ∷ digits a ∷ []) b refl refl
  want_pins (pio_want size a auto) t = one _ _ _ (bytes "pio" ∷ digits size ∷ digits a ∷ []) (base_at 0 cs) refl refl refl (λ rs. refl)
  want_pins (pio_want size a (at b)) t = same _ _ (bytes "pio" ∷ digits size ∷ digits a ∷ []) b refl refl
  want_pins (input_want c g h auto) t = one _ _ _ (bytes "input" ∷ digits c ∷ digits g ∷ digits h ∷ []) (base_at 0 cs) refl refl refl (λ rs. refl)
  want_pins (input_want c g h (at b)) t = same _ _ (bytes "input" ∷ digits c ∷ digits g ∷ digits h ∷ []) b refl refl
  want_pins (host_want auto) t = one _ _ _ (bytes "host" ∷ []) (base_at 0 cs) refl refl refl (λ rs. refl)
  want_pins (host_want (at b)) t = same _ _ (bytes "host" ∷ []) b refl refl
  want_pins (msi_want c i n auto auto auto) t =
      let fs : List (List ℕ) = digits q ∷ digits slot ∷ bytes "msi" ∷ digits c ∷ digits i ∷ digits n ∷ [] in
      let ns : List ℕ = base_at 0 cs ∷ base_at 1 cs ∷ base_at 2 cs ∷ [] in
      fills _ _ _ (bytes "want" ++ behind fs) ns refl (last_field (bytes "want") fs (bytes "auto")) (λ rs. refl) (more_fields (bytes "want") fs (map digits ns))
  want_pins (msi_want c i n (at d) (at e) (at l)) t = same _ _ (bytes "msi" ∷ digits c ∷ digits i ∷ digits n ∷ digits d ∷ digits e ∷ []) l refl refl
  want_pins (msi_want c i n auto auto (at l)) t = absurd t
  want_pins (msi_want c i n auto (at e) auto) t = absurd t
  want_pins (msi_want c i n auto (at e) (at l)) t = absurd t
  want_pins (msi_want c i n (at d) auto auto) t = absurd t
  want_pins (msi_want c i n (at d) auto (at l)) t = absurd t
  want_pins (msi_want c i n (at d) (at e) auto) t = absurd t
