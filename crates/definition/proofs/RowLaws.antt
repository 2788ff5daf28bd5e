-- Laws of rows: domains, overlaps, rows that clash, and 01's wired rule (the first row on an input decides). Assumes nothing.
use Rattle.std.specs.Prelude.{◌≡◌, refl, ◌⊎◌, Bool, true, false, not, ◌&&◌, ℕ, zero, suc, ◌≤◌, ◌<◌, T, leb, ltb, eqb}
use Rattle.std.proofs.Common.{sym, ap, ◌∙◌, inl, inr, arith, ltb→lt, lt→ltb, eqb→eq, leb→le}
use Rattle.std.proofs.Math.Option.{Option, none, some}
use mathlib.Core.List.{List, [], ◌∷◌, Memᴰ}
use Rattle.std.proofs.Math.Dec.{eqb_refl}
use Rattle.definition.specs.Base.{all_of, first_of, pairs_of}
use Rattle.definition.proofs.BaseLaws.{and_l, and_r, and_i, T_true, T_false, not_T→, →not_T, either, eqb_sym, eqb_trans, all_in, first_none, none_first, first_some, first_at, first_past}
use Rattle.definition.specs.Tables.{shared, Dom, same_dom, Kind, mmio, pio, input, host, device, event, lpi, kinds, nature, same_kind, Span, same_span, Row, same_row, overlap, meets, joins, clash, ends, if_wired, fits, good_row}
use Rattle.definition.specs.Request.{unjoined, obstacle}

-- ---- kinds

kind_of : ℕ → Kind
kind_of zero = mmio
kind_of (suc zero) = mmio
kind_of (suc (suc zero)) = pio
kind_of (suc (suc (suc zero))) = input
kind_of (suc (suc (suc (suc zero)))) = host
kind_of (suc (suc (suc (suc (suc zero))))) = device
kind_of (suc (suc (suc (suc (suc (suc zero)))))) = event
kind_of (suc (suc (suc (suc (suc (suc (suc n))))))) = lpi

kind_of_no : (k : Kind) → kind_of (nature k).number ≡ k
unfolding kind_of
kind_of_no mmio = refl
kind_of_no pio = refl
kind_of_no input = refl
kind_of_no host = refl
kind_of_no device = refl
kind_of_no event = refl
kind_of_no lpi = refl

pub same_kind_equal : (j k : Kind) → T (same_kind j k) → j ≡ k
unfolding same_kind
same_kind_equal j k t = sym (kind_of_no j) ∙ ap kind_of (eqb→eq (nature j).number (nature k).number t) ∙ kind_of_no k

pub kind_same : (k : Kind) → T (same_kind k k)
unfolding same_kind
kind_same k = eqb_refl (nature k).number

pub every_kind : (k : Kind) → Memᴰ k kinds
every_kind mmio = search (Memᴰ.head, Memᴰ.tail) depth 8
every_kind pio = search (Memᴰ.head, Memᴰ.tail) depth 8
every_kind input = search (Memᴰ.head, Memᴰ.tail) depth 8
every_kind host = search (Memᴰ.head, Memᴰ.tail) depth 8
every_kind device = search (Memᴰ.head, Memᴰ.tail) depth 8
every_kind event = search (Memᴰ.head, Memᴰ.tail) depth 8
every_kind lpi = search (Memᴰ.head, Memᴰ.tail) depth 8

-- ---- domains

pub dom_refl : (a : Dom) → T (same_dom a a)
unfolding same_dom
dom_refl a = search (and_i, eqb_refl)

pub dom_sym : (a b : Dom) → T (same_dom a b) → T (same_dom b a)
unfolding same_dom
dom_sym a b t = search (and_i, and_l, and_r, eqb_sym)

pub dom_trans : (a b c : Dom) → T (same_dom a b) → T (same_dom b c) → T (same_dom a c)
unfolding same_dom
dom_trans a b c s t =
    let s₁ : T (eqb a.controller b.controller) = search (and_l, and_r) in
    let s₂ : T (eqb a.its b.its) = search (and_l, and_r) in
    let s₃ : T (eqb a.device b.device) = search (and_l, and_r) in
    let t₁ : T (eqb b.controller c.controller) = search (and_l, and_r) in
    let t₂ : T (eqb b.its c.its) = search (and_l, and_r) in
    let t₃ : T (eqb b.device c.device) = search (and_l, and_r) in
    search (and_i, eqb_trans)

pub dom_eq : (a b : Dom) → T (same_dom a b) → a ≡ b
unfolding same_dom
dom_eq a b t =
    let t₁ : T (eqb a.controller b.controller) = search (and_l, and_r) in
    let t₂ : T (eqb a.its b.its) = search (and_l, and_r) in
    let t₃ : T (eqb a.device b.device) = search (and_l, and_r) in
    λ i. record { controller = eqb→eq a.controller b.controller t₁ i; its = eqb→eq a.its b.its t₂ i; device = eqb→eq a.device b.device t₃ i }

pub span_eq : (a b : Span) → T (same_span a b) → a ≡ b
unfolding same_span
span_eq a b t =
    let t₁ : T (same_dom a.dom b.dom) = search (and_l, and_r) in
    let t₂ : T (eqb a.start b.start) = search (and_l, and_r) in
    let t₃ : T (eqb a.end b.end) = search (and_l, and_r) in
    λ i. record { dom = dom_eq a.dom b.dom t₁ i; start = eqb→eq a.start b.start t₂ i; end = eqb→eq a.end b.end t₃ i }

pub span_refl : (a : Span) → T (same_span a a)
unfolding same_span
span_refl a = search (and_i, eqb_refl, dom_refl)

pub row_eq : (a b : Row) → T (same_row a b) → a ≡ b
unfolding same_row
row_eq a b t =
    let t₁ : T (same_dom a.dom b.dom) = search (and_l, and_r) in
    let t₂ : T (eqb a.start b.start) = search (and_l, and_r) in
    let t₃ : T (eqb a.end b.end) = search (and_l, and_r) in
    let t₄ : T (eqb a.trigger b.trigger) = search (and_l, and_r) depth 8 in
    let t₅ : T (eqb a.sharing b.sharing) = search (and_l, and_r) depth 8 in
    let t₆ : T (eqb a.owner b.owner) = search (and_l, and_r) depth 8 in
    λ i. record {
      dom = dom_eq a.dom b.dom t₁ i;
      start = eqb→eq a.start b.start t₂ i;
      end = eqb→eq a.end b.end t₃ i;
      trigger = eqb→eq a.trigger b.trigger t₄ i;
      sharing = eqb→eq a.sharing b.sharing t₅ i;
      owner = eqb→eq a.owner b.owner t₆ i;
    }

pub row_refl : (a : Row) → T (same_row a a)
unfolding same_row
row_refl a = search (and_i, eqb_refl, dom_refl) depth 8

-- ---- rows that meet, join, clash

pub overlap_sym : (s e s' e' : ℕ) → T (overlap s e s' e') → T (overlap s' e' s e)
unfolding overlap
overlap_sym s e s' e' t = search (and_i, and_l, and_r)

pub meets_sym : (a b : Row) → T (meets a b) → T (meets b a)
unfolding meets
meets_sym a b t = search (and_i, and_l, and_r, dom_sym, overlap_sym)

pub joins_sym : (a b : Row) → T (joins a b) → T (joins b a)
unfolding joins
joins_sym a b t = search (and_i, and_l, and_r, eqb_sym)

pub clash_meets : (a b : Row) → T (clash a b) → T (meets a b)
unfolding clash
clash_meets a b t = and_l (meets a b) (not (joins a b)) t

pub clash_sym : (a b : Row) → T (clash a b) → T (clash b a)
unfolding clash
clash_sym a b t =
    let j : T (not (joins a b)) = search (and_l, and_r) in
    let k : T (not (joins b a)) = →not_T (joins b a) λ u. not_T→ (joins a b) j (joins_sym b a u) in
    search (and_i, and_l, meets_sym)

clash_i : (a b : Row) → T (meets a b) → (T (joins a b) → ⊥) → T (clash a b)
unfolding clash
clash_i a b m u = search (and_i, →not_T)

clash_unjoined : (a b : Row) → T (clash a b) → T (joins a b) → ⊥
unfolding clash
clash_unjoined a b c j = not_T→ (joins a b) (and_r (meets a b) (not (joins a b)) c) j

clash_not : (a b : Row) → T (not (clash a b)) → T (meets a b) → T (joins a b)
unfolding clash
clash_not a b n m = go (either (joins a b))
  where
    go : T (joins a b) ⊎ (T (joins a b) → ⊥) → T (joins a b)
    go (inl j) = j
    go (inr u) = absurd (not_T→ (meets a b && not (joins a b)) n (search (and_i, →not_T)))

-- ---- what stands in the way of a wanted row

-- no row of the table clashes with w
abbrev pub Beside : List Row → Row → Type 0
Beside rows w = (r : Row) → Memᴰ r rows → T (clash w r) → ⊥

-- a row that clashes with none of them meets no obstacle, whatever the table
pub beside_clear : (w : Row) (rows : List Row) → Beside rows w → obstacle w rows ≡ none
unfolding obstacle unjoined
beside_clear w rows h = go (first_of (meets w) rows) refl
  where
    join : (r : Row) → first_of (meets w) rows ≡ some r → T (joins w r) ⊎ (T (joins w r) → ⊥) → unjoined w (some r) ≡ none
    join r e (inl j) = rw (T_true (joins w r) j, unjoined)
    join r e (inr u) = let (m, t) = first_some (meets w) rows r e in absurd (h r m (clash_i w r t u))

    go : (o : Option Row) → first_of (meets w) rows ≡ o → unjoined w (first_of (meets w) rows) ≡ none
    go none e = rw e
    go (some r) e = rw e (join r e (either (joins w r)))

abbrev pub OneNumber : Row → Type 0
OneNumber r = r.end ≡ suc r.start

joins_trans : (a b c : Row) → T (joins a b) → T (joins b c) → T (joins a c)
unfolding joins
joins_trans a b c s t =
    let s₁ : T (eqb a.trigger b.trigger) = search (and_l, and_r) in
    let t₁ : T (eqb b.trigger c.trigger) = search (and_l, and_r) in
    let u : T (eqb a.trigger c.trigger) = search (eqb_trans) in
    search (and_i, and_l, and_r)

meets_trans : (a b c : Row) → OneNumber a → OneNumber b → OneNumber c → T (meets a b) → T (meets a c) → T (meets b c)
unfolding meets overlap
meets_trans a b c ea eb ec s t =
    let s₀ : T (same_dom a.dom b.dom) = search (and_l, and_r) in
    let s₁ : T (ltb a.start b.end) = search (and_l, and_r) in
    let s₂ : T (ltb b.start a.end) = search (and_l, and_r) in
    let t₀ : T (same_dom a.dom c.dom) = search (and_l, and_r) in
    let t₁ : T (ltb a.start c.end) = search (and_l, and_r) in
    let t₂ : T (ltb c.start a.end) = search (and_l, and_r) in
    let d : T (same_dom b.dom c.dom) = dom_trans b.dom a.dom c.dom (dom_sym a.dom b.dom s₀) t₀ in
    let l₁ : b.start < c.end = omega (arith, ltb→lt) in
    let l₂ : c.start < b.end = omega (arith, ltb→lt) in
    search (and_i, lt→ltb)

abbrev pub Apart : List Row → Type 0
Apart rows = T (pairs_of (λ a b. not (clash a b)) rows)

-- inputs: the rows on one number all join, so the first of them speaks for all
wired_row_is : (w : Row) → OneNumber w → (rows : List Row) → ((r : Row) → Memᴰ r rows → OneNumber r) → Apart rows → obstacle w rows ≡ first_of (clash w) rows
unfolding obstacle first_of unjoined pairs_of
wired_row_is w ew [] one pairs = refl
wired_row_is w ew (x ∷ xs) one pairs =
    let p₁ : T (all_of (λ b. not (clash x b)) xs) = search (and_l, and_r) in
    let p₂ : T (pairs_of (λ a b. not (clash a b)) xs) = search (and_l, and_r) in
    go p₁ (wired_row_is w ew xs (λ r m. one r (Memᴰ.tail m)) p₂) (either (meets w x)) (either (joins w x))
  where
    go : T (all_of (λ b. not (clash x b)) xs) → unjoined w (first_of (meets w) xs) ≡ first_of (clash w) xs
        → T (meets w x) ⊎ (T (meets w x) → ⊥) → T (joins w x) ⊎ (T (joins w x) → ⊥) → unjoined w (first_of (meets w) (x ∷ xs)) ≡ first_of (clash w) (x ∷ xs)
    go p₁ below (inr u) j = ap (unjoined w) (first_past (meets w) x xs u) ∙ below ∙ sym (first_past (clash w) x xs (λ c. u (clash_meets w x c)))
    go p₁ below (inl m) (inr u) = ap (unjoined w) (first_at (meets w) x xs m) ∙ rw (T_false (joins w x) u, unjoined) (sym (first_at (clash w) x xs (clash_i w x m u)))
    go p₁ below (inl m) (inl j) =
        ap (unjoined w) (first_at (meets w) x xs m)
        ∙ rw (T_true (joins w x) j, unjoined) (sym (first_past (clash w) x xs (λ c. clash_unjoined w x c j)
        ∙ first_none (clash w) xs (λ r mr c.
        let mx : T (meets x r) = meets_trans w x r ew (one x (Memᴰ.head refl)) (one r (Memᴰ.tail mr)) m (clash_meets w r c) in
        clash_unjoined w r c (joins_trans w x r j (clash_not x r (all_in (λ b. not (clash x b)) mr p₁) mx)))))

joins_shared : (w r : Row) → w.sharing ≡ 0 → T (joins w r) → ⊥
unfolding joins
joins_shared w r e j = let s : T (eqb w.sharing 1) = search (and_l, and_r) in let z : w.sharing ≡ 1 = eqb→eq w.sharing 1 s in omega arith

-- ranges: no row joins another, so the first that meets is the first that clashes
range_row_is : (w : Row) → w.sharing ≡ 0 → (rows : List Row) → obstacle w rows ≡ first_of (clash w) rows
unfolding obstacle first_of unjoined
range_row_is w e [] = refl
range_row_is w e (x ∷ xs) = go (range_row_is w e xs) (either (meets w x))
  where
    go : unjoined w (first_of (meets w) xs) ≡ first_of (clash w) xs → T (meets w x) ⊎ (T (meets w x) → ⊥) → unjoined w (first_of (meets w) (x ∷ xs)) ≡ first_of (clash w) (x ∷ xs)
    go below (inr u) = ap (unjoined w) (first_past (meets w) x xs u) ∙ below ∙ sym (first_past (clash w) x xs (λ c. u (clash_meets w x c)))
    go below (inl m) =
        ap (unjoined w) (first_at (meets w) x xs m)
        ∙ rw (T_false (joins w x) (joins_shared w x e), unjoined) (sym (first_at (clash w) x xs (clash_i w x m (joins_shared w x e))))

pub fits_wired : (k : Kind) (r : Row) → (nature k).wired ≡ true → T (fits k r) → OneNumber r
unfolding fits
fits_wired k r e t =
    let f : T (ends (nature k).wired (nature k).top r) = search (and_l, and_r) in
    let g : T (ends true (nature k).top r) = rw e at f in
    eqb→eq r.end (suc r.start) g

pub fits_range : (k : Kind) (r : Row) → (nature k).wired ≡ false → T (fits k r) → r.sharing ≡ 0
unfolding fits
fits_range k r e t =
    let f : T (leb r.sharing (if_wired (nature k).wired shared)) = search (and_l, and_r) depth 8 in
    let g : T (leb r.sharing 0) = rw e at f in
    let l : r.sharing ≤ 0 = leb→le r.sharing 0 g in
    omega arith

pub good_fits : (k : Kind) (r : Row) → T (good_row k r) → T (fits k r)
unfolding good_row
good_fits k r t = search (and_l)

-- 01's wired rule on sound rows: the first row on the input stands in the way exactly when some row does, and is the first row that does not suit
pub obstacle_is : (k : Kind) (w : Row) (rows : List Row) → T (fits k w) → T (all_of (good_row k) rows) → Apart rows → obstacle w rows ≡ first_of (clash w) rows
obstacle_is k w rows f good pairs = go (nature k).wired refl
  where
    go : (b : Bool) → (nature k).wired ≡ b → obstacle w rows ≡ first_of (clash w) rows
    go true e = wired_row_is w (fits_wired k w e f) rows (λ r m. fits_wired k r e (good_fits k r (all_in (good_row k) m good))) pairs
    go false e = range_row_is w (fits_range k w e f) rows

pub obstacle_beside : (k : Kind) (w : Row) (rows : List Row) → T (fits k w) → T (all_of (good_row k) rows) → Apart rows → obstacle w rows ≡ none → Beside rows w
obstacle_beside k w rows f good pairs e r m = none_first (clash w) (sym (obstacle_is k w rows f good pairs) ∙ e) m
