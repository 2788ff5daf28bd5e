-- Adding pool ranges keeps a pool table's rows good and in order; adding reservations keeps theirs good and apart. Assumes nothing.
use Rattle.std.specs.Prelude.{◌≡◌, ◌⊎◌, Bool, false, not, ◌&&◌, ◌||◌, leb, ltb}
use Rattle.std.proofs.Math.Path.{refl, ap}
use Rattle.std.proofs.Common.{subst, ◌∙◌, inl, inr, arith, leb→le, nltb→le, le→leb}
use Rattle.std.proofs.Math.Bool.{true}
use Rattle.std.proofs.Math.Option.{Option, none, some}
use mathlib.Core.List.Memᴰ
use mathlib.Core.List.{List, [], ◌∷◌, Memᴰ}
use Prim.Native.Nat.{ℕ, suc, ◌≤◌}
use Rattle.std.proofs.Math.ListN.{length}
use Rattle.std.proofs.Math.Dec.{T, ltb→lt}
use Rattle.definition.specs.Base.{any_of, all_of, pairs_of, first_of, bad_input, bad_owner, empty_range, full, bad_lpi, Answer, accepted}
use Rattle.definition.proofs.BaseLaws.{and_l, and_r, and_i, or_l, or_r, or_cases, T_true, T_false, not_T→, →not_T, either, in_any, all_in, all_from, none_first}
use Rattle.definition.specs.Tables.{pool_limit, Kind, same_kind, Span, same_dom, same_span, Row, meets, fits, fits_span, floored, good_row, good_span, in_order}
use Rattle.definition.specs.Pools.{In, Pool, mmio_pool, pio_pool, host_pool, input_pool, msi_pool, spans, insert, there, entered, has_place, admit, Holders, Claim, room, Hold, mmio_hold, pio_hold, host_hold, input_hold, device_hold, event_hold, lpi_hold, pair_hold, held_rows, unreserved, all_unreserved, reserve}
use Rattle.definition.proofs.RowLaws.{dom_sym, dom_trans, span_eq, span_refl}
use Rattle.definition.proofs.ClaimLaws.{other_kind}
use Rattle.definition.proofs.RequestLaws.{not_accepted, require_accepted}

-- ---- pool rows in order

order_i : (a b : Span) → (T (same_dom a.dom b.dom) → a.start ≤ b.start) → (T (same_span a b) → ⊥) → T (in_order a b)
unfolding in_order
order_i a b f g = and_i (not (same_dom a.dom b.dom) || leb a.start b.start) (not (same_span a b)) (go (either (same_dom a.dom b.dom))) (→not_T (same_span a b) g)
  where
    go : T (same_dom a.dom b.dom) ⊎ (T (same_dom a.dom b.dom) → ⊥) → T (not (same_dom a.dom b.dom) || leb a.start b.start)
    go (inl d) = or_r (not (same_dom a.dom b.dom)) (leb a.start b.start) (le→leb a.start b.start (f d))
    go (inr u) = or_l (not (same_dom a.dom b.dom)) (leb a.start b.start) (→not_T (same_dom a.dom b.dom) u)

pub order_start : (a b : Span) → T (in_order a b) → T (same_dom a.dom b.dom) → a.start ≤ b.start
unfolding in_order
order_start a b t d =
    go (or_cases (not (same_dom a.dom b.dom)) (leb a.start b.start) (and_l (not (same_dom a.dom b.dom) || leb a.start b.start) (not (same_span a b)) t))
  where
    go : T (not (same_dom a.dom b.dom)) ⊎ T (leb a.start b.start) → a.start ≤ b.start
    go (inl u) = absurd (not_T→ (same_dom a.dom b.dom) u d)
    go (inr l) = leb→le a.start b.start l

-- ---- insertion

module _ (p : Span) where
  abbrev Before : Span → Bool
  Before x = same_dom p.dom x.dom && ltb p.start x.start

  insert_at : (x : Span) (xs : List Span) → T (Before x) → insert p (x ∷ xs) ≡ p ∷ x ∷ xs
  unfolding insert
  insert_at x xs t = rw (T_true (Before x) t, insert)

  insert_past : (x : Span) (xs : List Span) → (T (Before x) → ⊥) → insert p (x ∷ xs) ≡ x ∷ insert p xs
  unfolding insert
  insert_past x xs u = rw (T_false (Before x) u, insert)

  pub insert_length : (xs : List Span) → length (insert p xs) ≡ suc (length xs)
  unfolding insert
  insert_length [] = refl
  insert_length (x ∷ xs) = go (insert_length xs) (either (Before x))
    where
      go : length (insert p xs) ≡ suc (length xs) → T (Before x) ⊎ (T (Before x) → ⊥) → length (insert p (x ∷ xs)) ≡ suc (suc (length xs))
      go below (inl t) = ap length (insert_at x xs t)
      go below (inr u) = ap length (insert_past x xs u) ∙ ap suc below

  -- a test that the new row and all the others pass
  pub insert_all : (good : Span → Bool) → T (good p) → (xs : List Span) → T (all_of good xs) → T (all_of good (insert p xs))
  unfolding insert all_of
  insert_all good g [] t = and_i (good p) true g tt
  insert_all good g (x ∷ xs) t =
      let t₁ : T (good x) = search (and_l) in
      let t₂ : T (all_of good xs) = search (and_r) in
      go t₁ t₂ (insert_all good g xs t₂) (either (Before x))
    where
      go : T (good x) → T (all_of good xs) → T (all_of good (insert p xs)) → T (Before x) ⊎ (T (Before x) → ⊥) → T (all_of good (insert p (x ∷ xs)))
      go t₁ t₂ below (inl b) = rw (insert_at x xs b) (and_i (good p) (all_of good (x ∷ xs)) g (and_i (good x) (all_of good xs) t₁ t₂))
      go t₁ t₂ below (inr u) = rw (insert_past x xs u) (and_i (good x) (all_of good (insert p xs)) t₁ below)

  abbrev New : List Span → Type 0
  New xs = (x : Span) → Memᴰ x xs → T (same_span p x) → ⊥

  -- a row that is no duplicate keeps the rows in order
  pub insert_order : (xs : List Span) → New xs → T (pairs_of in_order xs) → T (pairs_of in_order (insert p xs))
  unfolding insert pairs_of all_of
  insert_order [] new t = tt
  insert_order (x ∷ xs) new t =
      let t₁ : T (all_of (in_order x) xs) = search (and_l) in
      let t₂ : T (pairs_of in_order xs) = search (and_r) in
      go t₁ t₂ (insert_order xs (λ y m. new y (Memᴰ.tail m)) t₂) (either (Before x))
    where
      lower : T (Before x) → T (all_of (in_order x) xs) → (y : Span) → (y ≡ x) ⊎ Memᴰ y xs → T (same_dom p.dom y.dom) → p.start ≤ y.start
      lower b t₁ y (inl e) d =
          let l : T (ltb p.start x.start) = and_r (same_dom p.dom x.dom) (ltb p.start x.start) b in
          let k : y.start ≡ x.start = ap (λ (z : Span). z.start) e in
          omega (arith, ltb→lt p.start x.start l)
      lower b t₁ y (inr m) d =
          let c : T (same_dom p.dom x.dom) = and_l (same_dom p.dom x.dom) (ltb p.start x.start) b in
          let l : T (ltb p.start x.start) = and_r (same_dom p.dom x.dom) (ltb p.start x.start) b in
          let h : x.start ≤ y.start = order_start x y (all_in (in_order x) m t₁) (dom_trans x.dom p.dom y.dom (dom_sym p.dom x.dom c) d) in
          omega (arith, ltb→lt p.start x.start l)

      after : (T (Before x) → ⊥) → T (in_order x p)
      after u = order_i x p
          (λ d. nltb→le p.start x.start (→not_T (ltb p.start x.start) (λ l. u (and_i (same_dom p.dom x.dom) (ltb p.start x.start) (dom_sym x.dom p.dom d) l))))
          (λ s. new x (Memᴰ.head refl) (rw (span_eq x p s) (span_refl p)))

      go : T (all_of (in_order x) xs) → T (pairs_of in_order xs) → T (pairs_of in_order (insert p xs)) → T (Before x) ⊎ (T (Before x) → ⊥) → T (pairs_of in_order (insert p (x ∷ xs)))
      go t₁ t₂ below (inl b) = rw (insert_at x xs b)
          (and_i (all_of (in_order p) (x ∷ xs)) (pairs_of in_order (x ∷ xs))
          (all_from (in_order p) (x ∷ xs) (λ y m. order_i p y (lower b t₁ y (Memᴰ.cases_cons m)) (new y m)))
          (and_i (all_of (in_order x) xs) (pairs_of in_order xs) t₁ t₂))
      go t₁ t₂ below (inr u) = rw (insert_past x xs u)
          (and_i (all_of (in_order x) (insert p xs)) (pairs_of in_order (insert p xs)) (insert_all (in_order x) (after u) xs t₁) below)

-- ---- one range more

-- the rows of a sound pool table
pub record SoundSpans (k : Kind) (ps : List Span) : Type 0 where
  pub few : length ps ≤ pool_limit
  pub goods : T (all_of (good_span k) ps)
  pub order : T (pairs_of in_order ps)

pub entered_sound : (k : Kind) (p : Span) (ps : List Span) → SoundSpans k ps → T (good_span k p) → T (has_place p ps) → SoundSpans k (entered p ps)
unfolding entered has_place there
entered_sound k p ps s g t = go (any_of (same_span p) ps) refl t
  where
    go : (b : Bool) → any_of (same_span p) ps ≡ b → T (b || ltb (length ps) pool_limit) → SoundSpans k (elim b [ true ↦ ps | false ↦ insert p ps ])
    go true q h = s
    go false q h = record {
      few = omega (arith, insert_length p ps, ltb→lt (length ps) pool_limit h);
      goods = insert_all p (good_span k) g ps s.goods;
      order = insert_order p ps (λ x m u. subst T q (in_any (same_span p) m u)) s.order;
    }

-- an exact duplicate adds no row, and needs none, even in a full table
pub entered_there : (p : Span) (ps : List Span) → T (there p ps) → (entered p ps ≡ ps) × T (has_place p ps)
unfolding entered has_place
entered_there p ps t = (rw (T_true (there p ps) t, entered), or_l (there p ps) (ltb (length ps) pool_limit) t)

pub entered_new : (p : Span) (ps : List Span) → (T (there p ps) → ⊥) → entered p ps ≡ insert p ps
unfolding entered
entered_new p ps n = rw (T_false (there p ps) n, entered)

-- ---- adding ranges

-- each range is good, and there is a place for it
pub record Admitted (P : Kind → List Span) (cs : List (In Span)) : Type 0 where
  pub goods : (c : In Span) → Memᴰ c cs → T (good_span c.kind c.row)
  pub places : (c : In Span) → Memᴰ c cs → T (has_place c.row (P c.kind))

pub admit_says : (P : Kind → List Span) (cs ds : List (In Span)) → admit P cs ≡ accepted ds → (cs ≡ ds) × Admitted P cs
unfolding admit good_span
admit_says P cs ds e =
    let (f, e₁) = require_accepted (all_of (λ c. fits_span c.kind c.row) cs) bad_input _ e in
    let (l, e₂) = require_accepted (all_of (λ c. ltb c.row.start c.row.end) cs) empty_range _ e₁ in
    let (o, e₃) = require_accepted (all_of (λ c. floored c.kind c.row.start) cs) bad_lpi _ e₂ in
    let (r, e₄) = require_accepted (all_of (λ c. has_place c.row (P c.kind)) cs) full (accepted cs) e₃ in (
      cc,
      record {
        goods = λ c m.
            let f₁ : T (fits_span c.kind c.row) = all_in (λ c. fits_span c.kind c.row) m f in
            let l₁ : T (ltb c.row.start c.row.end) = all_in (λ c. ltb c.row.start c.row.end) m l in
            let o₁ : T (floored c.kind c.row.start) = all_in (λ c. floored c.kind c.row.start) m o in
            search (and_i);
        places = λ c m. all_in (λ c. has_place c.row (P c.kind)) m r;
      },
    )

-- ---- reservations

-- no reservation of its kind meets the row
abbrev pub Unmet : Holders → List Claim → Type 0
Unmet R cs = (c : Claim) → Memᴰ c cs → (x : Row) → Memᴰ x (R c.kind) → T (meets c.row x) → ⊥

pub record Reserved (R : Holders) (cs : List Claim) : Type 0 where
  pub goods : (c : Claim) → Memᴰ c cs → T (good_row c.kind c.row)
  pub unmet : Unmet R cs
  pub has_room : T (room R cs)

all_unreserved_is : {A : Type 0} (R : Holders) (cs : List Claim) (a : Answer A) {x : A} → all_unreserved R cs a ≡ accepted x → Unmet R cs × (a ≡ accepted x)
unfolding all_unreserved unreserved
all_unreserved_is R [] a e = (λ c m. absurd (Memᴰ.not-nil m), e)
all_unreserved_is R (c ∷ cs) a {x} e = go (all_unreserved_is R cs a) (first_of (meets c.row) (R c.kind)) refl e
  where
    split : (d : Claim) → first_of (meets c.row) (R c.kind) ≡ none → Unmet R cs → (d ≡ c) ⊎ Memᴰ d cs → (y : Row) → Memᴰ y (R d.kind) → T (meets d.row y) → ⊥
    split d q u (inl z) y m t = none_first (meets c.row) q (subst (λ (w : Claim). Memᴰ y (R w.kind)) z m) (subst (λ (w : Claim). T (meets w.row y)) z t)
    split d q u (inr n) y m t = u d n y m t

    go : (all_unreserved R cs a ≡ accepted x → Unmet R cs × (a ≡ accepted x)) → (o : Option Row) → first_of (meets c.row) (R c.kind) ≡ o → unreserved o (all_unreserved R cs a) ≡ accepted x
        → Unmet R (c ∷ cs) × (a ≡ accepted x)
    go below (some r) q h = absurd (not_accepted h)
    go below none q h = let (u, z) = below h in (λ d m. split d q u (Memᴰ.cases_cons m), z)

pub reserve_says : (R : Holders) (cs ds : List Claim) → reserve R cs ≡ accepted ds → (cs ≡ ds) × Reserved R cs
unfolding reserve good_row
reserve_says R cs ds e =
    let (f, e₁) = require_accepted (all_of (λ c. fits c.kind c.row) cs) bad_input _ e in
    let (o, e₂) = require_accepted (all_of (λ c. ltb 0 c.row.owner) cs) bad_owner _ e₁ in
    let (l, e₃) = require_accepted (all_of (λ c. ltb c.row.start c.row.end) cs) empty_range _ e₂ in
    let (v, e₄) = require_accepted (all_of (λ c. floored c.kind c.row.start) cs) bad_lpi _ e₃ in
    let (u, e₅) = all_unreserved_is R cs _ e₄ in
    let (r, e₆) = require_accepted (room R cs) full (accepted cs) e₅ in (
      cc,
      record {
        goods = λ c m.
            let f₁ : T (fits c.kind c.row) = all_in (λ c. fits c.kind c.row) m f in
            let o₁ : T (ltb 0 c.row.owner) = all_in (λ c. ltb 0 c.row.owner) m o in
            let l₁ : T (ltb c.row.start c.row.end) = all_in (λ c. ltb c.row.start c.row.end) m l in
            let v₁ : T (floored c.kind c.row.start) = all_in (λ c. floored c.kind c.row.start) m v in
            search (and_i);
        unmet = u;
        has_room = r;
      },
    )

-- no call reserves two rows of one table
pub held_apart : (o : ℕ) (h : Hold) → T (pairs_of other_kind (held_rows o h))
unfolding pairs_of all_of other_kind same_kind
held_apart o (mmio_hold s e) = tt
held_apart o (pio_hold s e) = tt
held_apart o (host_hold s e) = tt
held_apart o (input_hold c n t s) = tt
held_apart o (device_hold c i s e) = tt
held_apart o (event_hold c i d s e) = tt
held_apart o (lpi_hold c s e) = tt
held_apart o (pair_hold c n t h) = tt

-- .. nor adds two ranges to one
pub spans_apart : (p : Pool) → T (pairs_of other_kind (spans p))
unfolding pairs_of all_of other_kind same_kind
spans_apart (mmio_pool s e) = tt
spans_apart (pio_pool s e) = tt
spans_apart (host_pool s e) = tt
spans_apart (input_pool c s e) = tt
spans_apart (msi_pool c i ds de es ee ls le) = tt
