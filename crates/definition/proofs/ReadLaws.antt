-- What an answer reads: only the request itself, the pool rows and owner rows of its own kinds and domains in their order, and the row counts of the
-- tables that it needs. Of events it reads only the rows of the device chosen. Assumes nothing.
use Rattle.std.specs.Prelude.{◌≡◌, ◌⊎◌, Bool, true, false, ◌||◌, ℕ, ◌<◌, length}
use Rattle.std.proofs.Math.Path.{refl, sym, subst, ap}
use Rattle.std.proofs.Common.{◌∙◌, inl, inr, arith}
use mathlib.Core.List.{List, [], ◌∷◌}
use Rattle.std.proofs.Math.Dec.{T}
use Rattle.definition.specs.Base.{any_of, all_of, first_of, bad_input, full, malformed, Answer, accepted, refused, require, ◌then◌}
use Rattle.definition.proofs.BaseLaws.{and_l, and_r, T_true, T_false, true_T, either, first_at, first_past, all_alike}
use Rattle.definition.specs.Tables.{Dom, dom, same_dom, pool_dom, Kind, mmio, pio, input, host, device, event, lpi, Span, Row, meets}
use Rattle.definition.specs.Pools.{at_kind, Holders, Claim, room}
use Rattle.definition.specs.Request.{Choice, auto, at, Want, mmio_want, pio_want, input_want, host_want, msi_want, Request, one_bit, good_want, good_request, Need, row_at, holds, free, allowed, obstacle, found, Use, automatic, fixed, Pools, place, need, input_need, one, claims, resolve}
use Rattle.definition.specs.Calls.{State, pools_of, owners_of, sound, granting, want, settle, serve}
use Rattle.definition.proofs.RequestLaws.{required, one_bit_pos}
use Rattle.definition.proofs.SearchLaws.{lowest_says}

-- ---- the elements that pass, in order

unfoldable pub only : {A : Type 0} → (A → Bool) → List A → List A
only p [] = []
only p (x ∷ xs) = elim (p x) [ true ↦ x ∷ only p xs | false ↦ only p xs ]

module _ {A : Type 0} (q : A → Bool) where
  only_at : (x : A) (xs : List A) → T (q x) → only q (x ∷ xs) ≡ x ∷ only q xs
  unfolding only
  only_at x xs t = rw (T_true (q x) t, only)

  only_past : (x : A) (xs : List A) → (T (q x) → ⊥) → only q (x ∷ xs) ≡ only q xs
  unfolding only
  only_past x xs u = rw (T_false (q x) u, only)

  module _ (p : A → Bool) (in-q : (x : A) → T (p x) → T (q x)) where
    -- a test that only such elements pass sees the others no more
    first_only : (xs : List A) → first_of p xs ≡ first_of p (only q xs)
    unfolding first_of only
    first_only [] = refl
    first_only (x ∷ xs) = go (first_only xs) (either (q x)) (either (p x))
      where
        go : first_of p xs ≡ first_of p (only q xs) → T (q x) ⊎ (T (q x) → ⊥) → T (p x) ⊎ (T (p x) → ⊥) → first_of p (x ∷ xs) ≡ first_of p (only q (x ∷ xs))
        go below (inl t) (inl s) = rw (only_at x xs t) (first_at p x xs s ∙ sym (first_at p x (only q xs) s))
        go below (inl t) (inr u) = rw (only_at x xs t) (first_past p x xs u ∙ below ∙ sym (first_past p x (only q xs) u))
        go below (inr v) s = rw (only_past x xs v) (first_past p x xs (λ h. v (in-q x h)) ∙ below)

    any_only : (xs : List A) → any_of p xs ≡ any_of p (only q xs)
    unfolding any_of only
    any_only [] = refl
    any_only (x ∷ xs) = go (any_only xs) (either (q x))
      where
        go : any_of p xs ≡ any_of p (only q xs) → T (q x) ⊎ (T (q x) → ⊥) → (p x || any_of p xs) ≡ any_of p (only q (x ∷ xs))
        go below (inl t) = rw (only_at x xs t) (ap (λ b. p x || b) below)
        go below (inr v) = rw (only_past x xs v, T_false (p x) (λ h. v (in-q x h))) below

    first_alike : (xs ys : List A) → only q xs ≡ only q ys → first_of p xs ≡ first_of p ys
    first_alike xs ys e = first_only xs ∙ ap (first_of p) e ∙ sym (first_only ys)

    any_alike : (xs ys : List A) → only q xs ≡ only q ys → any_of p xs ≡ any_of p ys
    any_alike xs ys e = any_only xs ∙ ap (any_of p) e ∙ sym (any_only ys)

-- ---- what of two states must agree for one need

-- the pool ranges of a domain, and its rows, in their order
abbrev pub spans_in : Dom → List Span → List Span
spans_in d ps = only (λ p. same_dom (pool_dom d) p.dom) ps

abbrev pub rows_in : Dom → List Row → List Row
rows_in d rs = only (λ r. same_dom d r.dom) rs

pub record Alike (P P' : Pools) (S S' : Holders) (k : Kind) (d : Dom) : Type 0 where
  pub pools : (u : Use) → spans_in d (P u k) ≡ spans_in d (P' u k)
  pub rows : rows_in d (S k) ≡ rows_in d (S' k)

holds_dom : (n : Need) (b : ℕ) (p : Span) → T (holds n b p) → T (same_dom (pool_dom n.dom) p.dom)
unfolding holds
holds_dom n b p t = search (and_l)

meets_dom : (n : Need) (b : ℕ) (r : Row) → T (meets (row_at n b) r) → T (same_dom n.dom r.dom)
unfolding meets row_at
meets_dom n b r t = search (and_l)

module _ (P P' : Pools) (S S' : Holders) where
  module _ (n : Need) (a : Alike P P' S S' n.kind n.dom) where
    held_alike : (u : Use) (b : ℕ) → any_of (holds n b) (P u n.kind) ≡ any_of (holds n b) (P' u n.kind)
    held_alike u b = any_alike (λ p. same_dom (pool_dom n.dom) p.dom) (holds n b) (holds_dom n b) (P u n.kind) (P' u n.kind) (a.pools u)

    free_same : (b : ℕ) → free (P automatic n.kind) (S n.kind) n b ≡ free (P' automatic n.kind) (S' n.kind) n b
    unfolding free
    free_same b = rw (held_alike automatic b, any_alike (λ r. same_dom n.dom r.dom) (meets (row_at n b)) (meets_dom n b) (S n.kind) (S' n.kind) a.rows)

    pub place_reads : (c : Choice) → 0 < n.alignment → place P S n c ≡ place P' S' n c
    unfolding place allowed obstacle
    place_reads auto pos =
        ap (found n) (all_alike (λ b t. subst T (free_same b) t) (λ b t. subst T (sym (free_same b)) t)
        (lowest_says (P automatic n.kind) (S n.kind) n pos) (lowest_says (P' automatic n.kind) (S' n.kind) n pos))
    place_reads (at b) pos =
        rw (held_alike fixed b, first_alike (λ r. same_dom n.dom r.dom) (meets (row_at n b)) (meets_dom n b) (S n.kind) (S' n.kind) a.rows)

  -- ---- .. for one request

  -- the kind's rows of the domain, and its row count
  abbrev pub Reads : Kind → Dom → Type 0
  Reads k d = Alike P P' S S' k d × (length (S k) ≡ length (S' k))

  abbrev pub ReadsFor : ℕ → Want → Type 0
  ReadsFor q (mmio_want s a c) = Reads mmio (dom 0 0 0)
  ReadsFor q (pio_want s a c) = Reads pio (dom 0 0 0)
  ReadsFor q (input_want k t s c) = Reads input (dom k 0 0)
  ReadsFor q (host_want c) = Reads host (dom 0 0 0)
  ReadsFor q (msi_want k i n d e l) =
      Reads device (dom k i 0)
      × ((rd : Row) → place P S (need device (dom k i 0) 1 1 q) d ≡ accepted rd → Alike P P' S S' event (dom k i rd.start))
      × (length (S event) ≡ length (S' event))
      × Reads lpi (dom k 0 0)

  abbrev with_room_is : Holders → Answer (List Claim) → Answer (List Claim)
  with_room_is X a = a then λ cs. require (room X cs) full (accepted cs)

  one_reads : (n : Need) (c : Choice) → 0 < n.alignment → Reads n.kind n.dom → with_room_is S (one P S n c) ≡ with_room_is S' (one P' S' n c)
  unfolding room all_of
  one_reads n c pos (a, h) = rw (place_reads n a c pos) (go (place P' S' n c))
    where
      go : (x : Answer Row) → with_room_is S (x then λ r. accepted (at_kind n.kind r ∷ [])) ≡ with_room_is S' (x then λ r. accepted (at_kind n.kind r ∷ []))
      go (accepted r) = rw h
      go (refused r) = refl

  three_reads : (q k i n : ℕ) (d e l : Choice) → ReadsFor q (msi_want k i n d e l) → with_room_is S (claims P S q (msi_want k i n d e l)) ≡ with_room_is S' (claims P' S' q (msi_want k i n d e l))
  unfolding claims room all_of
  three_reads q k i n d e l ((ad, nd), ae, ne, (al, nl)) = go₁ (place P S (need device (dom k i 0) 1 1 q) d) refl (sym (place_reads (need device (dom k i 0) 1 1 q) ad d (omega arith)))
    where
      go₃ : (rd re : Row) (a : Answer Row)
          → with_room_is S (a then λ rl. accepted (at_kind device rd ∷ at_kind event re ∷ at_kind lpi rl ∷ []))
          ≡ with_room_is S' (a then λ rl. accepted (at_kind device rd ∷ at_kind event re ∷ at_kind lpi rl ∷ []))
      go₃ rd re (accepted rl) = rw (nd, ne, nl)
      go₃ rd re (refused r) = refl

      go₂ : (rd : Row) (a : Answer Row)
          → with_room_is S (a then λ re. place P S (need lpi (dom k 0 0) n 1 q) l then λ rl. accepted (at_kind device rd ∷ at_kind event re ∷ at_kind lpi rl ∷ []))
          ≡ with_room_is S' (a then λ re. place P' S' (need lpi (dom k 0 0) n 1 q) l then λ rl. accepted (at_kind device rd ∷ at_kind event re ∷ at_kind lpi rl ∷ []))
      go₂ rd (accepted re) = rw (place_reads (need lpi (dom k 0 0) n 1 q) al l (omega arith)) (go₃ rd re (place P' S' (need lpi (dom k 0 0) n 1 q) l))
      go₂ rd (refused r) = refl

      go₁ : (a : Answer Row) → place P S (need device (dom k i 0) 1 1 q) d ≡ a → place P' S' (need device (dom k i 0) 1 1 q) d ≡ place P S (need device (dom k i 0) 1 1 q) d
          → with_room_is S (claims P S q (msi_want k i n d e l)) ≡ with_room_is S' (claims P' S' q (msi_want k i n d e l))
      go₁ (accepted rd) x y = rw (y, x, place_reads (need event (dom k i rd.start) n 1 q) (ae rd x) e (omega arith)) (go₂ rd (place P' S' (need event (dom k i rd.start) n 1 q) e))
      go₁ (refused r) x y = rw (y, x)

  want_reads : (q : ℕ) (w : Want) → T (good_want w) → ReadsFor q w → with_room_is S (claims P S q w) ≡ with_room_is S' (claims P' S' q w)
  unfolding claims good_want
  want_reads q (mmio_want s a c) g h = let b : T (one_bit 64 a) = search (and_l, and_r) in one_reads (need mmio (dom 0 0 0) s a q) c (one_bit_pos 64 a b) h
  want_reads q (pio_want s a c) g h = let b : T (one_bit 16 a) = search (and_l, and_r) in one_reads (need pio (dom 0 0 0) s a q) c (one_bit_pos 16 a b) h
  want_reads q (input_want k t s c) g h = one_reads (input_need k t s q) c (omega arith) h
  want_reads q (host_want c) g h = one_reads (need host (dom 0 0 0) 1 1 q) c (omega arith) h
  want_reads q (msi_want k i n d e l) g h = three_reads q k i n d e l h

-- WHAT AN ANSWER READS: the same answer, refusal and named owner included
pub resolve_reads : (P P' : Pools) (S S' : Holders) (r : Request) → ReadsFor P P' S S' r.requester r.want → resolve P S r ≡ resolve P' S' r
unfolding resolve require good_request
resolve_reads P P' S S' r h = go (good_request r) refl
  where
    go : (b : Bool) → good_request r ≡ b
        → require b bad_input (claims P S r.requester r.want then λ cs. require (room S cs) full (accepted cs))
        ≡ require b bad_input (claims P' S' r.requester r.want then λ cs. require (room S' cs) full (accepted cs))
    go false e = refl
    go true e =
        let g : T (good_request r) = true_T (good_request r) e in
        let w : T (good_want r.want) = search (and_l, and_r) in
        want_reads P P' S S' r.requester r.want w h

-- .. so two sound states that agree there give the same five numbers
pub serve_reads : (ks : List Kind) (r : Request) (s t : State) → T (sound ks s) → T (sound ks t) → ReadsFor (pools_of s) (pools_of t) (owners_of s) (owners_of t) r.requester r.want
    → (serve ks (want r) s).said ≡ (serve ks (want r) t).said
unfolding serve
serve_reads ks r s t hs ht same =
    rw (
      required (sound ks s) malformed (resolve (pools_of s) (owners_of s) r then λ cs. accepted (granting cs s)) hs,
      required (sound ks t) malformed (resolve (pools_of t) (owners_of t) r then λ cs. accepted (granting cs t)) ht,
      resolve_reads (pools_of s) (pools_of t) (owners_of s) (owners_of t) r same,
    )
    (go (resolve (pools_of t) (owners_of t) r))
  where
    go : (a : Answer (List Claim)) → (settle s (a then λ cs. accepted (granting cs s))).said ≡ (settle t (a then λ cs. accepted (granting cs t))).said
    go (accepted cs) = refl
    go (refused x) = refl
