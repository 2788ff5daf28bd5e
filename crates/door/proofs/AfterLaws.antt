-- The state after a call that adds is the definition's, whose pools or reservations it has. Assumes nothing.
--     pool_after    the definition's state after pool ranges are added, or refused;        held_after     .. after reservations
--     pool_state   a state is pool_after;                                                  hold_state    .. held_after
use mathlib.Core.Path.{◌≡◌, refl, sym, ◌∙◌, ap, subst}
use mathlib.Core.Logic.{◌⊎◌, inl, inr}
use mathlib.Core.Bool.{Bool, true, false, ◌&&◌, true≢false}
use mathlib.Core.List.Memᴰ
use mathlib.Core.List.{List, map, Memᴰ}
use lib.Dec.{T}
use Rattle.definition.specs.Base.{any_of, pairs_of, Said, Answer, accepted, refused, ◌then◌}
use Rattle.definition.proofs.BaseLaws.{T_true, true_T, false_T, either, any_in, in_any}
use Rattle.definition.specs.Tables.{Kind, same_kind, Span, Row, Table}
use Rattle.definition.specs.Pools.{In, at_kind, there, entered, has_place, admit, Claim, rows_of, reserve}
use Rattle.definition.specs.Request.{Use, automatic, fixed}
use Rattle.definition.specs.Calls.{State as Given, state, pools_of, held_of, saying, push_all, stored, same_use, holding, entering, settle}
use Rattle.definition.proofs.RowLaws.{same_kind_equal, kind_same}
use Rattle.definition.proofs.ClaimLaws.{other_kind}
use Rattle.definition.proofs.PlanLaws.{tell_number}
use Rattle.definition.proofs.PoolLaws.{entered_there, entered_new, admit_says, reserve_says}
use Rattle.definition.proofs.WholeLaws.{Whole, entering_whole}
use Rattle.insert.specs.Answers.{pick, telling, entered_or}

abbrev pub pool_after : Use → List (In Span) → Given → Given
pool_after u cs s = settle s (admit (pools_of s u) cs then λ ds. accepted (entering u ds s))

abbrev pub held_after : List Claim → Given → Given
held_after cs s = settle s (reserve (held_of s) cs then λ ds. accepted (holding ds s))

-- t is what an answer makes of s
settles : {A : Type 0} (s t : Given) (a : Answer A) (f : A → Given) → t.said ≡ telling a → ((t.said.number ≡ 0 → ⊥) → t ≡ saying t.said s) → (t.said.number ≡ 0 → (x : A) → a ≡ accepted x → t ≡ f x)
    → t ≡ settle s (a then λ x. accepted (f x))
settles {A} s t a f said same made = go a refl said
  where
    go : (b : Answer A) → a ≡ b → t.said ≡ telling b → t ≡ settle s (b then λ x. accepted (f x))
    go (accepted x) e w = made (ap (λ (v : Said). v.number) w) x e
    go (refused x) e w = same (λ n. tell_number 0 x (sym (ap (λ (v : Said). v.number) w) ∙ n)) ∙ ap (λ (v : Said). saying v s) w

-- ---- reservations

module _ (s : Given) (cs : List Claim) (H : Kind → Table Row) (w : Said) (said : w ≡ telling (reserve (held_of s) cs)) where
  pub hold_state : ((w.number ≡ 0 → ⊥) → (k : Kind) → H k ≡ s.held k) → (w.number ≡ 0 → (k : Kind) → H k ≡ push_all (s.held k) (rows_of k cs)) → state s.pools H s.owners w ≡ held_after cs s
  hold_state none all = settles s (state s.pools H s.owners w) (reserve (held_of s) cs) (λ ds. holding ds s) said
      (λ n i. state s.pools (λ k. none n k i) s.owners w)
      (λ z ds e i. state s.pools (λ k. (all z k ∙ ap (λ (es : List Claim). push_all (s.held k) (rows_of k es)) (reserve_says (held_of s) cs ds e).0) i) s.owners ((said ∙ ap telling e) i))

-- ---- pool ranges: of each kind of ks one

abbrev pub ranges : (Kind → Span) → List Kind → List (In Span)
ranges row ks = map (λ k. at_kind k (row k)) ks

same_use_is : (v u : Use) → same_use v u ≡ true → v ≡ u
same_use_is automatic automatic e = refl
same_use_is automatic fixed e = absurd (true≢false (sym e))
same_use_is fixed automatic e = absurd (true≢false (sym e))
same_use_is fixed fixed e = refl

module _ (s : Given) (u : Use) (row : Kind → Span) (ks : List Kind) (apart : T (pairs_of other_kind (ranges row ks))) where
  whole : Whole u (ranges row ks) s (entering u (ranges row ks) s)
  whole = entering_whole u (ranges row ks) s apart

  -- the pools with each range among its table's rows, where it has a place
  abbrev pub put : Use → Kind → Table Span
  put v k = pick (same_use v u && any_of (same_kind k) ks) (entered_or (row k) (s.pools v k)) (s.pools v k)

  -- .. are the definition's
  module _ (places : (k : Kind) → Memᴰ k ks → T (has_place (row k) (pools_of s u k))) where
    own : (k : Kind) → Memᴰ k ks → entered_or (row k) (s.pools u k) ≡ (entering u (ranges row ks) s).pools u k
    own k m = ap (λ (b : Bool). pick b (stored (entered (row k) (pools_of s u k))) (s.pools u k)) (T_true (has_place (row k) (pools_of s u k)) (places k m)) ∙ go (either (there (row k) (pools_of s u k)))
      where
        go : T (there (row k) (pools_of s u k)) ⊎ (T (there (row k) (pools_of s u k)) → ⊥) → stored (entered (row k) (pools_of s u k)) ≡ (entering u (ranges row ks) s).pools u k
        go (inl t) = ap stored (entered_there (row k) (pools_of s u k) t).0 ∙ sym (whole.known (at_kind k (row k)) (Memᴰ.map _ m) t)
        go (inr n) = ap stored (entered_new (row k) (pools_of s u k) n) ∙ sym (whole.new (at_kind k (row k)) (Memᴰ.map _ m) n)

    put_own : (k : Kind) (b : Bool) → any_of (same_kind k) ks ≡ b → pick b (entered_or (row k) (s.pools u k)) (s.pools u k) ≡ (entering u (ranges row ks) s).pools u k
    put_own k true e = let (j, m, t) = any_in (same_kind k) ks (true_T (any_of (same_kind k) ks) e) in own k (subst (λ (i : Kind). Memᴰ i ks) (sym (same_kind_equal k j t)) m)
    put_own k false e = sym (whole.other_kinds u k (λ c m z.
        let (j, n, y) = Memᴰ.of_map (λ k. at_kind k (row k)) ks m in
        false_T (any_of (same_kind k) ks) e (in_any (same_kind k) n (subst (λ (i : Kind). T (same_kind k i)) (z ∙ sym (ap (λ (c : In Span). c.kind) y)) (kind_same k)))))

    entered_pools : (v : Use) (k : Kind) → put v k ≡ (entering u (ranges row ks) s).pools v k
    entered_pools v k = go (same_use v u) refl
      where
        go : (b : Bool) → same_use v u ≡ b → pick (b && any_of (same_kind k) ks) (entered_or (row k) (s.pools v k)) (s.pools v k) ≡ (entering u (ranges row ks) s).pools v k
        go true e = rw (same_use_is v u e) (put_own k (any_of (same_kind k) ks) refl)
        go false e = sym (whole.other_use v e k)

  pub pool_state : (P : Use → Kind → Table Span) (H : Kind → Table Row) (w : Said) → ((k : Kind) → H k ≡ s.held k) → w ≡ telling (admit (pools_of s u) (ranges row ks))
      → ((w.number ≡ 0 → ⊥) → (v : Use) (k : Kind) → P v k ≡ s.pools v k) → (w.number ≡ 0 → (v : Use) (k : Kind) → P v k ≡ put v k) → state P H s.owners w ≡ pool_after u (ranges row ks) s
  pool_state P H w held said none all = settles s (state P H s.owners w) (admit (pools_of s u) (ranges row ks)) (λ ds. entering u ds s) said
      (λ n i. state (λ v k. none n v k i) (λ k. held k i) s.owners w)
      (λ z ds e.
      let (same, o) = admit_says (pools_of s u) (ranges row ks) ds e in
      (λ i. state (λ v k. (all z v k ∙ entered_pools (λ k m. o.places (at_kind k (row k)) (Memᴰ.map _ m)) v k) i) (λ k. (held k ∙ ap (λ (h : Kind → Table Row). h k) (sym whole.held)) i) (sym whole.owners i) ((said ∙ ap telling e ∙ sym whole.said) i))
      ∙ ap (λ (es : List (In Span)). entering u es s) same)
