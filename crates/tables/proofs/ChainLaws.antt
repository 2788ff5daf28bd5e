-- What the iterators over 0..n say of rows: `find` is `first`, `all` is `all_below`. Assumes nothing.
use Rattle.std.proofs.Common.{◌≡◌, refl, sym, subst, ℕ, zero, suc, ◌<◌, ◌≤◌, Bool, true, false, arith, length}
use Rattle.std.specs.Prelude.{Option, Some, None, List}
use denote.Ref.{Bor}
use denote.Param.Members.{Mut}
use Rattle.std.specs.declared.ops.Range.{Range}
use Rattle.std.specs.Iterator.{YieldsThen}
use Rattle.std.specs.List.{FoldsTo, range_with_len, AllWithin, HoldsAt}
use Rattle.std.specs.Fn.{Called, CalledAt}
use Rattle.std.specs.Option.{MatchOption}
use Rattle.std.specs.Bool.{MatchBool, ⊤}
use Rattle.std.proofs.iter.Yields.{nat_range_steps}
use Rattle.std.proofs.lemmas.Iterator.{first_from_Range, YieldsList-from_range, cases_from_all, cases_from_any}
use Rattle.std.proofs.lemmas.List.FromFn.{length-range_with_len, get_or-range_with_len}
use Rattle.tables.specs.Below.{first, all_below}
use Rattle.tables.proofs.BelowLaws.{first_found, all_every, all_stop}

first_none : (q : ℕ → Bool) (i : ℕ) → ((k : ℕ) → k < i → q k ≡ false) → first q i ≡ None
unfolding first
first_none q zero h = refl
first_none q (suc i) h = rw (first_none q i (λ k l. h k (omega arith)), h i (omega arith))

module _ (q : ℕ → Bool) (n : ℕ) where
  none_or_first : (r : Option ℕ) → MatchOption r ((k : ℕ) → 0 ≤ k → k < n → q k ≡ false) (λ i. (0 ≤ i) × (i < n) × (q i ≡ true) × ((k : ℕ) → 0 ≤ k → k < i → q k ≡ false)) → r ≡ first q n
  none_or_first None h = sym (first_none q n (λ k l. h k (omega arith) l))
  none_or_first (Some i) h = sym (first_found q i n (first_none q i (λ k l. h.3 k (omega arith) l)) h.2 h.1)

  -- `find` answers the first row that passes: each call answers `q` of its number and leaves the closure as it is
  pub find_first : {F : Type 0} {g : Mut F (Bor ℕ × Unit {0}) Bool} (u : Range ℕ) (f : F) (r : Option ℕ)
      → (xs : List ℕ) × (j : F) × YieldsThen nat_range_steps (record { start = 0; end = n }) xs r u × FoldsTo (λ p x q. CalledAt g p x false q) f xs j × MatchOption r ⊤ (λ x. (h : F) × CalledAt g j x true h)
      → ((x : ℕ) (b : Bool) (p : F) → CalledAt g f x b p → (p ≡ f) × (b ≡ q x)) → r ≡ first q n
  find_first u f r d k = none_or_first r (first_from_Range (record { start = 0; end = n }) u f r (λ x. q x ≡ true) (λ x. q x ≡ false) d (λ x p c. sym (k x true p c).1) (λ x p c. ((k x false p c).0, sym (k x false p c).1)))

  all_or_not : (r : Bool) → MatchBool r (AllWithin (λ x. q x ≡ true) (range_with_len 0 n) 0 (length (range_with_len 0 n))) ((k : ℕ) × (k < length (range_with_len 0 n)) × HoldsAt (λ x. q x ≡ false) (range_with_len 0 n) k) → r ≡ all_below q n
  all_or_not true h = sym (all_every q n (λ k l. subst (λ x. q x ≡ true) {y = k} (omega (arith, get_or-range_with_len 0 n k 0 l)) (h k 0 (omega arith) (omega (arith, length-range_with_len 0 n)))))
  all_or_not false h =
      let l : h.0 < n = omega (arith, h.1, length-range_with_len 0 n) in
      sym (all_stop q h.0 n (subst (λ x. q x ≡ false) {y = h.0} (omega (arith, get_or-range_with_len 0 n h.0 0 l)) (h.2 0)) l)

  -- `all` answers whether each row passes
  pub all_rows : {F : Type 0} {g : Mut F (ℕ × Unit {0}) Bool} (u : Range ℕ) (f : F) (r : Bool)
      → (xs : List ℕ) × (o : Option ℕ) × (j : F) × YieldsThen nat_range_steps (record { start = 0; end = n }) xs o u × FoldsTo (λ p x q. Called g p (x, tt) true q) f xs j × MatchOption o (r ≡ true) (λ x. (r ≡ false) × ((h : F) × Called g j (x, tt) false h))
      → ((x : ℕ) (b : Bool) (p : F) → Called g f (x, tt) b p → (p ≡ f) × (b ≡ q x)) → r ≡ all_below q n
  all_rows u f r d k = all_or_not r (cases_from_all u f r (λ x. q x ≡ true) (λ x. q x ≡ false) d (YieldsList-from_range 0 n n refl (omega arith)) (λ x p c. ((k x true p c).0, sym (k x true p c).1)) (λ x p c. sym (k x false p c).1))

  any_or_none : (r : Bool) → MatchBool r ((k : ℕ) × (k < length (range_with_len 0 n)) × HoldsAt (λ x. q x ≡ true) (range_with_len 0 n) k) (AllWithin (λ x. q x ≡ false) (range_with_len 0 n) 0 (length (range_with_len 0 n))) → MatchBool r ((k : ℕ) × (k < n) × (q k ≡ true)) ((k : ℕ) → k < n → q k ≡ false)
  any_or_none true h =
      let l : h.0 < n = omega (arith, h.1, length-range_with_len 0 n) in
      (h.0, l, subst (λ x. q x ≡ true) {y = h.0} (omega (arith, get_or-range_with_len 0 n h.0 0 l)) (h.2 0))
  any_or_none false h = λ k l. subst (λ x. q x ≡ false) {y = k} (omega (arith, get_or-range_with_len 0 n k 0 l)) (h k 0 (omega arith) (omega (arith, length-range_with_len 0 n)))

  -- `any` answers whether some row passes
  pub any_row : {F : Type 0} {g : Mut F (ℕ × Unit {0}) Bool} (u : Range ℕ) (f : F) (r : Bool)
      → (xs : List ℕ) × (o : Option ℕ) × (j : F) × YieldsThen nat_range_steps (record { start = 0; end = n }) xs o u × FoldsTo (λ p x q. Called g p (x, tt) false q) f xs j × MatchOption o (r ≡ false) (λ x. (r ≡ true) × ((h : F) × Called g j (x, tt) true h))
      → ((x : ℕ) (b : Bool) (p : F) → Called g f (x, tt) b p → (p ≡ f) × (b ≡ q x)) → MatchBool r ((k : ℕ) × (k < n) × (q k ≡ true)) ((k : ℕ) → k < n → q k ≡ false)
  any_row u f r d k = any_or_none r (cases_from_any u f r (λ x. q x ≡ true) (λ x. q x ≡ false) d (YieldsList-from_range 0 n n refl (omega arith)) (λ x p c. sym (k x true p c).1) (λ x p c. ((k x false p c).0, sym (k x false p c).1)))
