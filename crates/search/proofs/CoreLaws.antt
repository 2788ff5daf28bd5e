-- The mathematics of the search, over rows by their index and no code. Assumes nothing.
use mathlib.Core.Path.{◌≡◌, ap}
use mathlib.Core.Bool.{true, not, ◌||◌}
use mathlib.Core.Logic.{⊎_elim}
use mathlib.Core.List.{List}
use mathlib.Core.Option.{none, some}
use Prim.Native.Nat.{ℕ, ◌%◌, ◌<◌, ◌≤◌}
use native.Mathlib.Nat.{eq-or-lt_of_le}
use native.Mathlib.Omega.{arith}
use lib.Dec.{T, leb, eqb, leb→le, eqb→eq}
use Rattle.definition.specs.Base.{any_of, pairs_of}
use Rattle.definition.proofs.BaseLaws.{and_l, and_r, and_i, T_false, false_T, not_T→, →not_T, or_cases, eq→eqb, all_some, all_none}
use Rattle.definition.specs.Tables.{same_dom, pool_dom, Span, Row, meets, same_span, in_order}
use Rattle.definition.proofs.RowLaws.{dom_sym, dom_trans}
use Rattle.definition.specs.Request.{Need, row_at, aligned, holds, free, lowest}
use Rattle.definition.proofs.SearchLaws.{lowest_says}
use Rattle.tables.specs.Below.{listed}
use Rattle.tables.proofs.ListedLaws.{pairs_out}
use Rattle.bases.specs.Bases.{Up}
use Rattle.search.specs.Steps.{Bases, Free, Tried, Jumps}
use Rattle.search.specs.Finds.{Barren}
use Rattle.search.proofs.CaseLaws.{lt_or_le, not_both}
use Rattle.tables.proofs.IndexLaws.{any_out, any_in}
use Rattle.search.proofs.MeetLaws.{meets_says, says_meets, holds_says}

-- ---- rows in the way

module _ (g : ℕ → Row) (on : ℕ) (n : Need) where
  -- a row that meets the run at c meets that at every base from c to the row's end: so no base is lost by going on from the next multiple past that end
  pub jump : (c stop r k : ℕ) → c < stop → k < on → meets (row_at n c) (g k) ≡ true → Up (g k).end n.alignment stop r → Jumps g on n c stop r
  unfolding row_at
  jump c stop r k l used hit u =
      let m = meets_says (row_at n c) (g k) hit in
      record {
        rises = ⊎_elim (λ p. omega (arith, u.reached p, m.low)) (λ p. omega arith) (lt_or_le r stop);
        within = u.within;
        aligned = u.aligned;
        tried =
            λ x a z e f.
            ⊎_elim
            (λ p. not_both (says_meets (row_at n x) (g k) (record { dom = m.dom; low = p; high = omega (arith, m.high) })) (f k used))
            (λ p. u.none_before x p z e)
            (lt_or_le x (g k).end);
        passed = λ p. (k, used, hit, u.reached p);
      }

  pub tried_first : (lo stop c : ℕ) → Up lo n.alignment stop c → Tried g on n lo c
  tried_first lo stop c u x l h e f = u.none_before x l h e

  pub tried_none : (lo : ℕ) → Tried g on n lo lo
  tried_none lo x l h e f = omega arith

  pub tried_more : (lo c c' : ℕ) → Tried g on n lo c → Tried g on n c c' → Tried g on n lo c'
  tried_more lo c c' t u x l m e f = ⊎_elim (λ p. t x l p e f) (λ p. u x p m e f) (lt_or_le x c)

-- ---- pool rows

module _ (f : ℕ → Span) (g : ℕ → Row) (on : ℕ) (n : Need) where
  -- a candidate past the last base of pool row i: the row is barren
  pub barren_tried : (i c stop : ℕ) → Bases n (f i) stop → stop ≤ c → Tried g on n (f i).start c → Barren (f i) g on n
  barren_tried i c stop u l t b h e z = t b (holds_says n b (f i) h).low (omega (arith, u.all b h)) e z

  -- sorted within a domain
  sorted : (pn j k : ℕ) → T (pairs_of in_order (listed f pn)) → j < k → k < pn → T (same_dom (pool_dom n.dom) (f j).dom) → T (same_dom (pool_dom n.dom) (f k).dom) → (f j).start ≤ (f k).start
  unfolding in_order
  sorted pn j k o l m dj dk =
      let t : T (in_order (f j) (f k)) = pairs_out in_order f pn o j k l m in
      let s : T (same_dom (f j).dom (f k).dom) = dom_trans (f j).dom (pool_dom n.dom) (f k).dom (dom_sym (pool_dom n.dom) (f j).dom dj) dk in
      ⊎_elim
      (λ h. absurd (not_T→ (same_dom (f j).dom (f k).dom) h s))
      (λ h. leb→le (f j).start (f k).start h)
      (or_cases (not (same_dom (f j).dom (f k).dom)) (leb (f j).start (f k).start) (and_l (not (same_dom (f j).dom (f k).dom) || leb (f j).start (f k).start) (not (same_span (f j) (f k))) t))

  module _ (pn : ℕ) where
    abbrev Ps : List Span
    Ps = listed f pn

    abbrev Rs : List Row
    Rs = listed g on

    -- free by index
    free_in : (b i : ℕ) → i < pn → T (holds n b (f i)) → b % n.alignment ≡ 0 → Free g on n b → T (free Ps Rs n b)
    unfolding free aligned
    free_in b i l h e z =
        let a : T (any_of (holds n b) Ps) = any_in (holds n b) f pn i l h in
        let c : T (any_of (meets (row_at n b)) Rs) → ⊥ = λ t. let (k, m, w) = any_out (meets (row_at n b)) g on t in false_T (meets (row_at n b) (g k)) (z k m) w in
        search (and_i, →not_T, eq→eqb)

    free_out : (b : ℕ) → T (free Ps Rs n b) → ((i : ℕ) × (i < pn) × T (holds n b (f i))) × (b % n.alignment ≡ 0) × Free g on n b
    unfolding free aligned
    free_out b t =
        let a : T (eqb (b % n.alignment) 0) = search (and_l) in
        let h : T (any_of (holds n b) Ps) = search (and_l, and_r) in
        let z : T (not (any_of (meets (row_at n b)) Rs)) = search (and_l, and_r) in (
          any_out (holds n b) f pn h,
          eqb→eq (b % n.alignment) 0 a,
          λ k m. T_false (meets (row_at n b) (g k)) (λ w. not_T→ (any_of (meets (row_at n b)) Rs) z (any_in (meets (row_at n b)) g on k m w)),
        )

    module _ (pos : 0 < n.alignment) where
      -- a free candidate of pool row i is the least of all, where the rows before i are barren: a lesser one would lie in a row from i on, whose start is no less than row i's
      pub lowest_here : (i c : ℕ) → T (pairs_of in_order Ps) → i < pn → ((k : ℕ) → k < i → Barren (f k) g on n) → Tried g on n (f i).start c
          → T (holds n c (f i)) → c % n.alignment ≡ 0 → Free g on n c → lowest Ps Rs n ≡ some c
      lowest_here i c o l before t h e z = all_some c (lowest_says Ps Rs n pos) (free_in c i l h e z) low
        where
          from : (x k : ℕ) → k < pn → T (holds n x (f k)) → i ≤ k → (f i).start ≤ x
          from x k m y p =
              ⊎_elim
              (λ q. omega (arith, ap (λ (j : ℕ). (f j).start) q, (holds_says n x (f k) y).low))
              (λ q. omega (arith, sorted pn i k o q m (holds_says n c (f i) h).dom (holds_says n x (f k) y).dom, (holds_says n x (f k) y).low))
              (eq-or-lt_of_le p)

          low : (x : ℕ) → T (free Ps Rs n x) → c ≤ x
          low x u =
              let y = free_out x u in
              ⊎_elim
              (λ p. absurd (before y.0.0 p x y.0.2 y.1 y.2))
              (λ p. ⊎_elim (λ q. absurd (t x (from x y.0.0 y.0.1 y.0.2 p) q y.1 y.2)) (λ q. q) (lt_or_le x c))
              (lt_or_le y.0.0 i)

      pub lowest_none : ((k : ℕ) → k < pn → Barren (f k) g on n) → lowest Ps Rs n ≡ none
      lowest_none before = all_none (lowest_says Ps Rs n pos) (λ x u. let y = free_out x u in before y.0.0 y.0.1 x y.0.2 y.1 y.2)
