-- A table closes up row by row: the turns of the loop, and what it leaves. Assumes nothing.
use mathlib.Core.Path.{◌≡◌, refl, ap, sym, ◌∙◌}
use mathlib.Core.Bool.{Bool, true, false, ◌||◌}
use mathlib.Core.Logic.{◌⊎◌, inl, inr, ⊎_elim}
use mathlib.Core.List.{List}
use Prim.Native.Nat.{ℕ, zero, suc, ◌+◌, ◌-◌, ◌≤◌, ◌<◌, min}
use native.Mathlib.Omega.{arith}
use lib.Dec.{leb, eqb}
use lib.ListN.{get_or, set, length, length-set}
use lib.Seq.{get_or-set_other}
use borrow.Author.Tests.{leb-true, leb-false, le-leb, lt-leb, eq-eqb, ne_eqb}
use Rattle.definition.specs.Tables.{row_limit}
use Rattle.inplace.specs.Cut.{goes, placed, closed, lesser, Layout, Closes}

-- ---- a count, and at most the rows that there are

pub lesser_low : (n : ℕ) → n ≤ row_limit → n ≡ lesser n
unfolding lesser
lesser_low n l = sym (ap (λ (b : Bool). elim b as (λ _. ℕ) [ true ↦ n | false ↦ row_limit ]) (le-leb n row_limit l))

pub lesser_high : (n : ℕ) → row_limit < n → row_limit ≡ lesser n
unfolding lesser
lesser_high n l = sym (ap (λ (b : Bool). elim b as (λ _. ℕ) [ true ↦ n | false ↦ row_limit ]) (lt-leb n row_limit l))

pub lesser_is : (n : ℕ) → ((n ≤ row_limit) × (lesser n ≡ n)) ⊎ ((row_limit < n) × (lesser n ≡ row_limit))
unfolding lesser
lesser_is n = go (leb n row_limit) refl
  where
    go : (b : Bool) → leb n row_limit ≡ b → ((n ≤ row_limit) × (lesser n ≡ n)) ⊎ ((row_limit < n) × (lesser n ≡ row_limit))
    go true e = inl (leb-true n row_limit e, sym (lesser_low n (leb-true n row_limit e)))
    go false e = inr (leb-false n row_limit e, sym (lesser_high n (leb-false n row_limit e)))

pub lesser_within : (n : ℕ) → lesser n ≤ row_limit
lesser_within n = ⊎_elim (λ p. omega (arith, p.0, p.1)) (λ p. omega (arith, p.1)) (lesser_is n)

pub lesser_min : (n : ℕ) → min n row_limit ≡ lesser n
lesser_min n = ⊎_elim (λ p. omega (arith, p.0, p.1)) (λ p. omega (arith, p.0, p.1)) (lesser_is n)

-- ---- whose rows go

pub goes_everybody : (owner whose : ℕ) → whose ≡ 0 → eqb whose 0 ≡ goes owner whose
unfolding goes
goes_everybody owner whose e = let t : eqb whose 0 ≡ true = eq-eqb whose 0 e in t ∙ sym (ap (λ (b : Bool). b || eqb owner whose) t)

pub goes_one : (owner whose : ℕ) → (whose ≡ 0 → ⊥) → eqb owner whose ≡ goes owner whose
unfolding goes
goes_one owner whose n = sym (ap (λ (b : Bool). b || eqb owner whose) (ne_eqb whose 0 n))

-- ---- a column

module _ (whose m : ℕ) (owners : List ℕ) where
  abbrev place : ℕ → ℕ
  place = placed whose m owners

  abbrev column : List ℕ → ℕ → List ℕ
  column = closed whose m owners

  -- one row more, which goes or stays
  module _ (k : ℕ) where
    abbrev Goes : Bool → Type 0
    Goes b = goes (get_or owners (m + k) 0) whose ≡ b

    pub place_gone : Goes true → place (suc k) ≡ place k
    unfolding placed
    place_gone e = ap (λ (b : Bool). elim b as (λ _. ℕ) [ true ↦ place k | false ↦ place k + 1 ]) e

    pub place_kept : Goes false → place (suc k) ≡ place k + 1
    unfolding placed
    place_kept e = ap (λ (b : Bool). elim b as (λ _. ℕ) [ true ↦ place k | false ↦ place k + 1 ]) e

    abbrev pub without : List ℕ → List ℕ
    without c = set (column c k) (m + k) 0

    abbrev pub moved : List ℕ → List ℕ
    moved c = set (without c) (place k) (get_or c (m + k) 0)

    pub column_gone : (c : List ℕ) → Goes true → column c (suc k) ≡ without c
    unfolding closed
    column_gone c e = ap (λ (b : Bool). elim b as (λ _. List ℕ) [ true ↦ without c | false ↦ moved c ]) e

    pub column_kept : (c : List ℕ) → Goes false → column c (suc k) ≡ moved c
    unfolding closed
    column_kept c e = ap (λ (b : Bool). elim b as (λ _. List ℕ) [ true ↦ without c | false ↦ moved c ]) e

  -- the next place is never ahead of the rows
  pub place_most : (k : ℕ) → place k ≤ m + k
  unfolding placed
  place_most zero = omega arith
  place_most (suc k) = go (goes (get_or owners (m + k) 0) whose) refl (place_most k)
    where
      go : (b : Bool) → Goes k b → place k ≤ m + k → place (suc k) ≤ m + suc k
      go true e l = omega (arith, place_gone k e)
      go false e l = omega (arith, place_kept k e)

  -- .. so that the rows ahead are as they were
  pub column_ahead : (c : List ℕ) (k j : ℕ) → m + k ≤ j → get_or (column c k) j 0 ≡ get_or c j 0
  unfolding closed
  column_ahead c zero j l = refl
  column_ahead c (suc k) j l = go (goes (get_or owners (m + k) 0) whose) refl (column_ahead c k j (omega arith))
    where
      away : get_or (without k c) j 0 ≡ get_or (column c k) j 0
      away = get_or-set_other (column c k) (m + k) j 0 0 (λ e. omega arith)

      go : (b : Bool) → Goes k b → get_or (column c k) j 0 ≡ get_or c j 0 → get_or (column c (suc k)) j 0 ≡ get_or c j 0
      go true e h = ap (λ (x : List ℕ). get_or x j 0) (column_gone k c e) ∙ away ∙ h
      go false e h =
          ap (λ (x : List ℕ). get_or x j 0) (column_kept k c e) ∙ get_or-set_other (without k c) (place k) j (get_or c (m + k) 0) 0 (λ q. omega (arith, place_most k)) ∙ away ∙ h

  pub column_length : (c : List ℕ) (k : ℕ) → length (column c k) ≡ length c
  unfolding closed
  column_length c zero = refl
  column_length c (suc k) = go (goes (get_or owners (m + k) 0) whose) refl (length-set (column c k) (m + k) 0 ∙ column_length c k)
    where
      go : (b : Bool) → Goes k b → length (without k c) ≡ length c → length (column c (suc k)) ≡ length c
      go true e h = ap length (column_gone k c e) ∙ h
      go false e h = ap length (column_kept k c e) ∙ length-set (without k c) (place k) (get_or c (m + k) 0) ∙ h

-- ---- the loop: at row k, with k - m rows done

module _ (whose m k : ℕ) (owners : List ℕ) (l : m ≤ k) where
  abbrev now : List ℕ → List ℕ
  now c = closed whose m owners c (k - m)

  abbrev later : List ℕ → List ℕ
  later c = closed whose m owners c (k + 1 - m)

  at_row : m + (k - m) ≡ k
  at_row = omega arith

  one_more : suc (k - m) ≡ k + 1 - m
  one_more = omega arith

  -- what is read at row k is what was there
  read : (c : List ℕ) → get_or (now c) k 0 ≡ get_or c k 0
  read c = column_ahead whose m owners c (k - m) k (omega arith)

  tested : (b : Bool) → goes (get_or (now owners) k 0) whose ≡ b → goes (get_or owners (m + (k - m)) 0) whose ≡ b
  tested b e = ap (λ (o : ℕ). goes o whose) (ap (λ (j : ℕ). get_or owners j 0) at_row ∙ sym (read owners)) ∙ e

  pub turn_gone : (c : List ℕ) → goes (get_or (now owners) k 0) whose ≡ true → set (now c) k 0 ≡ later c
  turn_gone c e = ap (λ (j : ℕ). set (now c) j 0) (sym at_row) ∙ sym (column_gone whose m owners (k - m) c (tested true e)) ∙ ap (closed whose m owners c) one_more

  pub turn_kept : (c : List ℕ) → goes (get_or (now owners) k 0) whose ≡ false → set (set (now c) k 0) (placed whose m owners (k - m)) (get_or (now c) k 0) ≡ later c
  turn_kept c e =
      ap (set (set (now c) k 0) (placed whose m owners (k - m))) (read c)
      ∙ ap (λ (j : ℕ). set (set (now c) j 0) (placed whose m owners (k - m)) (get_or c j 0)) (sym at_row)
      ∙ sym (column_kept whose m owners (k - m) c (tested false e)) ∙ ap (closed whose m owners c) one_more

  pub place_stays : goes (get_or (now owners) k 0) whose ≡ true → placed whose m owners (k - m) ≡ placed whose m owners (k + 1 - m)
  place_stays e = sym (place_gone whose m owners (k - m) (tested true e)) ∙ ap (placed whose m owners) one_more

  pub place_grows : goes (get_or (now owners) k 0) whose ≡ false → placed whose m owners (k - m) + 1 ≡ placed whose m owners (k + 1 - m)
  place_grows e = sym (place_kept whose m owners (k - m) (tested false e)) ∙ ap (placed whose m owners) one_more

-- ---- a table of either layout

-- the loop's invariant: at row k, with the next place at `at`
pub record Turned {D : Type 0} (L : Layout D) (whose m : ℕ) (t : D) (end at k : ℕ) (next : D) : Type 0 where
  pub from : m ≤ k
  pub most : k - m ≤ end - m
  pub rows : end ≤ row_limit
  pub room : at ≤ k
  pub place : at ≡ placed whose m (L.owners t) (k - m)
  pub table : next ≡ L.turned whose m t (k - m)

module _ {D : Type 0} (L : Layout D) (laws : Closes L) (whose m : ℕ) (t : D) (end : ℕ) where
  pub turned_none : end ≤ row_limit → Turned L whose m t end m m t
  unfolding placed
  turned_none l = let p : 0 ≡ m - m = omega arith in
      record { from = omega arith; most = omega arith; rows = l; room = omega arith; place = ap (placed whose m (L.owners t)) p; table = laws.none whose m t ∙ ap (L.turned whose m t) p }

  module _ (k at : ℕ) (next : D) (h : Turned L whose m t end at k next) (l : k < end) where
    was : (b : Bool) → goes (get_or (L.owners next) k 0) whose ≡ b → goes (get_or (closed whose m (L.owners t) (L.owners t) (k - m)) k 0) whose ≡ b
    was b e = ap (λ (c : List ℕ). goes (get_or c k 0) whose) (sym (ap L.owners h.table ∙ laws.column whose m t (k - m))) ∙ e

    pub turned_gone : (at' : ℕ) (next' : D) → goes (get_or (L.owners next) k 0) whose ≡ true → next' ≡ L.cleared k next → at' ≡ at → Turned L whose m t end at' (k + 1) next'
    turned_gone at' next' e p q = record {
      from = omega (arith, h.from);
      most = omega (arith, h.from, l);
      rows = h.rows;
      room = omega (arith, h.room, q);
      place = q ∙ h.place ∙ place_stays whose m k (L.owners t) h.from (was true e);
      table = p ∙ ap (L.cleared k) h.table ∙ laws.clearing whose m t (k - m) (k + 1 - m) k (λ c. turn_gone whose m k (L.owners t) h.from c (was true e));
    }

    pub turned_kept : (at' : ℕ) (next' : D) → goes (get_or (L.owners next) k 0) whose ≡ false → next' ≡ L.shifted at k next → at' ≡ at + 1 → Turned L whose m t end at' (k + 1) next'
    turned_kept at' next' e p q = record {
      from = omega (arith, h.from);
      most = omega (arith, h.from, l);
      rows = h.rows;
      room = omega (arith, h.room, q);
      place = q ∙ ap (λ (a : ℕ). a + 1) h.place ∙ place_grows whose m k (L.owners t) h.from (was false e);
      table = p ∙ ap (L.shifted at k) h.table ∙ ap (λ (a : ℕ). L.shifted a k (L.turned whose m t (k - m))) h.place
          ∙ laws.shifting whose m t (k - m) (k + 1 - m) k (placed whose m (L.owners t) (k - m)) (λ c. turn_kept whose m k (L.owners t) h.from c (was false e));
    }

  -- what is left: the count is stored last
  pub turned_all : (k at : ℕ) (next : D) → end ≡ lesser (L.count t) → Turned L whose m t end at k next → end ≤ k → L.counted at next ≡ L.closed whose m t
  turned_all k at next e h u =
      let d : k - m ≡ end - m = omega (arith, h.most) in
      let j : k - m ≡ lesser (L.count t) - m = d ∙ ap (λ (i : ℕ). i - m) e in
      ap (L.counted at) h.table ∙ ap (λ (a : ℕ). L.counted a (L.turned whose m t (k - m))) h.place
      ∙ ap (λ (i : ℕ). L.counted (placed whose m (L.owners t) i) (L.turned whose m t i)) j ∙ laws.all whose m t
