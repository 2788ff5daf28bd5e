-- A table that closes up column by column is the definition's table that closes up. Assumes nothing.
use mathlib.Core.Path.{◌≡◌, refl, ap, sym, ◌∙◌}
use mathlib.Core.Bool.{Bool, true, false}
use mathlib.Core.List.{List, [], ◌∷◌}
use Prim.Native.Nat.{ℕ, zero, suc, ◌+◌, ◌-◌, ◌≤◌, ◌<◌}
use native.Mathlib.Omega.{arith}
use lib.Dec.{ltb}
use lib.ListN.{length, get_or, set, length-set, get_or-eq_default}
use lib.Seq.{get_or-set_same, get_or-set_other, set_out}
use borrow.Author.Tests.{ltb-true, ltb-false}
use Rattle.definition.specs.Tables.{row_limit, Kind, mmio, pio, input, host, device, event, lpi, Row, Table, blank_row, range_row, wired_row, dom}
use Rattle.definition.specs.Calls as C
use Rattle.definition.specs.Cut.{close_to, cutting, closing}
use Rattle.definition.proofs.CutLaws.{close_all}
use Rattle.definition.specs.Withdraw.{owned_by}
use Rattle.tables.specs.Below.{listed}
use Rattle.tables.specs.Views.{ranges_view, inputs_view, holders_view, state_view}
use Rattle.tables.specs.declared.Ranges.{Ranges}
use Rattle.tables.specs.declared.Inputs.{Inputs}
use Rattle.tables.specs.declared.Holders.{Holders}
use Rattle.tables.specs.declared.State.{State}
use Rattle.tables.proofs.ListedLaws.{listed_length, listed_at, listed_set}
use Rattle.inplace.specs.Cut.{goes, goes_by, placed, closed, lesser, close_ranges, close_inputs}
use Rattle.inplace.specs.Marks.{marks_by, counts_in, taken_out}
use Rattle.inplace.specs.declared.marks.Marks.{Marks}
use Rattle.inplace.proofs.CutLaws.{lesser_within, goes_one, without, moved, place_gone, place_kept, column_gone, column_kept, place_most, column_length}
use Rattle.inplace.proofs.CloseLaws.{closes_up, close_is}

-- ---- a column

set_zero : (c : List ℕ) (i : ℕ) → get_or (set c i 0) i 0 ≡ 0
set_zero [] i = refl
set_zero (x ∷ c) zero = refl
set_zero (x ∷ c) (suc i) = set_zero c i

-- a number that was at or behind a place is found there, however long the columns are
set_back : (d c : List ℕ) (i j : ℕ) → i ≤ j → length d ≡ length c → get_or (set d i (get_or c j 0)) i 0 ≡ get_or c j 0
set_back d c i j l z = go (ltb i (length d)) refl
  where
    go : (b : Bool) → ltb i (length d) ≡ b → get_or (set d i (get_or c j 0)) i 0 ≡ get_or c j 0
    go true e = get_or-set_same d i (get_or c j 0) 0 (ltb-true i (length d) e)
    go false e =
        let out : length d ≤ i = ltb-false i (length d) e in
        ap (λ (x : List ℕ). get_or x i 0) (set_out d i (get_or c j 0) out) ∙ get_or-eq_default d 0 out ∙ sym (get_or-eq_default c 0 (omega (arith, out, z)))

-- ---- a table of any layout: F makes a row of a number for each column, and its owner is the number for `owners`
module _ (F : (List ℕ → ℕ) → Row) (owners : List ℕ) (own : (g : List ℕ → ℕ) → (F g).owner ≡ g owners) (whose m n : ℕ) where
  -- the rows, where f makes the columns of those that were
  abbrev rows_by : (List ℕ → List ℕ) → List Row
  rows_by f = listed (λ j. F (λ c. get_or (f c) j 0)) row_limit

  abbrev was : List Row
  was = rows_by (λ c. c)

  abbrev now : ℕ → List Row
  now k = rows_by (λ c. closed whose m owners c k)

  -- one row stored in every column
  set_rows : (f f' : List ℕ → List ℕ) (j : ℕ) (g : List ℕ → ℕ) → j < row_limit → ((c : List ℕ) → get_or (f' c) j 0 ≡ g c) → ((c : List ℕ) (i : ℕ) → (i ≡ j → ⊥) → get_or (f' c) i 0 ≡ get_or (f c) i 0) → rows_by f' ≡ set (rows_by f) j (F g)
  set_rows f f' j g l here others = listed_set (λ i. F (λ c. get_or (f c) i 0)) (λ i. F (λ c. get_or (f' c) i 0)) j row_limit (F g) l (λ h. F (λ c. here c h)) (λ i o h. F (λ c. others c i o h))

  module _ (k : ℕ) (l : m + k < row_limit) where
    row_is : get_or was (m + k) (F (λ c. 0)) ≡ F (λ c. get_or c (m + k) 0)
    row_is = listed_at (λ j. F (λ c. get_or c j 0)) row_limit (m + k) (F (λ c. 0)) l

    tested : (b : Bool) → goes_by whose (get_or was (m + k) (F (λ c. 0))) ≡ b → goes (get_or owners (m + k) 0) whose ≡ b
    tested b e = sym (ap (goes_by whose) row_is ∙ ap (λ (o : ℕ). goes o whose) (own (λ c. get_or c (m + k) 0))) ∙ e

    taken_out_rows : rows_by (without whose m owners k) ≡ set (now k) (m + k) (F (λ c. 0))
    taken_out_rows = set_rows (λ c. closed whose m owners c k) (without whose m owners k) (m + k) (λ c. 0) l (λ c. set_zero (closed whose m owners c k) (m + k)) (λ c i o. get_or-set_other (closed whose m owners c k) (m + k) i 0 0 o)

    goes_out : goes_by whose (get_or was (m + k) (F (λ c. 0))) ≡ true → (now (suc k) ≡ set (now k) (m + k) (F (λ c. 0))) × (placed whose m owners (suc k) ≡ placed whose m owners k)
    goes_out e = ((λ i. rows_by (λ c. column_gone whose m owners k c (tested true e) i)) ∙ taken_out_rows, place_gone whose m owners k (tested true e))

    stays_in : goes_by whose (get_or was (m + k) (F (λ c. 0))) ≡ false
        → (now (suc k) ≡ set (set (now k) (m + k) (F (λ c. 0))) (placed whose m owners k) (get_or was (m + k) (F (λ c. 0)))) × (placed whose m owners (suc k) ≡ placed whose m owners k + 1)
    stays_in e =
        let at : ℕ = placed whose m owners k in (
          (λ i. rows_by (λ c. column_kept whose m owners k c (tested false e) i))
              ∙ set_rows (without whose m owners k) (moved whose m owners k) at (λ c. get_or c (m + k) 0) (omega (arith, l, place_most whose m owners k))
              (λ c. set_back (without whose m owners k c) c at (m + k) (place_most whose m owners k) (length-set (closed whose m owners c k) (m + k) 0 ∙ column_length whose m owners c k))
              (λ c i o. get_or-set_other (without whose m owners k c) at i (get_or c (m + k) 0) 0 o)
              ∙ ap (λ (x : List Row). set x at (F (λ c. get_or c (m + k) 0))) taken_out_rows ∙ ap (set (set (now k) (m + k) (F (λ c. 0))) at) (sym row_is),
          place_kept whose m owners k (tested false e),
        )

  abbrev table : Table Row
  table = record { count = n; rows = was }

  pub close_view : ◌≡◌ {A = Table Row} (record { count = placed whose m owners (lesser n - m); rows = now (lesser n - m) }) (close_to (goes_by whose) m (F (λ c. 0)) table)
  unfolding placed closed
  close_view =
      let long : length was ≡ row_limit = listed_length (λ j. F (λ c. get_or c j 0)) row_limit in
      let inside : (k : ℕ) → k < lesser n - m → m + k < row_limit = λ k l. omega (arith, l, lesser_within n) in
      let done = closes_up (F (λ c. 0)) (goes_by whose) m was now (placed whose m owners) (lesser n - m) (λ k l. omega (arith, inside k l, long)) refl refl
      (λ k l. goes_out k (inside k l)) (λ k l. stays_in k (inside k l)) (lesser n - m) (omega arith) in
      (λ i. record { count = done.1 i; rows = done.0 i }) ∙ sym (close_is (F (λ c. 0)) (goes_by whose) m table long)

-- ---- tables

pub close_ranges_view : (whose m : ℕ) (t : Ranges) → ranges_view (close_ranges whose m t) ≡ close_to (goes_by whose) m (range_row (dom 0 0 0) 0 0 0) (ranges_view t)
unfolding close_ranges
close_ranges_view whose m t = close_view (λ g. range_row (dom (g t.controller) (g t.its) (g t.device)) (g t.start) (g t.end) (g t.owner)) t.owner (λ g. refl) whose m t.n

pub close_inputs_view : (whose m : ℕ) (t : Inputs) → inputs_view (close_inputs whose m t) ≡ close_to (goes_by whose) m (wired_row 0 0 0 0 0) (inputs_view t)
unfolding close_inputs
close_inputs_view whose m t = close_view (λ g. wired_row (g t.controller) (g t.input) (g t.trigger) (g t.sharing) (g t.owner)) t.owner (λ g. refl) whose m t.n

-- ---- the whole state

pub taken_out_view : (m : Marks) (whose : ℕ) (s : State) → state_view (taken_out m whose s) ≡ closing (goes_by whose) (counts_in m) (state_view s)
taken_out_view m whose s = λ i. C.state (state_view s).pools (state_view s).held (λ k. owners k i) (state_view s).said
  where
    owners : (k : Kind) → (state_view (taken_out m whose s)).owners k ≡ close_to (goes_by whose) (counts_in m k) (blank_row k) ((state_view s).owners k)
    owners mmio = close_ranges_view whose m.mmio s.owners.mmio
    owners pio = close_ranges_view whose m.pio s.owners.pio
    owners input = close_inputs_view whose m.input s.owners.input
    owners host = close_ranges_view whose m.host s.owners.host
    owners device = close_ranges_view whose m.device s.owners.device
    owners event = close_ranges_view whose m.event s.owners.event
    owners lpi = close_ranges_view whose m.lpi s.owners.lpi

-- counts that are read are those of the tables
pub counts_view : (h : Holders) (s : State) (k : Kind) → counts_in (marks_by h s) k ≡ (holders_view h k).count
counts_view h s mmio = refl
counts_view h s pio = refl
counts_view h s input = refl
counts_view h s host = refl
counts_view h s device = refl
counts_view h s event = refl
counts_view h s lpi = refl

-- with 0 all rows behind the marks go: the definition's tables cut back
pub cut_back_view : (m : Marks) (s : State) → state_view (taken_out m 0 s) ≡ cutting (counts_in m) (state_view s)
unfolding goes
cut_back_view m s =
    taken_out_view m 0 s ∙ (λ i. C.state (state_view s).pools (state_view s).held (λ k. close_all (counts_in m k) (blank_row k) ((state_view s).owners k) i) (state_view s).said)

-- .. and with a requester those that it owns
pub owned_view : (m : Marks) (whose : ℕ) (s : State) → (whose ≡ 0 → ⊥) → state_view (taken_out m whose s) ≡ closing (owned_by whose) (counts_in m) (state_view s)
unfolding owned_by
owned_view m whose s n = taken_out_view m whose s ∙ (λ i. closing (λ r. sym (goes_one r.owner whose n) i) (counts_in m) (state_view s))
