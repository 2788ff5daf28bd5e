-- A table's rows taken out, column by column: its used rows from m on that do not go close up, and the places that are left are zero. Assumes nothing.
use Rattle.std.specs.Prelude.{◌≡◌, refl, Bool, true, false, ◌||◌, List, ℕ, zero, suc, ◌+◌, ◌-◌, leb, eqb, get_or, set}
use Rattle.definition.specs.Tables.{row_limit, Row}
use Rattle.tables.specs.Views.{ranges, inputs, range_at, input_at}
use Rattle.lent_table.specs.Store.{set_range, set_input}
use Rattle.tables.specs.declared.Ranges.{Ranges}
use Rattle.tables.specs.declared.Inputs.{Inputs}
use Rattle.tables.specs.declared.RangeRow.{RangeRow}
use Rattle.tables.specs.declared.InputRow.{InputRow}

-- with 0 everybody's rows go
unfoldable pub goes : ℕ → ℕ → Bool
goes owner whose = eqb whose 0 || eqb owner whose

abbrev pub goes_by : ℕ → Row → Bool
goes_by whose r = goes r.owner whose

-- after k rows from m on: the place of the next row that stays
unfoldable pub placed : ℕ → ℕ → List ℕ → ℕ → ℕ
placed whose m owners zero = m
placed whose m owners (suc k) = elim (goes (get_or owners (m + k) 0) whose) [ true ↦ placed whose m owners k | false ↦ placed whose m owners k + 1 ]

-- .. and a column: each row's number is taken out, and where the row stays it goes to its place
unfoldable pub closed : ℕ → ℕ → List ℕ → List ℕ → ℕ → List ℕ
closed whose m owners c zero = c
closed whose m owners c (suc k) =
    elim (goes (get_or owners (m + k) 0) whose) [
      | true ↦ set (closed whose m owners c k) (m + k) 0
      | false ↦ set (set (closed whose m owners c k) (m + k) 0) (placed whose m owners k) (get_or c (m + k) 0)
    ]

-- a table of n used rows after k rows from m on
abbrev pub closed_ranges : ℕ → ℕ → ℕ → Ranges → ℕ → Ranges
closed_ranges n whose m t k =
    let one : List ℕ → List ℕ = λ c. closed whose m t.owner c k in
    ranges n (one t.controller) (one t.its) (one t.device) (one t.start) (one t.end) (one t.owner)

abbrev pub closed_inputs : ℕ → ℕ → ℕ → Inputs → ℕ → Inputs
closed_inputs n whose m t k =
    let one : List ℕ → List ℕ = λ c. closed whose m t.owner c k in
    inputs n (one t.controller) (one t.input) (one t.trigger) (one t.sharing) (one t.owner)

-- a count, and at most the rows that there are
unfoldable pub lesser : ℕ → ℕ
lesser n = elim (leb n row_limit) [ true ↦ n | false ↦ row_limit ]

-- after all used rows from m on
unfoldable pub close_ranges : ℕ → ℕ → Ranges → Ranges
close_ranges whose m t = closed_ranges (placed whose m t.owner (lesser t.n - m)) whose m t (lesser t.n - m)

unfoldable pub close_inputs : ℕ → ℕ → Inputs → Inputs
close_inputs whose m t = closed_inputs (placed whose m t.owner (lesser t.n - m)) whose m t (lesser t.n - m)

-- ---- a table of either layout

abbrev pub blank_range : RangeRow
blank_range = record { controller = 0; its = 0; device = 0; start = 0; end = 0; owner = 0 }

abbrev pub blank_input : InputRow
blank_input = record { controller = 0; input = 0; trigger = 0; sharing = 0; owner = 0 }

pub record Layout (D : Type 0) : Type 0 where
  pub count : D → ℕ
  pub owners : D → List ℕ
  pub counted : ℕ → D → D  -- its count stored
  pub cleared : ℕ → D → D  -- row k made zero
  pub shifted : ℕ → ℕ → D → D  -- .. and what it was stored at a place
  pub turned : ℕ → ℕ → D → ℕ → D  -- after so many rows
  pub closed : ℕ → ℕ → D → D  -- after all used rows

-- the columns go as `closed` has it
pub record Closes {D : Type 0} (L : Layout D) : Type 0 where
  pub none : (whose m : ℕ) (t : D) → t ≡ L.turned whose m t 0
  pub column : (whose m : ℕ) (t : D) (j : ℕ) → L.owners (L.turned whose m t j) ≡ closed whose m (L.owners t) (L.owners t) j
  pub clearing : (whose m : ℕ) (t : D) (j j' k : ℕ)
      → ((c : List ℕ) → set (closed whose m (L.owners t) c j) k 0 ≡ closed whose m (L.owners t) c j') → L.cleared k (L.turned whose m t j) ≡ L.turned whose m t j'
  pub shifting : (whose m : ℕ) (t : D) (j j' k at : ℕ)
      → ((c : List ℕ) → set (set (closed whose m (L.owners t) c j) k 0) at (get_or (closed whose m (L.owners t) c j) k 0) ≡ closed whose m (L.owners t) c j') → L.shifted at k (L.turned whose m t j) ≡ L.turned whose m t j'
  pub all : (whose m : ℕ) (t : D) → L.counted (placed whose m (L.owners t) (lesser (L.count t) - m)) (L.turned whose m t (lesser (L.count t) - m)) ≡ L.closed whose m t

abbrev pub of_ranges : Layout Ranges
of_ranges = record {
  count = λ t. t.n;
  owners = λ t. t.owner;
  counted = λ n t. ranges n t.controller t.its t.device t.start t.end t.owner;
  cleared = λ k t. set_range t k blank_range;
  shifted = λ at k t. set_range (set_range t k blank_range) at (range_at t k);
  turned = λ whose m t. closed_ranges t.n whose m t;
  closed = close_ranges;
}

pub ranges_close : Closes of_ranges
unfolding closed close_ranges
ranges_close = record {
  none = λ whose m t. refl;
  column = λ whose m t j. refl;
  clearing = λ whose m t j j' k one i. ranges t.n (one t.controller i) (one t.its i) (one t.device i) (one t.start i) (one t.end i) (one t.owner i);
  shifting = λ whose m t j j' k at one i. ranges t.n (one t.controller i) (one t.its i) (one t.device i) (one t.start i) (one t.end i) (one t.owner i);
  all = λ whose m t. refl;
}

abbrev pub of_inputs : Layout Inputs
of_inputs = record {
  count = λ t. t.n;
  owners = λ t. t.owner;
  counted = λ n t. inputs n t.controller t.input t.trigger t.sharing t.owner;
  cleared = λ k t. set_input t k blank_input;
  shifted = λ at k t. set_input (set_input t k blank_input) at (input_at t k);
  turned = λ whose m t. closed_inputs t.n whose m t;
  closed = close_inputs;
}

pub inputs_close : Closes of_inputs
unfolding closed close_inputs
inputs_close = record {
  none = λ whose m t. refl;
  column = λ whose m t j. refl;
  clearing = λ whose m t j j' k one i. inputs t.n (one t.controller i) (one t.input i) (one t.trigger i) (one t.sharing i) (one t.owner i);
  shifting = λ whose m t j j' k at one i. inputs t.n (one t.controller i) (one t.input i) (one t.trigger i) (one t.sharing i) (one t.owner i);
  all = λ whose m t. refl;
}
