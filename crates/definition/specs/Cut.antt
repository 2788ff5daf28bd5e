-- Rows taken out of tables where they stand: of the used rows from a count on those that go, and all of them. A withdrawal can be made so, and a refused plan put back, with no copy of the tables kept; no call is defined by it. Assumes nothing.
use Rattle.std.specs.Prelude.{Bool, not, List, [], ◌∷◌, ◌++◌, ℕ, zero, suc, ◌+◌, ◌-◌, max, length, take, drop, replicate}
use Rattle.definition.specs.Base.{only_of}
use Rattle.definition.specs.Tables.{Kind, Row, Table, used, blank_row}
use Rattle.definition.specs.Calls.{State, state}

unfoldable pub wiped : {A : Type 0} → ℕ → ℕ → A → List A → List A  -- the rows from m up to and without n are blank; all others stay
wiped m zero b rows = rows
wiped m (suc n) b [] = []
wiped zero (suc n) b (r ∷ rows) = b ∷ wiped zero n b rows
wiped (suc m) (suc n) b (r ∷ rows) = r ∷ wiped m n b rows

unfoldable pub cut_to : {A : Type 0} → ℕ → A → Table A → Table A  -- the table with its used rows from m on blank, and m its count; rows behind the used ones stay
cut_to m b t = record { count = m; rows = wiped m t.count b t.rows }

abbrev pub cutting : (Kind → ℕ) → State → State  -- each owner table cut back to a count; pools, reservations and the answer stay
cutting counts s = state s.pools s.held (λ k. cut_to (counts k) (blank_row k) (s.owners k)) s.said

-- ---- those that go
abbrev pub staying : {A : Type 0} → (A → Bool) → ℕ → Table A → List A  -- the used rows from m on that do not go, in their order
staying goes m t = only_of (λ r. not (goes r)) (drop m (used t))

unfoldable pub close_to : {A : Type 0} → (A → Bool) → ℕ → A → Table A → Table A  -- they close up, with blank rows in the places that are left; rows in front of m and behind the used ones stay
close_to goes m b t =
    record {
      count = m + length (staying goes m t);
      rows = take m t.rows ++ (staying goes m t ++ (replicate (length (drop m (used t)) - length (staying goes m t)) b ++ drop (max m t.count) t.rows));
    }

abbrev pub closing : (Row → Bool) → (Kind → ℕ) → State → State
closing goes counts s = state s.pools s.held (λ k. close_to goes (counts k) (blank_row k) (s.owners k)) s.said
