-- A row as numbers: what the columns hold is what the view holds. Assumes nothing.
use Rattle.std.proofs.Common.{◌≡◌, ℕ, ◌<◌, Bool, true, false, ltb, List, ◌∷◌, get_or, Some, None, sym, ap, ◌∙◌}
use Rattle.std.proofs.Math.Option.{Option, some, none}
use borrow.Author.Tests.{ltb-true}
use Rattle.definition.specs.Tables.{pool_limit, row_limit, Kind, nature, input, Span, Row, blank_span, blank_row}
use Rattle.tables.specs.Views.{span_of, range_of, input_of, pool_at, range_at, input_at, pool_view, ranges_view, inputs_view}
use Rattle.tables.specs.declared.Pool.{Pool}
use Rattle.tables.specs.declared.Ranges.{Ranges}
use Rattle.tables.specs.declared.Inputs.{Inputs}
use Rattle.tables.specs.declared.PoolRow.{PoolRow}
use Rattle.tables.specs.declared.RangeRow.{RangeRow}
use Rattle.tables.specs.declared.InputRow.{InputRow}
use Rattle.tables.proofs.ListedLaws.{listed_at}
use Rattle.flat.specs.Read.{if_read}
use Rattle.flat.proofs.ReadLaws.{none_read, some_read}
use Rattle.numbers.specs.Rows.{span_numbers, row_numbers, pool_row, holder_row, input_row}
use Rattle.numbers.specs.Back.{pick, FoundRange}

-- ---- one row

pub pool_row_is : (t : Pool) (i : ℕ) → i < pool_limit → (r : PoolRow) → r ≡ pool_at t i → t.n ∷ span_numbers (span_of r) ≡ pool_row (pool_view t) i
pool_row_is t i l r e = ap (λ (p : Span). t.n ∷ span_numbers p) (ap span_of e ∙ sym (listed_at (λ k. span_of (pool_at t k)) pool_limit i blank_span l))

pub range_row_is : (t : Ranges) (i : ℕ) → i < row_limit → (r : RangeRow) → r ≡ range_at t i → (k : Kind) → (nature k).wired ≡ false → t.n ∷ row_numbers false (range_of r) ≡ holder_row k (ranges_view t) i
range_row_is t i l r e k w =
    ap (λ (r : Row). t.n ∷ row_numbers false r) (ap range_of e ∙ sym (listed_at (λ j. range_of (range_at t j)) row_limit i (blank_row k) l))
    ∙ ap (λ (w : Bool). t.n ∷ row_numbers w (get_or (ranges_view t).rows i (blank_row k))) (sym w)

pub input_row_is : (t : Inputs) (i : ℕ) → i < row_limit → (r : InputRow) → r ≡ input_at t i → t.n ∷ row_numbers true (input_of r) ≡ input_row (inputs_view t) i
input_row_is t i l r e = ap (λ (r : Row). t.n ∷ row_numbers true r) (ap input_of e ∙ sym (listed_at (λ j. input_of (input_at t j)) row_limit i (blank_row input) l))

-- ---- told where it is one of the table's own

below : (i n : ℕ) → ltb i n ≡ true → i < n
below i n e = ltb-true i n e

-- the row that was asked for, or what was found before
pub picked : (b : Bool) → b ≡ true → (xs ys : List ℕ) (before : Option (List ℕ)) → xs ≡ ys → some xs ≡ pick b ys before
picked true e xs ys before p = ap some p
picked false e xs ys before p = cc

pub passed : (b : Bool) → b ≡ false → (ys : List ℕ) (before : Option (List ℕ)) → before ≡ pick b ys before
passed b e ys before = sym (ap (λ (c : Bool). pick c ys before) e)

-- past its end
pub not_told : (b : Bool) (i : ℕ) (xs : List ℕ) → None ≡ if_read b i → none ≡ pick b xs none
not_told b i xs e = passed b (none_read b i e) xs none

pub pool_told : (t : Pool) (i k : ℕ) (r : PoolRow) → Some k ≡ if_read (ltb i pool_limit) i → r ≡ pool_at t k → some (t.n ∷ span_numbers (span_of r)) ≡ pick (ltb i pool_limit) (pool_row (pool_view t) i) none
pool_told t i k r e f =
    let (b, z) = some_read _ _ _ e in
    picked _ b _ _ none (pool_row_is t i (below i _ b) r (f ∙ ap (pool_at t) z))

pub range_told : (t : Ranges) (i k : ℕ) (r : RangeRow) → Some k ≡ if_read (ltb i row_limit) i → r ≡ range_at t k → FoundRange (ltb i row_limit) (ranges_view t) i (some (t.n ∷ row_numbers false (range_of r)))
range_told t i k r e f q w =
    let (b, z) = some_read _ _ _ e in
    picked _ b _ _ none (range_row_is t i (below i _ b) r (f ∙ ap (range_at t) z) q w)

pub input_told : (t : Inputs) (i k : ℕ) (r : InputRow) → Some k ≡ if_read (ltb i row_limit) i → r ≡ input_at t k → some (t.n ∷ row_numbers true (input_of r)) ≡ pick (ltb i row_limit) (input_row (inputs_view t) i) none
input_told t i k r e f =
    let (b, z) = some_read _ _ _ e in
    picked _ b _ _ none (input_row_is t i (below i _ b) r (f ∙ ap (input_at t) z))
