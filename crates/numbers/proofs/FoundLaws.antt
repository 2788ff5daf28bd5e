-- What is asked for, the one table that has it, and what is told. Assumes nothing.
use Rattle.std.proofs.Common.{◌≡◌, ℕ, zero, suc, ◌<◌, ◌≤◌, Bool, true, false, ◌&&◌, ltb, leb, eqb, List, [], ◌∷◌, length, get_or, Some, None, Result, Ok, Err, refl, sym, ap, ◌∙◌, arith}
use Rattle.std.proofs.Math.Option.{Option, some, none}
use borrow.Author.Tests.{le-ltb, lt-leb, le-leb, lt-ltb, ne_eqb}
use Rattle.definition.specs.Base.{Said}
use Rattle.definition.specs.Tables.{Kind as DKind}
use Rattle.definition.specs.Calls.{State as Given, fresh, saying}
use Rattle.tables.specs.Views.{kind_of, pool_of, pool_view, holders_view, state_view}
use Rattle.tables.specs.declared.Kind.{Kind}
use Rattle.tables.specs.declared.State.{State}
use Rattle.definition.specs.Plan.{written}
use Rattle.insert.specs.declared.Refused.{Refused}
use Rattle.insert.specs.declared.Refused.TheVariants as F
use Rattle.inplace.specs.declared.marks.Marks.{Marks}
use Rattle.numbers.specs.Face.{number}
use Rattle.numbers.specs.Rows.{kind_at, pool_row, holder_row, rows_in, tells_row, there, Told, told, row_size, answer_size, five_told, row_told, answer_told}
use Rattle.numbers.specs.Lent.{read_told}
use Rattle.numbers.specs.Reading.{said_by, told_by, code_of}
use Rattle.numbers.specs.Back.{asked_for, which_in, pick, KindAt, put_told, found_told, row_in, FoundBy, read_by}
use Rattle.numbers.specs.declared.row.Which.{Which}
use Rattle.numbers.proofs.LentLaws.{told_alone}

-- ---- the row that is there

and_true : (b c : Bool) → c ≡ true → b ≡ b && c
and_true true c e = sym e
and_true false c e = refl

and_false : (b c : Bool) → c ≡ false → false ≡ b && c
and_false true c e = sym e
and_false false c e = refl

module _ (s : State) (kind i : ℕ) where
  -- the row of a part's table of kind k
  abbrev by_kind : ℕ → DKind → List ℕ
  by_kind part k =
      get_or
      ([]
      ∷ pool_row (pool_view (pool_of s.auto k)) i
      ∷ pool_row (pool_view (pool_of s.fixed k)) i
      ∷ holder_row k (holders_view s.held k) i
      ∷ holder_row k (holders_view s.owners k) i
      ∷ [])
      part []

  told_by_kind : (part : ℕ) (k : Kind) → KindAt kind (Some k) → pick (ltb i (rows_in part)) (by_kind part (kind_of k)) none ≡ row_in (state_view s) part kind i
  unfolding there
  told_by_kind part k q = (λ j. pick (and_true (ltb i (rows_in part)) _ q.0 j) (by_kind part (q.1 j)) none)

  -- a number that is no kind
  pub no_kind : (part : ℕ) → KindAt kind None → none ≡ row_in (state_view s) part kind i
  unfolding there
  no_kind part e = ap (λ (b : Bool). pick b (by_kind part (kind_at kind)) none) (and_false (ltb i (rows_in part)) _ e)

  -- .. and no part
  nowhere : (part : ℕ) → rows_in part ≤ i → none ≡ row_in (state_view s) part kind i
  unfolding there
  nowhere part l = rw (le-ltb i (rows_in part) l, there)

  pub no_part : (part : ℕ) → (part ≡ 1 → ⊥) → (part ≡ 2 → ⊥) → (part ≡ 3 → ⊥) → (part ≡ 4 → ⊥) → none ≡ row_in (state_view s) part kind i
  no_part zero n₁ n₂ n₃ n₄ = nowhere zero (omega arith)
  no_part (suc zero) n₁ n₂ n₃ n₄ = absurd (n₁ refl)
  no_part (suc (suc zero)) n₁ n₂ n₃ n₄ = absurd (n₂ refl)
  no_part (suc (suc (suc zero))) n₁ n₂ n₃ n₄ = absurd (n₃ refl)
  no_part (suc (suc (suc (suc zero)))) n₁ n₂ n₃ n₄ = absurd (n₄ refl)
  no_part (suc (suc (suc (suc (suc part))))) n₁ n₂ n₃ n₄ = nowhere (suc (suc (suc (suc (suc part))))) (omega arith)

  -- THE ROW IS TOLD WHERE IT IS THERE, by the one table that has it
  module _ (part : ℕ) (k : Kind) (x : Option (List ℕ)) (q : KindAt kind (Some k)) where
    told_at : (n : ℕ) → part ≡ n → x ≡ pick (ltb i (rows_in n)) (by_kind n (kind_of k)) none → x ≡ row_in (state_view s) part kind i
    told_at n e f = f ∙ told_by_kind n k q ∙ ap (λ (m : ℕ). row_in (state_view s) m kind i) (sym e)

    pub in_auto : part ≡ 1 → x ≡ pick (ltb i (rows_in 1)) (by_kind 1 (kind_of k)) none → x ≡ row_in (state_view s) part kind i
    in_auto = told_at 1

    pub in_fixed : part ≡ 2 → x ≡ pick (ltb i (rows_in 2)) (by_kind 2 (kind_of k)) none → x ≡ row_in (state_view s) part kind i
    in_fixed = told_at 2

    pub in_held : part ≡ 3 → x ≡ pick (ltb i (rows_in 3)) (by_kind 3 (kind_of k)) none → x ≡ row_in (state_view s) part kind i
    in_held = told_at 3

    pub in_owners : part ≡ 4 → x ≡ pick (ltb i (rows_in 4)) (by_kind 4 (kind_of k)) none → x ≡ row_in (state_view s) part kind i
    in_owners = told_at 4

-- ---- what is told of it

module _ (xs out : List ℕ) where
  abbrev put_by : Bool → Told
  put_by b = elim b as (λ _. Told) [ false ↦ told 11 out | true ↦ told 0 (written xs out) ]

  pub put_short : length out < length xs → told 11 out ≡ put_told xs out
  put_short l = ap put_by (sym (lt-leb (length xs) (length out) l))

  pub put_all : length xs ≤ length out → told 0 (written xs out) ≡ put_told xs out
  put_all l = ap put_by (sym (le-leb (length xs) (length out) l))

  -- nine numbers are a row's
  pub put_row : (w : Told) → length xs ≡ row_size → w ≡ put_told xs out → w ≡ found_told (some xs) out
  put_row w e f = f ∙ ap (λ (n : ℕ). put_by (leb n (length out))) e

  -- .. five an answer's
  pub put_five : (w : Told) → length xs ≡ answer_size → w ≡ put_told xs out → w ≡ five_told xs out
  unfolding five_told
  put_five w e f = f ∙ ap (λ (n : ℕ). put_by (leb n (length out))) e

row_told_is : (s : Given) (part kind i : ℕ) (out : List ℕ) → found_told (row_in s part kind i) out ≡ row_told s part kind i out
unfolding row_told
row_told_is s part kind i out = go (there part kind i)
  where
    go : (b : Bool) → found_told (pick b (tells_row s part kind i) none) out ≡ elim b as (λ _. Told) [ false ↦ told 2 out | true ↦ found_told (pick true (tells_row s part kind i) none) out ]
    go true = refl
    go false = refl

module _ (x : ℕ) (xs : List ℕ) (s : Given) (out : List ℕ) where
  abbrev all : List ℕ
  all = x ∷ xs

  abbrev by : (answer three : Bool) → Told
  by answer three =
      elim answer as (λ _. Told) [
        | true ↦ answer_told s out
        | false ↦ elim three as (λ _. Told) [ true ↦ row_told s x (number all 1) (number all 2) out | false ↦ told 11 out ]
      ]

  abbrev asks : (answer three any : Bool) → Bool
  asks answer three any = elim answer as (λ _. Bool) [ true ↦ any | false ↦ three ]

  reads : by (eqb x 0) (leb 3 (suc (length xs))) ≡ read_told all s out
  unfolding read_told
  reads = ap (λ (b : Bool). elim b as (λ _. Told) [ true ↦ told 11 out | false ↦ by (eqb x 0) (leb 3 (suc (length xs))) ]) (sym (ne_eqb (suc (length xs)) 0 (λ z. omega arith)))

  cut : (y : Refused) (answer three any : Bool) → any ≡ true → Err y ≡ asked_for (asks answer three any) all → told (code_of (Err y)) out ≡ by answer three
  cut y true three true t e = cc
  cut y true three false t e = cc
  cut y false true any t e = cc
  cut y false false any t e = let z : y ≡ F.Short = cc in ap (λ (v : Refused). told (code_of (Err v)) out) z

  module _ (m : Marks) (found : Option (List ℕ)) (w : said_by m ≡ s.said) where
    whole : (k : Which) (answer three any : Bool) → Ok k ≡ asked_for (asks answer three any) all → found ≡ row_in s k.part k.kind k.row → elim answer as (λ _. Told) [ true ↦ answer_told (told_by m) out | false ↦ found_told found out ] ≡ by answer three
    whole k true three any e f = ap (λ (v : Said). answer_told (saying v fresh) out) w ∙ told_alone s out
    whole k false false any e f = cc
    whole k false true any e f =
        let z : k ≡ record { part = x; kind = number all 1; row = number all 2 } = cc in
        ap (λ (v : Option (List ℕ)). found_told v out) (f ∙ ap (λ (v : Which). row_in s v.part v.kind v.row) z) ∙ row_told_is s x (number all 1) (number all 2) out

-- a list too short: 11, and nothing is written
pub read_short : (xs : List ℕ) (s : Given) (y : Refused) (out : List ℕ) → Err y ≡ which_in xs → told (code_of (Err y)) out ≡ read_told xs s out
unfolding read_told
read_short [] s y out e = let z : y ≡ F.Short = cc in ap (λ (v : Refused). told (code_of (Err v)) out) z
read_short (x ∷ xs) s y out e = cut x xs s out y (eqb x 0) (leb 3 (suc (length xs))) (ltb 0 (suc (length xs))) (lt-ltb 0 (suc (length xs)) (omega arith)) e ∙ reads x xs s out

-- .. the last answer, or a row
pub read_whole : (xs : List ℕ) (s : Given) (k : Which) (m : Marks) (found : Option (List ℕ)) (out : List ℕ) (w : Told) → Ok k ≡ which_in xs → said_by m ≡ s.said → found ≡ row_in s k.part k.kind k.row → w ≡ read_by (Ok k) m found out → w ≡ read_told xs s out
unfolding read_told
read_whole [] s k m found out w k-is said f-is e = cc
read_whole (x ∷ xs) s k m found out w k-is said f-is e =
    e ∙ ap (λ (n : ℕ). by_answer (eqb n 0)) (part_is (asks x xs s out (eqb x 0) (leb 3 (suc (length xs))) (ltb 0 (suc (length xs)))) k-is)
    ∙ whole x xs s out m found said k (eqb x 0) (leb 3 (suc (length xs))) (ltb 0 (suc (length xs))) k-is f-is ∙ reads x xs s out
  where
    by_answer : Bool → Told
    by_answer a = elim a as (λ _. Told) [ true ↦ answer_told (told_by m) out | false ↦ found_told found out ]

    part_is : (b : Bool) → Ok k ≡ asked_for b (x ∷ xs) → k.part ≡ x
    part_is true e = let z : k ≡ record { part = x; kind = number (x ∷ xs) 1; row = number (x ∷ xs) 2 } = cc in ap (λ (v : Which). v.part) z
    part_is false e = cc

-- THE READING: what is asked for, looked for in its table, and told
pub read_told_is : (xs : List ℕ) (s : Given) (k : Result Which Refused) (m : Marks) (found : Option (List ℕ)) (out : List ℕ) (w : Told) → k ≡ which_in xs → said_by m ≡ s.said → FoundBy s k found → w ≡ read_by k m found out → w ≡ read_told xs s out
read_told_is xs s (Ok k) m found out w k-is said f-is e = read_whole xs s k m found out w k-is said f-is e
read_told_is xs s (Err y) m found out w k-is said f-is e = e ∙ read_short xs s y out k-is
