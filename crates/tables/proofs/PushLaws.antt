-- A row more, as the definition has it: the view of the columns is the view with the row pushed, and the columns keep their lengths. Assumes nothing.
use mathlib.Core.Path.{◌≡◌, ◌∙◌}
use mathlib.Core.List.{[], ◌∷◌}
use Prim.Native.Nat.{ℕ, ◌<◌}
use native.Mathlib.Numerals.{add-one}
use native.Mathlib.Omega.{arith}
use lib.ListN.{length, set, length-set}
use lib.Seq.{get_or-set_same, get_or-set_other}
use Rattle.definition.specs.Tables.{row_limit, Dom, Row, range_row, wired_row}
use Rattle.definition.specs.Calls.{push_all}
use Rattle.tables.specs.Below.{listed}
use Rattle.tables.specs.Views.{range_of, input_of, range_at, input_at, ranges_view, inputs_view}
use Rattle.tables.specs.Whole.{pushed_range, pushed_input}
use Rattle.tables.specs.Sized.{SizedRanges, SizedInputs}
use Rattle.tables.specs.declared.Ranges.{Ranges}
use Rattle.tables.specs.declared.Inputs.{Inputs}
use Rattle.tables.proofs.ListedLaws.{listed_set}

pub push_range_view :
    (t : Ranges) (d : Dom) (s e o : ℕ) → SizedRanges t → t.n < row_limit
    → ranges_view (pushed_range t (range_row d s e o)) ≡ push_all (ranges_view t) (range_row d s e o ∷ [])
unfolding push_all
push_range_view t d s e o z l = λ i. record { count = add-one t.n i; rows = rows i }
  where
    here : range_of (range_at (pushed_range t (range_row d s e o)) t.n) ≡ range_row d s e o
    here =
        let p₁ : t.n < length t.controller = omega (arith, z.controller) in
        let p₂ : t.n < length t.its = omega (arith, z.its) in
        let p₃ : t.n < length t.device = omega (arith, z.device) in
        let p₄ : t.n < length t.start = omega (arith, z.start) in
        let p₅ : t.n < length t.end = omega (arith, z.end) in
        let p₆ : t.n < length t.owner = omega (arith, z.owner) in
        simp get_or-set_same

    rows : listed (λ k. range_of (range_at (pushed_range t (range_row d s e o)) k)) row_limit ≡ set (listed (λ k. range_of (range_at t k)) row_limit) t.n (range_row d s e o)
    rows = listed_set (λ k. range_of (range_at t k)) (λ k. range_of (range_at (pushed_range t (range_row d s e o)) k)) t.n row_limit (range_row d s e o) l here
        (λ k h. simp get_or-set_other)

pub push_input_view :
    (t : Inputs) (c x g h o : ℕ) → SizedInputs t → t.n < row_limit
    → inputs_view (pushed_input t (wired_row c x g h o)) ≡ push_all (inputs_view t) (wired_row c x g h o ∷ [])
unfolding push_all
push_input_view t c x g h o z l = λ i. record { count = add-one t.n i; rows = rows i }
  where
    here : input_of (input_at (pushed_input t (wired_row c x g h o)) t.n) ≡ wired_row c x g h o
    here =
        let p₁ : t.n < length t.controller = omega (arith, z.controller) in
        let p₂ : t.n < length t.input = omega (arith, z.input) in
        let p₃ : t.n < length t.trigger = omega (arith, z.trigger) in
        let p₄ : t.n < length t.sharing = omega (arith, z.sharing) in
        let p₅ : t.n < length t.owner = omega (arith, z.owner) in
        simp get_or-set_same

    rows : listed (λ k. input_of (input_at (pushed_input t (wired_row c x g h o)) k)) row_limit ≡ set (listed (λ k. input_of (input_at t k)) row_limit) t.n (wired_row c x g h o)
    rows = listed_set (λ k. input_of (input_at t k)) (λ k. input_of (input_at (pushed_input t (wired_row c x g h o)) k)) t.n row_limit (wired_row c x g h o) l here
        (λ k h. simp get_or-set_other)

-- .. and the columns keep their lengths

pub push_range_sized : (t : Ranges) (r : Row) → SizedRanges t → SizedRanges (pushed_range t r)
push_range_sized t r z =
    record {
      controller = length-set t.controller t.n r.dom.controller ∙ z.controller;
      its = length-set t.its t.n r.dom.its ∙ z.its;
      device = length-set t.device t.n r.dom.device ∙ z.device;
      start = length-set t.start t.n r.start ∙ z.start;
      end = length-set t.end t.n r.end ∙ z.end;
      owner = length-set t.owner t.n r.owner ∙ z.owner;
    }

pub push_input_sized : (t : Inputs) (r : Row) → SizedInputs t → SizedInputs (pushed_input t r)
push_input_sized t r z =
    record {
      controller = length-set t.controller t.n r.dom.controller ∙ z.controller;
      input = length-set t.input t.n r.start ∙ z.input;
      trigger = length-set t.trigger t.n r.trigger ∙ z.trigger;
      sharing = length-set t.sharing t.n r.sharing ∙ z.sharing;
      owner = length-set t.owner t.n r.owner ∙ z.owner;
    }
