-- What the first row on an input means for a request. Assumes nothing.
use mathlib.Core.Path.{◌≡◌, refl, sym, ◌∙◌}
use mathlib.Core.Bool.{Bool, true, false, ◌&&◌}
use mathlib.Core.Option.{Option, none, some}
use Prim.Native.Nat.{ℕ, ◌≤◌}
use native.Mathlib.Numerals.{add-one}
use native.Mathlib.Omega.{arith}
use lib.Dec.{eqb}
use borrow.Author.Tests.{eq-eqb, ne_eqb}
use Rattle.definition.specs.Base.{first_of}
use Rattle.definition.specs.Tables.{row_limit, input, Row, wired_row, overlap, meets, joins, used}
use Rattle.definition.specs.Request.{row_at, detail, obstacle, unjoined}
use Rattle.tables.specs.Below.{first}
use Rattle.tables.specs.Views.{inputs_view}
use Rattle.tables.specs.declared.Inputs.{Inputs}
use Rattle.std.specs.Prelude.{Option as Hit, Some, None}
use Rattle.tables.proofs.BelowLaws.{first_ext}
use Rattle.tables.proofs.IndexLaws.{row_hit, first_listed}
use Rattle.search.specs.Rows.{input_rows, inputs_listed}
use Rattle.choose.specs.Wired.{input_asked, verdict}
use Rattle.choose.specs.declared.wired.InputNeed.{InputNeed}

-- the verdict, by the three comparisons: the request's sharing, the row's, the triggers
abbrev judged : Bool → Bool → Bool → Option ℕ
judged y z x = elim (y && (z && x)) [ true ↦ none | false ↦ some (elim x [ false ↦ 2 | true ↦ 3 ]) ]

two : (y z : Bool) → ◌≡◌ {A = Option ℕ} (some 2) (judged y z false)
two true true = refl
two true false = refl
two false z = refl

three : (z : Bool) → ◌≡◌ {A = Option ℕ} (some 3) (judged false z true)
three z = refl

module _ (w : InputNeed) (b : ℕ) (r : Row) where
  verdict_is : (x y z : Bool) → eqb w.sharing 1 ≡ y → eqb r.sharing 1 ≡ z → eqb w.trigger r.trigger ≡ x → judged y z x ≡ verdict (row_at (input_asked w) b) r
  unfolding verdict joins detail row_at
  verdict_is x y z p q e = sym (λ i. judged (p i) (q i) (e i))

  pub differ : (w.trigger ≡ r.trigger → ⊥) → some 2 ≡ verdict (row_at (input_asked w) b) r
  differ f = two (eqb w.sharing 1) (eqb r.sharing 1) ∙ verdict_is _ _ _ refl refl (ne_eqb w.trigger r.trigger f)

  pub alone : w.trigger ≡ r.trigger → (w.sharing ≡ 1 → ⊥) → some 3 ≡ verdict (row_at (input_asked w) b) r
  alone e f = three (eqb r.sharing 1) ∙ verdict_is _ _ _ (ne_eqb w.sharing 1 f) refl (eq-eqb w.trigger r.trigger e)

  pub taken : w.trigger ≡ r.trigger → w.sharing ≡ 1 → (r.sharing ≡ 1 → ⊥) → some 3 ≡ verdict (row_at (input_asked w) b) r
  taken e s f = verdict_is true true false (eq-eqb w.sharing 1 s) (ne_eqb r.sharing 1 f) (eq-eqb w.trigger r.trigger e)

  pub joined : w.trigger ≡ r.trigger → w.sharing ≡ 1 → r.sharing ≡ 1 → none ≡ verdict (row_at (input_asked w) b) r
  joined e s h = verdict_is true true true (eq-eqb w.sharing 1 s) (eq-eqb r.sharing 1 h) (eq-eqb w.trigger r.trigger e)

on_same : (w : InputNeed) (b : ℕ) (r : Row) → meets (wired_row w.controller b 0 0 0) r ≡ meets (row_at (input_asked w) b) r
unfolding meets overlap row_at
on_same w b r = rw add-one

-- the obstacle is the first row on the input, unless it joins
module _ (t : Inputs) (w : InputNeed) (b : ℕ) (l : t.n ≤ row_limit) where
  on_first : (h : Hit ℕ) → h ≡ first (λ k. meets (wired_row w.controller b 0 0 0) (input_rows t k)) t.n
      → first_of (meets (row_at (input_asked w) b)) (used (inputs_view t)) ≡ row_hit (input_rows t) h
  on_first h e = rw (inputs_listed t l) (first_listed (meets (row_at (input_asked w) b)) (input_rows t) t.n h (e ∙ first_ext _ _ t.n (λ k m. on_same w b (input_rows t k))))

  pub input_clear : None ≡ first (λ k. meets (wired_row w.controller b 0 0 0) (input_rows t k)) t.n → obstacle (row_at (input_asked w) b) (used (inputs_view t)) ≡ none
  unfolding obstacle unjoined
  input_clear e = rw (on_first None e)

  module _ (k : ℕ) (e : Some k ≡ first (λ k. meets (wired_row w.controller b 0 0 0) (input_rows t k)) t.n) where
    pub input_joined : none ≡ verdict (row_at (input_asked w) b) (input_rows t k) → obstacle (row_at (input_asked w) b) (used (inputs_view t)) ≡ none
    unfolding obstacle unjoined verdict
    input_joined v = rw (on_first (Some k) e) (go (joins (row_at (input_asked w) b) (input_rows t k)) v)
      where
        go : (x : Bool) → ◌≡◌ {A = Option ℕ} none (elim x [ true ↦ none | false ↦ some (detail input (row_at (input_asked w) b) (input_rows t k)) ]) → ◌≡◌ {A = Option Row} (elim x [ true ↦ none | false ↦ some (input_rows t k) ]) none
        go true v = refl
        go false v = absurd (let z : ◌≡◌ {A = ℕ} 0 1 = cc in omega arith)

    pub input_met : (d : ℕ) → some d ≡ verdict (row_at (input_asked w) b) (input_rows t k)
        → (obstacle (row_at (input_asked w) b) (used (inputs_view t)) ≡ some (input_rows t k)) × (d ≡ detail input (row_at (input_asked w) b) (input_rows t k))
    unfolding obstacle unjoined verdict
    input_met d v = rw (on_first (Some k) e) (go (joins (row_at (input_asked w) b) (input_rows t k)) v)
      where
        go : (x : Bool) → ◌≡◌ {A = Option ℕ} (some d) (elim x [ true ↦ none | false ↦ some (detail input (row_at (input_asked w) b) (input_rows t k)) ])
            → (◌≡◌ {A = Option Row} (elim x [ true ↦ none | false ↦ some (input_rows t k) ]) (some (input_rows t k))) × (d ≡ detail input (row_at (input_asked w) b) (input_rows t k))
        go true v = absurd (let z : ◌≡◌ {A = ℕ} 0 1 = cc in omega arith)
        go false v = (refl, cc)
