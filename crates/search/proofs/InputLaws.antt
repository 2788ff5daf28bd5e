-- An input is a run of one number: what the search of inputs leans on. Assumes nothing.
use mathlib.Core.Path.{◌≡◌, refl, sym, ◌∙◌, subst}
use mathlib.Core.Bool.{true, false}
use mathlib.Core.Logic.{inl, inr}
use mathlib.Core.List.{List}
use Prim.Native.Nat.{ℕ, ◌+◌, ◌<◌}
use native.Mathlib.Nat.{mod-one}
use native.Mathlib.Omega.{arith}
use native.Mathlib.Numerals.{add-one}
use Rattle.definition.specs.Tables.{Span, Row, wired_row, overlap, meets}
use Rattle.definition.specs.Request.{row_at, aligned, holds, free, candidates, lowest, allowed, input_need}
use Rattle.search.specs.Asks.{need_of, one_input, bare_input}
use Rattle.search.specs.Rows.{OneInput}
use Rattle.search.specs.Steps.{Passes}
use Rattle.search.specs.declared.Need.{Need}
use Rattle.search.proofs.MeetLaws.{meets_says}

module _ (c : ℕ) where
  pub input_meets : (x : ℕ) (r : Row) → meets (wired_row c x 0 0 0) r ≡ meets (row_at (need_of (one_input c)) x) r
  unfolding meets overlap row_at
  input_meets x r = rw add-one

  -- neither the kind nor the codes nor who asks is read
  pub input_lowest : (ps : List Span) (rs : List Row) (t s q : ℕ) → lowest ps rs (need_of (one_input c)) ≡ lowest ps rs (input_need c t s q)
  unfolding lowest free candidates aligned holds meets row_at
  input_lowest ps rs t s q = refl

  pub bare_lowest : (ps : List Span) (rs : List Row) (t s q : ℕ) → lowest ps rs (bare_input c) ≡ lowest ps rs (input_need c t s q)
  bare_lowest ps rs t s q = sym (input_lowest ps rs 0 0 0) ∙ input_lowest ps rs t s q

  pub input_allowed : (ps : List Span) (t s q b : ℕ) → allowed ps (need_of (one_input c)) b ≡ allowed ps (input_need c t s q) b
  unfolding allowed aligned holds
  input_allowed ps t s q b = refl

-- one input as a need: where a row is on it the next number is next, else it stays
module _ (n : Need) (c x t s o b stop : ℕ) (e : OneInput n) where
  pub input_past : meets (wired_row n.controller b 0 0 0) (wired_row c x t s o) ≡ true → b < stop → Passes (wired_row c x t s o) (need_of n) b stop (b + 1)
  input_past m l =
      let w = meets_says (wired_row n.controller b 0 0 0) (wired_row c x t s o) m in
      subst (λ (k : Need). Passes (wired_row c x t s o) (need_of k) b stop (b + 1)) (sym e) (inr (
        sym (input_meets n.controller b (wired_row c x t s o)) ∙ m,
        record { within = omega arith; reached = λ p. omega (arith, w.low, w.high); aligned = λ p. mod-one (b + 1); none_before = λ y p q z. omega (arith, w.low, w.high) },
      ))

  pub input_stays : meets (wired_row n.controller b 0 0 0) (wired_row c x t s o) ≡ false → Passes (wired_row c x t s o) (need_of n) b stop b
  input_stays m = subst (λ (k : Need). Passes (wired_row c x t s o) (need_of k) b stop b) (sym e) (inl (sym (input_meets n.controller b (wired_row c x t s o)) ∙ m, refl))
