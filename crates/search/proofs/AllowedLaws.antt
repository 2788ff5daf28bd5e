-- The ways out of `range_allowed`, as the definition's `allowed`. Assumes nothing.
use mathlib.Core.Path.{◌≡◌}
use mathlib.Core.Bool.{Bool, true, false}
use mathlib.Core.List.{List}
use Prim.Native.Nat.{ℕ, ◌+◌, ◌%◌, ◌<◌, ◌≤◌}
use lib.Dec.{T, leb, leb→le}
use borrow.Author.Tests.{lt-leb, le-leb, eq-eqb, ne_eqb}
use Rattle.definition.specs.Base.{any_of}
use Rattle.definition.proofs.BaseLaws.{and_l, and_r, and_false, true_T}
use Rattle.definition.specs.Tables.{Span, nature}
use Rattle.definition.specs.Request.{Need, aligned, holds, allowed}

module _ (ps : List Span) (n : Need) (b : ℕ) where
  pub askew : (b % n.alignment ≡ 0 → ⊥) → false ≡ allowed ps n b
  unfolding allowed aligned
  askew f = rw (ne_eqb (b % n.alignment) 0 f)

  pub high : (nature n.kind).top < b + n.size → false ≡ allowed ps n b
  unfolding allowed
  high l = rw (lt-leb (b + n.size) (nature n.kind).top l, and_false (aligned n b))

  pub by_pool : (r : Bool) → b % n.alignment ≡ 0 → b + n.size ≤ (nature n.kind).top → r ≡ any_of (holds n b) ps → r ≡ allowed ps n b
  unfolding allowed aligned
  by_pool r e l h = rw (eq-eqb (b % n.alignment) 0 e, le-leb (b + n.size) (nature n.kind).top l) h

  pub allowed_high : allowed ps n b ≡ true → b + n.size ≤ (nature n.kind).top
  unfolding allowed
  allowed_high e =
      let t : T (allowed ps n b) = true_T (allowed ps n b) e in
      let l : T (leb (b + n.size) (nature n.kind).top) = search (and_l, and_r) in
      leb→le (b + n.size) (nature n.kind).top l
