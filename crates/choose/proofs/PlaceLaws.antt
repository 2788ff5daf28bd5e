-- The ways out of `place`, and the room test behind it, over the lists of one kind. Assumes nothing.
use mathlib.Core.Path.{◌≡◌, refl, ◌∙◌}
use mathlib.Core.Bool.{true, false}
use mathlib.Core.List.{List}
use mathlib.Core.Option.{none, some}
use Prim.Native.Nat.{ℕ, ◌<◌, ◌≤◌}
use lib.ListN.{length}
use borrow.Author.Tests.{lt-ltb, le-ltb}
use Rattle.definition.specs.Tables.{row_limit, nature, Span, Row, Table, used}
use Rattle.definition.specs.Base.{full, fixed_not_allowed, exhausted, conflict, Answer, accepted, refused, require}
use Rattle.definition.specs.Base as F
use Rattle.definition.specs.Request.{Need, auto, at, row_at, lowest, allowed, obstacle, detail, found, unopposed, place}
use Rattle.std.specs.Prelude.{Result, Ok, Err}
use Rattle.std.specs.Result.{IsErrAnd}
use Rattle.tables.specs.Views.{pool_view}
use Rattle.tables.specs.declared.Pool.{Pool}
use Rattle.search.specs.Asks.{need_of, one_input}
use Rattle.search.specs.declared.Need.{Need as Asked}
use Rattle.search.proofs.InputLaws.{input_lowest}
use Rattle.choose.specs.Told.{refusal_of, told, place_in, roomed, AutomaticIs}
use Rattle.choose.specs.Wired.{input_asked}
use Rattle.choose.specs.declared.wired.InputNeed.{InputNeed}
use Rattle.choose.specs.declared.Refusal.{Refusal}
use Rattle.choose.specs.declared.Run.{Run}

module _ (ps fs : List Span) (rs : List Row) (n : Need) where
  pub auto_none : (s : ℕ) → s ≡ (nature n.kind).namespace → none ≡ lowest ps rs n → refused (exhausted s) ≡ place_in ps fs rs n auto
  unfolding place found
  auto_none s z e = rw (← e, z)

  pub auto_some : (b : ℕ) → some b ≡ lowest ps rs n → accepted (row_at n b) ≡ place_in ps fs rs n auto
  unfolding place found
  auto_some b e = rw (← e)

  module _ (b : ℕ) where
    pub fixed_outside : (s : ℕ) → s ≡ (nature n.kind).namespace → false ≡ allowed fs n b → refused (fixed_not_allowed s) ≡ place_in ps fs rs n (at b)
    unfolding place require
    fixed_outside s z e = rw (← e, z)

    pub fixed_met : (r : Row) (s d : ℕ) → s ≡ (nature n.kind).namespace → d ≡ detail n.kind (row_at n b) r → true ≡ allowed fs n b → obstacle (row_at n b) rs ≡ some r
        → refused (conflict s r.owner d) ≡ place_in ps fs rs n (at b)
    unfolding place require unopposed
    fixed_met r s d z y e o = rw (← e, o, z, y)

    pub fixed_clear : true ≡ allowed fs n b → obstacle (row_at n b) rs ≡ none → accepted (row_at n b) ≡ place_in ps fs rs n (at b)
    unfolding place require unopposed
    fixed_clear e o = rw (← e, o)

-- what `?` hands on
pub told_err : (n : Need) (r : Result Run Refusal) (y : Refusal) → IsErrAnd r (λ e. e ≡ y) → told n r ≡ refused (refusal_of y)
told_err n (Ok run) y h = absurd h
told_err n (Err e) y h = rw h

-- the definition's automatic answer, from the least base
module _ (p : Pool) (t : Table Row) (fs : List Span) where
  pub range_found : (n : Asked) (r : Result Run Refusal) → AutomaticIs p t n r → told (need_of n) r ≡ place_in (used (pool_view p)) fs (used t) (need_of n) auto
  unfolding row_at
  range_found n (Ok run) h = rw h.1 (auto_some (used (pool_view p)) fs (used t) (need_of n) run.start h.0)
  range_found n (Err y) h = rw h.1 (auto_none (used (pool_view p)) fs (used t) (need_of n) _ refl h.0)

  pub input_found : (w : InputNeed) (r : Result Run Refusal) → AutomaticIs p t (one_input w.controller) r → told (input_asked w) r ≡ place_in (used (pool_view p)) fs (used t) (input_asked w) auto
  unfolding row_at
  input_found w (Ok run) h = rw h.1 (auto_some (used (pool_view p)) fs (used t) (input_asked w) run.start (h.0 ∙ input_lowest w.controller _ _ _ _ _))
  input_found w (Err y) h = rw h.1 (auto_none (used (pool_view p)) fs (used t) (input_asked w) _ refl (h.0 ∙ input_lowest w.controller _ _ _ _ _))

module _ (rs : List Row) (a : Answer Row) where
  pub roomed_refused : (y : F.Refusal) → refused y ≡ a → refused y ≡ roomed rs a
  unfolding roomed
  roomed_refused y e = rw (← e)

  pub roomed_stands : (r : Row) → accepted r ≡ a → length rs < row_limit → accepted r ≡ roomed rs a
  unfolding roomed require
  roomed_stands r e l = rw (← e, lt-ltb (length rs) row_limit l)

  pub roomed_full : (r : Row) → accepted r ≡ a → row_limit ≤ length rs → refused full ≡ roomed rs a
  unfolding roomed require
  roomed_full r e l = rw (← e, le-ltb (length rs) row_limit l)
