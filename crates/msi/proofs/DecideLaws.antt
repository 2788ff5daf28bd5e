-- What comes of the three tables' answers is the definition's answer. Assumes nothing.
use mathlib.Core.Bool.{Bool, true, false}
use mathlib.Core.Path.{◌≡◌, refl, sym, ◌∙◌, ap}
use Prim.Native.Nat.{ℕ, ◌^◌, ◌<◌}
use native.Mathlib.Omega.{arith}
use lib.Dec.{T}
use borrow.Author.Tests.{lt-ltb}
use Rattle.definition.specs.Base.{all_of, full, accepted, refused, require}
use Rattle.definition.specs.Tables.{nature, good_span}
use Rattle.definition.specs.Request.{row_at}
use Rattle.definition.specs.Request as R
use Rattle.choose.specs.Told.{refusal_of, told}
use Rattle.msi.specs.declared.Msi.{Msi}
use Rattle.std.specs.Prelude.{Result, Ok, Err}
use Rattle.std.specs.Result.{IsErrAnd}
use Rattle.choose.specs.declared.Run.{Run}
use Rattle.choose.specs.declared.Refusal.{Refusal}
use Rattle.msi.specs.declared.MsiIds.{MsiIds}
use Rattle.msi.specs.Msi.{Part, place_part, if_fits, narrowed, all_room, msi_rows, told_msi, msi_in}
use Rattle.msi.specs.Finds.{RoomIs}
use Rattle.msi.proofs.SelectLaws.{granted}

-- a number that fits stays
pub stays : (b : ℕ) → b < 2 ^ 32 → narrowed b ≡ b
stays b l = ap (λ u. if_fits u b) (lt-ltb b (2 ^ 32) l)

-- what stands on sound tables is the need's own row, from a number of 32 bits on
pub stood : (p : Part) (n : R.Need) (c : R.Choice) (run : Run) → T (all_of (good_span n.kind) p.auto) → 0 < n.alignment → (nature n.kind).top < 2 ^ 32
    → told n (Ok run) ≡ place_part p n c → accepted (row_at n (narrowed run.start)) ≡ place_part p n c
stood p n c run goods pos low h =
    let g = granted p.auto p.fixed p.rows n goods c _ pos h in
    ap (λ x. accepted (row_at n x)) (stays run.start (omega (arith, g.high))) ∙ ap accepted (sym g.is) ∙ h

module _ (d e l : Part) (m : Msi) (ids : MsiIds) where
  -- room for all three, or Full
  pub roomed_three : (dn en ln : ℕ) (r : Result MsiIds Refusal) → RoomIs ids dn en ln r
      → ((w : Bool) → all_room dn en ln ≡ w → require w full (accepted (msi_rows m ids.device ids.event ids.lpi)) ≡ msi_in d e l m) → told_msi m r ≡ msi_in d e l m
  unfolding require
  roomed_three dn en ln (Ok x) h f = rw h.1 (f true h.0)
  roomed_three dn en ln (Err y) h f = rw h.1 (f false h.0)

-- what `?` hands on
pub told_msi_err : (m : Msi) (r : Result MsiIds Refusal) (y : Refusal) → IsErrAnd r (λ e. e ≡ y) → told_msi m r ≡ refused (refusal_of y)
told_msi_err m (Ok ids) y h = absurd h
told_msi_err m (Err e) y h = rw h refl
