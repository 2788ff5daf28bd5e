-- Reservations, by the ways out of the code: the answer is the definition's. Assumes nothing.
use mathlib.Core.Path.{◌≡◌, refl, sym, ◌∙◌, ap}
use mathlib.Core.Bool.{true, false, ◌&&◌}
use mathlib.Core.List.{List}
use Prim.Native.Nat.{ℕ, suc, ◌<◌, ◌≤◌}
use native.Mathlib.Omega.{arith}
use lib.Dec.{T, leb, ltb, eqb, ltb→lt}
use lib.ListN.{length}
use borrow.Author.Tests.{lt-ltb, le-ltb, le-leb, lt-leb, eq-eqb}
use Rattle.definition.specs.Base.{all_of, first_of, bad_owner, empty_range, full, bad_lpi, Answer, accepted, require}
use Rattle.definition.specs.Tables.{row_limit, top, last_trigger, shared, dom, Kind, input, nature, Row, wired_row, same_dom, within, overlap, meets, Table, used, fits, floored}
use Rattle.definition.specs.Pools.{room, unreserved, all_unreserved, reserve}
use Rattle.definition.proofs.BaseLaws.{and_l, and_r, and_true, and_false, T_true, T_false, true_T}
use Rattle.definition.proofs.TableLaws.{used_length}
use Rattle.tables.specs.Below.{first}
use Rattle.std.specs.Prelude.{Some, None, Ok, Err}
use Rattle.tables.proofs.ListedLaws.{listed_length}
use Rattle.tables.proofs.TableLaws.{table}
use Rattle.insert.specs.Answers.{Reply, telling, heard, fault_of, reserve_any, Told}
use Rattle.insert.specs.declared.Refused.{Refused}
use Rattle.insert.specs.declared.Refused.TheVariants as R
use Rattle.insert.proofs.FirstLaws.{used_hit, used_clear}
use Rattle.insert.proofs.TellLaws.{tell_required, tell_unreserved, fault_told, fault_none}

-- ---- one row, whatever its kind, beside the used rows of a table: what is told

module _ (floor : ℕ) (r : Row) (f : ℕ → Row) (n : ℕ) (few : n ≤ row_limit) where
  abbrev rows : List Row
  rows = used (table row_limit f n)

  abbrev Tells : Reply → Type 0
  Tells a = heard a ≡ telling (reserve_any floor r rows)

  -- after the owner the range by itself is judged, and then the rest
  abbrev rest : Answer (Unit {0})
  rest = unreserved (first_of (meets r) rows) (require (ltb (length rows) row_limit) full (accepted tt))

  abbrev range : Answer (Unit {0})
  range = require (ltb r.start r.end) empty_range (require (leb floor r.start) bad_lpi rest)

  count : length rows ≡ n
  count = used_length (table row_limit f n) (omega (arith, listed_length f row_limit))

  pub tell_owner : r.owner ≡ 0 → Tells (Err R.BadOwner)
  unfolding reserve_any require
  tell_owner e = rw e

  module _ (own : r.owner ≡ 0 → ⊥) where
    owned : reserve_any floor r rows ≡ range
    unfolding reserve_any require
    owned = rw (lt-ltb 0 r.owner (omega arith))

    pub tell_fault : (y : Refused) → fault_of r.start r.end floor ≡ Err y → Tells (Err y)
    tell_fault y z = fault_told r.start r.end floor rest y z ∙ ap telling (sym owned)

    module _ (fine : fault_of r.start r.end floor ≡ Ok tt) where
      told : telling rest ≡ telling (reserve_any floor r rows)
      told = ap telling (sym (fault_none r.start r.end floor rest fine) ∙ sym owned)

      pub tell_met : (i : ℕ) → Some i ≡ first (λ j. meets r (f j)) n → Tells (Err (R.Overlaps (f i).owner))
      unfolding unreserved
      tell_met i e = sym (rw (used_hit (meets r) row_limit f n few i e)) ∙ told

      module _ (free : None ≡ first (λ j. meets r (f j)) n) where
        pub tell_full : row_limit ≤ n → Tells (Err R.Full)
        unfolding require unreserved
        tell_full l = sym (rw (used_clear (meets r) row_limit f n few free, le-ltb (length rows) row_limit (omega (arith, count)))) ∙ told

        pub tell_taken : n < row_limit → Tells (Ok tt)
        unfolding require unreserved
        tell_taken l = sym (rw (used_clear (meets r) row_limit f n few free, lt-ltb (length rows) row_limit (omega (arith, count)))) ∙ told

-- ---- a row that fits its kind is answered so

module _ (k : Kind) (r : Row) (t : Table Row) (ok : T (fits k r)) where
  pub told_as : (a : Reply) → heard a ≡ telling (reserve_any (nature k).floor r (used t)) → Told k r t a
  unfolding reserve reserve_any all_of all_unreserved room require floored
  told_as a h = record {
    said = h ∙ rw (T_true (fits k r) ok, and_true (ltb 0 r.owner), and_true (ltb r.start r.end), and_true (leb (nature k).floor r.start), and_true (ltb (length (used t)) row_limit))
        (tell_required _ _ (tell_required _ _ (tell_required _ _ (tell_unreserved _ _ (tell_required _ _ refl (ltb (length (used t)) row_limit) full) (first_of (meets r) (used t))) (leb (nature k).floor r.start) bad_lpi) (ltb r.start r.end) empty_range) (ltb 0 r.owner) bad_owner);
  }

-- ---- inputs

pub tell_input : (r : Row) (t : Table Row) → fits input r ≡ false → Told input r t (Err R.BadInput)
unfolding reserve require all_of
tell_input r t e = record { said = rw e }

-- a wired row whose numbers keep to their types fits where its codes are known
input_fits : (c x t s o : ℕ) → c ≤ top 32 → x ≤ top 64 → o ≤ top 32 → fits input (wired_row c x t s o) ≡ leb t last_trigger && leb s shared
unfolding fits within
input_fits c x t s o hc hx ho =
    rw (le-leb c (top 32) hc, le-leb x (top 64) hx, eq-eqb (suc x) (suc x) refl, le-leb o (top 32) ho, and_true (leb s shared))

module _ (c x t s o : ℕ) (hc : c ≤ top 32) (hx : x ≤ top 64) (ho : o ≤ top 32) where
  pub input_known : t ≤ last_trigger → s ≤ shared → T (fits input (wired_row c x t s o))
  input_known ht hs = true_T (fits input (wired_row c x t s o)) (input_fits c x t s o hc hx ho ∙ rw (le-leb t last_trigger ht, le-leb s shared hs))

  pub input_no_trigger : last_trigger < t → fits input (wired_row c x t s o) ≡ false
  input_no_trigger ht = input_fits c x t s o hc hx ho ∙ rw (lt-leb t last_trigger ht)

  pub input_no_sharing : shared < s → fits input (wired_row c x t s o) ≡ false
  input_no_sharing hs = input_fits c x t s o hc hx ho ∙ rw (lt-leb s shared hs, and_false (leb t last_trigger))

module _ (c x t s o c' x' t' s' o' : ℕ) where
  pub inputs_apart : (x ≡ x' → ⊥) → meets (wired_row c x t s o) (wired_row c' x' t' s' o') ≡ false
  unfolding meets overlap
  inputs_apart h =
      ap (λ b. same_dom (dom c 0 0) (dom c' 0 0) && b)
      (T_false (ltb x (suc x') && ltb x' (suc x)) (λ b. h (omega (
        arith,
        ltb→lt x (suc x') (and_l (ltb x (suc x')) (ltb x' (suc x)) b),
        ltb→lt x' (suc x) (and_r (ltb x (suc x')) (ltb x' (suc x)) b),
      ))))
      ∙ and_false (same_dom (dom c 0 0) (dom c' 0 0))

  pub inputs_level : x ≡ x' → meets (wired_row c x t s o) (wired_row c' x' t' s' o') ≡ eqb c c'
  unfolding meets overlap same_dom
  inputs_level h =
      rw (lt-ltb x (suc x') (omega arith), lt-ltb x' (suc x) (omega arith)) (and_true (eqb c c' && true) ∙ and_true (eqb c c'))
