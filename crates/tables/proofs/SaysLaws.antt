-- A sound table in facts, both ways: what a call that asks for sound tables may use, and what a law of a changed table must show. Assumes nothing.
use mathlib.Core.Path.{◌≡◌, refl, sym, subst}
use mathlib.Core.Bool.{Bool, true, false, ◌&&◌, ◌||◌}
use Prim.Native.Nat.{ℕ, ◌<◌, ◌≤◌}
use lib.Dec.{T, leb, ltb, le→leb}
use borrow.Author.Tests.{ltb-false}
use Rattle.definition.specs.Tables.{sound_table, tidy}
use Rattle.tables.specs.Below.{all_below, all_from, row_ok}
use Rattle.definition.proofs.BaseLaws.{and_l, and_r, and_i, T_true}
use Rattle.tables.proofs.BelowLaws.{all_in, all_out}
use Rattle.tables.proofs.TableLaws.{table, tidy_count, tidy_unused, tidy_is, sound_is}

module _ {A : Type 0} (size : ℕ) (zero good : A → Bool) (fit : A → A → Bool) (f : ℕ → A) (n : ℕ) where
  pub record Says : Type 0 where
    pub count : n ≤ size
    pub unused : (k : ℕ) → n ≤ k → k < size → T (zero (f k))
    pub rows : (k : ℕ) → k < n → T (good (f k))
    pub pairs : (j k : ℕ) → j < k → k < n → T (fit (f j) (f k))

  pub sound_says : T (sound_table size zero good fit (table size f n)) → Says
  sound_says t =
      let p : T (tidy size zero (table size f n) && all_below (row_ok good fit f) n) = subst T (sound_is size f n zero good fit) t in
      let a : T (tidy size zero (table size f n)) = and_l (tidy size zero (table size f n)) (all_below (row_ok good fit f) n) p in
      let b : T (all_below (row_ok good fit f) n) = and_r (tidy size zero (table size f n)) (all_below (row_ok good fit f) n) p in
      record {
        count = tidy_count size f n zero (T_true (tidy size zero (table size f n)) a);
        unused = tidy_unused size f n zero a;
        rows = λ k l. and_l (good (f k)) (all_below (λ j. fit (f j) (f k)) k) (all_out (row_ok good fit f) n b k l);
        pairs = λ j k m l. all_out (λ j. fit (f j) (f k)) k (and_r (good (f k)) (all_below (λ j. fit (f j) (f k)) k) (all_out (row_ok good fit f) n b k l)) j m;
      }

  pub says_sound : Says → T (sound_table size zero good fit (table size f n))
  says_sound s = subst T (sym (sound_is size f n zero good fit)) (and_i (tidy size zero (table size f n)) (all_below (row_ok good fit f) n) tidied rows)
    where
      late : (k : ℕ) (b : Bool) → ltb k n ≡ b → k < size → T (b || zero (f k))
      late k true e l = tt
      late k false e l = s.unused k (ltb-false k n e) l

      tidied : T (tidy size zero (table size f n))
      tidied = subst T (sym (tidy_is size f n zero))
          (and_i (leb n size) (all_from (λ k. zero (f k)) n size) (le→leb n size s.count) (all_in (λ k. ltb k n || zero (f k)) size (λ k l. late k (ltb k n) refl l)))

      rows : T (all_below (row_ok good fit f) n)
      rows = all_in (row_ok good fit f) n (λ k l.
          and_i (good (f k)) (all_below (λ j. fit (f j) (f k)) k) (s.rows k l) (all_in (λ j. fit (f j) (f k)) k (λ j m. s.pairs j k m l)))
