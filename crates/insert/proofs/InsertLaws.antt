-- Adding a pool range, by the ways out of the code: the table afterwards is the definition's. Assumes nothing.
use mathlib.Core.Path.{◌≡◌, sym, ◌∙◌, ap, ap₂}
use mathlib.Core.Bool.{Bool, true, false, true≢false}
use mathlib.Core.List.{[], ◌∷◌}
use Prim.Native.Nat.{ℕ, zero, suc, ◌<◌, ◌≤◌}
use native.Mathlib.Numerals.{add-one}
use native.Mathlib.Omega.{arith}
use lib.Dec.{T}
use lib.ListN.{length}
use borrow.Author.Tests.{lt-ltb, le-ltb}
use Rattle.definition.specs.Tables.{pool_limit, Span, same_span, used, blank_span, tidy}
use Rattle.definition.specs.Base.{any_of, full, Answer, accepted, require}
use Rattle.definition.specs.Pools.{insert, there, has_place}
use Rattle.definition.specs.Calls.{stored}
use Rattle.definition.proofs.BaseLaws.{T_true, true_T, false_T}
use Rattle.definition.proofs.PoolLaws.{entered_there, entered_new}
use Rattle.definition.proofs.TableLaws.{Tidy, tidy_says, stored_same, used_length}
use Rattle.tables.specs.Below.{listed, first}
use Rattle.tables.specs.Views.{span_of, pool_at, pool_view}
use Rattle.std.specs.Prelude.{Option, Some, None, is_some, Ok, Err}
use Rattle.tables.specs.declared.Pool.{Pool}
use Rattle.tables.specs.declared.PoolRow.{PoolRow}
use Rattle.tables.proofs.ListedLaws.{listed_length, listed_ext, drop_out, drop_in}
use Rattle.tables.proofs.TableLaws.{table, used_is}
use Rattle.insert.specs.Places.{before, place_of, Opened}
use Rattle.insert.specs.Answers.{Reply, telling, heard, entered_or, fault_of, admit_any}
use Rattle.insert.specs.declared.Refused.{Refused}
use Rattle.insert.specs.declared.Refused.TheVariants as R
use Rattle.tables.proofs.IndexLaws.{FirstIs, first_is}
use Rattle.insert.proofs.FirstLaws.{used_any, used_none}
use Rattle.insert.proofs.TellLaws.{fault_told, fault_none}

-- ---- a row put where the definition puts it

module _ (p : Span) where
  -- g is f with p at row `at`, which is the first that p goes before, or the end
  pub record Put (f g : ℕ → Span) (n at : ℕ) : Type 0 where
    pub within : at ≤ n
    pub past : (k : ℕ) → k < at → before p (f k) ≡ false
    pub stop : at < n → before p (f at) ≡ true
    pub low : (k : ℕ) → k < at → g k ≡ f k
    pub here : g at ≡ p
    pub moved : (k : ℕ) → at ≤ k → k < n → g (suc k) ≡ f k

  pub insert_listed : (f g : ℕ → Span) (n at : ℕ) → Put f g n at → insert p (listed f n) ≡ listed g (suc n)
  unfolding insert listed before
  insert_listed f g zero at h =
      let e : at ≡ 0 = omega (arith, h.within) in
      ap (λ x. x ∷ []) (sym (rw e at h.here))
  insert_listed f g (suc n) zero h =
      rw (h.stop (omega arith), insert)
      (ap₂ (λ x xs. x ∷ xs) (sym h.here)
      (listed_ext f (λ k. g (suc k)) (suc n) (λ k l. sym (h.moved k (omega arith) l))))
  insert_listed f g (suc n) (suc at) h =
      rw (h.past 0 (omega arith), insert)
      (ap₂ (λ x xs. x ∷ xs) (sym (h.low 0 (omega arith)))
      (insert_listed (λ k. f (suc k)) (λ k. g (suc k)) n at
      (record {
        within = omega (arith, h.within);
        past = λ k l. h.past (suc k) (omega arith);
        stop = λ l. h.stop (omega arith);
        low = λ k l. h.low (suc k) (omega arith);
        here = h.here;
        moved = λ k l m. h.moved (suc k) (omega arith) (omega arith);
      })))

abbrev Placed : Span → (ℕ → Span) → ℕ → ℕ → Type 0
Placed p f n at = (at ≤ n) × ((k : ℕ) → k < at → before p (f k) ≡ false) × (at < n → before p (f at) ≡ true)

placed : (p : Span) (f : ℕ → Span) (n : ℕ) (h : Option ℕ) → FirstIs (λ k. before p (f k)) n h → Placed p f n (place_of h n)
placed p f n (Some k) w = (omega (arith, w.0), w.2, λ l. w.1)
placed p f n None w = (omega arith, w, λ l. absurd (omega arith))

pub place_le : (q : ℕ → Bool) (n at : ℕ) → at ≡ place_of (first q n) n → at ≤ n
place_le q n at e = rw e (go (first q n) (first_is q n))
  where
    go : (h : Option ℕ) → FirstIs q n h → place_of h n ≤ n
    go (Some k) w = omega (arith, w.0)
    go None w = omega arith

-- ---- the whole table

abbrev row_of : Pool → ℕ → Span
row_of x k = span_of (pool_at x k)

module _ (t u : Pool) (at : ℕ) (r : PoolRow) (room : t.n < pool_limit) (o : Opened t u at r) where
  pub opened_used : Placed (span_of r) (row_of t) t.n at → used (pool_view u) ≡ insert (span_of r) (used (pool_view t))
  opened_used w =
      ap (λ n. used (table pool_limit (row_of u) n)) (o.count ∙ add-one t.n)
      ∙ used_is pool_limit (row_of u) (suc t.n) (omega arith)
      ∙ sym (insert_listed (span_of r) (row_of t) (row_of u) t.n at (record {
        within = w.0;
        past = w.1;
        stop = w.2;
        low = λ k l. ap span_of (o.low k l);
        here = ap span_of o.here;
        moved = λ k l m. ap (row_of u) (sym (add-one k)) ∙ ap span_of (o.moved k l m);
      }))
      ∙ ap (insert (span_of r)) (sym (used_is pool_limit (row_of t) t.n (omega arith)))

  pub opened_tidy : Tidy pool_limit (same_span blank_span) (pool_view t) → Tidy pool_limit (same_span blank_span) (pool_view u)
  opened_tidy h =
      record {
        whole = listed_length (row_of u) pool_limit;
        within = omega (arith, o.count);
        blank = drop_in (same_span blank_span) (row_of u) u.n pool_limit (λ k m l.
            let e : row_of u k ≡ row_of t k = ap span_of (o.high k (omega (arith, o.count))) in
            rw e (drop_out (same_span blank_span) (row_of t) t.n pool_limit h.blank k (omega (arith, o.count)) l));
      }

  pub opened_stored : T (tidy pool_limit (same_span blank_span) (pool_view t)) → at ≡ place_of (first (λ k. before (span_of r) (row_of t k)) t.n) t.n
      → pool_view u ≡ stored (insert (span_of r) (used (pool_view t)))
  opened_stored h e =
      sym (stored_same (pool_view u) (opened_tidy (tidy_says pool_limit (same_span blank_span) (pool_view t) h)))
      ∙ ap stored (opened_used (rw e (placed (span_of r) (row_of t) t.n (first (λ k. before (span_of r) (row_of t k)) t.n) (first_is (λ k. before (span_of r) (row_of t k)) t.n))))

-- ---- a table that has the range, or a place for it, or neither

module _ (p : Span) (f : ℕ → Span) (n : ℕ) (good : T (tidy pool_limit (same_span blank_span) (table pool_limit f n))) where
  pub rows_within : n ≤ pool_limit
  rows_within = (tidy_says pool_limit (same_span blank_span) (table pool_limit f n) good).within

  rows_count : length (used (table pool_limit f n)) ≡ n
  rows_count = used_length (table pool_limit f n) (omega (arith, rows_within, listed_length f pool_limit))

  rows_there : (i : ℕ) → Some i ≡ first (λ j. same_span p (f j)) n → T (there p (used (table pool_limit f n)))
  unfolding there
  rows_there i e = true_T (any_of (same_span p) (used (table pool_limit f n))) (used_any (same_span p) pool_limit f n rows_within i e)

  place_there : (i : ℕ) → Some i ≡ first (λ j. same_span p (f j)) n → has_place p (used (table pool_limit f n)) ≡ true
  place_there i e = T_true (has_place p (used (table pool_limit f n))) (entered_there p (used (table pool_limit f n)) (rows_there i e)).1

  module _ (e : None ≡ first (λ j. same_span p (f j)) n) where
    rows_new : there p (used (table pool_limit f n)) ≡ false
    unfolding there
    rows_new = used_none (same_span p) pool_limit f n rows_within e

    place_none : pool_limit ≤ n → has_place p (used (table pool_limit f n)) ≡ false
    unfolding has_place
    place_none m = rw (rows_new, rows_count, le-ltb n pool_limit m)

    place_new : n < pool_limit → has_place p (used (table pool_limit f n)) ≡ true
    unfolding has_place
    place_new m = rw (rows_new, rows_count, lt-ltb n pool_limit m)

  -- ---- what is told

  abbrev gate : Bool → Answer (Unit {0})
  gate b = require b full (accepted tt)

  module _ (floor : ℕ) where
    abbrev Says : Reply → Type 0
    Says a = heard a ≡ telling (admit_any floor p (used (table pool_limit f n)))

    pub say_fault : (y : Refused) → fault_of p.start p.end floor ≡ Err y → Says (Err y)
    unfolding admit_any
    say_fault y z = fault_told p.start p.end floor (gate (has_place p (used (table pool_limit f n)))) y z

    module _ (fine : fault_of p.start p.end floor ≡ Ok tt) where
      said : {b : Bool} → has_place p (used (table pool_limit f n)) ≡ b → telling (gate b) ≡ telling (admit_any floor p (used (table pool_limit f n)))
      unfolding admit_any
      said e = ap telling (ap gate (sym e) ∙ sym (fault_none p.start p.end floor (gate (has_place p (used (table pool_limit f n)))) fine))

      say_there : (i : ℕ) → Some i ≡ first (λ j. same_span p (f j)) n → Says (Ok tt)
      unfolding require
      say_there i e = said (place_there i e)

      module _ (e : None ≡ first (λ j. same_span p (f j)) n) where
        say_full : pool_limit ≤ n → Says (Err R.Full)
        unfolding require
        say_full m = said (place_none e m)

        say_new : n < pool_limit → Says (Ok tt)
        unfolding require
        say_new m = said (place_new e m)

      -- .. by whether it is there
      pub say_none : (h : Option ℕ) → h ≡ first (λ j. same_span p (f j)) n → is_some h ≡ false → pool_limit ≤ n → Says (Err R.Full)
      say_none None e s m = say_full e m
      say_none (Some i) e s m = absurd (true≢false s)

      pub say_some : (h : Option ℕ) → h ≡ first (λ j. same_span p (f j)) n → is_some h ≡ true → Says (Ok tt)
      say_some None e s = absurd (true≢false (sym s))
      say_some (Some i) e s = say_there i e

      pub say_room : (h : Option ℕ) → h ≡ first (λ j. same_span p (f j)) n → n < pool_limit → Says (Ok tt)
      say_room None e m = say_new e m
      say_room (Some i) e m = say_there i e

-- ---- the ways out of `insert_range`

module _ (t : Pool) (r : PoolRow) (good : T (tidy pool_limit (same_span blank_span) (pool_view t))) where
  abbrev Enters : Pool → Type 0
  Enters u = pool_view u ≡ entered_or (span_of r) (pool_view t)

  enter_there : (i : ℕ) → Some i ≡ first (λ j. same_span (span_of r) (row_of t j)) t.n → Enters t
  enter_there i e =
      rw (place_there (span_of r) (row_of t) t.n good i e)
      (sym (stored_same (pool_view t) (tidy_says pool_limit (same_span blank_span) (pool_view t) good))
      ∙ ap stored (sym (entered_there (span_of r) (used (pool_view t)) (rows_there (span_of r) (row_of t) t.n good i e)).0))

  module _ (e : None ≡ first (λ j. same_span (span_of r) (row_of t j)) t.n) where
    enter_full : pool_limit ≤ t.n → Enters t
    enter_full f = rw (place_none (span_of r) (row_of t) t.n good e f)

    enter_new : (u : Pool) (at : ℕ) → t.n < pool_limit → at ≡ place_of (first (λ j. before (span_of r) (row_of t j)) t.n) t.n → Opened t u at r → Enters u
    enter_new u at f q o =
        rw (place_new (span_of r) (row_of t) t.n good e f)
        (opened_stored t u at r f o good q
        ∙ ap stored (sym (entered_new (span_of r) (used (pool_view t)) (false_T (there (span_of r) (used (pool_view t))) (rows_new (span_of r) (row_of t) t.n good e)))))

  pub enter_some : (h : Option ℕ) → h ≡ first (λ j. same_span (span_of r) (row_of t j)) t.n → is_some h ≡ true → Enters t
  enter_some (Some i) e s = enter_there i e
  enter_some None e s = absurd (true≢false (sym s))

  module _ (h : Option ℕ) (e : h ≡ first (λ j. same_span (span_of r) (row_of t j)) t.n) (s : is_some h ≡ false) where
    none : None ≡ first (λ j. same_span (span_of r) (row_of t j)) t.n
    none = go h e s
      where
        go : (h : Option ℕ) → h ≡ first (λ j. same_span (span_of r) (row_of t j)) t.n → is_some h ≡ false → None ≡ first (λ j. same_span (span_of r) (row_of t j)) t.n
        go None e s = e
        go (Some i) e s = absurd (true≢false s)

    pub enter_none : pool_limit ≤ t.n → Enters t
    enter_none = enter_full none

    pub enter_room : (u : Pool) (at : ℕ) → t.n < pool_limit → at ≡ place_of (first (λ j. before (span_of r) (row_of t j)) t.n) t.n → Opened t u at r → Enters u
    enter_room = enter_new none
