-- Laws of a table as it is handed in: its used rows, its zero rows, rows pushed to its end, a table made anew. Assumes nothing.
use Rattle.std.specs.Prelude.{◌≡◌, Bool, ◌&&◌, take, drop, replicate, leb, eqb}
use Rattle.std.proofs.Math.Path.{refl, sym, ap}
use Rattle.std.proofs.Common.{◌∙◌, length-append, length-take, length-drop, take-append-drop, le→leb}
use mathlib.Core.List.{List, [], ◌∷◌, ◌++◌, append_assoc, append-nil}
use Prim.Native.Nat.{ℕ, zero, suc, ◌+◌, ◌-◌, ◌≤◌, ◌<◌}
use native.Mathlib.Omega.{arith}
use Rattle.std.proofs.Math.ListN.{length, set, length-set, length-replicate}
use Rattle.std.proofs.Math.Dec.{T, leb→le, eqb→eq}
use Rattle.definition.specs.Base.{all_of, pairs_of}
use Rattle.definition.proofs.BaseLaws.{and_l, and_r, and_i, eq→eqb}
use Rattle.definition.specs.Tables.{pool_limit, Kind, Span, same_span, Table, used, tidy, blank_span, good_span, in_order, sound_table}
use Rattle.definition.specs.Calls.{zeros, push_all, filled, stored}
use Rattle.definition.proofs.RowLaws.{span_eq, span_refl}

-- ---- lists

module _ {A : Type 0} where
  take_set : (n : ℕ) (l : List A) (a : A) → n < length l → take (suc n) (set l n a) ≡ take n l ++ a ∷ []
  take_set n [] a h = absurd (omega arith)
  take_set zero (x ∷ xs) a h = refl
  take_set (suc n) (x ∷ xs) a h = ap {B = List A} (λ r. x ∷ r) (take_set n xs a (omega arith))

  drop_set : (n : ℕ) (l : List A) (a : A) → drop (suc n) (set l n a) ≡ drop (suc n) l
  drop_set n [] a = refl
  drop_set zero (x ∷ xs) a = refl
  drop_set (suc n) (x ∷ xs) a = drop_set n xs a

  drop_more : (p : A → Bool) (n : ℕ) (l : List A) → T (all_of p (drop n l)) → T (all_of p (drop (suc n) l))
  unfolding all_of
  drop_more p n [] t = tt
  drop_more p zero (x ∷ xs) t = and_r (p x) (all_of p xs) t
  drop_more p (suc n) (x ∷ xs) t = drop_more p n xs t

  pub take_front : (xs ys : List A) → take (length xs) (xs ++ ys) ≡ xs
  take_front [] ys = refl
  take_front (x ∷ xs) ys = ap {B = List A} (λ r. x ∷ r) (take_front xs ys)

  pub drop_front : (xs ys : List A) → drop (length xs) (xs ++ ys) ≡ ys
  drop_front [] ys = refl
  drop_front (x ∷ xs) ys = drop_front xs ys

  all_replicate : (p : A → Bool) (n : ℕ) (a : A) → T (p a) → T (all_of p (replicate n a))
  unfolding all_of
  all_replicate p zero a t = tt
  all_replicate p (suc n) a t = and_i (p a) (all_of p (replicate n a)) t (all_replicate p n a t)

  -- rows that are all alike a are copies of a
  replicate_all : (p : A → Bool) (a : A) → ((x : A) → T (p x) → x ≡ a) → (l : List A) → T (all_of p l) → l ≡ replicate (length l) a
  unfolding all_of
  replicate_all p a same [] t = refl
  replicate_all p a same (x ∷ xs) t = λ i. same x (and_l (p x) (all_of p xs) t) i ∷ replicate_all p a same xs (and_r (p x) (all_of p xs) t) i

  -- ---- a tidy table

  pub record Tidy (size : ℕ) (z : A → Bool) (t : Table A) : Type 0 where
    pub whole : length t.rows ≡ size
    pub within : t.count ≤ size
    pub blank : T (all_of z (drop t.count t.rows))

  pub tidy_says : (size : ℕ) (z : A → Bool) (t : Table A) → T (tidy size z t) → Tidy size z t
  unfolding tidy
  tidy_says size z t h =
      let h₁ : T (eqb (length t.rows) size) = search (and_l, and_r) in
      let h₂ : T (leb t.count size) = search (and_l, and_r) in
      record { whole = eqb→eq (length t.rows) size h₁; within = leb→le t.count size h₂; blank = search (and_l, and_r) }

  pub says_tidy : (size : ℕ) (z : A → Bool) (t : Table A) → Tidy size z t → T (tidy size z t)
  unfolding tidy
  says_tidy size z t h =
      let h₃ : T (all_of z (drop t.count t.rows)) = h.blank in
      search (and_i, eq→eqb, le→leb)

  pub used_length : (t : Table A) → t.count ≤ length t.rows → length (used t) ≡ t.count
  used_length t h = length-take t.count t.rows ∙ omega arith

  -- ---- rows pushed to the end

  pub record Grown (t : Table A) (rs : List A) (u : Table A) : Type 0 where
    pub count : u.count ≡ t.count + length rs
    pub whole : length u.rows ≡ length t.rows
    pub used_is : used u ≡ used t ++ rs
    pub blank : (z : A → Bool) → T (all_of z (drop t.count t.rows)) → T (all_of z (drop u.count u.rows))

  pub grown : (t : Table A) (rs : List A) → t.count + length rs ≤ length t.rows → Grown t rs (push_all t rs)
  unfolding push_all
  grown t [] h = record { count = omega arith; whole = refl; used_is = sym (append-nil (used t)); blank = λ z b. b }
  grown t (r ∷ rs) h =
      let u : Table A = record { count = suc t.count; rows = set t.rows t.count r } in
      let n : length (set t.rows t.count r) ≡ length t.rows = length-set t.rows t.count r in
      let below : Grown u rs (push_all u rs) = grown u rs (omega arith) in
      record {
        count = omega (arith, below.count);
        whole = below.whole ∙ n;
        used_is = below.used_is ∙ ap (λ xs. xs ++ rs) (take_set t.count t.rows r (omega arith)) ∙ append_assoc (used t) (r ∷ []) rs;
        blank = λ z b. below.blank z (rw (drop_set t.count t.rows r) (drop_more z t.count t.rows b));
      }

  pub push_count : (t : Table A) (rs : List A) → (push_all t rs).count ≡ t.count + length rs
  unfolding push_all
  push_count t [] = omega arith
  push_count t (r ∷ rs) = push_count (record { count = suc t.count; rows = set t.rows t.count r }) rs ∙ omega arith

  -- no row pushed: nothing changed
  pub push_nil : (t : Table A) → push_all t [] ≡ t
  unfolding push_all
  push_nil t = refl

  pub push_append : (t : Table A) (xs ys : List A) → push_all t (xs ++ ys) ≡ push_all (push_all t xs) ys
  unfolding push_all
  push_append t [] ys = refl
  push_append t (x ∷ xs) ys = push_append (record { count = suc t.count; rows = set t.rows t.count x }) xs ys

  -- ---- a sound table

  pub record SoundTable (size : ℕ) (z good : A → Bool) (fit : A → A → Bool) (t : Table A) : Type 0 where
    pub tidied : Tidy size z t
    pub goods : T (all_of good (used t))
    pub pairs : T (pairs_of fit (used t))

  module _ (size : ℕ) (z good : A → Bool) (fit : A → A → Bool) where
    pub table_says : (t : Table A) → T (sound_table size z good fit t) → SoundTable size z good fit t
    unfolding sound_table
    table_says t h = record { tidied = tidy_says size z t (and_l (tidy size z t) (all_of good (used t) && pairs_of fit (used t)) h); goods = search (and_l, and_r); pairs = search (and_l, and_r) }

    pub says_table : (t : Table A) → SoundTable size z good fit t → T (sound_table size z good fit t)
    unfolding sound_table
    says_table t h =
        let a : T (tidy size z t) = says_tidy size z t h.tidied in
        let b : T (all_of good (used t)) = h.goods in
        let c : T (pairs_of fit (used t)) = h.pairs in
        search (and_i)

    pub table_length : (t : Table A) → SoundTable size z good fit t → length (used t) ≡ t.count
    table_length t s = used_length t (omega (arith, s.tidied.within, s.tidied.whole))

    -- rows pushed to a sound table, where there is room and the used rows stay good
    pub table_grown : (t : Table A) (rs : List A) → SoundTable size z good fit t → length (used t) + length rs ≤ size
        → T (all_of good (used t ++ rs)) → T (pairs_of fit (used t ++ rs)) → SoundTable size z good fit (push_all t rs) × (used (push_all t rs) ≡ used t ++ rs)
    table_grown t rs s h g p =
        let n : length (used t) ≡ t.count = table_length t s in
        let k : Grown t rs (push_all t rs) = grown t rs (omega (arith, s.tidied.whole)) in (
          record {
            tidied = record { whole = k.whole ∙ s.tidied.whole; within = omega (arith, k.count); blank = k.blank z s.tidied.blank };
            goods = rw k.used_is g;
            pairs = rw k.used_is p;
          },
          k.used_is,
        )

    pub table_fresh : (a : A) → T (z a) → SoundTable size z good fit (zeros size a)
    unfolding all_of pairs_of
    table_fresh a h = record { tidied = record { whole = length-replicate size a; within = omega arith; blank = all_replicate z size a h }; goods = tt; pairs = tt }

-- ---- a table made anew

pub filled_used : {A : Type 0} (size : ℕ) (b : A) (rs : List A) → used (filled size b rs) ≡ rs
filled_used size b rs = take_front rs (replicate (size - length rs) b)

module _ {A : Type 0} (size : ℕ) (z good : A → Bool) (fit : A → A → Bool) (b : A) (blank : T (z b)) where
  pub filled_sound : (rs : List A) → length rs ≤ size → T (all_of good rs) → T (pairs_of fit rs) → SoundTable size z good fit (filled size b rs)
  filled_sound rs h g p = record {
    tidied = record {
      whole = length-append rs (replicate (size - length rs) b) ∙ omega (arith, length-replicate (size - length rs) b);
      within = h;
      blank = rw (drop_front rs (replicate (size - length rs) b)) (all_replicate z (size - length rs) b blank);
    };
    goods = rw (filled_used size b rs) g;
    pairs = rw (filled_used size b rs) p;
  }

-- a tidy table is its used rows and zeros: storing what it holds changes nothing
pub filled_same : {A : Type 0} (size : ℕ) (z : A → Bool) (b : A) → ((x : A) → T (z x) → x ≡ b) → (t : Table A) → Tidy size z t → filled size b (used t) ≡ t
filled_same size z b same t h = λ i. record { count = n i; rows = rows i }
  where
    n : length (used t) ≡ t.count
    n = used_length t (omega (arith, h.whole, h.within))

    rest : drop t.count t.rows ≡ replicate (size - length (used t)) b
    rest =
        let m : length (drop t.count t.rows) ≡ size - length (used t) = omega (arith, length-drop t.count t.rows, h.whole, n) in
        replicate_all z b same (drop t.count t.rows) h.blank ∙ ap (λ j. replicate j b) m

    rows : used t ++ replicate (size - length (used t)) b ≡ t.rows
    rows = ap (λ xs. used t ++ xs) (sym rest) ∙ take-append-drop t.count t.rows

-- ---- of pools

pub stored_used : (ps : List Span) → used (stored ps) ≡ ps
stored_used ps = filled_used pool_limit blank_span ps

pub stored_sound : (k : Kind) (ps : List Span) → length ps ≤ pool_limit → T (all_of (good_span k) ps) → T (pairs_of in_order ps)
    → SoundTable pool_limit (same_span blank_span) (good_span k) in_order (stored ps)
stored_sound k ps h g p = filled_sound pool_limit (same_span blank_span) (good_span k) in_order blank_span (span_refl blank_span) ps h g p

pub stored_same : (t : Table Span) → Tidy pool_limit (same_span blank_span) t → stored (used t) ≡ t
stored_same t h = filled_same pool_limit (same_span blank_span) blank_span (λ x s. sym (span_eq blank_span x s)) t h
