-- Laws of rows added to tables: the rows of one kind, what fits, what stands at the ends. Assumes nothing.
use Rattle.std.specs.Prelude.{◌≡◌, refl, ◌⊎◌, Bool, not, ◌+◌, ◌≤◌, ◌<◌, length, T, ltb}
use Rattle.std.proofs.Common.{sym, subst, ap, ◌∙◌, inl, inr, arith, length-append, ltb→lt, lt→ltb}
use mathlib.Core.List.Memᴰ
use mathlib.Core.List.{List, [], ◌∷◌, ◌++◌, Memᴰ}
use Rattle.definition.specs.Base.{all_of, pairs_of}
use Rattle.definition.proofs.BaseLaws.{and_l, and_r, and_i, T_true, T_false, not_T→, either, all_in, all_from}
use Rattle.definition.specs.Tables.{row_limit, Kind, same_kind, Row, clash}
use Rattle.definition.specs.Pools.{In, Holders, Claim, rows_of, ◌⊕◌, room}
use Rattle.definition.proofs.RowLaws.{same_kind_equal, kind_same, clash_sym, Beside}

-- ---- lists whose elements, or pairs of elements, all pass

pub all_append : {A : Type 0} (p : A → Bool) (xs ys : List A) → T (all_of p xs) → T (all_of p ys) → T (all_of p (xs ++ ys))
unfolding all_of
all_append p [] ys s t = t
all_append p (x ∷ xs) ys s t = and_i (p x) (all_of p (xs ++ ys)) (and_l (p x) (all_of p xs) s) (all_append p xs ys (and_r (p x) (all_of p xs) s) t)

pub pairs_append : {A : Type 0} (p : A → A → Bool) (xs ys : List A) → T (pairs_of p xs) → T (pairs_of p ys) → ((x y : A) → Memᴰ x xs → Memᴰ y ys → T (p x y)) → T (pairs_of p (xs ++ ys))
unfolding pairs_of
pairs_append p [] ys s t f = t
pairs_append p (x ∷ xs) ys s t f =
    let s₁ : T (all_of (p x) xs) = search (and_l, and_r) in
    let s₂ : T (pairs_of p xs) = search (and_l, and_r) in
    and_i (all_of (p x) (xs ++ ys)) (pairs_of p (xs ++ ys))
    (all_append (p x) xs ys s₁ (all_from (p x) ys (λ y m. f x y (Memᴰ.head refl) m)))
    (pairs_append p xs ys s₂ t (λ a b m n. f a b (Memᴰ.tail m) n))

-- ---- the rows of one kind

unfoldable pub other_kind : {A : Type 0} → In A → In A → Bool
other_kind a b = not (same_kind a.kind b.kind)

module _ (k : Kind) where
  pub rows_same : (c : Claim) (cs : List Claim) → T (same_kind c.kind k) → rows_of k (c ∷ cs) ≡ c.row ∷ rows_of k cs
  unfolding rows_of
  rows_same c cs t = rw (T_true (same_kind c.kind k) t, rows_of)

  pub rows_other : (c : Claim) (cs : List Claim) → (T (same_kind c.kind k) → ⊥) → rows_of k (c ∷ cs) ≡ rows_of k cs
  unfolding rows_of
  rows_other c cs u = rw (T_false (same_kind c.kind k) u, rows_of)

  -- a row of the kind's is the row of a claim of that kind
  pub rows_in : (cs : List Claim) (r : Row) → Memᴰ r (rows_of k cs) → (c : Claim) × Memᴰ c cs × (c.kind ≡ k) × (r ≡ c.row)
  unfolding rows_of
  rows_in [] r m = absurd (Memᴰ.not-nil m)
  rows_in (c ∷ cs) r m = go (λ m'. rows_in cs r m') (either (same_kind c.kind k))
    where
      up : (d : Claim) × Memᴰ d cs × (d.kind ≡ k) × (r ≡ d.row) → (d : Claim) × Memᴰ d (c ∷ cs) × (d.kind ≡ k) × (r ≡ d.row)
      up (d, m', e, f) = (d, Memᴰ.tail m', e, f)

      split : (Memᴰ r (rows_of k cs) → (d : Claim) × Memᴰ d cs × (d.kind ≡ k) × (r ≡ d.row)) → T (same_kind c.kind k)
          → (r ≡ c.row) ⊎ Memᴰ r (rows_of k cs) → (d : Claim) × Memᴰ d (c ∷ cs) × (d.kind ≡ k) × (r ≡ d.row)
      split below t (inl e) = (c, Memᴰ.head refl, same_kind_equal c.kind k t, e)
      split below t (inr m') = up (below m')

      go : (Memᴰ r (rows_of k cs) → (d : Claim) × Memᴰ d cs × (d.kind ≡ k) × (r ≡ d.row)) → T (same_kind c.kind k) ⊎ (T (same_kind c.kind k) → ⊥)
          → (d : Claim) × Memᴰ d (c ∷ cs) × (d.kind ≡ k) × (r ≡ d.row)
      go below (inl t) = split below t (Memᴰ.cases_cons (rw (rows_same c cs t) at m))
      go below (inr u) = up (below (rw (rows_other c cs u) at m))

  more_rows : {r : Row} (d : Claim) (ds : List Claim) → Memᴰ r (rows_of k ds) → Memᴰ r (rows_of k (d ∷ ds))
  more_rows {r} d ds m = go (either (same_kind d.kind k))
    where
      go : T (same_kind d.kind k) ⊎ (T (same_kind d.kind k) → ⊥) → Memᴰ r (rows_of k (d ∷ ds))
      go (inl t) = rw (rows_same d ds t) (Memᴰ.tail m)
      go (inr u) = rw (rows_other d ds u) m

  pub in_rows : {c : Claim} {cs : List Claim} → Memᴰ c cs → c.kind ≡ k → Memᴰ c.row (rows_of k cs)
  in_rows {c} (Memᴰ.head {x = d} {xs = ds} e) q =
      let t : T (same_kind d.kind k) = subst (λ (j : Kind). T (same_kind j k)) (sym q ∙ ap (λ (x : Claim). x.kind) e) (kind_same k) in
      rw (rows_same d ds t) (Memᴰ.head (ap (λ (x : Claim). x.row) e))
  in_rows {c} (Memᴰ.tail {x = d} {xs = ds} m) q = more_rows d ds (in_rows m q)

  -- where no claim has the kind, no row
  pub rows_none : (cs : List Claim) → ((c : Claim) → Memᴰ c cs → c.kind ≡ k → ⊥) → rows_of k cs ≡ []
  rows_none cs f = go (rows_of k cs) refl
    where
      go : (rs : List Row) → rows_of k cs ≡ rs → rows_of k cs ≡ []
      go [] e = e
      go (r ∷ rs) e = let (d, m, q, g) = rows_in cs r (rw e (Memᴰ.head refl)) in absurd (f d m q)

pub apart_kinds : {A : Type 0} (c d : In A) → T (other_kind c d) → c.kind ≡ d.kind → ⊥
unfolding other_kind
apart_kinds c d o q = not_T→ (same_kind c.kind d.kind) o (subst (λ (j : Kind). T (same_kind c.kind j)) q (kind_same c.kind))

-- with kinds apart and a row free in each table that needs one, the new rows fit
unfoldable pub Fits : Holders → Type 0
Fits S = (k : Kind) → length (S k) ≤ row_limit

pub fits_one : (S : Holders) (k : Kind) (cs : List Claim) → length (S k) ≤ row_limit → T (pairs_of other_kind cs) → T (room S cs) → length (S k) + length (rows_of k cs) ≤ row_limit
unfolding pairs_of room all_of rows_of
fits_one S k [] h a t = omega arith
fits_one S k (c ∷ cs) h a t =
    let a₁ : T (all_of (other_kind c) cs) = search (and_l, and_r) in
    let a₂ : T (pairs_of other_kind cs) = search (and_l, and_r) in
    let t₁ : T (ltb (length (S c.kind)) row_limit) = search (and_l, and_r) in
    let t₂ : T (room S cs) = search (and_l, and_r) in
    go a₁ t₁ (fits_one S k cs h a₂ t₂) (either (same_kind c.kind k))
  where
    go : T (all_of (other_kind c) cs) → T (ltb (length (S c.kind)) row_limit) → length (S k) + length (rows_of k cs) ≤ row_limit
        → T (same_kind c.kind k) ⊎ (T (same_kind c.kind k) → ⊥) → length (S k) + length (rows_of k (c ∷ cs)) ≤ row_limit
    go a₁ t₁ below (inl s) =
        let q : c.kind ≡ k = same_kind_equal c.kind k s in
        let l : T (ltb (length (S k)) row_limit) = rw q at t₁ in
        let z : rows_of k cs ≡ [] = rows_none k cs (λ d m j. apart_kinds c d (all_in (other_kind c) m a₁) (q ∙ sym j)) in
        rw (rows_same k c cs s, z) (omega (arith, ltb→lt))
    go a₁ t₁ below (inr u) = rw (rows_other k c cs u) below

pub length_put : (S : Holders) (cs : List Claim) (k : Kind) → length ((S ⊕ cs) k) ≡ length (S k) + length (rows_of k cs)
unfolding ◌⊕◌
length_put S cs k = length-append (S k) (rows_of k cs)

pub mem_length : {r : Row} {rs : List Row} → Memᴰ r rs → 0 < length rs
mem_length (Memᴰ.head e) = omega arith
mem_length (Memᴰ.tail m) = omega arith

pub fits_room : (S : Holders) (cs : List Claim) → Fits (S ⊕ cs) → T (room S cs)
unfolding Fits room
fits_room S cs h =
    all_from (λ c. ltb (length (S c.kind)) row_limit) cs
    (λ c m. lt→ltb (length (S c.kind)) row_limit (omega (arith, h c.kind, length_put S cs c.kind, mem_length (in_rows c.kind m refl))))

pub rows_append : (k : Kind) (cs ds : List Claim) → rows_of k (cs ++ ds) ≡ rows_of k cs ++ rows_of k ds
unfolding rows_of
rows_append k [] ds = refl
rows_append k (c ∷ cs) ds = go (rows_append k cs ds) (either (same_kind c.kind k))
  where
    go : rows_of k (cs ++ ds) ≡ rows_of k cs ++ rows_of k ds → T (same_kind c.kind k) ⊎ (T (same_kind c.kind k) → ⊥) → rows_of k (c ∷ cs ++ ds) ≡ rows_of k (c ∷ cs) ++ rows_of k ds
    go below (inl t) = rows_same k c (cs ++ ds) t ∙ ap (λ rs. c.row ∷ rs) below ∙ ap (λ rs. rs ++ rows_of k ds) (sym (rows_same k c cs t))
    go below (inr u) = rows_other k c (cs ++ ds) u ∙ below ∙ ap (λ rs. rs ++ rows_of k ds) (sym (rows_other k c cs u))

-- the rows of one kind in a request are at most one
pub pairs_rows : (k : Kind) (p : Row → Row → Bool) (cs : List Claim) → T (pairs_of other_kind cs) → T (pairs_of p (rows_of k cs))
unfolding pairs_of rows_of all_of
pairs_rows k p [] a = tt
pairs_rows k p (c ∷ cs) a =
    let a₁ : T (all_of (other_kind c) cs) = search (and_l, and_r) in
    let a₂ : T (pairs_of other_kind cs) = search (and_l, and_r) in
    go a₁ (pairs_rows k p cs a₂) (either (same_kind c.kind k))
  where
    go : T (all_of (other_kind c) cs) → T (pairs_of p (rows_of k cs)) → T (same_kind c.kind k) ⊎ (T (same_kind c.kind k) → ⊥) → T (pairs_of p (rows_of k (c ∷ cs)))
    go a₁ below (inl t) =
        let q : c.kind ≡ k = same_kind_equal c.kind k t in
        let z : rows_of k cs ≡ [] = rows_none k cs (λ d m j. apart_kinds c d (all_in (other_kind c) m a₁) (q ∙ sym j)) in
        rw (rows_same k c cs t, z) tt
    go a₁ below (inr u) = rw (rows_other k c cs u) below

-- rows added to a table whose rows pass: the table's rows and the new ones pass
pub goods_added : (good : Kind → Row → Bool) (S : Holders) (cs : List Claim) (k : Kind) → T (all_of (good k) (S k)) → ((c : Claim) → Memᴰ c cs → T (good c.kind c.row))
    → T (all_of (good k) (S k ++ rows_of k cs))
goods_added good S cs k s g = all_append (good k) (S k) (rows_of k cs) s (all_from (good k) (rows_of k cs) each)
  where
    from : (x : Row) (c : Claim) → Memᴰ c cs → c.kind ≡ k → x ≡ c.row → T (good k x)
    from x c n e q = rw (← e, q) (g c n)

    each : (x : Row) → Memᴰ x (rows_of k cs) → T (good k x)
    each x m = let (c, n, e, q) = rows_in k cs x m in from x c n e q

pub pairs_added : (fit : Row → Row → Bool) (S : Holders) (cs : List Claim) (k : Kind) → T (pairs_of fit (S k)) → T (pairs_of other_kind cs)
    → ((c : Claim) → Memᴰ c cs → (x : Row) → Memᴰ x (S c.kind) → T (fit x c.row)) → T (pairs_of fit (S k ++ rows_of k cs))
pairs_added fit S cs k s a f = pairs_append fit (S k) (rows_of k cs) s (pairs_rows k fit cs a) each
  where
    from : (x y : Row) (c : Claim) → Memᴰ x (S k) → Memᴰ c cs → c.kind ≡ k → y ≡ c.row → T (fit x y)
    from x y c m n e q = rw q (f c n x (rw e m))

    each : (x y : Row) → Memᴰ x (S k) → Memᴰ y (rows_of k cs) → T (fit x y)
    each x y m m' = let (c, n, e, q) = rows_in k cs y m' in from x y c m n e q

-- ---- rows that can stand beside those of their tables

abbrev pub FreeOf : Holders → List Claim → Type 0
FreeOf S cs = (c : Claim) → Memᴰ c cs → Beside (S c.kind) c.row

-- no row of one clashes with a row of the other
abbrev pub Clear : List Claim → List Claim → Type 0
Clear cs ds = (c d : Claim) → Memᴰ c cs → Memᴰ d ds → c.kind ≡ d.kind → T (clash c.row d.row) → ⊥

pub clear_sym : {cs ds : List Claim} → Clear cs ds → Clear ds cs
clear_sym f d c m n e t = f c d n m (sym e) (clash_sym d.row c.row t)

pub free_put : (S : Holders) (cs ds : List Claim) → FreeOf S ds → Clear cs ds → FreeOf (S ⊕ cs) ds
unfolding ◌⊕◌
free_put S cs ds f h d m r n t = go (Memᴰ.append_cases (S d.kind) n)
  where
    go : Memᴰ r (S d.kind) ⊎ Memᴰ r (rows_of d.kind cs) → ⊥
    go (inl n') = f d m r n' t
    go (inr n') = let (c, m', e, q) = rows_in d.kind cs r n' in h c d m' m e (clash_sym d.row c.row (rw q at t))

pub put_free : (S : Holders) (cs ds : List Claim) → FreeOf (S ⊕ cs) ds → FreeOf S ds × Clear cs ds
unfolding ◌⊕◌
put_free S cs ds f = (
  λ d m r n t. f d m r (Memᴰ.append_left (rows_of d.kind cs) n) t,
  λ c d m m' e t. f d m' c.row (Memᴰ.append_right (S d.kind) (in_rows d.kind m e)) (clash_sym c.row d.row t),
)
