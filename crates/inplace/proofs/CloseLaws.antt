-- Rows taken out of a list one by one, each set to its place, are the definition's rows that close up. Assumes nothing.
use mathlib.Core.Path.{◌≡◌, refl, ap, sym, ◌∙◌}
use mathlib.Core.Bool.{Bool, true, false, not}
use mathlib.Core.Logic.{⊎_elim}
use mathlib.Core.List.{List, [], ◌∷◌, ◌++◌, append_assoc, append-nil}
use Prim.Native.Nat.{ℕ, zero, suc, ◌+◌, ◌-◌, ◌≤◌, ◌<◌, max}
use native.Mathlib.Omega.{arith}
use lib.ListN.{length, length-append, length-drop, length-replicate, get_or, set, take, drop, replicate, take-append-drop, drop_of_length-le}
use lib.Seq.{take-suc, drop-cons, get_or-drop, set_at, length-take-le, take-nil, take_all}
use Rattle.definition.specs.Base.{only_of}
use Rattle.definition.proofs.OnlyLaws.{only_append, only_few}
use Rattle.definition.specs.Cut.{close_to}
use Rattle.definition.specs.Tables.{row_limit, Table, used}
use Rattle.inplace.specs.Cut.{lesser}
use Rattle.inplace.proofs.CutLaws.{lesser_is, lesser_within}

module _ {A : Type 0} where
  -- ---- one row

  only_one : (p : A → Bool) (x : A) → p x ≡ true → only_of p (x ∷ []) ≡ x ∷ []
  unfolding only_of
  only_one p x e = ap (λ (b : Bool). elim b as (λ _. List A) [ true ↦ x ∷ [] | false ↦ [] ]) e

  only_none : (p : A → Bool) (x : A) → p x ≡ false → only_of p (x ∷ []) ≡ []
  unfolding only_of
  only_none p x e = ap (λ (b : Bool). elim b as (λ _. List A) [ true ↦ x ∷ [] | false ↦ [] ]) e

  -- a blank row behind blank rows
  blank_more : (n : ℕ) (b : A) (xs : List A) → replicate n b ++ (b ∷ xs) ≡ b ∷ (replicate n b ++ xs)
  blank_more zero b xs = refl
  blank_more (suc n) b xs = ap (λ (zs : List A). b ∷ zs) (blank_more n b xs)

  -- ---- after k rows from m on, of rows that are `rows`
  module _ (b : A) (gone : A → Bool) (m : ℕ) (rows : List A) where
    abbrev row : ℕ → A
    row k = get_or rows (m + k) b

    abbrev pub stay : ℕ → List A
    stay k = only_of (λ r. not (gone r)) (take k (drop m rows))

    abbrev pub shape : ℕ → List A
    shape k = take m rows ++ (stay k ++ (replicate (k - length (stay k)) b ++ drop (m + k) rows))

    module _ (k : ℕ) (l : m + k < length rows) where
      before : length (take m rows) ≡ m
      before = length-take-le m rows (omega arith)

      few : length (stay k) ≤ k
      few = omega (arith, only_few (λ r. not (gone r)) (take k (drop m rows)), length-take-le k (drop m rows) (omega (arith, length-drop m rows)))

      next : take (suc k) (drop m rows) ≡ take k (drop m rows) ++ (row k ∷ [])
      next = take-suc (drop m rows) k b (omega (arith, length-drop m rows)) ∙ ap (λ (r : A). take k (drop m rows) ++ (r ∷ [])) (get_or-drop m rows k b)

      stays_next : (rs : List A) → only_of (λ r. not (gone r)) (row k ∷ []) ≡ rs → stay (suc k) ≡ stay k ++ rs
      stays_next rs e = ap (only_of (λ r. not (gone r))) next ∙ only_append (λ r. not (gone r)) (take k (drop m rows)) (row k ∷ []) ∙ ap (λ (ys : List A). stay k ++ ys) e

      abbrev gap : List A
      gap = replicate (k - length (stay k)) b

      abbrev rest : List A
      rest = drop (suc (m + k)) rows

      regroup : (xs : List A) → (take m rows ++ (stay k ++ gap)) ++ xs ≡ take m rows ++ (stay k ++ (gap ++ xs))
      regroup xs = append_assoc (take m rows) (stay k ++ gap) xs ∙ ap (λ (zs : List A). take m rows ++ zs) (append_assoc (stay k) gap xs)

      length_done : length (take m rows ++ (stay k ++ gap)) ≡ m + k
      length_done =
          omega (arith, before, few, length-append (take m rows) (stay k ++ gap), length-append (stay k) gap, length-replicate (k - length (stay k)) b)

      -- row k is taken out
      taken : set (shape k) (m + k) b ≡ take m rows ++ (stay k ++ (b ∷ (gap ++ rest)))
      taken =
          ap (λ (zs : List A). set zs (m + k) b) (ap (λ (zs : List A). take m rows ++ (stay k ++ (gap ++ zs))) (drop-cons rows (m + k) b l) ∙ sym (regroup (row k ∷ rest)))
          ∙ set_at (take m rows ++ (stay k ++ gap)) (row k) rest b (m + k) length_done ∙ regroup (b ∷ rest) ∙ ap (λ (zs : List A). take m rows ++ (stay k ++ zs)) (blank_more (k - length (stay k)) b rest)

      -- the rows that stay, and what is behind them
      behind : (rs : List A) (n : ℕ) → stay (suc k) ≡ rs → suc k - length rs ≡ n → take m rows ++ (rs ++ (replicate n b ++ rest)) ≡ shape (suc k)
      behind rs n e p =
          let w : suc (m + k) ≡ m + suc k = omega arith in
          ap (λ (j : ℕ). take m rows ++ (rs ++ (replicate j b ++ rest))) (sym p) ∙ ap (λ (zs : List A). take m rows ++ (zs ++ (replicate (suc k - length zs) b ++ rest))) (sym e)
          ∙ ap (λ (j : ℕ). take m rows ++ (stay (suc k) ++ (replicate (suc k - length (stay (suc k))) b ++ drop j rows))) w

      shape_gone : gone (row k) ≡ true → set (shape k) (m + k) b ≡ shape (suc k)
      shape_gone e =
          let s : stay (suc k) ≡ stay k = stays_next [] (only_none (λ r. not (gone r)) (row k) (ap not e)) ∙ append-nil (stay k) in
          taken ∙ behind (stay k) (suc (k - length (stay k))) s (omega (arith, few))

      length_gone : gone (row k) ≡ true → length (stay k) ≡ length (stay (suc k))
      length_gone e = ap length (sym (stays_next [] (only_none (λ r. not (gone r)) (row k) (ap not e)) ∙ append-nil (stay k)))

      shape_kept : gone (row k) ≡ false → set (set (shape k) (m + k) b) (m + length (stay k)) (row k) ≡ shape (suc k)
      shape_kept e =
          let s : stay (suc k) ≡ stay k ++ (row k ∷ []) = stays_next (row k ∷ []) (only_one (λ r. not (gone r)) (row k) (ap not e)) in
          let n : suc k - length (stay k ++ (row k ∷ [])) ≡ k - length (stay k) = omega (arith, few, length-append (stay k) (row k ∷ [])) in
          ap (λ (zs : List A). set zs (m + length (stay k)) (row k)) (taken ∙ sym (append_assoc (take m rows) (stay k) (b ∷ (gap ++ rest))))
          ∙ set_at (take m rows ++ stay k) b (gap ++ rest) (row k) (m + length (stay k)) (omega (arith, before, length-append (take m rows) (stay k)))
          ∙ append_assoc (take m rows) (stay k) (row k ∷ (gap ++ rest)) ∙ ap (λ (zs : List A). take m rows ++ zs) (sym (append_assoc (stay k) (row k ∷ []) (gap ++ rest))) ∙ behind (stay k ++ (row k ∷ [])) (k - length (stay k)) s n

      length_kept : gone (row k) ≡ false → length (stay k) + 1 ≡ length (stay (suc k))
      length_kept e = omega (arith, ap length (stays_next (row k ∷ []) (only_one (λ r. not (gone r)) (row k) (ap not e))), length-append (stay k) (row k ∷ []))

    -- ---- rows and a place that go so, turn by turn
    module _ (now : ℕ → List A) (at : ℕ → ℕ) (n : ℕ) (inside : (k : ℕ) → k < n → m + k < length rows) (now-first : now 0 ≡ rows) (at_first : at 0 ≡ m)
        (goes : (k : ℕ) → k < n → gone (row k) ≡ true → (now (suc k) ≡ set (now k) (m + k) b) × (at (suc k) ≡ at k))
        (stays : (k : ℕ) → k < n → gone (row k) ≡ false → (now (suc k) ≡ set (set (now k) (m + k) b) (at k) (row k)) × (at (suc k) ≡ at k + 1)) where
      pub closes_up : (k : ℕ) → k ≤ n → (now k ≡ shape k) × (at k ≡ m + length (stay k))
      unfolding only_of
      closes_up zero l = (now-first ∙ sym (ap (λ (j : ℕ). take m rows ++ drop j rows) none ∙ take-append-drop m rows), at_first ∙ sym none)
        where
          none : m + 0 ≡ m
          none = omega arith
      closes_up (suc k) l = go (gone (row k)) refl (closes_up k (omega arith))
        where
          below : k < n
          below = omega arith

          go : (x : Bool) → gone (row k) ≡ x → (now k ≡ shape k) × (at k ≡ m + length (stay k)) → (now (suc k) ≡ shape (suc k)) × (at (suc k) ≡ m + length (stay (suc k)))
          go true e h =
              ((goes k below e).0 ∙ ap (λ (zs : List A). set zs (m + k) b) h.0 ∙ shape_gone k (inside k below) e, (goes k below e).1 ∙ h.1 ∙ ap (λ (j : ℕ). m + j) (length_gone k (inside k below) e))
          go false e h = (
            (stays k below e).0 ∙ ap (λ (zs : List A). set (set zs (m + k) b) (at k) (row k)) h.0 ∙ ap (λ (j : ℕ). set (set (shape k) (m + k) b) j (row k)) h.1 ∙ shape_kept k (inside k below) e,
            omega (arith, (stays k below e).1, h.1, length_kept k (inside k below) e),
          )

  -- ---- a whole table

  drop_take : (m n : ℕ) (xs : List A) → drop m (take n xs) ≡ take (n - m) (drop m xs)
  drop_take zero n xs = let p : n ≡ n - 0 = omega arith in ap (λ (j : ℕ). take j xs) p
  drop_take (suc m) zero xs = let p : 0 ≡ 0 - suc m = omega arith in ap (λ (j : ℕ). take j (drop (suc m) xs)) p
  drop_take (suc m) (suc n) [] = sym (take-nil (suc n - suc m))
  drop_take (suc m) (suc n) (x ∷ xs) = let p : n - m ≡ suc n - suc m = omega arith in drop_take m n xs ∙ ap (λ (j : ℕ). take j (drop m xs)) p

  pub close_is : (b : A) (gone : A → Bool) (m : ℕ) (t : Table A) → length t.rows ≡ row_limit
      → close_to gone m b t ≡ record { count = m + length (stay b gone m t.rows (lesser t.count - m)); rows = shape b gone m t.rows (lesser t.count - m) }
  unfolding close_to
  close_is b gone m t z = λ i. record { count = m + length (only (same i)); rows = take m t.rows ++ (only (same i) ++ (replicate (long i - length (only (same i))) b ++ after i)) }
    where
      n : ℕ
      n = lesser t.count - m

      only : List A → List A
      only = only_of (λ r. not (gone r))

      part : List A
      part = take n (drop m t.rows)

      left : length (drop m t.rows) ≡ row_limit - m
      left = length-drop m t.rows ∙ ap (λ (j : ℕ). j - m) z

      same : drop m (used t) ≡ part
      same = drop_take m t.count t.rows ∙ ⊎_elim
          (λ p. ap (λ (j : ℕ). take (j - m) (drop m t.rows)) (sym p.1))
          (λ p. take_all (t.count - m) (drop m t.rows) (omega (arith, left, p.0)) ∙ sym (take_all n (drop m t.rows) (omega (arith, left, p.1)))) (lesser_is t.count)

      long : length (drop m (used t)) ≡ n
      long = ap length same ∙ length-take-le n (drop m t.rows) (omega (arith, left, lesser_within t.count))

      after : drop (max m t.count) t.rows ≡ drop (m + n) t.rows
      after = ⊎_elim
          (λ p. let e : max m t.count ≡ m + n = omega (arith, p.1) in ap (λ (j : ℕ). drop j t.rows) e)
          (λ p. let u : length t.rows ≤ max m t.count = omega (arith, z, p.0) in
          let v : length t.rows ≤ m + n = omega (arith, z, p.1) in
          drop_of_length-le t.rows u ∙ sym (drop_of_length-le t.rows v)) (lesser_is t.count)
