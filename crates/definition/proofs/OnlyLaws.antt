-- Laws of the elements that pass a test, in their order. Assumes nothing.
use Rattle.std.specs.Prelude.{◌≡◌, ◌⊎◌, Bool, not, ◌&&◌, ◌≤◌, ◌<◌}
use Rattle.std.proofs.Math.Path.{refl, ap}
use Rattle.std.proofs.Common.{sym, ◌∙◌, inl, inr}
use mathlib.Core.List.Memᴰ
use mathlib.Core.List.{List, [], ◌∷◌, ◌++◌, Memᴰ}
use native.Mathlib.Omega.{arith}
use Rattle.std.proofs.Math.ListN.{length}
use Rattle.std.proofs.Math.Dec.{T}
use Rattle.definition.specs.Base.{any_of, all_of, pairs_of, only_of}
use Rattle.definition.proofs.BaseLaws.{and_l, and_r, and_i, T_true, T_false, not_T→, →not_T, either, or_cases, all_in, all_from}

module _ {A : Type 0} (p : A → Bool) where
  pub only_in : (x : A) (xs : List A) → T (p x) → only_of p (x ∷ xs) ≡ x ∷ only_of p xs
  unfolding only_of
  only_in x xs t = rw (T_true (p x) t, only_of)

  pub only_out : (x : A) (xs : List A) → (T (p x) → ⊥) → only_of p (x ∷ xs) ≡ only_of p xs
  unfolding only_of
  only_out x xs u = rw (T_false (p x) u, only_of)

  pub only_append : (xs ys : List A) → only_of p (xs ++ ys) ≡ only_of p xs ++ only_of p ys
  unfolding only_of
  only_append [] ys = refl
  only_append (x ∷ xs) ys = go (only_append xs ys) (either (p x))
    where
      go : only_of p (xs ++ ys) ≡ only_of p xs ++ only_of p ys → T (p x) ⊎ (T (p x) → ⊥) → only_of p (x ∷ xs ++ ys) ≡ only_of p (x ∷ xs) ++ only_of p ys
      go below (inl t) = only_in x (xs ++ ys) t ∙ ap {B = List A} (λ rs. x ∷ rs) below ∙ ap (λ rs. rs ++ only_of p ys) (sym (only_in x xs t))
      go below (inr u) = only_out x (xs ++ ys) u ∙ below ∙ ap (λ rs. rs ++ only_of p ys) (sym (only_out x xs u))

  -- an element of them is one of all, and passes
  pub only_mem : (x : A) (xs : List A) → Memᴰ x (only_of p xs) → Memᴰ x xs × T (p x)
  unfolding only_of
  only_mem x [] m = absurd (Memᴰ.not-nil m)
  only_mem x (y ∷ ys) m = go (λ n. only_mem x ys n) (either (p y))
    where
      up : Memᴰ x ys × T (p x) → Memᴰ x (y ∷ ys) × T (p x)
      up (n, t) = (Memᴰ.tail n, t)

      split : (Memᴰ x (only_of p ys) → Memᴰ x ys × T (p x)) → T (p y) → (x ≡ y) ⊎ Memᴰ x (only_of p ys) → Memᴰ x (y ∷ ys) × T (p x)
      split below t (inl e) = (Memᴰ.head e, rw e t)
      split below t (inr n) = up (below n)

      go : (Memᴰ x (only_of p ys) → Memᴰ x ys × T (p x)) → T (p y) ⊎ (T (p y) → ⊥) → Memᴰ x (y ∷ ys) × T (p x)
      go below (inl t) = split below t (Memᴰ.cases_cons (rw (only_in y ys t) at m))
      go below (inr u) = up (below (rw (only_out y ys u) at m))

  -- where all pass, they are all; where none does, there is none
  pub only_all : (xs : List A) → ((x : A) → Memᴰ x xs → T (p x)) → only_of p xs ≡ xs
  unfolding only_of
  only_all [] f = refl
  only_all (x ∷ xs) f = only_in x xs (f x (Memᴰ.head refl)) ∙ ap {B = List A} (λ rs. x ∷ rs) (only_all xs (λ y m. f y (Memᴰ.tail m)))

  pub only_none : (xs : List A) → ((x : A) → Memᴰ x xs → T (p x) → ⊥) → only_of p xs ≡ []
  unfolding only_of
  only_none [] f = refl
  only_none (x ∷ xs) f = only_out x xs (f x (Memᴰ.head refl)) ∙ only_none xs (λ y m. f y (Memᴰ.tail m))

  pub only_few : (xs : List A) → length (only_of p xs) ≤ length xs
  unfolding only_of
  only_few [] = omega arith
  only_few (x ∷ xs) = go (only_few xs) (either (p x))
    where
      go : length (only_of p xs) ≤ length xs → T (p x) ⊎ (T (p x) → ⊥) → length (only_of p (x ∷ xs)) ≤ length (x ∷ xs)
      go below (inl t) = rw (only_in x xs t) (omega arith)
      go below (inr u) = rw (only_out x xs u) (omega arith)

  -- of elements that pass another test, in pairs or alone, these pass it too
  pub only_pairs : (f : A → A → Bool) (xs : List A) → T (pairs_of f xs) → T (pairs_of f (only_of p xs))
  unfolding only_of pairs_of
  only_pairs f [] t = tt
  only_pairs f (x ∷ xs) t =
      go (and_l (all_of (f x) xs) (pairs_of f xs) t) (only_pairs f xs (and_r (all_of (f x) xs) (pairs_of f xs) t)) (either (p x))
    where
      go : T (all_of (f x) xs) → T (pairs_of f (only_of p xs)) → T (p x) ⊎ (T (p x) → ⊥) → T (pairs_of f (only_of p (x ∷ xs)))
      go here below (inl h) = rw (only_in x xs h) (and_i (all_of (f x) (only_of p xs)) (pairs_of f (only_of p xs)) (all_from (f x) (only_of p xs) (λ y m. all_in (f x) (only_mem y xs m).0 here)) below)
      go here below (inr u) = rw (only_out x xs u) below

  -- .. and behind others that stay
  pub only_behind : (x : A) (xs ys : List A) → Memᴰ x (xs ++ only_of p ys) → Memᴰ x (xs ++ ys)
  only_behind x xs ys m = go (Memᴰ.append_cases xs m)
    where
      go : Memᴰ x xs ⊎ Memᴰ x (only_of p ys) → Memᴰ x (xs ++ ys)
      go (inl n) = Memᴰ.append_left ys n
      go (inr n) = Memᴰ.append_right xs (only_mem x ys n).0

  pub only_pairs_behind : (f : A → A → Bool) (xs ys : List A) → T (pairs_of f (xs ++ ys)) → T (pairs_of f (xs ++ only_of p ys))
  unfolding pairs_of
  only_pairs_behind f [] ys t = only_pairs f ys t
  only_pairs_behind f (x ∷ xs) ys t =
      let here : T (all_of (f x) (xs ++ ys)) = and_l (all_of (f x) (xs ++ ys)) (pairs_of f (xs ++ ys)) t in
      and_i (all_of (f x) (xs ++ only_of p ys)) (pairs_of f (xs ++ only_of p ys)) (all_from (f x) (xs ++ only_of p ys) (λ y m. all_in (f x) (only_behind y xs ys m) here))
      (only_pairs_behind f xs ys (and_r (all_of (f x) (xs ++ ys)) (pairs_of f (xs ++ ys)) t))

  pub only_goods_behind : (good : A → Bool) (xs ys : List A) → T (all_of good (xs ++ ys)) → T (all_of good (xs ++ only_of p ys))
  only_goods_behind good xs ys t = all_from good (xs ++ only_of p ys) (λ x m. all_in good (only_behind x xs ys m) t)

-- those that pass a second test among those that pass a first
pub only_only : {A : Type 0} (p q : A → Bool) (xs : List A) → only_of q (only_of p xs) ≡ only_of (λ x. p x && q x) xs
unfolding only_of
only_only p q [] = refl
only_only {A} p q (x ∷ xs) = go (only_only p q xs) (either (p x)) (either (q x))
  where
    go : only_of q (only_of p xs) ≡ only_of (λ x. p x && q x) xs → T (p x) ⊎ (T (p x) → ⊥) → T (q x) ⊎ (T (q x) → ⊥) → only_of q (only_of p (x ∷ xs)) ≡ only_of (λ x. p x && q x) (x ∷ xs)
    go below (inl t) (inl h) =
        ap (only_of q) (only_in p x xs t) ∙ only_in q x (only_of p xs) h ∙ ap {B = List A} (λ rs. x ∷ rs) below ∙ sym (only_in (λ x. p x && q x) x xs (and_i (p x) (q x) t h))
    go below (inl t) (inr v) =
        ap (only_of q) (only_in p x xs t) ∙ only_out q x (only_of p xs) v ∙ below ∙ sym (only_out (λ x. p x && q x) x xs (λ h. v (and_r (p x) (q x) h)))
    go below (inr u) h = ap (only_of q) (only_out p x xs u) ∙ below ∙ sym (only_out (λ x. p x && q x) x xs (λ h. u (and_l (p x) (q x) h)))

-- one that fails: fewer
pub only_fewer : {A : Type 0} (p : A → Bool) (xs : List A) → T (any_of p xs) → length (only_of (λ x. not (p x)) xs) < length xs
unfolding any_of only_of
only_fewer p [] t = absurd t
only_fewer p (x ∷ xs) t = go (only_fewer p xs) (either (p x)) (or_cases (p x) (any_of p xs) t)
  where
    few : length (only_of (λ x. not (p x)) xs) ≤ length xs
    few = only_few (λ x. not (p x)) xs

    go : (T (any_of p xs) → length (only_of (λ x. not (p x)) xs) < length xs) → T (p x) ⊎ (T (p x) → ⊥) → T (p x) ⊎ T (any_of p xs) → length (only_of (λ x. not (p x)) (x ∷ xs)) < length (x ∷ xs)
    go below (inl h) c = rw (only_out (λ x. not (p x)) x xs (λ n. not_T→ (p x) n h)) (omega (arith, few))
    go below (inr u) (inl h) = absurd (u h)
    go below (inr u) (inr h) = rw (only_in (λ x. not (p x)) x xs (→not_T (p x) u)) (omega (arith, below h))
