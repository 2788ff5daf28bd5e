-- Two lists whose elements correspond one by one: kept by appending, by leaving out, and by taking any of them in any order. Assumes nothing.
use mathlib.Core.Path.{◌≡◌, refl, ap}
use mathlib.Core.Bool.{Bool, true, false}
use mathlib.Core.List.{List, [], ◌∷◌, ◌++◌, map}
use Prim.Native.Nat.{ℕ, zero, suc, ◌+◌, ◌<◌}
use native.Mathlib.Omega.{arith}
use lib.ListN.{length}
use Rattle.definition.specs.Base.{only_of}
use Rattle.definition.proofs.ReplayLaws.{Take, now, later, Pick, stop, pick}
use Rattle.definition.proofs.PickLaws.{indices}

pub data Along {A B : Type 0} (R : A → B → Type 0) : List A → List B → Type 0 where
  none : Along R [] []
  with : {x : A} {xs : List A} {y : B} {ys : List B} → R x y → Along R xs ys → Along R (x ∷ xs) (y ∷ ys)

module _ {A B : Type 0} (R : A → B → Type 0) where
  pub along_append : {xs xs' : List A} {ys ys' : List B} → Along R xs ys → Along R xs' ys' → Along R (xs ++ xs') (ys ++ ys')
  along_append none b = b
  along_append (with r a) b = with r (along_append a b)

  -- tests that agree
  pub along_only : (p : A → Bool) (q : B → Bool) → ((x : A) (y : B) → R x y → p x ≡ q y) → {xs : List A} {ys : List B} → Along R xs ys → Along R (only_of p xs) (only_of q ys)
  unfolding only_of
  along_only p q same none = none
  along_only p q same (with {x} {xs} {y} {ys} r a) = rw (same x y r, only_of) (go (along_only p q same a) (q y))
    where
      go : Along R (only_of p xs) (only_of q ys) → (b : Bool) → Along R (elim b [ true ↦ x ∷ only_of p xs | false ↦ only_of p xs ]) (elim b [ true ↦ y ∷ only_of q ys | false ↦ only_of q ys ])
      go below true = with r below
      go below false = below

  pub along_length : {xs : List A} {ys : List B} → Along R xs ys → length xs ≡ length ys
  along_length none = refl
  along_length (with r a) = ap suc (along_length a)

  pub along_indices : (f : ℕ → A) (g : ℕ → B) (i k : ℕ) → ((j : ℕ) → j < i + k → R (f j) (g j)) → Along R (map f (indices i k)) (map g (indices i k))
  unfolding indices
  along_indices f g i zero h = none
  along_indices f g i (suc k) h = with (h i (omega arith)) (along_indices f g (suc i) k (λ j l. h j (omega arith)))

  -- one taken out on the left is one taken out on the right
  take_along : {x : A} {xs xs' : List A} {ys : List B} → Take x xs xs' → Along R xs ys → (y : B) × (ys' : List B) × Take y ys ys' × R x y × Along R xs' ys'
  take_along now (with {y = y} {ys = ys} r a) = (y, ys, now, r, a)
  take_along (later t) (with {y = z} {ys = ys} r a) =
      let (y, ys', u, s, b) = take_along t a in
      (y, z ∷ ys', later u, s, with r b)

  pub pick_along : {zs xs : List A} {ys : List B} → Pick zs xs → Along R xs ys → (ws : List B) × Pick ws ys × Along R zs ws
  pick_along stop a = ([], stop, none)
  pick_along (pick t p) a =
      let (y, ys', u, s, b) = take_along t a in
      let (ws, q, c) = pick_along p b in
      (y ∷ ws, pick u q, with s c)
