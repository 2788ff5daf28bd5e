-- Laws of the tests over lists: what a passed test says. Assumes nothing.
use Rattle.std.proofs.Math.Path.{◌≡◌, refl, subst}
use Rattle.std.proofs.Common.{sym, ap, ◌∙◌, inl, inr, arith, leb→le, eqb→eq}
use Rattle.std.specs.Prelude.{◌⊎◌, Bool, true, false, not, ◌&&◌, ◌||◌, ℕ, zero, suc, ◌≤◌, ◌<◌, min, leb, eqb}
use mathlib.Core.List.Memᴰ
use mathlib.Core.List.{List, [], ◌∷◌, Memᴰ}
use Rattle.std.proofs.Math.Option.{Option, none, some}
use Rattle.std.proofs.Math.Dec.{T, nleb→lt, eqb_refl}
use Rattle.definition.specs.Base.{any_of, all_of, first_of, lower, least_of}

pub and_l : (a b : Bool) → T (a && b) → T a
and_l true b t = tt
and_l false b t = absurd t

pub and_r : (a b : Bool) → T (a && b) → T b
and_r true b t = t
and_r false b t = absurd t

pub and_i : (a b : Bool) → T a → T b → T (a && b)
and_i true b s t = t
and_i false b s t = absurd s

pub and_true : (a : Bool) → a && true ≡ a
and_true true = refl
and_true false = refl

pub and_false : (a : Bool) → a && false ≡ false
and_false true = refl
and_false false = refl

pub T_true : (a : Bool) → T a → a ≡ true
T_true true t = refl
T_true false t = absurd t

pub T_false : (a : Bool) → (T a → ⊥) → a ≡ false
T_false true f = absurd (f tt)
T_false false f = refl

pub true_T : (a : Bool) → a ≡ true → T a
true_T a e = subst T (sym e) tt

pub false_T : (a : Bool) → a ≡ false → T a → ⊥
false_T a e t = subst T e t

-- two tests that pass together are one
pub t_ext : (a b : Bool) → (T a → T b) → (T b → T a) → a ≡ b
t_ext true true f g = refl
t_ext true false f g = absurd (f tt)
t_ext false true f g = absurd (g tt)
t_ext false false f g = refl

pub not_T→ : (a : Bool) → T (not a) → T a → ⊥
not_T→ true s t = s
not_T→ false s t = t

pub →not_T : (a : Bool) → (T a → ⊥) → T (not a)
→not_T true f = f tt
→not_T false f = tt

pub eq→eqb : (m n : ℕ) → m ≡ n → T (eqb m n)
eq→eqb m n e = subst (λ k. T (eqb m k)) e (eqb_refl m)

pub eqb_sym : (m n : ℕ) → T (eqb m n) → T (eqb n m)
eqb_sym m n t = eq→eqb n m (sym (eqb→eq m n t))

pub eqb_trans : (m n k : ℕ) → T (eqb m n) → T (eqb n k) → T (eqb m k)
eqb_trans m n k s t = eq→eqb m k (eqb→eq m n s ∙ eqb→eq n k t)

-- a test passes or fails
pub either : (a : Bool) → T a ⊎ (T a → ⊥)
either true = inl tt
either false = inr (λ t. t)

pub or_cases : (a b : Bool) → T (a || b) → T a ⊎ T b
or_cases true b t = inl tt
or_cases false b t = inr t

pub or_l : (a b : Bool) → T a → T (a || b)
or_l true b t = tt
or_l false b t = absurd t

pub or_r : (a b : Bool) → T b → T (a || b)
or_r true b t = tt
or_r false b t = t

module _ {ℓ} {A : Type ℓ} (p : A → Bool) where
  pub any_in : (xs : List A) → T (any_of p xs) → (x : A) × Memᴰ x xs × T (p x)
  unfolding any_of
  any_in [] t = absurd t
  any_in (x ∷ xs) t = step (any_in xs) (or_cases (p x) (any_of p xs) t)
    where
      step : (T (any_of p xs) → (y : A) × Memᴰ y xs × T (p y)) → T (p x) ⊎ T (any_of p xs) → (y : A) × Memᴰ y (x ∷ xs) × T (p y)
      step below (inl h) = (x, Memᴰ.head refl, h)
      step below (inr h) = let (y, m, q) = below h in (y, Memᴰ.tail m, q)

  pub in_any : {x : A} {xs : List A} → Memᴰ x xs → T (p x) → T (any_of p xs)
  unfolding any_of
  in_any {x} (Memᴰ.head {x = y} {xs = ys} e) h = or_l (p y) (any_of p ys) (subst (λ z. T (p z)) e h)
  in_any {x} (Memᴰ.tail {x = y} {xs = ys} m) h = or_r (p y) (any_of p ys) (in_any m h)

  pub all_in : {x : A} {xs : List A} → Memᴰ x xs → T (all_of p xs) → T (p x)
  unfolding all_of
  all_in {x} (Memᴰ.head {x = y} {xs = ys} e) h = subst (λ z. T (p z)) (sym e) (and_l (p y) (all_of p ys) h)
  all_in {x} (Memᴰ.tail {x = y} {xs = ys} m) h = all_in m (and_r (p y) (all_of p ys) h)

  pub all_from : (xs : List A) → ((x : A) → Memᴰ x xs → T (p x)) → T (all_of p xs)
  unfolding all_of
  all_from [] f = tt
  all_from (x ∷ xs) f = and_i (p x) (all_of p xs) (f x (Memᴰ.head refl)) (all_from xs (λ y m. f y (Memᴰ.tail m)))

  -- nothing passes: none is first
  pub first_none : (xs : List A) → ((x : A) → Memᴰ x xs → T (p x) → ⊥) → first_of p xs ≡ none
  unfolding first_of
  first_none [] f = refl
  first_none (x ∷ xs) f = rw (T_false (p x) (f x (Memᴰ.head refl)), first_of) (first_none xs (λ y m. f y (Memᴰ.tail m)))

  pub first_at : (x : A) (xs : List A) → T (p x) → first_of p (x ∷ xs) ≡ some x
  unfolding first_of
  first_at x xs t = rw (T_true (p x) t, first_of)

  pub first_past : (x : A) (xs : List A) → (T (p x) → ⊥) → first_of p (x ∷ xs) ≡ first_of p xs
  unfolding first_of
  first_past x xs f = rw (T_false (p x) f, first_of)

  first_none_cons : (x : A) (xs : List A) → first_of p (x ∷ xs) ≡ none → (T (p x) → ⊥) × (first_of p xs ≡ none)
  first_none_cons x xs e = go (either (p x))
    where
      go : T (p x) ⊎ (T (p x) → ⊥) → (T (p x) → ⊥) × (first_of p xs ≡ none)
      go (inl t) = let z : ◌≡◌ {A = ℕ} 0 1 = cc (first_at x xs t) in absurd (omega arith)
      go (inr f) = (f, cc (first_past x xs f))

  pub none_first : {x : A} {xs : List A} → first_of p xs ≡ none → Memᴰ x xs → T (p x) → ⊥
  none_first e (Memᴰ.head {x = y} {xs = ys} q) t = (first_none_cons y ys e).0 (subst (λ z. T (p z)) q t)
  none_first e (Memᴰ.tail {x = y} {xs = ys} m) t = none_first (first_none_cons y ys e).1 m t

  pub first_some : (xs : List A) (x : A) → first_of p xs ≡ some x → Memᴰ x xs × T (p x)
  unfolding first_of
  first_some [] x e = let z : ◌≡◌ {A = ℕ} 0 1 = cc in absurd (omega arith)
  first_some (y ∷ ys) x e = go (first_some ys x) (either (p y))
    where
      go : (first_of p ys ≡ some x → Memᴰ x ys × T (p x)) → T (p y) ⊎ (T (p y) → ⊥) → Memᴰ x (y ∷ ys) × T (p x)
      go below (inl t) = let q : x ≡ y = cc (first_at y ys t) in (Memᴰ.head q, rw q t)
      go below (inr f) = let (m, t) = below (cc (first_past y ys f)) in (Memᴰ.tail m, t)

-- ---- the least element that passes

pub lower_le : (x : ℕ) (o : Option ℕ) → lower x o ≤ x
unfolding lower
lower_le x none = omega arith
lower_le x (some y) = omega arith

module _ (p : ℕ → Bool) where
  least_at : (x : ℕ) (xs : List ℕ) → T (p x) → least_of p (x ∷ xs) ≡ some (lower x (least_of p xs))
  unfolding least_of
  least_at x xs t = rw (T_true (p x) t, least_of)

  least_past : (x : ℕ) (xs : List ℕ) → (T (p x) → ⊥) → least_of p (x ∷ xs) ≡ least_of p xs
  unfolding least_of
  least_past x xs f = rw (T_false (p x) f, least_of)

  -- the least passes, and none that passes is below it
  pub record IsLeast (xs : List ℕ) (b : ℕ) : Type 0 where
    pub passes : T (p b)
    pub below : (c : ℕ) → Memᴰ c xs → T (p c) → b ≤ c

  pub data LeastSays (xs : List ℕ) : Option ℕ → Type 0 where
    nothing : ((c : ℕ) → Memᴰ c xs → T (p c) → ⊥) → LeastSays xs none
    least : (b : ℕ) → IsLeast xs b → LeastSays xs (some b)

  lower_passes : (x y : ℕ) → T (p x) → T (p y) → T (p (min x y))
  lower_passes x y s t = go (either (leb x y))
    where
      go : T (leb x y) ⊎ (T (leb x y) → ⊥) → T (p (min x y))
      go (inl h) = let e : min x y ≡ x = omega (arith, leb→le x y h) in rw e s
      go (inr h) = let e : min x y ≡ y = omega (arith, nleb→lt x y (→not_T (leb x y) h)) in rw e t

  cons_below : (b x : ℕ) (xs : List ℕ) → b ≤ x → ((c : ℕ) → Memᴰ c xs → T (p c) → b ≤ c) → (c : ℕ) → Memᴰ c (x ∷ xs) → T (p c) → b ≤ c
  cons_below b x xs h f c m t = go (Memᴰ.cases_cons m)
    where
      go : (c ≡ x) ⊎ Memᴰ c xs → b ≤ c
      go (inl e) = omega arith
      go (inr m') = f c m' t

  step_in : (x : ℕ) {xs : List ℕ} {o : Option ℕ} → T (p x) → LeastSays xs o → LeastSays (x ∷ xs) (some (lower x o))
  unfolding lower
  step_in x {xs} t (nothing f) = least x record { passes = t; below = cons_below x x xs (omega arith) (λ c m q. absurd (f c m q)) }
  step_in x {xs} t (least y h) =
      least (min x y) record {
        passes = lower_passes x y t h.passes;
        below = cons_below (min x y) x xs (omega arith) (λ c m q. let k : y ≤ c = h.below c m q in omega arith);
      }

  step_out : (x : ℕ) {xs : List ℕ} {o : Option ℕ} → (T (p x) → ⊥) → LeastSays xs o → LeastSays (x ∷ xs) o
  step_out x {xs} n (nothing f) = nothing (λ c m q. go c q (Memᴰ.cases_cons m))
    where
      go : (c : ℕ) → T (p c) → (c ≡ x) ⊎ Memᴰ c xs → ⊥
      go c q (inl e) = n (subst (λ z. T (p z)) e q)
      go c q (inr m') = f c m' q
  step_out x {xs} n (least y h) = least y record { passes = h.passes; below = λ c m q. go c q (Memᴰ.cases_cons m) }
    where
      go : (c : ℕ) → T (p c) → (c ≡ x) ⊎ Memᴰ c xs → y ≤ c
      go c q (inl e) = absurd (n (subst (λ z. T (p z)) e q))
      go c q (inr m') = h.below c m' q

  pub least_says : (xs : List ℕ) → LeastSays xs (least_of p xs)
  unfolding least_of
  least_says [] = nothing (λ c m t. Memᴰ.not-nil m)
  least_says (x ∷ xs) = go (least_says xs) (either (p x))
    where
      go : LeastSays xs (least_of p xs) → T (p x) ⊎ (T (p x) → ⊥) → LeastSays (x ∷ xs) (least_of p (x ∷ xs))
      go h (inl t) = rw (least_at x xs t) (step_in x t h)
      go h (inr f) = rw (least_past x xs f) (step_out x f h)

-- ---- the least number of ALL that pass, found among candidates

pub data LeastAll (p : ℕ → Bool) : Option ℕ → Type 0 where
  none_at_all : ((b : ℕ) → T (p b) → ⊥) → LeastAll p none
  least_of_all : (b : ℕ) → T (p b) → ((c : ℕ) → T (p c) → b ≤ c) → LeastAll p (some b)

-- every number that passes is a candidate, or one below it passes: then the least candidate that passes is the least number that passes
module _ (p : ℕ → Bool) (cs : List ℕ) (down : (b : ℕ) → T (p b) → Memᴰ b cs ⊎ ((c : ℕ) × (c < b) × T (p c))) where
  descend : (k b : ℕ) → b ≤ k → T (p b) → (c : ℕ) × Memᴰ c cs × (c ≤ b) × T (p c)
  descend zero b h t = go (down b t)
    where
      go : Memᴰ b cs ⊎ ((c : ℕ) × (c < b) × T (p c)) → (c : ℕ) × Memᴰ c cs × (c ≤ b) × T (p c)
      go (inl m) = (b, m, omega arith, t)
      go (inr (c, l, s)) = absurd (omega arith)
  descend (suc k) b h t = go (λ c l s. descend k c l s) (down b t)
    where
      go : ((c : ℕ) → c ≤ k → T (p c) → (d : ℕ) × Memᴰ d cs × (d ≤ c) × T (p d)) → Memᴰ b cs ⊎ ((c : ℕ) × (c < b) × T (p c)) → (c : ℕ) × Memᴰ c cs × (c ≤ b) × T (p c)
      go below (inl m) = (b, m, omega arith, t)
      go below (inr (c, l, s)) = let (d, m, u, v) = below c (omega arith) s in (d, m, omega arith, v)

  pub least_all : LeastAll p (least_of p cs)
  least_all = go (least_says p cs)
    where
      go : {o : Option ℕ} → LeastSays p cs o → LeastAll p o
      go (nothing u) = none_at_all λ b t. let (c, m, h, s) = descend b b (omega arith) t in u c m s
      go (least b l) = least_of_all b l.passes λ c t.
          let (d, m, h, s) = descend c c (omega arith) t in
          let k : b ≤ d = l.below d m s in
          omega arith

pub all_some : {p : ℕ → Bool} {o : Option ℕ} (b : ℕ) → LeastAll p o → T (p b) → ((c : ℕ) → T (p c) → b ≤ c) → o ≡ some b
all_some b (none_at_all u) t low = absurd (u b t)
all_some b (least_of_all c s low') t low = let q : c ≡ b = omega (arith, low c s, low' b t) in ap some q

pub all_none : {p : ℕ → Bool} {o : Option ℕ} → LeastAll p o → ((b : ℕ) → T (p b) → ⊥) → o ≡ none
all_none (none_at_all u) f = refl
all_none (least_of_all c s low) f = absurd (f c s)

-- two tests that pass at the same numbers have one least
pub all_alike : {p p' : ℕ → Bool} {o o' : Option ℕ} → ((b : ℕ) → T (p b) → T (p' b)) → ((b : ℕ) → T (p' b) → T (p b)) → LeastAll p o → LeastAll p' o' → o ≡ o'
all_alike to from (none_at_all u) l = sym (all_none l (λ b t. u b (from b t)))
all_alike to from (least_of_all b t low) l = sym (all_some b l (to b t) (λ c s. low c (from c s)))

-- so there is one such answer
pub least_unique : {p : ℕ → Bool} {o o' : Option ℕ} → LeastAll p o → LeastAll p o' → o ≡ o'
least_unique l l' = all_alike (λ b t. t) (λ b t. t) l l'
