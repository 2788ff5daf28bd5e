-- Lines taken by their indices: any of them, each at most once, in any order. Assumes nothing.
use Rattle.std.specs.Prelude.{◌≡◌, refl, List, [], ◌∷◌, map, ℕ, zero, suc, length, get_or}
use Rattle.std.proofs.Common.{ap, subst, ◌∙◌}
use Rattle.definition.specs.Request.{host_want, auto}
use Rattle.definition.specs.Plan.{Grant, grant}
use Rattle.definition.proofs.ReplayLaws.{Take, now, later, Pick, stop, pick}

-- i, i + 1 .. so many
unfoldable pub indices : ℕ → ℕ → List ℕ
indices i zero = []
indices i (suc k) = i ∷ indices (suc i) k

take_map : {A B : Type 0} (f : A → B) {x : A} {xs ys : List A} → Take x xs ys → Take (f x) (map f xs) (map f ys)
take_map f now = now
take_map f (later t) = later (take_map f t)

pub pick_map : {A B : Type 0} (f : A → B) {zs xs : List A} → Pick zs xs → Pick (map f zs) (map f xs)
pick_map f stop = stop
pick_map f (pick t p) = pick (take_map f t) (pick_map f p)

-- a list is its elements in order
abbrev pub nowhere : Grant
nowhere = grant (record { requester = 0; slot = 0; want = host_want auto }) []

abbrev pub nth : List Grant → ℕ → Grant
nth gs i = get_or gs i nowhere

map_cons : (g : Grant) (gs : List Grant) (i k : ℕ) → map (nth (g ∷ gs)) (indices (suc i) k) ≡ map (nth gs) (indices i k)
unfolding indices
map_cons g gs i zero = refl
map_cons g gs i (suc k) = ap {B = List Grant} (λ xs. nth gs i ∷ xs) (map_cons g gs (suc i) k)

pub nth_all : (gs : List Grant) → map (nth gs) (indices 0 (length gs)) ≡ gs
unfolding indices
nth_all [] = refl
nth_all (g ∷ gs) = ap {B = List Grant} (λ xs. g ∷ xs) (map_cons g gs 0 (length gs) ∙ nth_all gs)

pub pick_nth : (gs : List Grant) {is : List ℕ} → Pick is (indices 0 (length gs)) → Pick (map (nth gs) is) gs
pick_nth gs {is} p = subst (λ (xs : List Grant). Pick (map (nth gs) is) xs) (nth_all gs) (pick_map (nth gs) p)
