-- Words of 32 bits: all of them tested, and the first one read. Assumes nothing.
use Rattle.std.proofs.Common.{◌≡◌, ℕ, ◌≤◌, Bool, ◌&&◌, leb, T, List, [], ◌∷◌, get_or, refl, ap, arith, leb→le}
use Rattle.std.specs.List.{list_all}
use Rattle.definition.specs.Base.{all_of}
use Rattle.definition.specs.Tables.{top}
use Rattle.definition.proofs.BaseLaws.{and_l, and_r}

pub all_as : {A : Type 0} (p : A → Bool) (xs : List A) → list_all p xs ≡ all_of p xs
unfolding all_of
all_as p [] = refl
all_as p (x ∷ xs) = ap (λ b. p x && b) (all_as p xs)

abbrev pub fits : ℕ → Bool
fits w = leb w (top 32)

pub first_fits : (ws : List ℕ) → T (all_of fits ws) → get_or ws 0 0 ≤ 4294967295
unfolding all_of
first_fits [] t = omega arith
first_fits (w ∷ ws) t = leb→le w (top 32) (and_l (fits w) (all_of fits ws) t)

pub rest_fits : (w : ℕ) (ws : List ℕ) → T (all_of fits (w ∷ ws)) → T (all_of fits ws)
unfolding all_of
rest_fits w ws t = and_r (fits w) (all_of fits ws) t
