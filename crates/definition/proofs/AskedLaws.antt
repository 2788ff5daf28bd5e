-- Registers taken one at a time, as a loop takes them: what is asked from a word on is what that register asks, also what is asked behind it. Assumes nothing.
use Rattle.std.specs.Prelude.{◌≡◌, refl, Bool, true, false, List, [], ◌∷◌, ℕ, suc, ◌<◌, ltb, length, get_or, drop}
use Rattle.std.proofs.Common.{sym, ap, ◌∙◌, append-nil, append_assoc, arith, ltb→lt, nltb→le, drop_of_length-le, drop-cons}
use Rattle.std.proofs.Math.Option.{Option, none, some}
use Rattle.definition.specs.Base.{Answer, accepted, refused}
use Rattle.definition.proofs.BaseLaws.{true_T, false_T, →not_T}
use Rattle.definition.specs.Registers.{register_of, ◌also◌, asked_at, takes_next, asked_from}

-- nothing asked behind changes nothing
pub also_nil : {A : Type 0} (a : Answer (List A)) → a also accepted [] ≡ a
also_nil (accepted xs) = ap accepted (append-nil xs)
also_nil (refused x) = refl

-- so answers may be gathered from the front
pub also_assoc : {A : Type 0} (a b c : Answer (List A)) → (a also b) also c ≡ a also (b also c)
also_assoc (refused x) b c = refl
also_assoc (accepted xs) (refused y) c = refl
also_assoc (accepted xs) (accepted ys) (refused z) = refl
also_assoc (accepted xs) (accepted ys) (accepted zs) = ap accepted (append_assoc xs ys zs)

-- the word behind the i-th, where there is one
abbrev pub behind : List ℕ → ℕ → Option ℕ
behind ws i = elim (ltb (suc i) (length ws)) [ true ↦ some (get_or ws (suc i) 0) | false ↦ none ]

-- where the register behind the one at i begins
abbrev pub past : List ℕ → ℕ → ℕ
past ws i = elim (takes_next (register_of (get_or ws i 0))) [ true ↦ suc (suc i) | false ↦ suc i ]

asked_next : (q i w next : ℕ) (ws : List ℕ) (b : Bool) → takes_next (register_of w) ≡ b
    → asked_from q i (w ∷ next ∷ ws) ≡ asked_at q i w (some next) also elim b [ true ↦ asked_from q (suc (suc i)) ws | false ↦ asked_from q (suc i) (next ∷ ws) ]
unfolding asked_from
asked_next q i w next ws b e = ap (λ x. asked_at q i w (some next) also elim x [ true ↦ asked_from q (suc (suc i)) ws | false ↦ asked_from q (suc i) (next ∷ ws) ]) e

-- THE STEP of a loop over the words
pub asked_step : (q i : ℕ) (ws : List ℕ) → i < length ws
    → asked_from q i (drop i ws) ≡ asked_at q i (get_or ws i 0) (behind ws i) also asked_from q (past ws i) (drop (past ws i) ws)
unfolding asked_from
asked_step q i ws h = ap (asked_from q i) (drop-cons ws i 0 h) ∙ go (ltb (suc i) (length ws)) (takes_next (register_of w)) refl refl
  where
    w : ℕ
    w = get_or ws i 0

    next : ℕ
    next = get_or ws (suc i) 0

    none_behind : ltb (suc i) (length ws) ≡ false → (k : ℕ) → i < k → drop k ws ≡ []
    none_behind e k l = drop_of_length-le ws {i = k} (omega (arith, nltb→le (suc i) (length ws) (→not_T (ltb (suc i) (length ws)) (false_T (ltb (suc i) (length ws)) e))))

    more : ltb (suc i) (length ws) ≡ true → drop (suc i) ws ≡ next ∷ drop (suc (suc i)) ws
    more e = drop-cons ws (suc i) 0 (ltb→lt (suc i) (length ws) (true_T (ltb (suc i) (length ws)) e))

    go : (b c : Bool) → ltb (suc i) (length ws) ≡ b → takes_next (register_of w) ≡ c
        → asked_from q i (w ∷ drop (suc i) ws) ≡ asked_at q i w (elim b [ true ↦ some next | false ↦ none ])
        also asked_from q (elim c [ true ↦ suc (suc i) | false ↦ suc i ]) (drop (elim c [ true ↦ suc (suc i) | false ↦ suc i ]) ws)
    go true true e f = rw (more e) (asked_next q i w next (drop (suc (suc i)) ws) true f)
    go true false e f = rw (more e) (asked_next q i w next (drop (suc (suc i)) ws) false f)
    go false true e f = rw (none_behind e (suc i) (omega arith), none_behind e (suc (suc i)) (omega arith)) (sym (also_nil (asked_at q i w none)))
    go false false e f = rw (none_behind e (suc i) (omega arith)) (sym (also_nil (asked_at q i w none)))
