-- Numbers put into the results list: one run behind another, none, and a part lent and handed back. Assumes nothing.
use mathlib.Core.Path.{◌≡◌, sym, ◌∙◌, ap, ap₂}
use mathlib.Core.List.{List, [], ◌++◌, append_assoc, append-nil}
use Prim.Native.Nat.{ℕ, ◌+◌, ◌-◌, ◌≤◌}
use native.Mathlib.Omega.{arith}
use lib.ListN.{length, take, drop, length-append, length-drop, length-take, drop_of_length-le, take-append-drop}
use lib.Seq.{take_all, drop-drop, take-append_seam, drop-append_seam}
use borrow.Rule.Slice.PartMut.{put_mid}
use Rattle.definition.specs.Plan.{written}
use Rattle.plan.specs.Steps.{put_from}

-- records in two runs, the second behind the first
pub put_append : (out us vs : List ℕ) (a b : ℕ) → b ≡ a + length us → a ≤ length out → put_from a (us ++ vs) out ≡ put_from b vs (put_from a us out)
put_append out us vs a b e l =
    let p : List ℕ = take a out in
    let q : List ℕ = drop (length us) (drop a out) in
    let n : length p ≡ a = length-take a out ∙ omega arith in
    let m : length (p ++ us) ≡ b = length-append p us ∙ omega (arith, n) in
    let flat : put_from a us out ≡ (p ++ us) ++ q = sym (append_assoc p us q) in
    let front : take b (put_from a us out) ≡ p ++ us = ap₂ take (sym m) flat ∙ take-append_seam (p ++ us) q in
    let back : drop b (put_from a us out) ≡ q = ap₂ drop (sym m) flat ∙ drop-append_seam (p ++ us) q in
    let far : drop (length (us ++ vs)) (drop a out) ≡ drop (length vs) q = ap (λ k. drop k (drop a out)) (length-append us vs) ∙ sym (drop-drop (length vs) (length us) (drop a out)) in
    ap (λ z. p ++ ((us ++ vs) ++ z)) far
    ∙ ap (λ z. p ++ z) (append_assoc us vs (drop (length vs) q))
    ∙ sym (append_assoc p us (vs ++ drop (length vs) q))
    ∙ ap₂ (λ x y. x ++ (vs ++ drop (length vs) y)) (sym front) (sym back)

pub put_nil : (out : List ℕ) (a : ℕ) → put_from a [] out ≡ out
put_nil out a = take-append-drop a out

-- the list's part from a on, lent and handed back with these numbers in front
pub put_part : (xs vs : List ℕ) (a : ℕ) → put_mid a (length xs - a) xs (written vs (take (length xs - a) (drop a xs))) ≡ put_from a vs xs
put_part xs vs a =
    let all : take (length xs - a) (drop a xs) ≡ drop a xs = take_all (length xs - a) (drop a xs) (simp length-drop (omega arith)) in
    let none : drop (length xs - a) (drop a xs) ≡ [] = drop_of_length-le (drop a xs) {i = length xs - a} (simp length-drop (omega arith)) in
    ap₂ (λ y z. take a xs ++ (written vs y ++ z)) all none ∙ ap (λ z. take a xs ++ z) (append-nil (written vs (drop a xs)))
