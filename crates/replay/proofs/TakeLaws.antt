-- Lines taken out of a list, one behind the other, as far as there is room. Assumes nothing.
use Rattle.std.proofs.Common.{◌≡◌, ℕ, zero, suc, ◌+◌, ◌-◌, ◌*◌, ◌<◌, min, List, [], ◌∷◌, ◌++◌, length, get_or, take, drop, sym, ap, ◌∙◌, arith, append_assoc, length-append, length-drop}
use Rattle.std.proofs.lemmas.List.{append-nil, length-take, take_at, drop_at, take_rest, drop_min, drop-drop, take_more}
use borrow.Rule.Slice.PartMut.{put_mid}
use lib.Seq.{take-nil}
use Rattle.definition.specs.Plan.{written}
use Rattle.flat.specs.Flat.{request_size}
use Rattle.replay.specs.Again.{block, blocks, taken}

take_both : (r : ℕ) (a b : List ℕ) → take r (a ++ b) ≡ take r a ++ take (r - length a) b
take_both zero a b = let e : 0 - length a ≡ 0 = omega arith in ap (λ (k : ℕ). take k b) (sym e)
take_both (suc r) [] b = let e : suc r ≡ suc r - 0 = omega arith in ap (λ (k : ℕ). take k b) e
take_both (suc r) (x ∷ a) b = let e : r - length a ≡ suc r - suc (length a) = omega arith in ap {B = List ℕ} (λ v. x ∷ v) (take_both r a b ∙ ap (λ (k : ℕ). take r a ++ take k b) e)

take_min : (m r : ℕ) (xs : List ℕ) → take (min (min m (length xs)) r) xs ≡ take r (take m xs)
take_min m r [] = take-nil (min (min m 0) r) ∙ sym (ap (take r) (take-nil m) ∙ take-nil r)
take_min zero r (x ∷ xs) = let e : min (min 0 (suc (length xs))) r ≡ 0 = omega arith in ap (λ (k : ℕ). take k (x ∷ xs)) e ∙ sym (take-nil r)
take_min (suc m) zero (x ∷ xs) = let e : min (min (suc m) (suc (length xs))) 0 ≡ 0 = omega arith in ap (λ (k : ℕ). take k (x ∷ xs)) e
take_min (suc m) (suc r) (x ∷ xs) =
    let e : min (min (suc m) (suc (length xs))) (suc r) ≡ suc (min (min m (length xs)) r) = omega arith in
    ap (λ (k : ℕ). take k (x ∷ xs)) e ∙ ap {B = List ℕ} (λ v. x ∷ v) (take_min m r xs)

blocks_push : (size : ℕ) (xs is : List ℕ) (i : ℕ) → blocks size xs (is ++ i ∷ []) ≡ blocks size xs is ++ block size xs i
unfolding blocks
blocks_push size xs [] i = append-nil (block size xs i)
blocks_push size xs (j ∷ is) i = ap (λ v. block size xs j ++ v) (blocks_push size xs is i) ∙ sym (append_assoc (block size xs j) (blocks size xs is) (block size xs i))

-- the lines of the first i indices, as far as there is room
abbrev pub so_far : (lines selection : List ℕ) (room i : ℕ) → List ℕ
so_far lines selection room i = taken room lines (take i selection)

pub none_yet : (lines selection : List ℕ) (room : ℕ) → [] ≡ so_far lines selection room 0
unfolding blocks
none_yet lines selection room = sym (take-nil room)

-- .. and of one more
one_more : (lines selection : List ℕ) (room i : ℕ) → i < length selection
    → so_far lines selection room (i + 1) ≡ so_far lines selection room i ++ take (room - length (so_far lines selection room i)) (block request_size lines (get_or selection i 0))
one_more lines selection room i l =
    let b : List ℕ = blocks request_size lines (take i selection) in
    let c : List ℕ = block request_size lines (get_or selection i 0) in
    let e : room - length b ≡ room - length (take room b) = omega (arith, length-take room b) in
    ap (λ v. take room (blocks request_size lines v)) (take_more selection i 0 l) ∙ ap (take room) (blocks_push request_size lines (take i selection) (get_or selection i 0)) ∙ take_both room b c
    ∙ ap (λ (k : ℕ). take room b ++ take k c) e

-- the numbers that are copied of a line, so many as there are and there is room for
abbrev part_of : List ℕ → ℕ → ℕ → List ℕ
part_of xs i n = take n (drop (min (request_size * i) (length xs)) xs)

abbrev part_length : List ℕ → ℕ → ℕ → ℕ
part_length xs i r = min (min request_size (length xs - min (request_size * i) (length xs))) r

part_length_is : (xs : List ℕ) (i r : ℕ) → length (part_of xs i (part_length xs i r)) ≡ part_length xs i r
part_length_is xs i r =
    let f : ℕ = min (request_size * i) (length xs) in
    omega (arith, length-take (part_length xs i r) (drop f xs), length-drop f xs)

-- what is copied of a line that begins here, where there is so much room
copied : (lines : List ℕ) (i r from n : ℕ) → from ≡ min (request_size * i) (length lines) → n ≡ min (min request_size (length (take (length lines - from) (drop from lines)))) r
    → (take n (take (length lines - from) (drop from lines)) ≡ take r (block request_size lines i)) × (length (take r (block request_size lines i)) ≡ n)
copied lines i r from n e f =
    let d : List ℕ = drop (request_size * i) lines in
    let rest : take (length lines - from) (drop from lines) ≡ d = take_rest lines from ∙ ap (λ (k : ℕ). drop k lines) e ∙ drop_min (request_size * i) lines in
    let n_is : n ≡ min (min request_size (length d)) r = f ∙ ap (λ (v : List ℕ). min (min request_size (length v)) r) rest in
    (ap (take n) rest ∙ ap (λ (k : ℕ). take k d) n_is ∙ take_min request_size r d, omega (arith, n_is, length-take r (take request_size d), length-take request_size d))

-- numbers put behind those that stand in front
put : (a p out : List ℕ) (at n : ℕ) → length a ≡ at → length p ≡ n → put_mid at n (written a out) p ≡ written (a ++ p) out
put a p out at n e f =
    let rest : List ℕ = drop (length a) out in
    let g : length a + n ≡ length (a ++ p) = omega (arith, length-append a p) in
    ap (λ v. v ++ (p ++ drop n (drop at (a ++ rest)))) (take_at a rest at e) ∙ ap (λ v. a ++ (p ++ drop n v)) (drop_at a rest at e) ∙ ap (λ v. a ++ (p ++ v)) (drop-drop n (length a) out ∙ ap (λ (k : ℕ). drop k out) g)
    ∙ sym (append_assoc a p (drop (length (a ++ p)) out))

-- one turn of the loop
pub turn : (lines selection out chosen p : List ℕ) (at i from n k : ℕ) → i < length selection → chosen ≡ written (so_far lines selection (length out) i) out → at ≡ length (so_far lines selection (length out) i)
    → from ≡ min (request_size * get_or selection i 0) (length lines) → n ≡ min (min request_size (length (take (length lines - from) (drop from lines)))) (length out - at)
    → k ≡ n → p ≡ take n (take (length lines - from) (drop from lines))
    → (put_mid at k chosen p ≡ written (so_far lines selection (length out) (i + 1)) out) × (at + n ≡ length (so_far lines selection (length out) (i + 1)))
turn lines selection out chosen p at i from n k l w a e f g h =
    let s : List ℕ = so_far lines selection (length out) i in
    let more = one_more lines selection (length out) i l in
    let q = copied lines (get_or selection i 0) (length out - length s) from n e (f ∙ ap (λ (j : ℕ). min (min request_size (length (take (length lines - from) (drop from lines)))) (length out - j)) a) in
    let p_is : p ≡ take (length out - length s) (block request_size lines (get_or selection i 0)) = h ∙ q.0 in
    (ap (λ v. put_mid at k v p) w ∙ put s p out at k (sym a) (ap length p_is ∙ q.1 ∙ sym g) ∙ ap (λ v. written v out) (ap (λ v. s ++ v) p_is ∙ sym more), sym (ap length more ∙ length-append s _ ∙ omega (arith, a, q.1)))
