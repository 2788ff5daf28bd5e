-- Some of a list's blocks: of requests they are those requests, of results those records; and a record tells its rows. Assumes nothing.
use mathlib.Core.Path.{◌≡◌, refl, sym, subst, ap, ◌∙◌}
use mathlib.Core.List.{List, [], ◌∷◌, ◌++◌, map, append_assoc}
use Prim.Native.Nat.{ℕ, zero, suc, ◌+◌, ◌*◌, ◌≤◌, ◌<◌}
use native.Mathlib.Omega.{arith}
use lib.ListN.{length, get_or, take, drop, length-append, length-take, length-drop, get_or-map}
use lib.Seq.{get_or-take, get_or-drop, take_at, drop-append-add}
use Rattle.definition.specs.Tables.{record_size, mmio, pio, input, host, device, event, lpi, dom, Row}
use Rattle.definition.specs.Base.{Answer, accepted, refused, bad_input, full, require, ◌then◌}
use Rattle.definition.specs.Pools.{Holders, Claim, ◌⊕◌, room, at_kind}
use Rattle.definition.specs.Request.{Choice, Want, mmio_want, pio_want, input_want, host_want, msi_want, Request, good_request, Need, need, input_need, one, row_at, Pools, place, claims, resolve}
use Rattle.definition.specs.Plan.{Grant, grant, done, run, all_rows, record_of, record_of_grant, records}
use Rattle.definition.proofs.RequestLaws.{then_accepted, require_accepted}
use Rattle.definition.proofs.GrantLaws.{place_row}
use Rattle.definition.proofs.RunLaws.{run_accepted, run_refused, not_done, after_done, record_length}
use Rattle.definition.proofs.ReplayLaws.{Take, now, later, Pick, stop, pick}
use Rattle.definition.proofs.PickLaws.{indices, nowhere, nth}
use Rattle.flat.specs.Flat.{request_size, request_at, requests_from, requests_of}
use Rattle.flat.proofs.FlatLaws.{request_reads}
use Rattle.flat.proofs.StoreLaws.{requests_cons, first_number}
use Rattle.replay.specs.Again.{block, blocks, rows_in, rows_told, rows_for}

-- ---- picked indices

-- every one of them is below n
abbrev pub AllBelow : ℕ → List ℕ → Type 0
AllBelow n [] = Unit {0}
AllBelow n (i ∷ is) = (i < n) × AllBelow n is

indices_below : (n i k : ℕ) → i + k ≤ n → AllBelow n (indices i k)
unfolding indices
indices_below n i zero l = tt
indices_below n i (suc k) l = (omega arith, indices_below n (suc i) k (omega arith))

take_below : (n : ℕ) {i : ℕ} {xs ys : List ℕ} → Take i xs ys → AllBelow n xs → (i < n) × AllBelow n ys
take_below n now h = h
take_below n (later t) h = let (a, b) = take_below n t h.1 in (a, (h.0, b))

pick_below : (n : ℕ) {is xs : List ℕ} → Pick is xs → AllBelow n xs → AllBelow n is
pick_below n stop h = tt
pick_below n (pick t p) h = let (a, b) = take_below n t h in (a, pick_below n p b)

pub picked_below : (n : ℕ) {is : List ℕ} → Pick is (indices 0 n) → AllBelow n is
picked_below n p = pick_below n p (indices_below n 0 n (omega arith))

-- ---- blocks

pub block_length : (size : ℕ) (xs : List ℕ) (i : ℕ) → size * i + size ≤ length xs → length (block size xs i) ≡ size
block_length size xs i l = omega (arith, length-take size (drop (size * i) xs), length-drop (size * i) xs)

pub requests_length_blocks : (xs is : List ℕ) (n : ℕ) → request_size * n ≤ length xs → AllBelow n is → length (blocks request_size xs is) ≡ request_size * length is
unfolding blocks
requests_length_blocks xs [] n l b = omega arith
requests_length_blocks xs (i ∷ is) n l b =
    let e : length (block request_size xs i) ≡ request_size = block_length request_size xs i (omega (arith, b.0)) in
    omega (arith, length-append (block request_size xs i) (blocks request_size xs is), requests_length_blocks xs is n l b.1)

-- a block is read as the request that it is
pub block_request : (xs : List ℕ) (i : ℕ) → request_at (block request_size xs i) 0 ≡ request_at xs i
block_request xs i =
    request_reads (block request_size xs i) xs 0 i (λ j s. sym (first_number (block request_size xs i) j) ∙ get_or-take request_size (drop (request_size * i) xs) j 0 s ∙ get_or-drop (request_size * i) xs j 0)

pub requests_blocks : (xs is : List ℕ) (n : ℕ) → request_size * n ≤ length xs → AllBelow n is → requests_of (blocks request_size xs is) ≡ map (request_at xs) is
unfolding blocks requests_of requests_from
requests_blocks xs [] n l b = refl
requests_blocks xs (i ∷ is) n l b =
    let e : length (block request_size xs i) ≡ request_size = block_length request_size xs i (omega (arith, b.0)) in
    requests_cons (block request_size xs i) (blocks request_size xs is) e ∙ (λ t. block_request xs i t ∷ requests_blocks xs is n l b.1 t)

-- the blocks of results are the records
pub block_record : (gs : List Grant) (rest : List ℕ) (i : ℕ) → i < length gs → block record_size (records gs ++ rest) i ≡ record_of_grant (nth gs i)
unfolding records
block_record [] rest i l = absurd (omega arith)
block_record (g ∷ gs) rest zero l = ap (take record_size) (append_assoc (record_of_grant g) (records gs) rest) ∙ take_at (record_of_grant g) (records gs ++ rest) record_size (record_length g)
block_record (g ∷ gs) rest (suc i) l =
    let n : length (record_of_grant g) ≡ record_size = record_length g in
    let e : record_size * suc i ≡ length (record_of_grant g) + record_size * i = omega arith in
    let d : drop (record_size * suc i) (record_of_grant g ++ records gs ++ rest) ≡ drop (record_size * i) (records gs ++ rest) =
    ap (λ (k : ℕ). drop k (record_of_grant g ++ records gs ++ rest)) e ∙ ap (drop (length (record_of_grant g) + record_size * i)) (append_assoc (record_of_grant g) (records gs) rest)
    ∙ drop-append-add (record_of_grant g) (records gs ++ rest) (record_size * i) in
    ap (take record_size) d ∙ block_record gs rest i (omega arith)

pub blocks_records : (gs : List Grant) (rest is : List ℕ) → AllBelow (length gs) is → blocks record_size (records gs ++ rest) is ≡ records (map (nth gs) is)
unfolding blocks records
blocks_records gs rest [] b = refl
blocks_records gs rest (i ∷ is) b = λ t. block_record gs rest i b.0 t ++ blocks_records gs rest is b.1 t

-- ---- a record tells its grant's rows

one_row : (P : Pools) (S : Holders) (n : Need) (c : Choice) (cs : List Claim) → one P S n c ≡ accepted cs → (b : ℕ) × (cs ≡ at_kind n.kind (row_at n b) ∷ [])
one_row P S n c cs e =
    let (r, e₁, e₂) = then_accepted (place P S n c) (λ r. accepted (at_kind n.kind r ∷ [])) e in
    let (b, z) = place_row P S n c r e₁ in
    let w : cs ≡ at_kind n.kind r ∷ [] = cc in
    (b, w ∙ ap (λ (x : Row). at_kind n.kind x ∷ []) z)

msi_told : (q s k i n : ℕ) (d e l : Choice) (rd re rl : Row) (cs : List Claim) → (b : ℕ) × (rd ≡ row_at (need device (dom k i 0) 1 1 q) b)
    → (b : ℕ) × (re ≡ row_at (need event (dom k i rd.start) n 1 q) b) → (b : ℕ) × (rl ≡ row_at (need lpi (dom k 0 0) n 1 q) b)
    → cs ≡ at_kind device rd ∷ at_kind event re ∷ at_kind lpi rl ∷ [] → rows_told (record_of q s (msi_want k i n d e l) cs) ≡ cs
unfolding rows_in row_at
msi_told q s k i n d e l rd re rl cs (x, u) (y, v) (z, w) e₀ =
    let a : at_kind device (row_at (need device (dom k i 0) 1 1 q) rd.start) ≡ at_kind device rd = ap (at_kind device) (own (need device (dom k i 0) 1 1 q) rd x u) in
    let b : at_kind event (row_at (need event (dom k i rd.start) n 1 q) re.start) ≡ at_kind event re = ap (at_kind event) (own (need event (dom k i rd.start) n 1 q) re y v) in
    let c : at_kind lpi (row_at (need lpi (dom k 0 0) n 1 q) rl.start) ≡ at_kind lpi rl = ap (at_kind lpi) (own (need lpi (dom k 0 0) n 1 q) rl z w) in
    subst (λ (xs : List Claim). rows_told (record_of q s (msi_want k i n d e l) xs) ≡ xs) (sym e₀) (λ t. a t ∷ b t ∷ c t ∷ [])
  where
    own : (m : Need) (r : Row) (p : ℕ) → r ≡ row_at m p → row_at m r.start ≡ r
    own m r p h = ap (λ (x : Row). row_at m x.start) h ∙ sym h

claims_told : (P : Pools) (S : Holders) (q s : ℕ) (w : Want) (cs : List Claim) → claims P S q w ≡ accepted cs → rows_told (record_of q s w cs) ≡ cs
unfolding claims rows_in row_at
claims_told P S q s (mmio_want n a c) cs e = let (b, z) = one_row P S (need mmio (dom 0 0 0) n a q) c cs e in subst (λ (v : List Claim). rows_told (record_of q s (mmio_want n a c) v) ≡ v) (sym z) refl
claims_told P S q s (pio_want n a c) cs e = let (b, z) = one_row P S (need pio (dom 0 0 0) n a q) c cs e in subst (λ (v : List Claim). rows_told (record_of q s (pio_want n a c) v) ≡ v) (sym z) refl
claims_told P S q s (input_want k t h c) cs e =
    let (b, z) = one_row P S (input_need k t h q) c cs e in
    let u : suc b ≡ b + 1 = omega arith in
    subst (λ (v : List Claim). rows_told (record_of q s (input_want k t h c) v) ≡ v) (sym z) (ap (λ (x : ℕ). at_kind input (record { dom = dom k 0 0; start = b; end = x; trigger = t; sharing = h; owner = q }) ∷ []) u)
claims_told P S q s (host_want c) cs e = let (b, z) = one_row P S (need host (dom 0 0 0) 1 1 q) c cs e in subst (λ (v : List Claim). rows_told (record_of q s (host_want c) v) ≡ v) (sym z) refl
claims_told P S q s (msi_want k i n d e' l) cs e =
    let nd : Need = need device (dom k i 0) 1 1 q in
    let nl : Need = need lpi (dom k 0 0) n 1 q in
    let (rd, e₁, f₁) = then_accepted (place P S nd d) _ e in
    let ne : Need = need event (dom k i rd.start) n 1 q in
    let (re, e₂, f₂) = then_accepted (place P S ne e') _ f₁ in
    let (rl, e₃, f₃) = then_accepted (place P S nl l) _ f₂ in
    msi_told q s k i n d e' l rd re rl cs (place_row P S nd d rd e₁) (place_row P S ne e' re e₂) (place_row P S nl l rl e₃) cc

resolve_told : (P : Pools) (S : Holders) (r : Request) (cs : List Claim) → resolve P S r ≡ accepted cs → rows_told (record_of_grant (grant r cs)) ≡ cs
unfolding resolve record_of_grant
resolve_told P S r cs e =
    let e₁ = (require_accepted (good_request r) bad_input (claims P S r.requester r.want then λ ds. require (room S ds) full (accepted ds)) e).1 in
    let (ds, e₂, e₃) = then_accepted (claims P S r.requester r.want) (λ ds. require (room S ds) full (accepted ds)) e₁ in
    let e₄ : accepted ds ≡ accepted cs = (require_accepted (room S ds) full (accepted ds) e₃).1 in
    let z : ds ≡ cs = cc in
    claims_told P S r.requester r.slot r.want cs (e₂ ∙ ap accepted z)

abbrev pub AllTold : List Grant → Type 0
AllTold [] = Unit {0}
AllTold (g ∷ gs) = (rows_told (record_of_grant g) ≡ g.rows) × AllTold gs

pub run_told : (P : Pools) (rs : List Request) (S : Holders) (gs : List Grant) → run P S rs ≡ done gs → AllTold gs
unfolding run
run_told P [] S gs e = let z : gs ≡ [] = cc in rw z tt
run_told P (r ∷ rs) S gs e = go (run_told P rs) (resolve P S r) refl
  where
    go : ((X : Holders) (hs : List Grant) → run P X rs ≡ done hs → AllTold hs) → (a : Answer (List Claim)) → resolve P S r ≡ a → AllTold gs
    go below (refused x) q = absurd (not_done (sym (run_refused P S r rs x q) ∙ e))
    go below (accepted cs) q =
        let (hs, e₁, z) = after_done (grant r cs) (run P (S ⊕ cs) rs) gs (sym (run_accepted P S r rs cs q) ∙ e) in
        rw z (resolve_told P S r cs q, below (S ⊕ cs) hs e₁)

pub told_nth : (gs : List Grant) (i : ℕ) → i < length gs → AllTold gs → rows_told (record_of_grant (nth gs i)) ≡ (nth gs i).rows
told_nth [] i l a = absurd (omega arith)
told_nth (g ∷ gs) zero l a = a.0
told_nth (g ∷ gs) (suc i) l a = told_nth gs i (omega arith) a.1

pub rows_for_is : (gs : List Grant) (rest is : List ℕ) → AllTold gs → AllBelow (length gs) is → rows_for (records gs ++ rest) is ≡ all_rows (map (nth gs) is)
unfolding rows_for
rows_for_is gs rest [] a b = refl
rows_for_is gs rest (i ∷ is) a b =
    let here : rows_told (block record_size (records gs ++ rest) i) ≡ (nth gs i).rows = ap rows_told (block_record gs rest i b.0) ∙ told_nth gs i b.0 a in
    λ t. here t ++ rows_for_is gs rest is a b.1 t

-- ---- the i-th of a list's requests

from_nth : (xs : List ℕ) (i k j : ℕ) (d : Request) → j < k → get_or (requests_from xs i k) j d ≡ request_at xs (i + j)
unfolding requests_from
from_nth xs i zero j d l = absurd (omega arith)
from_nth xs i (suc k) zero d l = let e : i ≡ i + 0 = omega arith in ap (request_at xs) e
from_nth xs i (suc k) (suc j) d l = let e : suc i + j ≡ i + suc j = omega arith in from_nth xs (suc i) k j d (omega arith) ∙ ap (request_at xs) e

-- where a list's requests are made of grants, its i-th one is made of the i-th grant
pub request_nth : (xs : List ℕ) (f : Grant → Request) (gs : List Grant) (n i : ℕ) → requests_from xs 0 n ≡ map f gs → length gs ≡ n → i < n → request_at xs i ≡ f (nth gs i)
request_nth xs f gs n i e m l =
    let z : 0 + i ≡ i = omega arith in
    sym (ap (request_at xs) z) ∙ sym (from_nth xs 0 n i (f nowhere) l) ∙ ap (λ (rs : List Request). get_or rs i (f nowhere)) e ∙ get_or-map f gs i nowhere

pub requests_nth : (xs : List ℕ) (f : Grant → Request) (gs : List Grant) (n : ℕ) (is : List ℕ) → requests_from xs 0 n ≡ map f gs → length gs ≡ n → AllBelow n is
    → map (request_at xs) is ≡ map f (map (nth gs) is)
requests_nth xs f gs n [] e m b = refl
requests_nth xs f gs n (i ∷ is) e m b = λ t. request_nth xs f gs n i e m b.0 t ∷ requests_nth xs f gs n is e m b.1 t
