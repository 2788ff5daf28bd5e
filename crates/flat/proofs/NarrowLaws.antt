-- An accepted request is a good one, and the numbers that an MSI request is granted have 32 bits. Assumes nothing.
use mathlib.Core.Path.{◌≡◌, refl, sym, ◌∙◌}
use mathlib.Core.List.{List, [], ◌∷◌, Memᴰ}
use Prim.Native.Nat.{ℕ, ◌≤◌}
use lib.Dec.{T, leb, leb→le}
use Rattle.definition.proofs.BaseLaws.{and_l, and_r}
use Rattle.definition.specs.Base.{Answer, accepted, refused, bad_input, full, require, ◌then◌}
use Rattle.definition.specs.Tables.{top, dom, Kind, device, event, lpi, nature, Row, fits, good_row}
use Rattle.definition.specs.Pools.{at_kind, Holders, Claim, ◌⊕◌, room}
use Rattle.definition.specs.Request.{Want, mmio_want, pio_want, input_want, host_want, msi_want, Request, good_request, Pools, need, place, claims, resolve}
use Rattle.definition.specs.Plan.{Grant, grant, done, run, base_at}
use Rattle.definition.proofs.RequestLaws.{then_accepted, require_accepted, Bounded}
use Rattle.definition.proofs.ResolveLaws.{Resolved, resolved, rows_kept}
use Rattle.definition.proofs.RunLaws.{run_accepted, run_refused, not_done, after_done, Sounds}

abbrev pub Narrow : Want → List Claim → Type 0
Narrow (mmio_want s a c) cs = Unit {0}
Narrow (pio_want s a c) cs = Unit {0}
Narrow (input_want k t s c) cs = Unit {0}
Narrow (host_want c) cs = Unit {0}
Narrow (msi_want k i n d e l) cs = (base_at 0 cs ≤ top 32) × (base_at 1 cs ≤ top 32) × (base_at 2 cs ≤ top 32)

abbrev pub Good : Grant → Type 0
Good g = T (good_request g.request) × Narrow g.request.want g.rows

abbrev pub AllGood : List Grant → Type 0
AllGood [] = Unit {0}
AllGood (g ∷ gs) = Good g × AllGood gs

-- a good row lies within its kind's width
low : (k : Kind) (r : Row) → T (good_row k r) → r.start ≤ (nature k).top
unfolding good_row fits
low k r t = let h : T (leb r.start (nature k).top) = search (and_l, and_r) depth 8 in leb→le r.start (nature k).top h

narrow : (P : Pools) (S : Holders) (q : ℕ) (w : Want) (cs : List Claim) → claims P S q w ≡ accepted cs → ((c : Claim) → Memᴰ c cs → T (good_row c.kind c.row)) → Narrow w cs
unfolding claims
narrow P S q (mmio_want s a c) cs e goods = tt
narrow P S q (pio_want s a c) cs e goods = tt
narrow P S q (input_want k t s c) cs e goods = tt
narrow P S q (host_want c) cs e goods = tt
narrow P S q (msi_want k i n d e l) cs h goods =
    let (rd, h₁, t₁) = then_accepted (place P S (need device (dom k i 0) 1 1 q) d) _ h in
    let (re, h₂, t₂) = then_accepted (place P S (need event (dom k i rd.start) n 1 q) e) _ t₁ in
    let (rl, h₃, t₃) = then_accepted (place P S (need lpi (dom k 0 0) n 1 q) l) _ t₂ in
    let z : cs ≡ (at_kind device rd ∷ at_kind event re ∷ at_kind lpi rl ∷ []) = cc in
    let g : (c : Claim) → Memᴰ c (at_kind device rd ∷ at_kind event re ∷ at_kind lpi rl ∷ []) → T (good_row c.kind c.row) = rw z at goods in
    rw z (low device rd (g _ (Memᴰ.head refl)), low event re (g _ (Memᴰ.tail (Memᴰ.head refl))), low lpi rl (g _ (Memᴰ.tail (Memᴰ.tail (Memᴰ.head refl)))))

resolve_good : (P : Pools) (S : Holders) (r : Request) (cs : List Claim) → Resolved P S r cs → resolve P S r ≡ accepted cs → Good (grant r cs)
unfolding resolve
resolve_good P S r cs a e =
    let (g, e₁) = require_accepted (good_request r) bad_input (claims P S r.requester r.want then λ ds. require (room S ds) full (accepted ds)) e in
    let (ds, e₂, e₃) = then_accepted (claims P S r.requester r.want) (λ ds. require (room S ds) full (accepted ds)) e₁ in
    let z : ds ≡ cs = cc (require_accepted (room S ds) full (accepted ds) e₃).1 in
    let e₄ : claims P S r.requester r.want ≡ accepted cs = rw z at e₂ in
    (g, narrow P S r.requester r.want cs e₄ a.goods)

pub run_good : (P : Pools) → ((k : Kind) → Bounded P k) → (rs : List Request) (S : Holders) (gs : List Grant) → Sounds S → run P S rs ≡ done gs → AllGood gs
unfolding run
run_good P bounded [] S gs s e = let z : gs ≡ [] = cc in rw z tt
run_good P bounded (r ∷ rs) S gs s e = go (run_good P bounded rs) (resolve P S r) refl
  where
    go : ((X : Holders) (hs : List Grant) → Sounds X → run P X rs ≡ done hs → AllGood hs) → (a : Answer (List Claim)) → resolve P S r ≡ a → AllGood gs
    go below (refused x) q = absurd (not_done (sym (run_refused P S r rs x q) ∙ e))
    go below (accepted cs) q =
        let (hs, e₁, z) = after_done (grant r cs) (run P (S ⊕ cs) rs) gs (sym (run_accepted P S r rs cs q) ∙ e) in
        let a : Resolved P S r cs = resolved P S r cs (λ k m. (bounded k, s k)) q in
        rw z (resolve_good P S r cs a q, below (S ⊕ cs) hs (λ k. rows_kept P S r cs k a (s k)) e₁)
