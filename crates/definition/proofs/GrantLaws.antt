-- Laws of what is granted: each row is of a kind that the request needs and bears its requester as owner. Assumes nothing.
use Rattle.std.specs.Prelude.{◌≡◌, refl, ◌⊎◌, ℕ, suc, length, T}
use Rattle.std.proofs.Common.{sym, ap, ◌∙◌, inl, inr, arith, length-append}
use mathlib.Core.List.Memᴰ
use mathlib.Core.List.{List, [], ◌∷◌, Memᴰ}
use Rattle.std.proofs.Math.Option.{Option, none, some}
use Rattle.definition.specs.Base.{bad_input, full, Answer, accepted, refused}
use Rattle.definition.proofs.BaseLaws.{T_true, T_false, either}
use Rattle.definition.specs.Tables.{dom, Kind, mmio, pio, host, device, event, lpi, same_kind, Row}
use Rattle.definition.specs.Pools.{at_kind, Holders, Claim, rows_of, ◌⊕◌, room}
use Rattle.definition.specs.Request.{Choice, auto, at, Want, mmio_want, pio_want, input_want, host_want, msi_want, Request, good_request, Need, row_at, lowest, allowed, obstacle, found, unopposed, automatic, fixed, Pools, place, need, input_need, kinds_of, one, claims, resolve}
use Rattle.definition.specs.Plan.{Grant, grant, done, run, all_rows}
use Rattle.definition.specs.History.{among, asked_of}
use Rattle.definition.proofs.ClaimLaws.{rows_same, rows_other, rows_append}
use Rattle.definition.proofs.RequestLaws.{not_accepted, then_accepted, require_accepted}
use Rattle.definition.proofs.RunLaws.{run_accepted, run_refused, not_done, after_done}

-- ---- one row

found_row : (n : Need) (o : Option ℕ) (r : Row) → found n o ≡ accepted r → (b : ℕ) × (r ≡ row_at n b)
unfolding found
found_row n none r e = absurd (not_accepted e)
found_row n (some b) r e = (b, cc)

unopposed_row : (n : Need) (w : Row) (o : Option Row) (r : Row) → unopposed n w o ≡ accepted r → r ≡ w
unfolding unopposed
unopposed_row n w none r e = cc
unopposed_row n w (some x) r e = absurd (not_accepted e)

-- what is placed is the need's row at some base
pub place_row : (P : Pools) (S : Holders) (n : Need) (c : Choice) (r : Row) → place P S n c ≡ accepted r → (b : ℕ) × (r ≡ row_at n b)
unfolding place
place_row P S n auto r e = found_row n (lowest (P automatic n.kind) (S n.kind) n) r e
place_row P S n (at b) r e =
    let u = (require_accepted (allowed (P fixed n.kind) n b) _ (unopposed n (row_at n b) (obstacle (row_at n b) (S n.kind))) e).1 in
    (b, unopposed_row n (row_at n b) (obstacle (row_at n b) (S n.kind)) r u)

place_owner : (P : Pools) (S : Holders) (n : Need) (c : Choice) (r : Row) → place P S n c ≡ accepted r → r.owner ≡ n.requester
unfolding row_at
place_owner P S n c r e = let (b, z) = place_row P S n c r e in ap (λ (x : Row). x.owner) z

-- ---- the rows of one request

-- a claim of this kind, and this owner
pub record Bears (k : Kind) (q : ℕ) (c : Claim) : Type 0 where
  pub kind : c.kind ≡ k
  pub owner : c.row.owner ≡ q

pub data AllBear (q : ℕ) : List Kind → List Claim → Type 0 where
  no_more : AllBear q [] []
  and_then : {k : Kind} {ks : List Kind} {c : Claim} {cs : List Claim} → Bears k q c → AllBear q ks cs → AllBear q (k ∷ ks) (c ∷ cs)

bears : (P : Pools) (S : Holders) (n : Need) (c : Choice) (r : Row) → place P S n c ≡ accepted r → Bears n.kind n.requester (at_kind n.kind r)
bears P S n c r e = record { kind = refl; owner = place_owner P S n c r e }

one_bears : (P : Pools) (S : Holders) (n : Need) (c : Choice) (cs : List Claim) → one P S n c ≡ accepted cs → AllBear n.requester (n.kind ∷ []) cs
one_bears P S n c cs e =
    let (x, e₁, e₂) = then_accepted (place P S n c) (λ x. accepted (at_kind n.kind x ∷ [])) e in
    let z : (at_kind n.kind x ∷ []) ≡ cs = cc in
    rw (← z) (and_then (bears P S n c x e₁) no_more)

claims_bear : (P : Pools) (S : Holders) (q : ℕ) (w : Want) (cs : List Claim) → claims P S q w ≡ accepted cs → AllBear q (kinds_of w) cs
unfolding claims
claims_bear P S q (mmio_want s a c) cs e = one_bears P S (need mmio (dom 0 0 0) s a q) c cs e
claims_bear P S q (pio_want s a c) cs e = one_bears P S (need pio (dom 0 0 0) s a q) c cs e
claims_bear P S q (input_want k t s c) cs e = one_bears P S (input_need k t s q) c cs e
claims_bear P S q (host_want c) cs e = one_bears P S (need host (dom 0 0 0) 1 1 q) c cs e
claims_bear P S q (msi_want k i n d e l) cs h =
    let (rd, h₁, t₁) = then_accepted (place P S (need device (dom k i 0) 1 1 q) d) _ h in
    let (re, h₂, t₂) = then_accepted (place P S (need event (dom k i rd.start) n 1 q) e) _ t₁ in
    let (rl, h₃, t₃) = then_accepted (place P S (need lpi (dom k 0 0) n 1 q) l) _ t₂ in
    let z : (at_kind device rd ∷ at_kind event re ∷ at_kind lpi rl ∷ []) ≡ cs = cc in
    rw (← z) (and_then (bears P S (need device (dom k i 0) 1 1 q) d rd h₁) (and_then (bears P S (need event (dom k i rd.start) n 1 q) e re h₂) (and_then (bears P S (need lpi (dom k 0 0) n 1 q) l rl h₃) no_more)))

-- AN ACCEPTED REQUEST has one row of each kind that it needs, and all bear its requester
pub resolve_bears : (P : Pools) (S : Holders) (r : Request) (cs : List Claim) → resolve P S r ≡ accepted cs → AllBear r.requester (kinds_of r.want) cs
unfolding resolve
resolve_bears P S r cs e =
    let (g, e₁) = require_accepted (good_request r) bad_input _ e in
    let (ds, e₂, e₃) = then_accepted (claims P S r.requester r.want) _ e₁ in
    let (rm, e₄) = require_accepted (room S ds) full (accepted ds) e₃ in
    let z : ds ≡ cs = cc in
    rw (← z) (claims_bear P S r.requester r.want ds e₂)

pub bear_owner : {q : ℕ} {ks : List Kind} {cs : List Claim} → AllBear q ks cs → (c : Claim) → Memᴰ c cs → c.row.owner ≡ q
bear_owner no_more c m = absurd (Memᴰ.not-nil m)
bear_owner {q} (and_then {c = d} {cs = ds} b a) c m = go (λ n. bear_owner a c n) (Memᴰ.cases_cons m)
  where
    go : (Memᴰ c ds → c.row.owner ≡ q) → (c ≡ d) ⊎ Memᴰ c ds → c.row.owner ≡ q
    go below (inl e) = ap (λ (x : Claim). x.row.owner) e ∙ b.owner
    go below (inr n) = below n

-- how many rows of a kind
pub bear_rows : (k : Kind) {q : ℕ} {ks : List Kind} {cs : List Claim} → AllBear q ks cs → length (rows_of k cs) ≡ among k ks
unfolding rows_of among
bear_rows k no_more = refl
bear_rows k (and_then {k = j} {ks = js} {c = c} {cs = cs} b a) = go (bear_rows k a) (either (same_kind c.kind k))
  where
    go : length (rows_of k cs) ≡ among k js → T (same_kind c.kind k) ⊎ (T (same_kind c.kind k) → ⊥) → length (rows_of k (c ∷ cs)) ≡ among k (j ∷ js)
    go below (inl t) = ap length (rows_same k c cs t) ∙ ap suc below ∙ sym (rw (← b.kind, T_true (same_kind c.kind k) t, among))
    go below (inr u) = ap length (rows_other k c cs u) ∙ below ∙ sym (rw (← b.kind, T_false (same_kind c.kind k) u, among))

-- ---- the rows of grants

abbrev pub Granted : Grant → Type 0  -- the grant's rows are what its request needs
Granted g = AllBear g.request.requester (kinds_of g.request.want) g.rows

pub run_granted : (P : Pools) (rs : List Request) (S : Holders) (gs : List Grant) → run P S rs ≡ done gs → (g : Grant) → Memᴰ g gs → Granted g
unfolding run
run_granted P [] S gs e g m = absurd (Memᴰ.not-nil (let z : gs ≡ [] = cc in rw z at m))
run_granted P (r ∷ rs) S gs e g m = go (run_granted P rs) (resolve P S r) refl
  where
    go : ((X : Holders) (hs : List Grant) → run P X rs ≡ done hs → (h : Grant) → Memᴰ h hs → Granted h) → (a : Answer (List Claim)) → resolve P S r ≡ a → Granted g
    go below (refused x) q = absurd (not_done (sym (run_refused P S r rs x q) ∙ e))
    go below (accepted cs) q =
        let (hs, e₁, z) = after_done (grant r cs) (run P (S ⊕ cs) rs) gs (sym (run_accepted P S r rs cs q) ∙ e) in
        elim (Memᴰ.cases_cons (rw z at m)) [
          | inl h ↦ rw h (resolve_bears P S r cs q)
          | inr n ↦ below (S ⊕ cs) hs e₁ g n
        ]

pub rows_asked : (k : Kind) (gs : List Grant) → ((g : Grant) → Memᴰ g gs → Granted g) → length (rows_of k (all_rows gs)) ≡ asked_of k gs
unfolding asked_of rows_of
rows_asked k [] f = refl
rows_asked k (g ∷ gs) f =
    let below = rows_asked k gs (λ h m. f h (Memᴰ.tail m)) in
    let here = bear_rows k (f g (Memᴰ.head refl)) in
    omega (arith, ap length (rows_append k g.rows (all_rows gs)), length-append (rows_of k g.rows) (rows_of k (all_rows gs)), here, below)
