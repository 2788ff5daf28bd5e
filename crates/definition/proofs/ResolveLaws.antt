-- One accepted request: its rows are good, stand beside all others, fit, and are granted again when asked for by name. Assumes nothing.
use Rattle.std.specs.Prelude.{◌≡◌, ◌⊎◌, not, ℕ, ◌≤◌, ◌<◌, leb, ltb}
use Rattle.std.proofs.Math.Path.{refl}
use Rattle.std.proofs.Common.{sym, subst, ◌∙◌, inl, inr, arith, leb→le}
use mathlib.Core.List.Memᴰ
use mathlib.Core.List.{List, [], ◌∷◌, Memᴰ}
use Rattle.std.proofs.Math.Dec.{T, ltb→lt, le→leb}
use Rattle.definition.specs.Base.{all_of, pairs_of, bad_input, full, accepted, require}
use Rattle.definition.proofs.BaseLaws.{and_l, and_r, and_i, →not_T}
use Rattle.definition.specs.Tables.{top, last_trigger, shared, dom, within, Kind, mmio, pio, input, host, device, event, lpi, nature, same_kind, Row, clash, good_row}
use Rattle.definition.specs.Pools.{at_kind, Holders, Claim, ◌⊕◌, room}
use Rattle.definition.specs.Request.{Choice, auto, at, Want, mmio_want, pio_want, input_want, host_want, msi_want, Request, good_choice, one_bit, good_want, good_request, Need, Pools, place, need, input_need, one, kinds_of, claims, resolve}
use Rattle.definition.specs.Plan.{grant, pin_choice, pin_want, pinned}
use Rattle.definition.proofs.RowLaws.{clash_sym, Beside}
use Rattle.definition.proofs.ClaimLaws.{other_kind, goods_added, pairs_added, Fits, fits_one, fits_room, length_put, FreeOf}
use Rattle.definition.proofs.RequestLaws.{then_accepted, require_accepted, required, AutoInFixed, Bounded, SoundRows, Makes, Placed, placed, one_bit_pos, range_made, input_made}

-- ---- the rows of one request

pub record Claimed (P : Pools) (S : Holders) (q : ℕ) (w : Want) (cs : List Claim) : Type 0 where
  pub free_of : FreeOf S cs
  pub apart : T (pairs_of other_kind cs)
  pub goods : (c : Claim) → Memᴰ c cs → T (good_row c.kind c.row)
  pub again : AutoInFixed P → (S' : Holders) → FreeOf S' cs → claims P S' q (pin_want w cs) ≡ accepted cs
  pub good : T (good_want (pin_want w cs))

pin_good : (t b : ℕ) (c : Choice) → b ≤ t → T (good_choice t c) → T (good_choice t (pin_choice c b))
unfolding good_choice
pin_good t b auto h g = le→leb b t h
pin_good t b (at x) h g = g

one_free : (S : Holders) (k : Kind) (r : Row) → Beside (S k) r → FreeOf S (at_kind k r ∷ [])
one_free S k r h c m = subst (λ (x : Claim). Beside (S x.kind) x.row) (sym (Memᴰ.eq_of_singleton m)) h

cons_free : (S : Holders) (k : Kind) (r : Row) (cs : List Claim) → Beside (S k) r → FreeOf S cs → FreeOf S (at_kind k r ∷ cs)
cons_free S k r cs h f c m = go (Memᴰ.cases_cons m)
  where
    go : (c ≡ at_kind k r) ⊎ Memᴰ c cs → Beside (S c.kind) c.row
    go (inl e) = subst (λ (x : Claim). Beside (S x.kind) x.row) (sym e) h
    go (inr m') = f c m'

abbrev Good : Claim → Type 0
Good c = T (good_row c.kind c.row)

three_good : (a b c : Claim) → Good a → Good b → Good c → (x : Claim) → Memᴰ x (a ∷ b ∷ c ∷ []) → Good x
three_good a b c ga gb gc x (Memᴰ.head e) = rw e ga
three_good a b c ga gb gc x (Memᴰ.tail (Memᴰ.head e)) = rw e gb
three_good a b c ga gb gc x (Memᴰ.tail (Memᴰ.tail m)) = rw (Memᴰ.eq_of_singleton m) gc

-- what an answer leans on: the kind's ranges keep to its floor and its width, and its rows are sound
abbrev pub Ground : Pools → Holders → Kind → Type 0
Ground P S k = Bounded P k × SoundRows k (S k)

module _ (P : Pools) (S : Holders) (q : ℕ) where
  -- a request of one row: its claims are one place, and so are those of its pinned form
  single : (n : Need) (w : Want) (c : Choice) (cs : List Claim) → Ground P S n.kind → Makes n → 0 < n.alignment
      → claims P S q w ≡ one P S n c
      → ((S' : Holders) (r : Row) → claims P S' q (pin_want w (at_kind n.kind r ∷ [])) ≡ one P S' n (pin_choice c r.start))
      → ((r : Row) → r.start ≤ (nature n.kind).top → T (good_want (pin_want w (at_kind n.kind r ∷ []))))
      → claims P S q w ≡ accepted cs → Claimed P S q w cs
  unfolding pairs_of all_of
  single n w c cs (bounded, rows) makes pos is is' good e =
      let (r, e₁, e₂) = then_accepted (place P S n c) (λ x. accepted (at_kind n.kind x ∷ [])) (sym is ∙ e) in
      let p : Placed P S n c r = placed P n bounded makes S c r rows pos e₁ in
      let z : (at_kind n.kind r ∷ []) ≡ cs = cc in
      let here : Claimed P S q w (at_kind n.kind r ∷ []) = record {
        free_of = one_free S n.kind r p.beside;
        apart = tt;
        goods = λ x m. rw (Memᴰ.eq_of_singleton m) p.good;
        again = λ i S' h. is' S' r ∙ rw (p.pins, p.again i S' (h (at_kind n.kind r) (Memᴰ.head refl)));
        good = good r p.low;
      } in
      rw z at here

  module _ (own : 0 < q) (least : q ≤ top 32) where
    triple : (k i n : ℕ) (d e l : Choice) (cs : List Claim) → Ground P S device → Ground P S event → Ground P S lpi → T (good_want (msi_want k i n d e l)) → claims P S q (msi_want k i n d e l) ≡ accepted cs → Claimed P S q (msi_want k i n d e l) cs
    unfolding claims good_want pin_want pairs_of all_of other_kind same_kind within
    triple k i n d e l cs (bounded-d, rows-d) (bounded-e, rows-e) (bounded-l, rows-l) g h =
        let g₁ : T (leb k (top 32)) = search (and_l, and_r) depth 8 in
        let g₂ : T (leb i (top 32)) = search (and_l, and_r) depth 8 in
        let g₃ : T (ltb 0 n) = search (and_l, and_r) depth 8 in
        let g₄ : T (leb n (top 32)) = search (and_l, and_r) depth 8 in
        let gd : T (good_choice (nature device).top d) = search (and_l, and_r) depth 8 in
        let ge : T (good_choice (nature event).top e) = search (and_l, and_r) depth 8 in
        let gl : T (good_choice (nature lpi).top l) = search (and_l, and_r) depth 8 in
        let pos : 0 < n = ltb→lt 0 n g₃ in
        let (rd, h₁, t₁) = then_accepted (place P S (need device (dom k i 0) 1 1 q) d) _ h in
        let wd : T (within (dom k i 0) (nature device).dom_top) = search (and_i) in
        let pd : Placed P S (need device (dom k i 0) 1 1 q) d rd = placed P (need device (dom k i 0) 1 1 q) bounded-d (range_made device (dom k i 0) 1 1 q refl wd (omega arith) own least) S d rd rows-d (omega arith) h₁ in
        let (re, h₂, t₂) = then_accepted (place P S (need event (dom k i rd.start) n 1 q) e) _ t₁ in
        let ld : T (leb rd.start (top 32)) = le→leb rd.start (top 32) pd.low in
        let we : T (within (dom k i rd.start) (nature event).dom_top) = search (and_i) in
        let pe : Placed P S (need event (dom k i rd.start) n 1 q) e re = placed P (need event (dom k i rd.start) n 1 q) bounded-e (range_made event (dom k i rd.start) n 1 q refl we pos own least) S e re rows-e (omega arith) h₂ in
        let (rl, h₃, t₃) = then_accepted (place P S (need lpi (dom k 0 0) n 1 q) l) _ t₂ in
        let wl : T (within (dom k 0 0) (nature lpi).dom_top) = search (and_i) in
        let pl : Placed P S (need lpi (dom k 0 0) n 1 q) l rl = placed P (need lpi (dom k 0 0) n 1 q) bounded-l (range_made lpi (dom k 0 0) n 1 q refl wl pos own least) S l rl rows-l (omega arith) h₃ in
        let z : (at_kind device rd ∷ at_kind event re ∷ at_kind lpi rl ∷ []) ≡ cs = cc in
        let fd : T (good_choice (nature device).top (pin_choice d rd.start)) = pin_good (nature device).top rd.start d pd.low gd in
        let fe : T (good_choice (nature event).top (pin_choice e re.start)) = pin_good (nature event).top re.start e pe.low ge in
        let fl : T (good_choice (nature lpi).top (pin_choice l rl.start)) = pin_good (nature lpi).top rl.start l pl.low gl in
        let here : Claimed P S q (msi_want k i n d e l) (at_kind device rd ∷ at_kind event re ∷ at_kind lpi rl ∷ []) = record {
          free_of = cons_free S device rd _ pd.beside (cons_free S event re _ pe.beside (one_free S lpi rl pl.beside));
          apart = tt;
          goods = three_good (at_kind device rd) (at_kind event re) (at_kind lpi rl) pd.good pe.good pl.good;
          again = λ j S' f. rw (pd.pins, pe.pins, pl.pins, pd.again j S' (f _ (Memᴰ.head refl)), pe.again j S' (f _ (Memᴰ.tail (Memᴰ.head refl))), pl.again j S' (f _ (Memᴰ.tail (Memᴰ.tail (Memᴰ.head refl)))));
          good = search (and_i) depth 12;
        } in
        rw z at here

    pub claimed : (w : Want) (cs : List Claim) → ((k : Kind) → Memᴰ k (kinds_of w) → Ground P S k) → T (good_want w) → claims P S q w ≡ accepted cs → Claimed P S q w cs
    unfolding claims good_want pin_want within
    claimed (mmio_want s a c) cs basis g e =
        let g₁ : T (ltb 0 s) = search (and_l, and_r) in
        let g₂ : T (leb s (top 64)) = search (and_l, and_r) in
        let g₃ : T (leb a (top 64)) = search (and_l, and_r) in
        let g₄ : T (one_bit 64 a) = search (and_l, and_r) in
        let g₅ : T (good_choice (nature mmio).top c) = search (and_l, and_r) in
        single (need mmio (dom 0 0 0) s a q) (mmio_want s a c) c cs (basis _ (Memᴰ.head refl)) (range_made mmio (dom 0 0 0) s a q refl tt (ltb→lt 0 s g₁) own least) (one_bit_pos 64 a g₄) refl (λ S' r. refl)
        (λ r h. let f : T (good_choice (nature mmio).top (pin_choice c r.start)) = pin_good (nature mmio).top r.start c h g₅ in search (and_i) depth 8) e
    claimed (pio_want s a c) cs basis g e =
        let g₁ : T (ltb 0 s) = search (and_l, and_r) in
        let g₂ : T (leb s (top 16)) = search (and_l, and_r) in
        let g₃ : T (leb a (top 16)) = search (and_l, and_r) in
        let g₄ : T (one_bit 16 a) = search (and_l, and_r) in
        let g₅ : T (good_choice (nature pio).top c) = search (and_l, and_r) in
        single (need pio (dom 0 0 0) s a q) (pio_want s a c) c cs (basis _ (Memᴰ.head refl)) (range_made pio (dom 0 0 0) s a q refl tt (ltb→lt 0 s g₁) own least) (one_bit_pos 16 a g₄) refl (λ S' r. refl)
        (λ r h. let f : T (good_choice (nature pio).top (pin_choice c r.start)) = pin_good (nature pio).top r.start c h g₅ in search (and_i) depth 8) e
    claimed (input_want k t s c) cs basis g e =
        let g₁ : T (leb k (top 32)) = search (and_l, and_r) in
        let g₂ : T (leb t last_trigger) = search (and_l, and_r) in
        let g₃ : T (leb s shared) = search (and_l, and_r) in
        let g₄ : T (good_choice (nature input).top c) = search (and_l, and_r) in
        single (input_need k t s q) (input_want k t s c) c cs (basis _ (Memᴰ.head refl)) (input_made k t s q (leb→le k (top 32) g₁) (leb→le t last_trigger g₂) (leb→le s shared g₃) own least) (omega arith) refl (λ S' r. refl)
        (λ r h. let f : T (good_choice (nature input).top (pin_choice c r.start)) = pin_good (nature input).top r.start c h g₄ in search (and_i) depth 8) e
    claimed (host_want c) cs basis g e =
        single (need host (dom 0 0 0) 1 1 q) (host_want c) c cs (basis _ (Memᴰ.head refl)) (range_made host (dom 0 0 0) 1 1 q refl tt (omega arith) own least) (omega arith) refl (λ S' r. refl)
        (λ r h. pin_good (nature host).top r.start c h g) e
    claimed (msi_want k i n d e l) cs basis g h =
        triple k i n d e l cs (basis _ (Memᴰ.head refl)) (basis _ (Memᴰ.tail (Memᴰ.head refl))) (basis _ (Memᴰ.tail (Memᴰ.tail (Memᴰ.head refl)))) g h

-- ---- one request

pub record Resolved (P : Pools) (S : Holders) (r : Request) (cs : List Claim) : Type 0 where
  pub free_of : FreeOf S cs
  pub apart : T (pairs_of other_kind cs)
  pub goods : (c : Claim) → Memᴰ c cs → T (good_row c.kind c.row)
  pub good : T (good_request (pinned (grant r cs)))
  pub has_room : T (room S cs)
  pub fits : Fits S → Fits (S ⊕ cs)
  pub again : AutoInFixed P → (S' : Holders) → FreeOf S' cs → Fits (S' ⊕ cs) → resolve P S' (pinned (grant r cs)) ≡ accepted cs

pub resolved : (P : Pools) (S : Holders) (r : Request) (cs : List Claim) → ((k : Kind) → Memᴰ k (kinds_of r.want) → Ground P S k) → resolve P S r ≡ accepted cs → Resolved P S r cs
unfolding resolve good_request pinned Fits
resolved P S r cs basis e =
    let (g, e₁) = require_accepted (good_request r) bad_input _ e in
    let (ds, e₂, e₃) = then_accepted (claims P S r.requester r.want) (λ ds. require (room S ds) full (accepted ds)) e₁ in
    let (rm, e₄) = require_accepted (room S ds) full (accepted ds) e₃ in
    let z : ds ≡ cs = cc in
    let g₁ : T (ltb 0 r.requester) = search (and_l, and_r) in
    let g₂ : T (leb r.requester (top 32)) = search (and_l, and_r) in
    let g₃ : T (leb r.slot (top 32)) = search (and_l, and_r) in
    let g₄ : T (good_want r.want) = search (and_l, and_r) in
    let c : Claimed P S r.requester r.want ds = claimed P S r.requester (ltb→lt 0 r.requester g₁) (leb→le r.requester (top 32) g₂) r.want ds basis g₄ e₂ in
    let g₅ : T (good_want (pin_want r.want ds)) = c.good in
    let g₆ : T (good_request (pinned (grant r ds))) = search (and_i) in
    let here : Resolved P S r ds = record {
      free_of = c.free_of;
      apart = c.apart;
      goods = c.goods;
      good = g₆;
      has_room = rm;
      fits = λ h k. rw (length_put S ds k) (fits_one S k ds (h k) c.apart rm);
      again = λ i S' f h. required (good_request (pinned (grant r ds))) bad_input _ g₆ ∙ rw (c.again i S' f) (required (room S' ds) full (accepted ds) (fits_room S' ds h));
    } in
    rw z at here

-- an accepted request leaves the rows of each table good, and no two of them clash
pub rows_kept : (P : Pools) (S : Holders) (r : Request) (cs : List Claim) (k : Kind) → Resolved P S r cs → SoundRows k (S k) → SoundRows k ((S ⊕ cs) k)
unfolding ◌⊕◌
rows_kept P S r cs k a (s₁, s₂) = (
  goods_added good_row S cs k s₁ a.goods,
  pairs_added (λ x y. not (clash x y)) S cs k s₂ a.apart (λ c m x n. →not_T (clash x c.row) (λ w. a.free_of c m x n (clash_sym x c.row w))),
)
