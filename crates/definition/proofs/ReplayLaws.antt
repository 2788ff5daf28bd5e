-- Demand 3 over lists: an accepted plan's lines, each with its answer written back, run again from the same rows: any of them, each at most
-- once, in any order. Of requests the proof knows only `resolved`, of rows only that `clash` is symmetric. Assumes nothing.
use Rattle.std.specs.Prelude.{◌≡◌, refl, ◌⊎◌, Bool, true, false, suc, ◌+◌, ◌≤◌, length}
use Rattle.std.proofs.Common.{sym, ap, ◌∙◌, inl, inr, arith, length-append}
use mathlib.Core.List.Memᴰ
use mathlib.Core.List.{List, [], ◌∷◌, ◌++◌, map, Memᴰ}
use Rattle.definition.specs.Tables.{row_limit, Kind}
use Rattle.definition.specs.Base.{only_of, Answer, accepted, refused}
use Rattle.definition.specs.Pools.{Holders, Claim, rows_of, ◌⊕◌}
use Rattle.definition.specs.Request.{Want, mmio_want, pio_want, input_want, host_want, msi_want, Request, Pools, resolve}
use Rattle.definition.specs.Plan.{Grant, grant, done, after, run, all_rows, record_of, record_of_grant, records, pin_want, pinned}
use Rattle.definition.proofs.ClaimLaws.{rows_append, Fits, length_put, FreeOf, Clear, clear_sym, free_put, put_free}
use Rattle.definition.proofs.RequestLaws.{AutoInFixed, Bounded}
use Rattle.definition.proofs.ResolveLaws.{Resolved, resolved, rows_kept}
use Rattle.definition.proofs.RunLaws.{run_accepted, run_refused, not_done, after_done, put_nil, put_append, Sounds}

-- ---- any of them, each at most once, in any order

-- Take x xs ys: ys is xs without one x
pub data Take {A : Type 0} (x : A) : List A → List A → Type 0 where
  now : {xs : List A} → Take x (x ∷ xs) xs
  later : {y : A} {xs ys : List A} → Take x xs ys → Take x (y ∷ xs) (y ∷ ys)

-- Pick zs xs: zs are taken out of xs, one after the other
pub data Pick {A : Type 0} : List A → List A → Type 0 where
  stop : {xs : List A} → Pick [] xs
  pick : {x : A} {xs ys zs : List A} → Take x xs ys → Pick zs ys → Pick (x ∷ zs) xs

pub take_mem : {A : Type 0} {x : A} {xs ys : List A} → Take x xs ys → Memᴰ x xs
take_mem now = Memᴰ.head refl
take_mem (later t) = Memᴰ.tail (take_mem t)

pub take_sub : {A : Type 0} {x y : A} {xs ys : List A} → Take x xs ys → Memᴰ y ys → Memᴰ y xs
take_sub now m = Memᴰ.tail m
take_sub {y = y} (later {y = w} {xs = xs} {ys = ys} t) m = go (λ m'. take_sub t m') (Memᴰ.cases_cons m)
  where
    go : (Memᴰ y ys → Memᴰ y xs) → (y ≡ w) ⊎ Memᴰ y ys → Memᴰ y (w ∷ xs)
    go below (inl e) = Memᴰ.head e
    go below (inr m') = Memᴰ.tail (below m')

pub take_length : {A : Type 0} {x : A} {xs ys : List A} → Take x xs ys → length xs ≡ suc (length ys)
take_length now = refl
take_length (later t) = ap suc (take_length t)

pub pick_length : {A : Type 0} {zs xs : List A} → Pick zs xs → length zs ≤ length xs
pick_length stop = omega arith
pick_length (pick t p) = let h = pick_length p in omega (arith, take_length t, h)

-- ---- grants that can stand together

abbrev pub Pairs : List Grant → Type 0
Pairs [] = Unit {0}
Pairs (g ∷ gs) = ((h : Grant) → Memᴰ h gs → Clear g.rows h.rows) × Pairs gs

abbrev pub Again : Pools → Grant → Type 0
Again P g = (S : Holders) → FreeOf S g.rows → Fits (S ⊕ g.rows) → resolve P S (pinned g) ≡ accepted g.rows

-- the grants can all be added to S, in any order
pub record Ready (P : Pools) (S : Holders) (gs : List Grant) : Type 0 where
  pub frees : (g : Grant) → Memᴰ g gs → FreeOf S g.rows
  pub agains : (g : Grant) → Memᴰ g gs → Again P g
  pub pairs : Pairs gs
  pub fit : (k : Kind) → length (S k) + length (rows_of k (all_rows gs)) ≤ row_limit

pub take_pairs : {g : Grant} {gs hs : List Grant} → Take g gs hs → Pairs gs → ((h : Grant) → Memᴰ h hs → Clear g.rows h.rows) × Pairs hs
take_pairs now p = p
take_pairs {g} (later {y = w} {xs = xs} {ys = ys} t) p =
    let below = take_pairs t p.1 in
    (λ h m. go h below.0 (Memᴰ.cases_cons m), (λ h m. p.0 h (take_sub t m), below.1))
  where
    go : (h : Grant) → ((x : Grant) → Memᴰ x ys → Clear g.rows x.rows) → (h ≡ w) ⊎ Memᴰ h ys → Clear g.rows h.rows
    go h f (inl e) = rw e (clear_sym (p.0 g (take_mem t)))
    go h f (inr m) = f h m

pub take_count : (k : Kind) {g : Grant} {gs hs : List Grant} → Take g gs hs → length (rows_of k (all_rows gs)) ≡ length (rows_of k g.rows) + length (rows_of k (all_rows hs))
take_count k {g} (now {xs = xs}) = ap length (rows_append k g.rows (all_rows xs)) ∙ length-append (rows_of k g.rows) (rows_of k (all_rows xs))
take_count k {g} (later {y = w} {xs = xs} {ys = ys} t) =
    let below = take_count k t in
    simp (rows_append, length-append) (omega arith)

-- any one of them may come next, and the others can still all be added
pub ready_take : {P : Pools} {S : Holders} {g : Grant} {gs hs : List Grant} → Take g gs hs → Ready P S gs
    → (resolve P S (pinned g) ≡ accepted g.rows) × Ready P (S ⊕ g.rows) hs
unfolding Fits
ready_take {P} {S} {g} {gs} {hs} t r =
    let (clear, pairs') = take_pairs t r.pairs in (
      r.agains g (take_mem t) S (r.frees g (take_mem t)) (λ k. omega (arith, length_put S g.rows k, take_count k t, r.fit k)),
      record {
        frees = λ h m. free_put S g.rows h.rows (r.frees h (take_sub t m)) (clear h m);
        agains = λ h m. r.agains h (take_sub t m);
        pairs = pairs';
        fit = λ k. omega (arith, length_put S g.rows k, take_count k t, r.fit k);
      },
    )

pub ready_nil : {P : Pools} {S : Holders} → Fits S → Ready P S []
unfolding Fits rows_of
ready_nil h = record { frees = λ g m. absurd (Memᴰ.not-nil m); agains = λ g m. absurd (Memᴰ.not-nil m); pairs = tt; fit = λ k. omega (arith, h k) }

-- one that can be added to S, and others that can then be added
pub ready_join : {P : Pools} {S : Holders} (g : Grant) (hs : List Grant) → FreeOf S g.rows → Again P g → Ready P (S ⊕ g.rows) hs → Ready P S (g ∷ hs)
ready_join {P} {S} g hs f a r = record {
  frees = λ h m. free h (Memᴰ.cases_cons m);
  agains = λ h m. again h (Memᴰ.cases_cons m);
  pairs = (λ h m. (put_free S g.rows h.rows (r.frees h m)).1, r.pairs);
  fit = λ k. simp (rows_append, length-append) (omega (arith, r.fit k, length_put S g.rows k));
}
  where
    free : (h : Grant) → (h ≡ g) ⊎ Memᴰ h hs → FreeOf S h.rows
    free h (inl e) = rw e f
    free h (inr m) = (put_free S g.rows h.rows (r.frees h m)).0

    again : (h : Grant) → (h ≡ g) ⊎ Memᴰ h hs → Again P h
    again h (inl e) = rw e a
    again h (inr m) = r.agains h m

-- those that can be added, and behind them others
pub ready_append : {P : Pools} {S : Holders} (gs hs : List Grant) → Ready P S gs → Ready P (S ⊕ all_rows gs) hs → Ready P S (gs ++ hs)
ready_append {P} {S} [] hs r t = rw (put_nil S) at t
ready_append {P} {S} (g ∷ gs) hs r t =
    ready_join g (gs ++ hs) (r.frees g (Memᴰ.head refl)) (r.agains g (Memᴰ.head refl))
    (ready_append {S = S ⊕ g.rows} gs hs (ready_take now r).1 (rw (put_append S g.rows (all_rows gs)) at t))

-- one left out
ready_less : {P : Pools} {S : Holders} (g : Grant) (gs : List Grant) → Ready P S (g ∷ gs) → Ready P S gs
ready_less {P} {S} g gs r = record {
  frees = λ h m. r.frees h (Memᴰ.tail m);
  agains = λ h m. r.agains h (Memᴰ.tail m);
  pairs = r.pairs.1;
  fit = λ k. let n : length (rows_of k (all_rows (g ∷ gs))) ≡ length (rows_of k g.rows) + length (rows_of k (all_rows gs)) = take_count k {g = g} {hs = gs} now in omega (arith, r.fit k);
}

-- .. and any that fail a test
pub ready_only : {P : Pools} {S : Holders} (p : Grant → Bool) (gs : List Grant) → Ready P S gs → Ready P S (only_of p gs)
unfolding only_of
ready_only p [] r = r
ready_only {P} {S} p (g ∷ gs) r = go (λ X x. ready_only p gs x) (p g)
  where
    go : ((X : Holders) → Ready P X gs → Ready P X (only_of p gs)) → (b : Bool) → Ready P S (elim b [ true ↦ g ∷ only_of p gs | false ↦ only_of p gs ])
    go below true = ready_join g (only_of p gs) (r.frees g (Memᴰ.head refl)) (r.agains g (Memᴰ.head refl)) (below (S ⊕ g.rows) (ready_take now r).1)
    go below false = below S (ready_less g gs r)

pub run_ready : (P : Pools) → ((k : Kind) → Bounded P k) → AutoInFixed P → (rs : List Request) (S : Holders) (gs : List Grant) → Sounds S → Fits S → run P S rs ≡ done gs → Ready P S gs
unfolding run
run_ready P bounded inside [] S gs s h e = let z : gs ≡ [] = cc in rw z (ready_nil h)
run_ready P bounded inside (r ∷ rs) S gs s h e = go (run_ready P bounded inside rs) (resolve P S r) refl
  where
    go : ((X : Holders) (hs : List Grant) → Sounds X → Fits X → run P X rs ≡ done hs → Ready P X hs) → (a : Answer (List Claim)) → resolve P S r ≡ a → Ready P S gs
    go below (refused x) q = absurd (not_done (sym (run_refused P S r rs x q) ∙ e))
    go below (accepted cs) q =
        let (hs, e₁, z) = after_done (grant r cs) (run P (S ⊕ cs) rs) gs (sym (run_accepted P S r rs cs q) ∙ e) in
        let a : Resolved P S r cs = resolved P S r cs (λ k m. (bounded k, s k)) q in
        rw z (ready_join (grant r cs) hs a.free_of (a.again inside) (below (S ⊕ cs) hs (λ k. rows_kept P S r cs k a (s k)) (a.fits h) e₁))

-- ---- running them again

-- the same line, pinned, with the same rows
abbrev pub kept : Grant → Grant
kept g = grant (pinned g) g.rows

pub replay_run : {P : Pools} {S : Holders} {ps gs : List Grant} → Pick ps gs → Ready P S gs → run P S (map pinned ps) ≡ done (map kept ps)
unfolding run
replay_run stop r = refl
replay_run {P} {S} (pick {x = g} {zs = zs} t p) r =
    let (e, r') = ready_take t r in
    run_accepted P S (pinned g) (map pinned zs) g.rows e ∙ ap (after (kept g)) (replay_run {S = S ⊕ g.rows} p r')

-- the rows are those that they had, and so are the nine numbers of each
pub kept_rows_is : (gs : List Grant) → all_rows (map kept gs) ≡ all_rows gs
kept_rows_is [] = refl
kept_rows_is (g ∷ gs) = ap (λ cs. g.rows ++ cs) (kept_rows_is gs)

pub kept_record : (g : Grant) → record_of_grant (kept g) ≡ record_of_grant g
unfolding record_of_grant pinned pin_want
kept_record g = go g.request.want
  where
    go : (w : Want) → record_of g.request.requester g.request.slot (pin_want w g.rows) g.rows ≡ record_of g.request.requester g.request.slot w g.rows
    go (mmio_want s a c) = refl
    go (pio_want s a c) = refl
    go (input_want k t s c) = refl
    go (host_want c) = refl
    go (msi_want k i n d e l) = refl

pub kept_records : (gs : List Grant) → records (map kept gs) ≡ records gs
unfolding records
kept_records [] = refl
kept_records (g ∷ gs) = rw (kept_record g, kept_records gs)
