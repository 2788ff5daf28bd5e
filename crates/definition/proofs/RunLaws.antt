-- Laws of a plan's run: what it does with its first requests, where it stops, and that each accepted request leaves the tables sound. Assumes nothing.
use Rattle.std.specs.Prelude.{◌≡◌, refl, ℕ, zero, suc, ◌*◌, T, length, take}
use Rattle.std.proofs.Common.{sym, ap, ◌∙◌, inl, inr, arith, length-append}
use mathlib.Core.List.Memᴰ
use mathlib.Core.List.{List, [], ◌∷◌, ◌++◌, map, append_assoc, append-nil, Memᴰ}
use Rattle.definition.specs.Tables.{record_size, Kind}
use Rattle.definition.specs.Base.{Refusal, Answer, accepted, refused}
use Rattle.definition.specs.Pools.{Holders, Claim, rows_of, ◌⊕◌}
use Rattle.definition.specs.Request.{Want, mmio_want, pio_want, input_want, host_want, msi_want, Request, good_request, Pools, resolve}
use Rattle.definition.specs.Plan.{Grant, grant, Run, done, stopped, after, run, all_rows, record_of, record_of_grant, records, pinned}
use Rattle.definition.proofs.ClaimLaws.{rows_append, Fits}
use Rattle.definition.proofs.RequestLaws.{Bounded, SoundRows}
use Rattle.definition.proofs.ResolveLaws.{Resolved, resolved, rows_kept}

-- ---- one step

pub run_accepted : (P : Pools) (S : Holders) (r : Request) (rs : List Request) (cs : List Claim) → resolve P S r ≡ accepted cs → run P S (r ∷ rs) ≡ after (grant r cs) (run P (S ⊕ cs) rs)
unfolding run
run_accepted P S r rs cs e = rw (e, run)

pub run_refused : (P : Pools) (S : Holders) (r : Request) (rs : List Request) (x : Refusal) → resolve P S r ≡ refused x → run P S (r ∷ rs) ≡ stopped [] x
unfolding run
run_refused P S r rs x e = rw (e, run)

pub not_done : {hs gs : List Grant} {x : Refusal} → ◌≡◌ {A = Run} (stopped hs x) (done gs) → ⊥
not_done e = let z : ◌≡◌ {A = ℕ} 0 1 = cc in omega arith

pub after_done : (g : Grant) (v : Run) (gs : List Grant) → after g v ≡ done gs → (hs : List Grant) × (v ≡ done hs) × (gs ≡ g ∷ hs)
after_done g (done hs) gs e = (hs, refl, cc)
after_done g (stopped hs x) gs e = absurd (not_done e)

pub after_stopped : (g : Grant) (v : Run) (gs : List Grant) (x : Refusal) → after g v ≡ stopped gs x → (hs : List Grant) × (v ≡ stopped hs x) × (gs ≡ g ∷ hs)
after_stopped g (done hs) gs x e = absurd (not_done (sym e))
after_stopped g (stopped hs y) gs x e = let z : y ≡ x = cc in (hs, ap (stopped hs) z, cc)

-- ---- rows added one grant after the other, or all at once

pub put_nil : (S : Holders) → S ⊕ [] ≡ S
unfolding ◌⊕◌ rows_of
put_nil S = λ i k. append-nil (S k) i

pub put_append : (S : Holders) (cs ds : List Claim) → S ⊕ (cs ++ ds) ≡ S ⊕ cs ⊕ ds
unfolding ◌⊕◌
put_append S cs ds = λ i k. (ap (λ rs. S k ++ rs) (rows_append k cs ds) ∙ sym (append_assoc (S k) (rows_of k cs) (rows_of k ds))) i

-- ---- a whole run

-- the first i requests alone are answered as in the whole plan
pub run_take : (P : Pools) (i : ℕ) (rs : List Request) (S : Holders) (gs : List Grant) → run P S rs ≡ done gs → run P S (take i rs) ≡ done (take i gs)
unfolding run
run_take P zero rs S gs e = refl
run_take P (suc i) [] S gs e = let z : [] ≡ gs = cc in rw (← z) refl
run_take P (suc i) (r ∷ rs) S gs e = go (run_take P i rs) (resolve P S r) refl
  where
    go : ((X : Holders) (hs : List Grant) → run P X rs ≡ done hs → run P X (take i rs) ≡ done (take i hs)) → (a : Answer (List Claim)) → resolve P S r ≡ a
        → run P S (r ∷ take i rs) ≡ done (take (suc i) gs)
    go below (refused x) q = absurd (not_done (sym (run_refused P S r rs x q) ∙ e))
    go below (accepted cs) q =
        let (hs, e₁, z) = after_done (grant r cs) (run P (S ⊕ cs) rs) gs (sym (run_accepted P S r rs cs q) ∙ e) in
        run_accepted P S r (take i rs) cs q ∙ ap (after (grant r cs)) (below (S ⊕ cs) hs e₁) ∙ sym (ap (λ xs. done (take (suc i) xs)) z)

-- a refused plan: the requests before the refused one alone are all accepted
pub run_stopped : (P : Pools) (rs : List Request) (S : Holders) (gs : List Grant) (x : Refusal) → run P S rs ≡ stopped gs x → run P S (take (length gs) rs) ≡ done gs
unfolding run
run_stopped P [] S gs x e = absurd (not_done (sym e))
run_stopped P (r ∷ rs) S gs x e = go (run_stopped P rs) (resolve P S r) refl
  where
    go : ((X : Holders) (hs : List Grant) (y : Refusal) → run P X rs ≡ stopped hs y → run P X (take (length hs) rs) ≡ done hs) → (a : Answer (List Claim)) → resolve P S r ≡ a
        → run P S (take (length gs) (r ∷ rs)) ≡ done gs
    go below (refused y) q = let z : [] ≡ gs = cc (run_refused P S r rs y q) in rw (← z) refl
    go below (accepted cs) q =
        let (hs, e₁, z) = after_stopped (grant r cs) (run P (S ⊕ cs) rs) gs x (sym (run_accepted P S r rs cs q) ∙ e) in
        rw z (run_accepted P S r (take (length hs) rs) cs q ∙ ap (after (grant r cs)) (below (S ⊕ cs) hs x e₁))

-- every request of an accepted plan is answered, in order
pub run_requests : (P : Pools) (rs : List Request) (S : Holders) (gs : List Grant) → run P S rs ≡ done gs → map (λ g. g.request) gs ≡ rs
unfolding run
run_requests P [] S gs e = let z : [] ≡ gs = cc in rw (← z) refl
run_requests P (r ∷ rs) S gs e = go (run_requests P rs) (resolve P S r) refl
  where
    go : ((X : Holders) (hs : List Grant) → run P X rs ≡ done hs → map (λ g. g.request) hs ≡ rs) → (a : Answer (List Claim)) → resolve P S r ≡ a → map (λ g. g.request) gs ≡ r ∷ rs
    go below (refused x) q = absurd (not_done (sym (run_refused P S r rs x q) ∙ e))
    go below (accepted cs) q =
        let (hs, e₁, z) = after_done (grant r cs) (run P (S ⊕ cs) rs) gs (sym (run_accepted P S r rs cs q) ∙ e) in
        rw z (ap {B = List Request} (λ xs. r ∷ xs) (below (S ⊕ cs) hs e₁))

-- ---- soundness

abbrev pub Sounds : Holders → Type 0
Sounds S = (k : Kind) → SoundRows k (S k)

pub run_kept : (P : Pools) → ((k : Kind) → Bounded P k) → (rs : List Request) (S : Holders) (gs : List Grant) → Sounds S → Fits S → run P S rs ≡ done gs → Sounds (S ⊕ all_rows gs) × Fits (S ⊕ all_rows gs)
unfolding run
run_kept P bounded [] S gs s f e = let z : gs ≡ [] = cc in rw (z, put_nil S) (s, f)
run_kept P bounded (r ∷ rs) S gs s f e = go (run_kept P bounded rs) (resolve P S r) refl
  where
    go : ((X : Holders) (hs : List Grant) → Sounds X → Fits X → run P X rs ≡ done hs → Sounds (X ⊕ all_rows hs) × Fits (X ⊕ all_rows hs)) → (a : Answer (List Claim)) → resolve P S r ≡ a
        → Sounds (S ⊕ all_rows gs) × Fits (S ⊕ all_rows gs)
    go below (refused x) q = absurd (not_done (sym (run_refused P S r rs x q) ∙ e))
    go below (accepted cs) q =
        let (hs, e₁, z) = after_done (grant r cs) (run P (S ⊕ cs) rs) gs (sym (run_accepted P S r rs cs q) ∙ e) in
        let a : Resolved P S r cs = resolved P S r cs (λ k m. (bounded k, s k)) q in
        rw (z, put_append S cs (all_rows hs)) (below (S ⊕ cs) hs (λ k. rows_kept P S r cs k a (s k)) (a.fits f) e₁)

-- every line of a run makes sense with its answer written back
pub run_good : (P : Pools) → ((k : Kind) → Bounded P k) → (rs : List Request) (S : Holders) (gs : List Grant) → Sounds S → run P S rs ≡ done gs
    → (g : Grant) → Memᴰ g gs → T (good_request (pinned g))
unfolding run
run_good P bounded [] S gs s e g m = absurd (Memᴰ.not-nil (let z : gs ≡ [] = cc in rw z at m))
run_good P bounded (r ∷ rs) S gs s e g m = go (run_good P bounded rs) (resolve P S r) refl
  where
    go : ((X : Holders) (hs : List Grant) → Sounds X → run P X rs ≡ done hs → (h : Grant) → Memᴰ h hs → T (good_request (pinned h))) → (a : Answer (List Claim)) → resolve P S r ≡ a
        → T (good_request (pinned g))
    go below (refused x) q = absurd (not_done (sym (run_refused P S r rs x q) ∙ e))
    go below (accepted cs) q =
        let (hs, e₁, z) = after_done (grant r cs) (run P (S ⊕ cs) rs) gs (sym (run_accepted P S r rs cs q) ∙ e) in
        let a : Resolved P S r cs = resolved P S r cs (λ k n. (bounded k, s k)) q in
        elim (Memᴰ.cases_cons (rw z at m)) [
          | inl h ↦ rw h a.good
          | inr n ↦ below (S ⊕ cs) hs (λ k. rows_kept P S r cs k a (s k)) e₁ g n
        ]

-- ---- records

pub record_length : (g : Grant) → length (record_of_grant g) ≡ record_size
unfolding record_of_grant
record_length g = go g.request.want
  where
    go : (w : Want) → length (record_of g.request.requester g.request.slot w g.rows) ≡ record_size
    go (mmio_want s a c) = refl
    go (pio_want s a c) = refl
    go (input_want k t s c) = refl
    go (host_want c) = refl
    go (msi_want k i n d e l) = refl

pub records_length : (gs : List Grant) → length (records gs) ≡ record_size * length gs
unfolding records
records_length [] = refl
records_length (g ∷ gs) = let below = records_length gs in omega (arith, length-append (record_of_grant g) (records gs), record_length g)
