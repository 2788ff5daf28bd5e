-- An entry of the ledger tells of a grant: of a plan the i-th of the i-th, of one request the one. Assumes nothing.
use mathlib.Core.Path.{◌≡◌, refl, sym, subst, ap, ◌∙◌}
use mathlib.Core.Bool.{true, false}
use mathlib.Core.List.{List, [], ◌∷◌, map}
use Prim.Native.Nat.{ℕ, ◌/◌, ◌≤◌, ◌<◌}
use native.Mathlib.Omega.{arith}
use lib.Dec.{leb, eqb, le→leb, eqb→eq}
use lib.ListN.{length, take, drop, length-take}
use lib.Seq.{get_or-take}
use Rattle.definition.proofs.BaseLaws.{T_true, T_false}
use Rattle.definition.specs.Base.{Refusal, tell}
use Rattle.definition.specs.Tables.{record_size}
use Rattle.definition.specs.Request.{Request}
use Rattle.definition.specs.Calls.{State, pools_of, owners_of, saying}
use Rattle.definition.specs.Plan.{Grant, Run, done, stopped, record_of_grant, records, written, Lent, lent, plan_run, grants_of, ended, plan, pinned}
use Rattle.definition.specs.History.{planned, all_or_none, granted, was_accepted}
use Rattle.definition.proofs.PickLaws.{indices, nth, nth_all}
use Rattle.definition.proofs.PlanLaws.{tell_number, plan_says}
use Rattle.definition.proofs.IntoPlanLaws.{into_plan}
use Rattle.flat.specs.Flat.{request_size, request_at, requests_from, requests_of, flat_allocate}
use Rattle.flat.proofs.FlatLaws.{request_reads, flat_one}
use Rattle.flat.specs.Pin.{pinned_numbers}
use Rattle.flat.proofs.BackLaws.{pinned_length, grants_length, requests_pinned}
use Rattle.replay.specs.Again.{block, rows_told}
use Rattle.ledger.specs.Ledger.{Entry, entry_at, entries_of}
use Rattle.ledger.proofs.AlongLaws.{Along, along_indices}
use Rattle.ledger.proofs.AlongLaws as L
use Rattle.replay.proofs.BlockLaws.{block_length, block_request, block_record, run_told, told_nth, request_nth}

-- ---- an entry tells of a grant

pub record Tells (e : Entry) (g : Grant) : Type 0 where
  pub long : length e.line ≡ request_size
  pub reads : request_at e.line 0 ≡ pinned g
  pub told : e.told ≡ record_of_grant g
  pub rows : rows_told e.told ≡ g.rows

abbrev pub AllTell : List Entry → List Grant → Type 0
AllTell = Along Tells

pub refused_number : (i : ℕ) (x : Refusal) (s : State) → was_accepted (saying (tell i x) s) ≡ false
unfolding was_accepted
refused_number i x s = T_false (eqb (tell i x).number 0) (λ t. tell_number i x (eqb→eq (tell i x).number 0 t))

-- a plan enters its grants
module _ (rq : List ℕ) (s : State) (out : List ℕ) where
  entry_tells : (gs : List Grant) → plan_run (requests_of rq) s out ≡ done gs → (j : ℕ) → j < length rq / request_size → Tells (entry_at rq (written (records gs) out) j) (nth gs j)
  unfolding requests_of
  entry_tells gs e j l =
      let res : List ℕ = written (records gs) out in
      let xs : List ℕ = pinned_numbers rq res in
      let n : length gs ≡ length rq / request_size = grants_length rq s out gs e in
      let m : length xs ≡ length rq = pinned_length rq res in
      let here : block record_size res j ≡ record_of_grant (nth gs j) = block_record gs (drop (length (records gs)) out) j (omega arith) in
      record {
        long = block_length request_size xs j (omega (arith, m));
        reads = block_request xs j ∙ request_nth xs pinned gs (length xs / request_size) j (requests_pinned rq s out gs e) (n ∙ sym (ap (λ k. k / request_size) m)) (omega (arith, ap (λ k. k / request_size) m));
        told = here;
        rows = ap rows_told here ∙ told_nth gs j (omega arith) (run_told (pools_of s) (requests_of rq) (owners_of s) gs (plan_says (requests_of rq) s out gs e).ran);
      }

  pub plan_tells : AllTell (entries_of rq (plan (requests_of rq) s out)) (granted (planned (requests_of rq) out) s)
  unfolding entries_of plan granted was_accepted
  plan_tells = go (plan_run (requests_of rq) s out) refl
    where
      ends : Run → Lent
      ends v = lent (ended s v) (written (records (grants_of v)) out)

      go : (v : Run) → plan_run (requests_of rq) s out ≡ v → AllTell (elim (was_accepted (ends v).state) [ true ↦ map (entry_at rq (ends v).results) (indices 0 (length rq / request_size)) | false ↦ [] ]) (all_or_none v)
      go (stopped gs x) e = rw (refused_number (length gs) x s) L.none
      go (done gs) e =
          subst (λ hs. AllTell (map (entry_at rq (written (records gs) out)) (indices 0 (length rq / request_size))) hs) (ap (λ m. map (nth gs) (indices 0 m)) (sym (grants_length rq s out gs e)) ∙ nth_all gs)
          (along_indices Tells (entry_at rq (written (records gs) out)) (nth gs) 0 (length rq / request_size) (λ j l. entry_tells gs e j (omega arith)))

-- nothing is entered of what is refused before it is looked at
pub refused_tells : (rq : List ℕ) (x : Refusal) (s : State) (out : List ℕ) → AllTell (entries_of rq (lent (saying (tell 0 x) s) out)) []
unfolding entries_of
refused_tells rq x s out = rw (refused_number 0 x s, entries_of) L.none

-- one request
module _ (xs : List ℕ) (s : State) (out : List ℕ) (long : request_size ≤ length xs) where
  abbrev r : Request
  r = request_at xs 0

  one_read : requests_of (take request_size xs) ≡ r ∷ []
  unfolding requests_of requests_from
  one_read =
      let n : length (take request_size xs) ≡ request_size = omega (arith, length-take request_size xs) in
      ap (λ k. requests_from (take request_size xs) 0 (k / request_size)) n ∙ ap (λ (q : Request). q ∷ []) (request_reads (take request_size xs) xs 0 0 (λ j l. get_or-take request_size xs _ 0 (omega arith)))

  pub one_tells : AllTell (entries_of (take request_size xs) (flat_allocate xs s out)) (granted (planned (r ∷ []) out) s)
  one_tells =
      let is : flat_allocate xs s out ≡ plan (r ∷ []) s out = flat_one xs s out (T_true (leb request_size (length xs)) (le→leb request_size (length xs) long)) ∙ into_plan r s out in
      subst (λ (v : Lent). AllTell (entries_of (take request_size xs) v) (granted (planned (r ∷ []) out) s)) (sym is)
      (subst (λ (rs : List Request). AllTell (entries_of (take request_size xs) (plan rs s out)) (granted (planned rs out) s)) one_read (plan_tells (take request_size xs) s out))
