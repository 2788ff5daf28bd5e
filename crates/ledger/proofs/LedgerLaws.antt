-- DEMAND 3 OVER HISTORIES OF THE CALLS: the ledger's entries tell of the live lines, so any of them, run as one plan, get what they had. Assumes nothing.
use mathlib.Core.Path.{◌≡◌, refl, sym, subst, ap, ◌∙◌}
use mathlib.Core.Bool.{not, ◌&&◌}
use mathlib.Core.List.{List, [], ◌∷◌, ◌++◌, map}
use Prim.Native.Nat.{ℕ, ◌*◌}
use native.Mathlib.Omega.{arith}
use lib.ListN.{length, length-append}
use Rattle.definition.specs.Base.{only_of}
use Rattle.definition.specs.Tables.{Kind, kinds}
use Rattle.definition.specs.Pools.{rows_of}
use Rattle.definition.specs.Calls.{State, held_of, owners_of, start, serve, granting, starting}
use Rattle.definition.specs.Plan.{Grant, records, written, Lent, lent, all_rows, plan, pinned}
use Rattle.definition.specs.History.{Step, PoolsStay, HeldStay, granted, takes, outlives, live}
use Rattle.definition.proofs.ReplayLaws.{Pick}
use Rattle.definition.proofs.LiveLaws.{LiveAgain, live_replay, live_replay_rows}
use Rattle.flat.specs.Flat.{request_size, requests_from, requests_of, flat_plan}
use Rattle.flat.proofs.FlatLaws.{flat_whole}
use Rattle.flat.proofs.StoreLaws.{requests_cons}
use Rattle.ledger.specs.Ledger.{Call, after, PoolsRest, HeldRest, Entry, remains, ledger, lines_of, records_of, rows_by, LedgerAgain}
use Rattle.ledger.proofs.AlongLaws.{with, along_append, along_only, along_length, pick_along}
use Rattle.ledger.proofs.AlongLaws as L
use Rattle.replay.proofs.AgainLaws.{whole_length}
use Rattle.ledger.proofs.EntryLaws.{Tells, AllTell}
use Rattle.ledger.proofs.MeansLaws.{means}

-- ---- the steps that calls mean

abbrev pub meant_by : List Call → State → List Step
meant_by [] s = []
meant_by (x ∷ xs) s = (means x s).means ∷ meant_by xs (after x s)

pools_stay : (xs : List Call) (s : State) → PoolsRest xs s → PoolsStay (meant_by xs s) s
pools_stay [] s p = tt
pools_stay (x ∷ xs) s (p, ps) = subst (λ (z : State). (z.pools ≡ s.pools) × PoolsStay (meant_by xs (after x s)) z) (sym (means x s).same) (p, pools_stay xs (after x s) ps)

held_stay : (xs : List Call) (s : State) → HeldRest xs s → HeldStay (meant_by xs s) s
held_stay [] s p = tt
held_stay (x ∷ xs) s (p, ps) = subst (λ (z : State). (z.held ≡ s.held) × HeldStay (meant_by xs (after x s)) z) (sym (means x s).same) (p, held_stay xs (after x s) ps)

-- an entry remains where its line outlives
remains_is : (xs : List Call) (s : State) (e : Entry) (g : Grant) → Tells e g → remains xs s e ≡ outlives (meant_by xs s) s g
unfolding remains outlives
remains_is [] s e g t = refl
remains_is (x ∷ xs) s e g t =
    (λ i. not ((means x s).strike e g t i) && remains_is xs (after x s) e g t i) ∙ ap (λ (z : State). not (takes (means x s).means s g) && outlives (meant_by xs (after x s)) z g) (sym (means x s).same)

-- THE LEDGER TELLS OF THE LIVE LINES, one by one and in their order
pub ledger_tells : (xs : List Call) (s : State) → AllTell (ledger xs s) (live (meant_by xs s) s)
unfolding ledger live
ledger_tells [] s = L.none
ledger_tells (x ∷ xs) s =
    subst (λ (z : State). AllTell (ledger (x ∷ xs) s) (only_of (outlives (meant_by xs (after x s)) z) (granted (means x s).means s) ++ live (meant_by xs (after x s)) z)) (sym (means x s).same)
    (along_append Tells (along_only Tells (remains xs (after x s)) (outlives (meant_by xs (after x s)) (after x s)) (λ e g t. remains_is xs (after x s) e g t) (means x s).enter) (ledger_tells xs (after x s)))

-- ---- some entries as one plan

lines_length : {es : List Entry} {ps : List Grant} → AllTell es ps → length (lines_of es) ≡ request_size * length es
unfolding lines_of
lines_length L.none = omega arith
lines_length (with {x = e} {xs = es} t a) = let below = lines_length a in omega (arith, length-append e.line (lines_of es), t.long)

lines_read : {es : List Entry} {ps : List Grant} → AllTell es ps → requests_of (lines_of es) ≡ map pinned ps
unfolding lines_of requests_of requests_from
lines_read L.none = refl
lines_read (with {x = e} {xs = es} t a) = requests_cons e.line (lines_of es) t.long ∙ (λ i. t.reads i ∷ lines_read a i)

records_are : {es : List Entry} {ps : List Grant} → AllTell es ps → records_of es ≡ records ps
unfolding records_of records
records_are L.none = refl
records_are (with t a) = λ i. t.told i ++ records_are a i

rows_are : {es : List Entry} {ps : List Grant} → AllTell es ps → rows_by es ≡ all_rows ps
unfolding rows_by
rows_are L.none = refl
rows_are (with t a) = λ i. t.rows i ++ rows_are a i

-- ---- the theorem

module _ (s t : State) (xs : List Call) (es : List Entry) (out : List ℕ) (a : LedgerAgain s t xs es out) where
  abbrev the : (ps : List Grant) × Pick ps (live (meant_by xs (serve kinds start s)) (serve kinds start s)) × AllTell es ps
  the = pick_along Tells a.picked (ledger_tells xs (serve kinds start s))

  abbrev ps : List Grant
  ps = the.0

  tells : AllTell es ps
  tells = the.2

  live_again : LiveAgain s t (meant_by xs (serve kinds start s)) ps out
  live_again =
      let n : length es ≡ length ps = along_length Tells tells in
      record {
        was_started = a.was_started;
        inside = a.inside;
        pools_stay = pools_stay xs (serve kinds start s) a.pools_rest;
        held_stay = held_stay xs (serve kinds start s) a.held_rest;
        picked = the.1;
        few = omega (arith, a.few);
        same_pools = a.same_pools;
        same_held = a.same_held;
        long = omega (arith, a.long);
      }

  as_plan : flat_plan (lines_of es) (serve kinds start t) out ≡ plan (map pinned ps) (serve kinds start t) out
  as_plan = flat_whole (lines_of es) (serve kinds start t) out (whole_length (lines_of es) (length es) (lines_length tells)) ∙ ap (λ rs. plan rs (serve kinds start t) out) (lines_read tells)

  -- DEMAND 3 FOR THE CALLS THAT SHIP: the five numbers are 0, each entry gets the nine numbers that it had and nothing is written past them, and each owner table is
  -- its reservation table with the rows that those numbers tell of pushed to its end in the order run
  pub ledger_replay : flat_plan (lines_of es) (serve kinds start t) out ≡ lent (granting (rows_by es) (starting s)) (written (records_of es) out)
  ledger_replay =
      as_plan ∙ live_replay s t (meant_by xs (serve kinds start s)) ps out live_again ∙ (λ i. lent (granting (sym (rows_are tells) i) (starting s)) (written (sym (records_are tells) i) out))

  -- .. so the tables hold the reservations and those rows, and nothing else
  pub ledger_replay_rows : (k : Kind) → owners_of (flat_plan (lines_of es) (serve kinds start t) out).state k ≡ held_of s k ++ rows_of k (rows_by es)
  ledger_replay_rows k =
      ap (λ (v : Lent). owners_of v.state k) as_plan ∙ live_replay_rows s t (meant_by xs (serve kinds start s)) ps out live_again k ∙ ap (λ cs. held_of s k ++ rows_of k cs) (sym (rows_are tells))
