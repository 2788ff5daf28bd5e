-- No row starts below its kind's floor, whatever calls are made: so no LPI below 8192 ever stands in a pool, a reservation or an owner table. Assumes nothing.
use Rattle.std.specs.Prelude.{◌≡◌, refl, ◌⊎◌, ℕ, ◌≤◌, T, leb}
use Rattle.std.proofs.Common.{inl, inr, leb→le}
use mathlib.Core.List.{List, Memᴰ}
use Rattle.definition.specs.Base.{malformed, Answer, accepted, refused, ◌then◌}
use Rattle.definition.proofs.BaseLaws.{and_l, and_r, either, all_in}
use Rattle.definition.specs.Tables.{first_lpi, Kind, lpi, kinds, nature, Span, Row, floored, good_row, good_span}
use Rattle.definition.specs.Pools.{Claim, spans, admit, held_rows, reserve}
use Rattle.definition.specs.Request.{Request, Use, resolve}
use Rattle.definition.specs.Calls.{State, fresh, pools_of, held_of, owners_of, given, sound, holding, granting, entering, Call, pool, hold, start, want, settle, serve}
use Rattle.definition.specs.Plan.{Run, done, stopped, plan_run, ended, plan}
use Rattle.definition.proofs.RowLaws.{every_kind}
use Rattle.definition.proofs.RequestLaws.{required}
use Rattle.definition.proofs.StateLaws.{GivenFor, for_given, sound_for, for_sound, fresh_sound, admitted_given, serve_given, given_saying, started_sound, want_sound, settle_malformed}
use Rattle.definition.proofs.PlanLaws.{plan_done}

-- no used row of any table starts below its kind's floor
pub record Floored (s : State) : Type 0 where
  pub pools : (u : Use) (k : Kind) (p : Span) → Memᴰ p (pools_of s u k) → (nature k).floor ≤ p.start
  pub held : (k : Kind) (r : Row) → Memᴰ r (held_of s k) → (nature k).floor ≤ r.start
  pub owners : (k : Kind) (r : Row) → Memᴰ r (owners_of s k) → (nature k).floor ≤ r.start

-- what every call keeps: pools and reservations are sound, and no owner row is below its floor (a reservation made after a start leaves owner tables that no longer begin with it, so they need not be sound)
abbrev OwnersHigh : State → Type 0
OwnersHigh s = (k : Kind) (r : Row) → Memᴰ r (owners_of s k) → (nature k).floor ≤ r.start

pub record Stands (s : State) : Type 0 where
  pub given : GivenFor kinds s
  pub owners : OwnersHigh s

row_high : (k : Kind) (r : Row) → T (good_row k r) → (nature k).floor ≤ r.start
unfolding good_row floored
row_high k r g = let l : T (leb (nature k).floor r.start) = search (and_l, and_r) in leb→le (nature k).floor r.start l

span_high : (k : Kind) (p : Span) → T (good_span k p) → (nature k).floor ≤ p.start
unfolding good_span floored
span_high k p g = let l : T (leb (nature k).floor p.start) = search (and_l, and_r) in leb→le (nature k).floor p.start l

pub stands_floored : (s : State) → Stands s → Floored s
stands_floored s h = record {
  pools = λ u k p m. span_high k p (all_in (good_span k) m ((h.given k (every_kind k)).pools u).goods);
  held = λ k r m. row_high k r (all_in (good_row k) m (h.given k (every_kind k)).held.goods);
  owners = h.owners;
}

-- a sound state, and so the fresh one, stands
pub sound_stands : (s : State) → T (sound kinds s) → Stands s
sound_stands s t = record {
  given = λ k m. (sound_for kinds s t k m).given;
  owners = λ k r m. row_high k r (all_in (good_row k) m (sound_for kinds s t k (every_kind k)).owners.goods);
}

pub fresh_stands : Stands fresh
fresh_stands = sound_stands fresh (fresh_sound kinds)

-- ---- FLOOR-KEPT: any call, accepted or refused
pub call_stands : (c : Call) (s : State) → Stands s → Stands (serve kinds c s)
unfolding serve
call_stands c s h = record { given = serve_given kinds c s h.given; owners = go c }
  where
    after_hold : (a : Answer (List Claim)) → OwnersHigh (settle s (a then λ cs. accepted (holding cs s)))
    after_hold (accepted cs) = h.owners
    after_hold (refused x) = h.owners

    after_want : (r : Request) → T (sound kinds s) ⊎ (T (sound kinds s) → ⊥) → OwnersHigh (serve kinds (want r) s)
    after_want r (inl t) = (sound_stands (serve kinds (want r) s) (for_sound kinds (serve kinds (want r) s) (want_sound kinds r s (λ k m. every_kind k) (sound_for kinds s t)))).owners
    after_want r (inr n) = rw (settle_malformed (sound kinds s) s (resolve (pools_of s) (owners_of s) r then λ cs. accepted (granting cs s)) n) h.owners

    go : (d : Call) → OwnersHigh (serve kinds d s)
    go (pool u p) =
        rw (required (given kinds s) malformed (admit (pools_of s u) (spans p) then λ cs. accepted (entering u cs s)) (for_given kinds s h.given), (admitted_given kinds u p s h.given).owners) h.owners
    go (hold o x) = rw (required (given kinds s) malformed (reserve (held_of s) (held_rows o x) then λ cs. accepted (holding cs s)) (for_given kinds s h.given)) (after_hold (reserve (held_of s) (held_rows o x)))
    go start = (sound_stands (serve kinds start s) (for_sound kinds (serve kinds start s) (started_sound kinds s h.given))).owners
    go (want r) = after_want r (either (sound kinds s))

-- .. and any plan
pub plan_stands : (rs : List Request) (s : State) (out : List ℕ) → Stands s → Stands (plan rs s out).state
unfolding plan
plan_stands rs s out h = go (plan_run rs s out) refl
  where
    go : (v : Run) → plan_run rs s out ≡ v → Stands (ended s v)
    go (done gs) e = sound_stands _ (for_sound kinds _ (λ k m. (plan_done rs s out gs e k).0))
    go (stopped gs x) e = record { given = λ k m. given_saying _ s k (h.given k m); owners = h.owners }

-- so it is in every history: calls and plans in any order, from tables as they are fresh
pub data History : State → Type 0 where
  anew : History fresh
  called : {s : State} (c : Call) → History s → History (serve kinds c s)
  planned : {s : State} (rs : List Request) (out : List ℕ) → History s → History (plan rs s out).state

pub floor_kept : (s : State) → History s → Floored s
floor_kept s h = stands_floored s (go s h)
  where
    go : (s : State) → History s → Stands s
    go s anew = fresh_stands
    go s (called {s = t} c x) = call_stands c t (go t x)
    go s (planned {s = t} rs out x) = plan_stands rs t out (go t x)

-- THE OWNER'S LPIs: none below 8192
pub lpis_high : (s : State) → History s → (r : Row) → Memᴰ r (owners_of s lpi) → first_lpi ≤ r.start
lpis_high s h r m = (floor_kept s h).owners lpi r m
