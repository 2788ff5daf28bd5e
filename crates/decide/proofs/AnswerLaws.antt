-- From what a kind's choice says to the definition's answer. Assumes nothing.
use mathlib.Core.Path.{◌≡◌, refl, ◌∙◌, ap}
use mathlib.Core.Bool.{Bool, true, false, ◌&&◌}
use mathlib.Core.List.{List, [], ◌∷◌}
use Prim.Native.Nat.{ℕ}
use lib.Dec.{ltb}
use lib.ListN.{length}
use Rattle.definition.specs.Base.{all_of, bad_input, full, Answer, accepted, refused, require, ◌then◌}
use Rattle.definition.specs.Tables.{row_limit, Kind, Row}
use Rattle.definition.specs.Pools.{at_kind, Holders, Claim, room}
use Rattle.definition.specs.Request.{Need, Pools, automatic, fixed, one, claims, good_request, resolve}
use Rattle.definition.specs.Request as R
use Rattle.definition.specs.Calls.{pools_of, owners_of}
use Rattle.definition.specs.Calls as C
use Rattle.choose.specs.Told.{place_in, roomed, chosen_in}
use Rattle.msi.proofs.ChainLaws.{place_in_is}
use Rattle.decide.specs.Outcome.{claimed}

-- a kind's row as a claim
abbrev pub claim_of : Kind → Answer Row → Answer (List Claim)
claim_of k a = a then λ r. accepted (at_kind k r ∷ [])

room_one : (k : Kind) (b : Bool) (r : Row) → require (b && true) full (accepted (at_kind k r ∷ [])) ≡ claim_of k (require b full (accepted r))
unfolding require
room_one k true r = refl
room_one k false r = refl

-- one row: the choice over the kind's lists is the definition's answer
pub one_is : (P : Pools) (S : Holders) (n : Need) (c : R.Choice)
    → (one P S n c then λ cs. require (room S cs) full (accepted cs)) ≡ claim_of n.kind (chosen_in (P automatic n.kind) (P fixed n.kind) (S n.kind) n c)
unfolding roomed room all_of
one_is P S n c = rw (place_in_is P S n c) (go (place_in (P automatic n.kind) (P fixed n.kind) (S n.kind) n c))
  where
    go : (a : Answer Row) → ((a then λ r. accepted (at_kind n.kind r ∷ [])) then λ cs. require (all_of (λ c. ltb (length (S c.kind)) row_limit) cs) full (accepted cs)) ≡ claim_of n.kind (a then λ r. require (ltb (length (S n.kind)) row_limit) full (accepted r))
    go (accepted r) = room_one n.kind (ltb (length (S n.kind)) row_limit) r
    go (refused y) = refl

-- ---- the whole request

pub resolve_bad : (P : Pools) (S : Holders) (r : R.Request) → good_request r ≡ false → resolve P S r ≡ refused bad_input
unfolding resolve require
resolve_bad P S r e = rw e

pub resolve_good : (v : C.State) (r : R.Request) → good_request r ≡ true → resolve (pools_of v) (owners_of v) r ≡ claimed v r.requester r.want
unfolding resolve require
resolve_good v r e = rw e

pub one_claimed : (v : C.State) (q : ℕ) (w : R.Want) (n : Need) (c : R.Choice) → claims (pools_of v) (owners_of v) q w ≡ one (pools_of v) (owners_of v) n c
    → claimed v q w ≡ claim_of n.kind (chosen_in (pools_of v automatic n.kind) (pools_of v fixed n.kind) (owners_of v n.kind) n c)
one_claimed v q w n c e = ap (λ a. a then λ cs. require (room (owners_of v) cs) full (accepted cs)) e ∙ one_is (pools_of v) (owners_of v) n c
