-- A `want` line is the definition's call, and an accepted one leaves the call's nine numbers. Assumes nothing.
use mathlib.Core.Path.{◌≡◌, refl, ap}
use mathlib.Core.Bool.{Bool, true, false}
use mathlib.Core.List.{List}
use Prim.Native.Nat.{ℕ}
use lib.ListN.{replicate}
use Rattle.definition.specs.Tables.{record_size, kinds}
use Rattle.definition.specs.Base.{malformed, tell, Answer, accepted, refused, require, ◌then◌}
use Rattle.definition.specs.Pools.{Claim}
use Rattle.definition.specs.Request.{Want, mmio_want, pio_want, input_want, host_want, msi_want, Request, resolve}
use Rattle.definition.specs.Calls.{State, pools_of, owners_of, sound, saying, granting, want, settle, serve}
use Rattle.definition.specs.Plan.{grant, record_of, record_of_grant, written, Lent, lent, allocate_into}

-- the results list that a want is lent
abbrev blank : List ℕ
blank = replicate record_size 0

-- the state afterwards is the one that the call `want` leaves
pub want_serves : (r : Request) (s : State) → (allocate_into kinds r s blank).state ≡ serve kinds (want r) s
unfolding allocate_into serve require
want_serves r s = go (sound kinds s) (resolve (pools_of s) (owners_of s) r)
  where
    went : Answer (List Claim) → Lent
    went a = elim a [ accepted cs ↦ lent (granting cs s) (written (record_of_grant (grant r cs)) blank) | refused x ↦ lent (saying (tell 0 x) s) blank ]

    go : (b : Bool) (a : Answer (List Claim)) → (went (require b malformed a)).state ≡ settle s (require b malformed (a then λ cs. accepted (granting cs s)))
    go false a = refl
    go true (accepted cs) = refl
    go true (refused x) = refl

record_whole : (q s : ℕ) (w : Want) (cs : List Claim) → written (record_of q s w cs) blank ≡ record_of q s w cs
record_whole q s (mmio_want n a c) cs = refl
record_whole q s (pio_want n a c) cs = refl
record_whole q s (input_want k t h c) cs = refl
record_whole q s (host_want c) cs = refl
record_whole q s (msi_want k i n d e l) cs = refl

-- an accepted want leaves its record, and nothing else
pub want_record : (r : Request) (s : State) (cs : List Claim) → sound kinds s ≡ true → resolve (pools_of s) (owners_of s) r ≡ accepted cs
    → allocate_into kinds r s blank ≡ lent (granting cs s) (record_of_grant (grant r cs))
unfolding allocate_into require record_of_grant
want_record r s cs e h = rw (e, h, allocate_into) (ap (λ (l : List ℕ). lent (granting cs s) l) (record_whole r.requester r.slot r.want cs))
