-- A granted request's record is the definition's. Assumes nothing.
use mathlib.Core.Path.{◌≡◌, refl}
use mathlib.Core.List.{List}
use Rattle.definition.specs.Pools.{Claim}
use Rattle.definition.specs.Plan.{grant, record_of_grant}
use Rattle.request.specs.Asked.{want_of, request_of}
use Rattle.request.specs.declared.Want.{Want}
use Rattle.request.specs.declared.Want.TheVariants.{Mmio, Pio, Input, Host, Msi}
use Rattle.request.specs.declared.Request.{Request}
use Rattle.decide.specs.Outcome.{firsts_in}
use Rattle.allocation.specs.Records.{record_for, record_in}

pub record_granted : (r : Request) (cs : List Claim) → record_in r (firsts_in (want_of r.want) cs) ≡ record_of_grant (grant (request_of r) cs)
unfolding record_of_grant
record_granted r cs = go r.want
  where
    go : (w : Want) → record_for r (firsts_in (want_of w) cs) w ≡ record_of_grant (grant (record { requester = r.requester; slot = r.slot; want = want_of w }) cs)
    go (Mmio s a c) = refl
    go (Pio s a c) = refl
    go (Input k t s c) = refl
    go (Host c) = refl
    go (Msi k i n d e l) = refl
