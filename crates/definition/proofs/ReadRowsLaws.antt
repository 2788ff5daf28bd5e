-- What an answer reads, with what is granted: two sound states that agree on what is read get the same rows, or the same refusal, and the same record. Assumes nothing.
use Rattle.std.specs.Prelude.{◌≡◌, List, ℕ, length, T, leb}
use Rattle.definition.specs.Base.{Refusal, malformed, short, tell, Answer, accepted, refused, require, ◌then◌}
use Rattle.definition.specs.Tables.{record_size, Kind}
use Rattle.definition.specs.Pools.{Claim}
use Rattle.definition.specs.Request.{Request, resolve}
use Rattle.definition.specs.Calls.{State, pools_of, owners_of, sound, saying, granting, want, settle, serve}
use Rattle.definition.specs.Plan.{grant, record_of_grant, written, Lent, lent, allocate_into}
use Rattle.definition.proofs.RequestLaws.{required}
use Rattle.definition.proofs.ReadLaws.{ReadsFor, resolve_reads}
use Rattle.definition.proofs.IntoLaws.{into_end, into_is}

-- the same rows are added to both, or the same refusal leaves both
pub data BothServed (s t : State) : State → State → Type 0 where
  same_rows : (cs : List Claim) → BothServed s t (granting cs s) (granting cs t)
  same_refusal : (x : Refusal) → BothServed s t (saying (tell 0 x) s) (saying (tell 0 x) t)

-- .. and the same record is written, or none
pub data BothLent (r : Request) (s t : State) (out out' : List ℕ) : Lent → Lent → Type 0 where
  same_record : (cs : List Claim) → BothLent r s t out out' (lent (granting cs s) (written (record_of_grant (grant r cs)) out)) (lent (granting cs t) (written (record_of_grant (grant r cs)) out'))
  no_record : (x : Refusal) → BothLent r s t out out' (lent (saying (tell 0 x) s) out) (lent (saying (tell 0 x) t) out')

module _ (ks : List Kind) (r : Request) (s t : State) (hs : T (sound ks s)) (ht : T (sound ks t)) (same : ReadsFor (pools_of s) (pools_of t) (owners_of s) (owners_of t) r.requester r.want) where
  pub serve_reads_rows : BothServed s t (serve ks (want r) s) (serve ks (want r) t)
  unfolding serve
  serve_reads_rows =
      rw (
        required (sound ks s) malformed (resolve (pools_of s) (owners_of s) r then λ cs. accepted (granting cs s)) hs,
        required (sound ks t) malformed (resolve (pools_of t) (owners_of t) r then λ cs. accepted (granting cs t)) ht,
        resolve_reads (pools_of s) (pools_of t) (owners_of s) (owners_of t) r same,
      )
      (go (resolve (pools_of t) (owners_of t) r))
    where
      go : (a : Answer (List Claim)) → BothServed s t (settle s (a then λ cs. accepted (granting cs s))) (settle t (a then λ cs. accepted (granting cs t)))
      go (accepted cs) = same_rows cs
      go (refused x) = same_refusal x

  -- the request that writes its record, with two lists that both have room for it or both have not
  pub into_reads : (out out' : List ℕ) → leb record_size (length out) ≡ leb record_size (length out') → BothLent r s t out out' (allocate_into ks r s out) (allocate_into ks r t out')
  into_reads out out' long =
      rw (
        into_is r s out ks,
        into_is r t out' ks,
        required (sound ks s) malformed (require (leb record_size (length out)) short (resolve (pools_of s) (owners_of s) r)) hs,
        required (sound ks t) malformed (require (leb record_size (length out')) short (resolve (pools_of t) (owners_of t) r)) ht,
        resolve_reads (pools_of s) (pools_of t) (owners_of s) (owners_of t) r same,
        long,
      )
      (go (require (leb record_size (length out')) short (resolve (pools_of t) (owners_of t) r)))
    where
      go : (a : Answer (List Claim)) → BothLent r s t out out' (into_end r s out a) (into_end r t out' a)
      go (accepted cs) = same_record cs
      go (refused x) = no_record x
