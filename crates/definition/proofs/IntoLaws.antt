-- Laws of one request that writes its record: what an answer makes of the tables and the results list, and that it is the request alone where the record has room. Assumes nothing.
use Rattle.std.specs.Prelude.{◌≡◌, Bool, List, ℕ, ◌≤◌, ◌<◌, length, T, leb}
use Rattle.std.proofs.Math.Path.{refl}
use Rattle.std.proofs.Math.Bool.{true, false}
use Rattle.std.proofs.Common.{arith, le→leb}
use Rattle.std.proofs.Math.Dec.{leb→le}
use Rattle.definition.specs.Base.{Refusal, malformed, short, tell, Answer, accepted, refused, require, ◌then◌}
use Rattle.definition.proofs.BaseLaws.{T_false}
use Rattle.definition.specs.Tables.{record_size, Kind}
use Rattle.definition.specs.Pools.{Claim}
use Rattle.definition.specs.Request.{Request, resolve}
use Rattle.definition.specs.Calls.{State, pools_of, owners_of, sound, saying, granting, want, settle, serve}
use Rattle.definition.specs.Plan.{grant, record_of_grant, written, Lent, lent, allocate_into}
use Rattle.definition.proofs.RequestLaws.{required}

-- the answer of such a request: 1, 11, then the request's own
abbrev pub into_answer : List Kind → Request → State → List ℕ → Answer (List Claim)
into_answer ks r s out = require (sound ks s) malformed (require (leb record_size (length out)) short (resolve (pools_of s) (owners_of s) r))

module _ (r : Request) (s : State) (out : List ℕ) where
  -- what an answer makes of the tables and of the results list
  abbrev pub into_end : Answer (List Claim) → Lent
  into_end (accepted cs) = lent (granting cs s) (written (record_of_grant (grant r cs)) out)
  into_end (refused x) = lent (saying (tell 0 x) s) out

  pub into_is : (ks : List Kind) → allocate_into ks r s out ≡ into_end (into_answer ks r s out)
  unfolding allocate_into
  into_is ks = go (into_answer ks r s out)
    where
      go : (a : Answer (List Claim)) → elim a [ accepted cs ↦ lent (granting cs s) (written (record_of_grant (grant r cs)) out) | refused x ↦ lent (saying (tell 0 x) s) out ] ≡ into_end a
      go (accepted cs) = refl
      go (refused x) = refl

  -- a refused one changes no table, and no number of the results list
  pub into_same : (ks : List Kind) → ((allocate_into ks r s out).state.said.number ≡ 0 → ⊥) → (x : Refusal) × (allocate_into ks r s out ≡ lent (saying (tell 0 x) s) out)
  into_same ks = rw (into_is ks) (go (into_answer ks r s out))
    where
      go : (a : Answer (List Claim)) → ((into_end a).state.said.number ≡ 0 → ⊥) → (x : Refusal) × (into_end a ≡ lent (saying (tell 0 x) s) out)
      go (accepted cs) u = absurd (u refl)
      go (refused x) u = (x, refl)

  -- with room for its nine numbers, the tables and the answer are those of the request alone
  pub into_serve : (ks : List Kind) → record_size ≤ length out → (allocate_into ks r s out).state ≡ serve ks (want r) s
  unfolding serve require
  into_serve ks long =
      rw (into_is ks, required (leb record_size (length out)) short (resolve (pools_of s) (owners_of s) r) (le→leb record_size (length out) long))
      (go (sound ks s) (resolve (pools_of s) (owners_of s) r))
    where
      go : (b : Bool) (a : Answer (List Claim)) → (into_end (require b malformed a)).state ≡ settle s (require b malformed (a then λ cs. accepted (granting cs s)))
      go false a = refl
      go true (accepted cs) = refl
      go true (refused x) = refl

  -- without it, sound tables are answered 11
  pub into_short : (ks : List Kind) → T (sound ks s) → length out < record_size → allocate_into ks r s out ≡ lent (saying (tell 0 short) s) out
  unfolding require
  into_short ks t few =
      rw (
        into_is ks,
        required (sound ks s) malformed (require (leb record_size (length out)) short (resolve (pools_of s) (owners_of s) r)) t,
        T_false (leb record_size (length out)) (λ h. omega (arith, leb→le record_size (length out) h)),
      )
