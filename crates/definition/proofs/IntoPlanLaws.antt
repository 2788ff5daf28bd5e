-- One request that writes its record is a plan of one request: so it keeps tables sound, and each table grows by its row. Assumes nothing.
use Rattle.std.specs.Prelude.{◌≡◌, Bool, List, [], ◌∷◌, ℕ, ◌+◌, ◌≤◌, length, T, leb}
use Rattle.std.proofs.Math.Path.{refl, ap}
use Rattle.std.proofs.Common.{sym, ◌∙◌, append-nil, le→leb}
use Rattle.std.proofs.Math.Bool.{true, false}
use native.Mathlib.Omega.{arith}
use Rattle.definition.specs.Base.{malformed, short, Answer, accepted, refused, require}
use Rattle.definition.specs.Tables.{record_size, Kind, mmio, pio, input, host, device, event, lpi, kinds, same_kind}
use Rattle.definition.specs.Pools.{Claim, rows_of}
use Rattle.definition.specs.Request.{Want, mmio_want, pio_want, input_want, host_want, msi_want, Request, kinds_of, resolve}
use Rattle.definition.specs.Calls.{State, pools_of, owners_of, sound, want}
use Rattle.definition.specs.Plan.{grant, Run, done, stopped, run, record_of_grant, records, written, Lent, lent, allocate_into, roomy, at_once, plan_run, grants_of, ended, plan}
use Rattle.definition.proofs.RequestLaws.{required}
use Rattle.definition.proofs.PlanLaws.{plan_sound}
use Rattle.definition.specs.History.{called, allocated, planned, grant_of, all_or_none, granted, among, asked_of}
use Rattle.definition.proofs.TableLaws.{push_count}
use Rattle.definition.proofs.GrantLaws.{resolve_bears, bear_rows}
use Rattle.definition.proofs.IntoLaws.{into_end, into_is}

module _ (r : Request) (s : State) (out : List ℕ) where
  abbrev ran : Answer (List Claim) → Run
  ran a = elim a [ accepted cs ↦ done (grant r cs ∷ []) | refused x ↦ stopped [] x ]

  -- a plan of one request
  pub into_plan : allocate_into kinds r s out ≡ plan (r ∷ []) s out
  unfolding plan plan_run roomy run records require
  into_plan = rw (into_is r s out kinds) (go (sound kinds s) (leb record_size (length out)) (resolve (pools_of s) (owners_of s) r))
    where
      ending : Run → Lent
      ending v = lent (ended s v) (written (records (grants_of v)) out)

      go : (b c : Bool) (a : Answer (List Claim)) → into_end r s out (require b malformed (require c short a)) ≡ ending (at_once (require b malformed (require c short (accepted (ran a)))))
      go false c a = refl
      go true false a = refl
      go true true (accepted cs) = rw (append-nil cs, append-nil (record_of_grant (grant r cs)))
      go true true (refused x) = refl

  -- .. so what it grants is what the plan grants; and so is what one request grants that writes no record
  pub into_granted : granted (allocated r out) s ≡ granted (planned (r ∷ []) out) s
  unfolding granted plan_run roomy run require
  into_granted = go (sound kinds s) (leb record_size (length out)) (resolve (pools_of s) (owners_of s) r)
    where
      go : (b c : Bool) (a : Answer (List Claim)) → grant_of r (require b malformed (require c short a)) ≡ all_or_none (at_once (require b malformed (require c short (accepted (ran a)))))
      go false c a = refl
      go true false a = refl
      go true true (accepted cs) = refl
      go true true (refused x) = refl

  pub want_granted : record_size ≤ length out → granted (called (want r)) s ≡ granted (planned (r ∷ []) out) s
  unfolding granted require
  want_granted l =
      ap (λ (a : Answer (List Claim)). grant_of r (require (sound kinds s) malformed a)) (sym (required (leb record_size (length out)) short (resolve (pools_of s) (owners_of s) r) (le→leb record_size (length out) l))) ∙ into_granted

  -- accepted or refused, sound tables stay sound
  pub into_sound : T (sound kinds s) → T (sound kinds (allocate_into kinds r s out).state)
  into_sound t = rw into_plan (plan_sound (r ∷ []) s out t)

  -- each owner table grows by the row of its kind, where the request is accepted and needs one
  pub into_count : (k : Kind) → ((allocate_into kinds r s out).state.owners k).count ≡ (s.owners k).count + asked_of k (granted (allocated r out) s)
  unfolding granted asked_of require
  into_count k = rw (into_is r s out kinds) (go (sound kinds s) (leb record_size (length out)) (resolve (pools_of s) (owners_of s) r) refl)
    where
      go : (b c : Bool) (a : Answer (List Claim)) → resolve (pools_of s) (owners_of s) r ≡ a
          → ((into_end r s out (require b malformed (require c short a))).state.owners k).count ≡ (s.owners k).count + asked_of k (grant_of r (require b malformed (require c short a)))
      go false c a e = omega arith
      go true false a e = omega arith
      go true true (refused x) e = omega arith
      go true true (accepted cs) e = omega (arith, push_count (s.owners k) (rows_of k cs), bear_rows k (resolve_bears (pools_of s) (owners_of s) r cs e))

bit : (b : Bool) → elim b [ true ↦ 1 | false ↦ 0 ] ≤ 1
bit true = omega arith
bit false = omega arith

-- .. which is one row at most
pub among_one : (k : Kind) (w : Want) → among k (kinds_of w) ≤ 1
unfolding among same_kind
among_one k (mmio_want s a c) = bit (same_kind mmio k)
among_one k (pio_want s a c) = bit (same_kind pio k)
among_one k (input_want c t h x) = bit (same_kind input k)
among_one k (host_want c) = bit (same_kind host k)
among_one mmio (msi_want c i n d e l) = omega arith
among_one pio (msi_want c i n d e l) = omega arith
among_one input (msi_want c i n d e l) = omega arith
among_one host (msi_want c i n d e l) = omega arith
among_one device (msi_want c i n d e l) = omega arith
among_one event (msi_want c i n d e l) = omega arith
among_one lpi (msi_want c i n d e l) = omega arith
