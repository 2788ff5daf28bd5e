-- The tables' test before the answer, as the definition's calls have it. Assumes nothing.
use mathlib.Core.Path.{◌≡◌, refl, ◌∙◌, ap, ap₂}
use mathlib.Core.Bool.{true, false}
use mathlib.Core.List.{List}
use Prim.Native.Nat.{ℕ, ◌<◌, ◌≤◌}
use lib.ListN.{length}
use Rattle.std.specs.Prelude.{Some, None}
use borrow.Author.Tests.{lt-leb, le-leb}
use Rattle.definition.specs.Tables.{record_size, Kind}
use Rattle.definition.specs.Base.{Refusal, malformed, short, tell, Answer, accepted, refused, require}
use Rattle.definition.specs.Pools.{Claim}
use Rattle.definition.specs.Request.{Want, Request, resolve}
use Rattle.definition.specs.Calls.{State, pools_of, owners_of, sound, saying, granting, want, serve}
use Rattle.definition.specs.Plan.{grant, record_of_grant, written, lent, allocate_into}
use Rattle.decide.specs.Outcome.{firsts_in, bases_in, after}
use Rattle.decide.specs.declared.Bases.{Bases}

module _ (ks : List Kind) (r : Request) (v : State) where
  pub serve_unsound : sound ks v ≡ false → saying (tell 0 malformed) v ≡ serve ks (want r) v
  unfolding serve require
  serve_unsound e = rw e

  pub serve_sound : sound ks v ≡ true → after v (resolve (pools_of v) (owners_of v) r) ≡ serve ks (want r) v
  unfolding serve require
  serve_sound e = rw e

  module _ (out : List ℕ) where
    pub into_unsound : sound ks v ≡ false → lent (saying (tell 0 malformed) v) out ≡ allocate_into ks r v out
    unfolding allocate_into require
    into_unsound e = rw (e, allocate_into)

    pub into_short : sound ks v ≡ true → length out < record_size → lent (saying (tell 0 short) v) out ≡ allocate_into ks r v out
    unfolding allocate_into require
    into_short e l = rw (e, lt-leb record_size (length out) l, allocate_into)

    pub into_refused : sound ks v ≡ true → record_size ≤ length out → (y : Refusal) → resolve (pools_of v) (owners_of v) r ≡ refused y → lent (saying (tell 0 y) v) out ≡ allocate_into ks r v out
    unfolding allocate_into require
    into_refused e l y h = rw (e, le-leb record_size (length out) l, h, allocate_into)

    pub into_granted : sound ks v ≡ true → record_size ≤ length out → (cs : List Claim) → resolve (pools_of v) (owners_of v) r ≡ accepted cs
        → lent (granting cs v) (written (record_of_grant (grant r cs)) out) ≡ allocate_into ks r v out
    unfolding allocate_into require
    into_granted e l cs h = rw (e, le-leb record_size (length out) l, h, allocate_into)

-- ---- which way an answer went, by the numbers kept of it

pub was_accepted_is : (w : Want) (a : Answer (List Claim)) (b : Bases) → Some b ≡ bases_in w a → (cs : List Claim) × (a ≡ accepted cs) × (b ≡ firsts_in w cs)
was_accepted_is w (accepted cs) b e = (cs, refl, (cc))
was_accepted_is w (refused y) b e = absurd (cc)

pub was_refused : (w : Want) (a : Answer (List Claim)) → None ≡ bases_in w a → (y : Refusal) × (a ≡ refused y)
was_refused w (accepted cs) e = absurd (cc)
was_refused w (refused y) e = (y, refl)

module _ (ks : List Kind) (r : Request) (v t : State) (out : List ℕ) (s : sound ks v ≡ true) (l : record_size ≤ length out)
    (is : t ≡ after v (resolve (pools_of v) (owners_of v) r)) where
  pub into_kept : None ≡ bases_in r.want (resolve (pools_of v) (owners_of v) r) → lent t out ≡ allocate_into ks r v out
  into_kept h =
      let (y, e) = was_refused r.want (resolve (pools_of v) (owners_of v) r) h in
      ap (λ x. lent x out) (is ∙ ap (after v) e) ∙ into_refused ks r v out s l y e

  pub into_written : (b : Bases) (xs out' : List ℕ) → Some b ≡ bases_in r.want (resolve (pools_of v) (owners_of v) r)
      → ((cs : List Claim) → b ≡ firsts_in r.want cs → xs ≡ record_of_grant (grant r cs)) → out' ≡ written xs out → lent t out' ≡ allocate_into ks r v out
  into_written b xs out' h f w =
      let (cs, e, z) = was_accepted_is r.want (resolve (pools_of v) (owners_of v) r) b h in
      ap₂ lent (is ∙ ap (after v) e) (w ∙ ap (λ x. written x out) (f cs z)) ∙ into_granted ks r v out s l cs e
