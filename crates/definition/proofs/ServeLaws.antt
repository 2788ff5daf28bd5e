-- A request on sound tables does with the state what its answer says, and a table's count says whether a row is free: so the sentences on answers speak of the state. Assumes nothing.
use Rattle.std.specs.Prelude.{not, ℕ, ◌<◌, length, T}
use mathlib.Core.List.{List, Memᴰ}
use Rattle.std.proofs.Common.{arith}
use Rattle.definition.specs.Base.{Refusal, malformed, tell, Answer, accepted, refused, ◌then◌}
use Rattle.definition.specs.Tables.{row_limit, Kind, device, event, lpi, kinds, same_row, blank_row, good_row, clash}
use Rattle.definition.specs.Pools.{Claim}
use Rattle.definition.specs.Request.{auto, msi_want, Request, good_request, resolve}
use Rattle.definition.specs.Calls.{State, pools_of, owners_of, sound, saying, granting, want, settle, serve}
use Rattle.definition.proofs.RowLaws.{every_kind}
use Rattle.definition.proofs.RequestLaws.{required}
use Rattle.definition.proofs.TableLaws.{table_length}
use Rattle.definition.proofs.StateLaws.{sound_for}
use Rattle.definition.proofs.AutoLaws.{asks}
use Rattle.definition.proofs.MsiLaws.{MsiSays, msi_says}

-- the rows are added, or the refusal's numbers alone change
pub data Served (s : State) : Answer (List Claim) → State → Type 0 where
  granted : (cs : List Claim) → Served s (accepted cs) (granting cs s)
  turned_down : (x : Refusal) → Served s (refused x) (saying (tell 0 x) s)

module _ (ks : List Kind) (s : State) (sounds : T (sound ks s)) where
  pub serve_says : (r : Request) → Served s (resolve (pools_of s) (owners_of s) r) (serve ks (want r) s)
  unfolding serve
  serve_says r =
      rw (required (sound ks s) malformed (resolve (pools_of s) (owners_of s) r then λ cs. accepted (granting cs s)) sounds) (go (resolve (pools_of s) (owners_of s) r))
    where
      go : (a : Answer (List Claim)) → Served s a (settle s (a then λ cs. accepted (granting cs s)))
      go (accepted cs) = granted cs
      go (refused x) = turned_down x

  pub count_free : (k : Kind) → Memᴰ k ks → (s.owners k).count < row_limit → length (owners_of s k) < row_limit
  count_free k m few =
      omega (arith, table_length row_limit (same_row (blank_row k)) (good_row k) (λ x y. not (clash x y)) (s.owners k) (sound_for ks s sounds k m).owners)

-- DEMAND 2 FOR MSI, of the state: sound tables and three rows free
pub msi_served : (s : State) (q slot k i n : ℕ) → T (sound kinds s) → T (good_request (asks (pools_of s) (owners_of s) q slot (msi_want k i n auto auto auto)))
    → (s.owners device).count < row_limit → (s.owners event).count < row_limit → (s.owners lpi).count < row_limit
    → (a : Answer (List Claim)) × MsiSays (pools_of s) (owners_of s) q k i n a × Served s a (serve kinds (want (asks (pools_of s) (owners_of s) q slot (msi_want k i n auto auto auto))) s)
msi_served s q slot k i n t good fd fe fl =
    let free : (j : Kind) → (s.owners j).count < row_limit → length (owners_of s j) < row_limit = λ j few. count_free kinds s t j (every_kind j) few in (
      resolve (pools_of s) (owners_of s) (asks (pools_of s) (owners_of s) q slot (msi_want k i n auto auto auto)),
      msi_says (pools_of s) (owners_of s) q k i n slot good (free device fd) (free event fe) (free lpi fl),
      serve_says kinds s t (asks (pools_of s) (owners_of s) q slot (msi_want k i n auto auto auto)),
    )
