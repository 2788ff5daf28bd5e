-- What was read, or could not be read, by the test that decides. Assumes nothing.
use Rattle.std.proofs.Common.{◌≡◌, ℕ, zero, suc, Bool, true, false, Option, Some, None, option_map, refl}
use Rattle.std.specs.Prelude.{unwrap_or}
use Rattle.definition.specs.Request.{msi_want}
use Rattle.definition.specs.Request as R
use Rattle.tables.specs.declared.DeviceId.{DeviceId}
use Rattle.tables.specs.declared.EventId.{EventId}
use Rattle.tables.specs.declared.Lpi.{Lpi}
use Rattle.choose.specs.declared.Choice.{Choice}
use Rattle.choose.specs.Ids.{device_choice, event_choice, lpi_choice}
use Rattle.request.specs.declared.Request.{Request}
use Rattle.request.specs.Asked.{request_of}
use Rattle.flat.specs.Flat.{choice_at, fits, named, msi, readable, want_at, or_bad, bad}
use Rattle.flat.specs.Read.{if_read, id_at}

pub none_read : {A : Type 0} (b : Bool) (a : A) → None ≡ if_read b a → b ≡ false
none_read true a e = cc
none_read false a e = refl

pub some_read : {A : Type 0} (b : Bool) (a x : A) → Some x ≡ if_read b a → (b ≡ true) × (x ≡ a)
some_read true a x e = (refl, cc)
some_read false a x e = cc

-- ---- an id is the definition's choice

device_said : (code n : ℕ) → device_choice (id_at (λ k. record { 0 = k }) code n) ≡ choice_at code n
device_said zero n = refl
device_said (suc code) n = refl

event_said : (code n : ℕ) → event_choice (id_at (λ k. record { 0 = k }) code n) ≡ choice_at code n
event_said zero n = refl
event_said (suc code) n = refl

lpi_said : (code n : ℕ) → lpi_choice (id_at (λ k. record { 0 = k }) code n) ≡ choice_at code n
lpi_said zero n = refl
lpi_said (suc code) n = refl

-- what an MSI request is read as, where all six can be read
pub msi_reads : (a b c x n y m z l k i s : ℕ) (d : Choice DeviceId) (e : Choice EventId) (p : Choice Lpi) → Some k ≡ if_read (fits a) a → Some i ≡ if_read (fits b) b → Some s ≡ if_read (fits c) c
    → Some d ≡ if_read (named x n) (id_at (λ v. record { 0 = v }) x n) → Some e ≡ if_read (named y m) (id_at (λ v. record { 0 = v }) y m) → Some p ≡ if_read (named z l) (id_at (λ v. record { 0 = v }) z l)
    → Some (msi_want k i s (device_choice d) (event_choice e) (lpi_choice p)) ≡ if_read (readable msi a b c x n y m z l) (want_at msi a b c (choice_at x n) (choice_at y m) (choice_at z l))
unfolding readable want_at
msi_reads a b c x n y m z l k i s d e p ha hb hc hd he hp =
    let (fa, qa) = some_read (fits a) a k ha in
    let (fb, qb) = some_read (fits b) b i hb in
    let (fc, qc) = some_read (fits c) c s hc in
    let (fd, qd) = some_read (named x n) _ d hd in
    let (fe, qe) = some_read (named y m) _ e he in
    let (fp, qp) = some_read (named z l) _ p hp in
    rw (qa, qb, qc, qd, qe, qp, device_said x n, event_said y m, lpi_said z l, fa, fb, fc, fd, fe, fp)

-- the request, or what stands for one that can't be read
pub read_or_bad : (o : Option Request) (nobody : Request) (b : Bool) (r : R.Request) → option_map request_of o ≡ if_read b r → request_of nobody ≡ bad → request_of (unwrap_or o nobody) ≡ or_bad b r
read_or_bad (Some w) nobody true r e f = cc
read_or_bad (Some w) nobody false r e f = cc
read_or_bad None nobody true r e f = cc
read_or_bad None nobody false r e f = f
