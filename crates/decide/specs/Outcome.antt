-- What an answer to a request leaves: the state afterwards, and the first numbers that a record is made of. Assumes nothing.
use Rattle.std.specs.Prelude.{List, ℕ, Option, Some, None}
use Rattle.definition.specs.Base.{full, Answer, accepted, refused, require, ◌then◌}
use Rattle.definition.specs.Pools.{Claim, room}
use Rattle.definition.specs.Request.{Want, mmio_want, pio_want, input_want, host_want, msi_want, claims}
use Rattle.definition.specs.Calls.{State, pools_of, owners_of, granting, settle}
use Rattle.definition.specs.Plan.{base_at}
use Rattle.tables.specs.declared.DeviceId.{DeviceId}
use Rattle.tables.specs.declared.EventId.{EventId}
use Rattle.tables.specs.declared.Lpi.{Lpi}
use Rattle.decide.specs.declared.Bases.{Bases}

abbrev pub one_base : ℕ → Bases
one_base b = record { base = b; device = record { 0 = 0 }; event = record { 0 = 0 }; lpi = record { 0 = 0 } }

abbrev pub three_bases : DeviceId → EventId → Lpi → Bases
three_bases d e l = record { base = 0; device = d; event = e; lpi = l }

-- the first numbers of the rows granted: three of an MSI request, one of any other
abbrev pub base_in : Want → List Claim → ℕ
base_in (mmio_want size alignment choice) cs = base_at 0 cs
base_in (pio_want size alignment choice) cs = base_at 0 cs
base_in (input_want controller trigger sharing choice) cs = base_at 0 cs
base_in (host_want choice) cs = base_at 0 cs
base_in (msi_want controller its count cd ce cl) cs = 0

abbrev pub three_in : Want → ℕ → List Claim → ℕ
three_in (mmio_want size alignment choice) j cs = 0
three_in (pio_want size alignment choice) j cs = 0
three_in (input_want controller trigger sharing choice) j cs = 0
three_in (host_want choice) j cs = 0
three_in (msi_want controller its count cd ce cl) j cs = base_at j cs

abbrev pub firsts_in : Want → List Claim → Bases
firsts_in w cs = record { base = base_in w cs; device = record { 0 = three_in w 0 cs }; event = record { 0 = three_in w 1 cs }; lpi = record { 0 = three_in w 2 cs } }

-- none where the answer is a refusal
abbrev pub bases_in : Want → Answer (List Claim) → Option Bases
bases_in w (accepted cs) = Some (firsts_in w cs)
bases_in w (refused y) = None

-- the answer to a request on sound tables, whose numbers make sense
abbrev pub claimed : State → ℕ → Want → Answer (List Claim)
claimed v q w = claims (pools_of v) (owners_of v) q w then λ cs. require (room (owners_of v) cs) full (accepted cs)

-- an accepted answer's rows at the ends of their tables; a refused one's numbers, and nothing else changed
abbrev pub after : State → Answer (List Claim) → State
after v a = settle v (a then λ cs. accepted (granting cs v))
