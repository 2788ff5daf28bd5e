-- What the code's registers and faults say in the definition's terms. Assumes nothing.
use Rattle.std.specs.Prelude.{ℕ, List, [], ◌∷◌, Option, Some, None, Result, Ok, Err}
use Rattle.std.proofs.Math.Option.{none, some}
use Rattle.std.proofs.Math.Option as M
use Rattle.definition.specs.Base.{bad_input, short, bad_type, bad_pair, bad_mask, ports_too_large, accepted, refused}
use Rattle.definition.specs.Base as F
use Rattle.definition.specs.Request.{auto, Want, mmio_want, pio_want}
use Rattle.definition.specs.Registers.{nothing, ports, memory, pair, unknown}
use Rattle.definition.specs.Registers as R
use Rattle.registers.specs.declared.register.Register.{Register}
use Rattle.registers.specs.declared.register.Register.TheVariants.{Nothing, Ports, Memory, Pair, Unknown}
use Rattle.registers.specs.declared.register.Ask.{Ask}
use Rattle.registers.specs.declared.register.Ask.TheVariants as A
use Rattle.registers.specs.declared.fault.Fault.{Fault}
use Rattle.registers.specs.declared.fault.Fault.TheVariants.{BadInput, Short, BadType, BadPair, BadMask, PortsTooLarge}

abbrev pub register_said : Register → R.Register
register_said Nothing = nothing
register_said Ports = ports
register_said Memory = memory
register_said Pair = pair
register_said Unknown = unknown

abbrev pub fault_of : Fault → F.Refusal
fault_of BadInput = bad_input
fault_of Short = short
fault_of BadType = bad_type
fault_of BadPair = bad_pair
fault_of BadMask = bad_mask
fault_of PortsTooLarge = ports_too_large

abbrev pub want_of : Ask → Want
want_of (A.Memory size) = mmio_want size size auto
want_of (A.Ports size) = pio_want size size auto

-- what is wanted, if anything
abbrev pub wants_of : Option Ask → List Want
wants_of None = []
wants_of (Some ask) = want_of ask ∷ []

abbrev pub asked_said : Result (Option Ask) Fault → F.Answer (List Want)
asked_said (Ok wanted) = accepted (wants_of wanted)
asked_said (Err f) = refused (fault_of f)

abbrev pub size_said : Result ℕ Fault → F.Answer ℕ
size_said (Ok size) = accepted size
size_said (Err f) = refused (fault_of f)

-- the next word, where there is one
abbrev pub next_said : Option ℕ → M.Option ℕ
next_said None = none
next_said (Some next) = some next
