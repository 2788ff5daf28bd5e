-- What the code's requests of one table stand for in the definition. Assumes nothing.
use Rattle.std.proofs.Math.Option.{Option as Maybe, none, some}
use Rattle.std.specs.Prelude.{ℕ, Option, Some, None}
use Rattle.definition.specs.Tables.{dom}
use Rattle.definition.specs.Request.{need, input_need}
use Rattle.definition.specs.Request as R
use Rattle.tables.specs.Views.{kind_of}
use Rattle.tables.specs.declared.Kind.TheVariants.{Input}
use Rattle.search.specs.declared.Need.{Need}

abbrev pub need_of : Need → R.Need
need_of n = need (kind_of n.kind) (dom n.controller n.its n.device) n.size n.alignment n.requester

-- one input of a controller, whoever asks and with whatever codes: a search reads neither
abbrev pub bare_input : ℕ → R.Need
bare_input c = input_need c 0 0 0

-- .. as the code has it
abbrev pub one_input : ℕ → Need
one_input c = record { kind = Input; controller = c; its = 0; device = 0; size = 1; alignment = 1; requester = 0 }

-- the code's answer as the definition has it
abbrev pub found_of : Option ℕ → Maybe ℕ
found_of (Some b) = some b
found_of None = none
