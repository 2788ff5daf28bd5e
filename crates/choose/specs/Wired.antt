-- What is promised of inputs. Assumes nothing.
use Rattle.std.specs.Prelude.{◌≡◌, true, false, List, ℕ, Result, Ok, Err}
use Rattle.std.proofs.Math.Option.{Option, none, some}
use Rattle.definition.specs.Tables.{input, Span, Row, joins, used}
use Rattle.definition.specs.Request.{at, row_at, detail, input_need}
use Rattle.definition.specs.Request as R
use Rattle.tables.specs.Views.{pool_view, inputs_view}
use Rattle.tables.specs.declared.Pool.{Pool}
use Rattle.tables.specs.declared.Inputs.{Inputs}
use Rattle.choose.specs.Told.{told, place_in}
use Rattle.choose.specs.declared.Refusal.{Refusal}
use Rattle.choose.specs.declared.Run.{Run}
use Rattle.choose.specs.declared.wired.InputNeed.{InputNeed}
use Rattle.choose.specs.declared.wired.Clash.{Clash}
use Rattle.choose.specs.declared.wired.Clash.TheVariants.{Trigger, Sharing}

abbrev pub input_asked : InputNeed → R.Need
input_asked w = input_need w.controller w.trigger w.sharing w.requester

-- the detail of the conflict with a row on the same input, if they cannot share it
unfoldable pub verdict : Row → Row → Option ℕ
verdict wanted held = elim (joins wanted held) [ true ↦ none | false ↦ some (detail input wanted held) ]

abbrev pub detail_of : Clash → ℕ
detail_of Trigger = 2
detail_of Sharing = 3

abbrev pub clash_of : Result (Unit {0}) Clash → Option ℕ
clash_of (Ok _) = none
clash_of (Err clash) = some (detail_of clash)

-- whatever input they are on
abbrev pub Judges : InputNeed → Row → Result (Unit {0}) Clash → Type 0
Judges w held r = (b : ℕ) → clash_of r ≡ verdict (row_at (input_asked w) b) held

abbrev pub FixedInput : Pool → Inputs → InputNeed → ℕ → Result Run Refusal → Type 0
FixedInput p t w b r = (ps : List Span) → told (input_asked w) r ≡ place_in ps (used (pool_view p)) (used (inputs_view t)) (input_asked w) (at b)
