-- Any call on a state, and one that cannot be read: 1, or else 2. Assumes nothing.
use Rattle.std.specs.Prelude.{Bool, true, false, Ok, Err}
use Rattle.std.proofs.Math.Option.{Option, none, some}
use Rattle.definition.specs.Base.{malformed, bad_input, refused, require}
use Rattle.definition.specs.Tables.{kinds}
use Rattle.definition.specs.Calls.{State, Call as DCall, given, settle, serve}
use Rattle.insert.specs.Answers.{Reply}
use Rattle.insert.specs.declared.Refused.TheVariants as R
use Rattle.request.specs.declared.call.Call.{Call}
use Rattle.request.specs.declared.call.Call.TheVariants as C

abbrev pub serve_of : Option DCall → State → State
serve_of (some c) s = serve kinds c s
serve_of none s = settle s (require (given kinds s) malformed (refused bad_input))

-- what stops a call other than a request
abbrev pub stop_of : Bool → Call → Reply
stop_of false c = Err R.Malformed
stop_of true (C.Pool u p) = Ok tt
stop_of true (C.Hold o h) = Ok tt
stop_of true C.Start = Ok tt
stop_of true (C.Want r) = Ok tt
stop_of true C.Bad = Err R.BadInput
