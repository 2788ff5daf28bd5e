-- What a withdrawal answers, over plain values. Assumes nothing.
use Rattle.std.specs.Prelude.{Bool, true, false, ℕ, ltb, Option, Some, None, Result, Ok, Err}
use Rattle.std.specs.Bool.{then_some}
use Rattle.definition.specs.Base.{any_of}
use Rattle.definition.specs.Tables.{kinds}
use Rattle.definition.specs.Withdraw.{a_requester}
use Rattle.insert.specs.Answers.{Reply}
use Rattle.insert.specs.declared.Refused.{Refused}
use Rattle.insert.specs.declared.Refused.TheVariants as R
use Rattle.inplace.specs.Marks.{counts_in}
use Rattle.inplace.specs.declared.marks.Marks.{Marks}

-- the number, if it is a requester's
abbrev pub requester_of : ℕ → Option ℕ
requester_of q = then_some (a_requester q) q

-- whether the tables are sound, and whose number it is
abbrev pub judged_of : Bool → Option ℕ → Result ℕ Refused
judged_of false whose = Err R.Malformed
judged_of true None = Err R.BadInput
judged_of true (Some whose) = Ok whose

-- a table has become shorter
unfoldable pub shorter_of : Marks → Marks → Bool
shorter_of before after = any_of (λ k. ltb (counts_in after k) (counts_in before k)) kinds

abbrev pub found_of : Bool → Reply
found_of true = Ok tt
found_of false = Err R.NotFound
