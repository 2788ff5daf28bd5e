-- A line's fields, each read as its place in the form says: the fields before `at` stand in the list, and what is left decides. Assumes nothing.
use Rattle.std.proofs.Common.{◌≡◌, ◌≤◌, length, drop}
use Rattle.lines.specs.Base.{tab, split}
use Rattle.lines.specs.Code.{numbers_by, row_from, row_of, ReadAs}
use Rattle.lines.proofs.form.read_each_into.Given as goal

abbrev pub invariant-loop-i : goal.invariant-loop-i
invariant-loop-i g l = record {
  wide : length l.into ≡ length l.form;
  place : l.at ≤ length l.rest;
  left : ReadAs (goal.F-post g l.read) (λ says. row_of (numbers_by says l.form (split tab l.rest)) ≡ row_from l.into l.i (numbers_by says (drop l.i l.form) (split tab (drop l.at l.rest))));
}
