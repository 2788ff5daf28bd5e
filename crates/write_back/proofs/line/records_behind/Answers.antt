-- The records behind a line: a want's is the first. Assumes nothing.
use Rattle.std.proofs.Common.{◌∙◌, sym, ap, drop}
use Rattle.definition.specs.Tables.{record_size}
use Rattle.writers.proofs.EachLaws.{rest_is}
use Rattle.write_back.proofs.LineLaws.{used_one}
use Rattle.write_back.proofs.line.records_behind.Goals as goal

pub returns-then-is_want : goal.returns-then-is_want
returns-then-is_want c = rest_is c.args.records.now record_size ∙ ap (λ n. drop n c.args.records.now) (sym (used_one c.args.line.now (sym c.if-is_want.ensures)))
