-- Each field is read alike. Assumes nothing.
use Rattle.std.proofs.Common.{ap, sym, ◌∙◌, rules, tests}
use Rattle.lines.specs.Base.{tab, split}
use Rattle.lines.specs.Code.{row_of}
use Rattle.sizer.specs.Words.{field_count}
use Rattle.sizer.specs.Code.{capped_word}
use Rattle.sizer.proofs.LineLaws.{fields_as}
use Rattle.sizer.proofs.line.read_fields.Goals as goal

pub returns : goal.returns
returns c = c.read_each.ensures (λ x. capped_word) (λ f x r k. search (rules, tests)) ∙ sym (ap row_of (fields_as capped_word field_count (split tab c.args.line.now)))
