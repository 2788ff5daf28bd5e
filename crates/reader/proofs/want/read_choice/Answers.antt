-- A form with `auto` for its last number was read. Assumes nothing.
use Rattle.std.proofs.Common.{◌-◌, sym}
use Rattle.reader.proofs.ReadLaws.{row_some, within_auto}
use Rattle.reader.proofs.want.read_choice.Goals as goal

pub returns-in-Some : goal.returns-in-Some
returns-in-Some g c = record { says = sym (row_some _ _ c.in-Some.ensures.says); within = within_auto (g.row.N - 1) 0 _ _ c.in-Some.ensures.within }
