-- The row of the table that the part and the kind name. Assumes nothing.
use Rattle.std.proofs.Common.{ap, ◌∙◌, arith}
use Rattle.numbers.specs.Back.{found_of}
use Rattle.numbers.proofs.FoundLaws.{no_kind, no_part, in_fixed}
use Rattle.numbers.proofs.row.row.Goals as goal

pub returns-in_err-kind : goal.returns-in_err-kind
returns-in_err-kind c = ap found_of c.from_residual.ensures ∙ no_kind c.args.s.now _ c.args.k.row c.args.k.part (rw c.in_err-kind.was at c.kind_at.ensures)

pub returns-in-2 : goal.returns-in-2
returns-in-2 c = in_fixed c.args.s.now _ _ _ c.in_ok-kind.kind _ (rw c.in_ok-kind.was at c.kind_at.ensures) c.in-2.is c.pools_row-in-2.ensures

pub returns-in_default : goal.returns-in_default
returns-in_default c = no_part c.args.s.now _ _ c.args.k.part (λ e. omega arith) (λ e. omega arith) (λ e. omega arith) (λ e. omega arith)
