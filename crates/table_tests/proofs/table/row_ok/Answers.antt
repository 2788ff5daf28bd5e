-- A row beyond all before it fits behind each; else each is asked. Assumes nothing.
use Rattle.std.proofs.Common.{sym, ◌∙◌}
use Rattle.table_tests.proofs.HighLaws.{row_beyond, row_rest}
use Rattle.table_tests.proofs.table.row_ok.Goals as goal

pub returns-then-beyond : goal.returns-then-beyond
returns-then-beyond g c =
    let rule = c.args.rule.now in
    let at = g.T.Table.at c.args.t.now in
    c.if-beyond.true
    ∙ sym (row_beyond (g.R.Rule.good rule) (g.R.Rule.fits rule) at c.args.k (cc) g.R.Rule.reach c.args.high c.requires.none_above
    (λ a l. g.met.R.Rule.clear rule a (at c.args.k) c.args.high l (cc)))

pub returns-else-beyond : goal.returns-else-beyond
returns-else-beyond g c =
    let rule = c.args.rule.now in
    let at = g.T.Table.at c.args.t.now in
    rw c.at-r.ensures at c.fits_behind.ensures
    ∙ sym (row_rest (g.R.Rule.good rule) (g.R.Rule.fits rule) at c.args.k (cc))
