-- Each row is asked, by either test. Assumes nothing.
use Rattle.std.proofs.Common.{rules}
use Rattle.tables.proofs.ChainLaws.{all_rows}
use Rattle.table_tests.proofs.table.fits_behind.Goals as goal

pub returns-then-not-kin : goal.returns-then-not-kin
returns-then-not-kin g c = all_rows (λ j. g.R.Rule.fits c.args.rule.now (g.T.Table.at c.args.t.now j) c.args.r) c.args.k _ _ _ c.all.ensures.ran (λ x b p h. search rules)

pub returns : goal.returns
returns g c = all_rows (λ j. g.R.Rule.fits c.args.rule.now (g.T.Table.at c.args.t.now j) c.args.r) c.args.k _ _ _ c.all-2.ensures.ran (λ x b p h. search rules)
