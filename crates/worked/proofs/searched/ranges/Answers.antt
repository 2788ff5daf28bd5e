-- Each expectation holds: the calls answer what the definition's search finds. Assumes nothing.
use Rattle.std.proofs.Common.{refl, sym, ◌∙◌}
use Rattle.std.proofs.lemmas.Bool.{not-false}
use Rattle.worked.proofs.SearchedLaws.{leasts, found, granted}
use Rattle.worked.proofs.searched.ranges.Goals as goal

pub expect-requires : goal.expect-requires
expect-requires c = c.eq.ensures ∙ rw (found _ _ c.fresh_pool-pools.ensures c.fresh_ranges-owners.ensures _ _ leasts.0 _ c.find.ensures) refl

pub expect-requires-2 : goal.expect-requires-2
expect-requires-2 c = c.eq-2.ensures ∙ rw (granted _ _ c.fresh_pool-pools.ensures c.fresh_ranges-owners.ensures _ _ leasts.0 _ c.automatic.ensures) refl

pub expect-requires-3 : goal.expect-requires-3
expect-requires-3 c = not-false _ (sym c.is_none.ensures ∙ rw (found _ _ c.fresh_pool-pools.ensures c.fresh_ranges-owners.ensures _ _ leasts.1 _ c.find-2.ensures) refl)

pub expect-requires-4 : goal.expect-requires-4
expect-requires-4 c = c.eq-3.ensures ∙ rw (granted _ _ c.fresh_pool-pools.ensures c.fresh_ranges-owners.ensures _ _ leasts.1 _ c.automatic-2.ensures) refl
