-- Unsound tables are refused; the rest is the answer in place. Assumes nothing.
use Rattle.std.proofs.Common.{sym, ◌∙◌}
use Rattle.allocation.proofs.ServeLaws.{serve_sound, serve_unsound}
use Rattle.allocation.proofs.allocate.Goals as goal

pub returns-then-sound : goal.returns-then-sound
returns-then-sound c = c.resolve.ensures.state ∙ serve_sound _ _ _ (sym c.if-sound.ensures)

pub returns-else-sound : goal.returns-else-sound
returns-else-sound c = c.refuse.ensures ∙ serve_unsound _ _ _ (sym c.if-sound.ensures)
