-- What soundness gives the choices: automatic pools in order, and a kind's tables among all. Assumes nothing.
use lib.Dec.{T}
use Rattle.definition.specs.Tables.{Kind, kinds}
use Rattle.definition.proofs.RowLaws.{every_kind}
use Rattle.definition.proofs.BaseLaws.{all_in}
use Rattle.definition.specs.Calls.{State, sound_at, sound}
use Rattle.definition.proofs.StateLaws.{SoundPool}
use Rattle.tables.specs.Views.{pool_view}
use Rattle.tables.specs.declared.Pool.{Pool}
use Rattle.search.specs.Finds.{InOrder}

pub pool_order : (k : Kind) (p : Pool) → SoundPool k (pool_view p) → InOrder p
pool_order k p s = record { count = s.tidied.within; order = s.pairs }

pub sound_one : (v : State) (k : Kind) → T (sound kinds v) → T (sound_at v k)
unfolding sound
sound_one v k t = all_in (sound_at v) (every_kind k) t
