-- The names that proofs by hand need of the kit, in one place: a proof takes what it uses from here, in one line. Assumes nothing.
pub use lib.Dec.{T}
pub use seplogic.Ra.Ura.{Ura}
pub use mir.Val.{Val, WT, has_ty}
pub use denote.Laws.{Is}
