-- A kind as the machine has it: what a walk makes of a kind's number, and hands to a callee. Assumes nothing.
--     kind_val      the machine value of a kind: a variant that holds nothing is its number
--     kind_is      .. which is that kind's.        kind_typed     .. and of a kind's type
use Rattle.walks.proofs.Prelude.{Ura, T as Holds, Val, WT, has_ty, Is}
use denote.Enum.Laws as EE
use Rattle.tables.specs.declared.Kind.{Kind}
use Rattle.tables.specs.declared.Kind.TheVariants as K
use Rattle.tables.specs.contracts.Kind as Kn
use Rattle.tables.proofs.Kind.TheLaws as Kn'
use types.Logic.{Logic}

abbrev pub kind_val : Kind → Val
kind_val k = EE.val Kn.the_type Kn'.the_laws k

pub kind_is : (k : Kind) → Is Kn.the_row k (EE.vals Kn.the_type Kn'.the_laws k)
kind_is K.Mmio = EE.owes Kn.the_type Kn'.the_laws K.Mmio tt
kind_is K.Pio = EE.owes Kn.the_type Kn'.the_laws K.Pio tt
kind_is K.Input = EE.owes Kn.the_type Kn'.the_laws K.Input tt
kind_is K.Host = EE.owes Kn.the_type Kn'.the_laws K.Host tt
kind_is K.Device = EE.owes Kn.the_type Kn'.the_laws K.Device tt
kind_is K.Event = EE.owes Kn.the_type Kn'.the_laws K.Event tt
kind_is K.Lpi = EE.owes Kn.the_type Kn'.the_laws K.Lpi tt

pub kind_typed : {M : Type 1} {𝓤 : Ura M} (𝓛 : Logic 𝓤) (k : Kind) → Holds (has_ty Kn'.mir (kind_val k)) × WT (kind_val k)
kind_typed 𝓛 k = ((EE.lawful Kn.the_type Kn'.the_laws 𝓛 tt).typed k _ (kind_is k)).0
