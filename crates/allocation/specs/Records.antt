-- The nine numbers that a request makes, and what is promised of one request on sound tables. Assumes nothing.
use Rattle.std.specs.Prelude.{◌≡◌, List, [], ◌∷◌, ℕ}
use Rattle.definition.specs.Request as R
use Rattle.tables.specs.Views.{state_view}
use Rattle.tables.specs.declared.State.{State}
use Rattle.request.specs.declared.Want.{Want}
use Rattle.request.specs.declared.Want.TheVariants.{Mmio, Pio, Input, Host, Msi}
use Rattle.request.specs.declared.Request.{Request}
use Rattle.decide.specs.Outcome.{bases_in, after}
use Rattle.decide.specs.Kept.{answer}
use Rattle.decide.specs.declared.Bases.{Bases}
use Rattle.allocation.specs.declared.Outcome.{Outcome}

abbrev pub recorded : ℕ → Request → ℕ → ℕ → ℕ → ℕ → ℕ → ℕ → List ℕ
recorded k r a b c d e f = k ∷ r.requester ∷ r.slot ∷ a ∷ b ∷ c ∷ d ∷ e ∷ f ∷ []

-- the record of a request whose rows have these first numbers: law `record_granted` ties it to the definition's
abbrev pub record_for : Request → Bases → Want → List ℕ
record_for r bases (Mmio size alignment choice) = recorded 1 r bases.base size 0 0 0 0
record_for r bases (Pio size alignment choice) = recorded 2 r bases.base size 0 0 0 0
record_for r bases (Input controller trigger sharing choice) = recorded 3 r controller bases.base trigger sharing 0 0
record_for r bases (Host choice) = recorded 4 r bases.base 0 0 0 0 0
record_for r bases (Msi controller its count cd ce cl) = recorded 5 r controller its bases.device.0 bases.event.0 bases.lpi.0 count

abbrev pub record_in : Request → Bases → List ℕ
record_in r bases = record_for r bases r.want

-- one request on sound tables: the state afterwards, and the first numbers
pub record Answers (s : State) (r : R.Request) (o : Outcome) : Type 0 where
  pub state : state_view o.state ≡ after (state_view s) (answer s r)
  pub bases : o.bases ≡ bases_in r.want (answer s r)
