-- What the line step asks of the tables, and what it leaves. Assumes nothing.
use Rattle.std.specs.Prelude.{◌≡◌, true, List, ℕ, zero, suc, ◌*◌, ◌≤◌, T, drop}
use Rattle.std.proofs.Math.Option.{Option}
use Rattle.definition.specs.Tables.{plan_limit, record_size, kinds}
use Rattle.definition.specs.Calls.{State, given, sound, Call}
use Rattle.lines.specs.Place.{next_at}
use Rattle.lines.specs.Text as Text
use Rattle.lines.specs.Text.{beginning_on, take_line, feed, close}
use Rattle.plan.specs.Steps.{clear}
use Rattle.text.specs.Sofar.{sofar_of, Named}
use Rattle.text.specs.declared.feed.sofar.Sofar.{Sofar}

-- the tables are sound by law, so no line tests them: pools and reservations always, and all tables once a want was accepted
pub record Ready (t : Text.Sofar) : Type 0 where
  pub given : T (given kinds t.state)
  pub wanted : (t.wants ≡ 0 → ⊥) → (clear t.state ≡ true) × T (sound kinds t.state)

-- room for every record of a text
abbrev pub results_size : ℕ
results_size = record_size * plan_limit

-- what stands behind the records
abbrev pub behind : Sofar → List ℕ → List ℕ
behind t zs = drop (record_size * t.wants) zs

-- THE LINE STEP on the state s and the results zs, at a line that says c: the definition's, and what stands behind the records stays
abbrev pub Stepped : Option Call → Sofar → State → List ℕ → Sofar → State → List ℕ → Type 0
Stepped c t s zs t' s' zs' = (sofar_of t' s' zs' ≡ take_line (sofar_of t s zs) c) × (behind t' zs' ≡ behind t' zs)

-- where the next line starts, behind n lines
unfoldable pub start_of : List ℕ → ℕ → ℕ
start_of text zero = 0
start_of text (suc n) = next_at text (start_of text n)

-- a whole text
pub record Fed (text : List ℕ) (s : State) (zs : List ℕ) (t' : Sofar) (s' : State) (zs' : List ℕ) : Type 0 where
  pub comes : sofar_of t' s' zs' ≡ close (feed Text.step (beginning_on s) text)
  pub stays : behind t' zs' ≡ behind t' zs
  pub few : t'.wants ≤ plan_limit
  pub at : t'.at ≡ start_of text t'.lines
  pub named : Named t'
