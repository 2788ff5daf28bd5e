-- The parts of a plan in place, as the code has them: what is judged first, how many turns are taken, and how a refusal puts the tables back. That they make the definition's plan is the law `plan-in-place`. Assumes nothing.
use Rattle.std.specs.Prelude.{◌≡◌, Bool, true, false, ◌&&◌, ℕ, ◌+◌, ◌*◌, ◌/◌, ◌≤◌, leb, eqb, Result, Ok, Err}
use Rattle.definition.specs.Tables.{plan_limit, record_size}
use Rattle.definition.specs.Base.{malformed, short, Said, silence, tell}
use Rattle.definition.specs.Calls.{State}
use Rattle.flat.specs.Flat.{request_size}
use Rattle.choose.specs.Told.{refusal_of}
use Rattle.choose.specs.declared.Refusal.{Refusal}
use Rattle.plan.specs.Steps.{clear}
use Rattle.definition.specs.Cut.{cutting}
use Rattle.inplace.specs.Marks.{counts_in}
use Rattle.inplace.specs.declared.marks.Marks.{Marks}

-- the results list has room for so many records, and the plan is no longer than a plan may be
abbrev pub fits_in : ℕ → ℕ → Bool
fits_in n room = leb n plan_limit && leb (record_size * n) room

-- 1, 11, or zeros
unfoldable pub judged_of : Bool → ℕ → ℕ → Said
judged_of sound n room = elim sound [ false ↦ tell 0 malformed | true ↦ elim (fits_in n room) [ false ↦ tell 0 short | true ↦ silence ] ]

-- the numbers of what was judged
abbrev pub judged_said : Result (Unit {0}) Refusal → Said
judged_said (Ok _) = silence
judged_said (Err y) = tell 0 (refusal_of y)

-- all have their turn, or none
abbrev pub turns_of : Result (Unit {0}) Refusal → ℕ → ℕ
turns_of (Ok _) n = n
turns_of (Err y) n = 0

unfoldable pub turns_in : Bool → ℕ → ℕ → ℕ
turns_in sound n room = elim sound [ false ↦ 0 | true ↦ elim (fits_in n room) [ false ↦ 0 | true ↦ n ] ]

pub record Judges (sound : Bool) (n room : ℕ) (r : Result (Unit {0}) Refusal) : Type 0 where
  pub said : judged_said r ≡ judged_of sound n room
  pub turns : turns_of r n ≡ turns_in sound n room

-- .. told by the state that the opening leaves
abbrev pub turns_after : ℕ → State → ℕ
turns_after n t = elim (clear t) [ false ↦ 0 | true ↦ n ]

-- a refusal cuts the owner tables back
unfoldable pub back_to : Marks → State → State
back_to m t = elim (clear t) [ true ↦ t | false ↦ cutting (counts_in m) t ]

-- numbers of whole requests, or more than a plan has
unfoldable pub whole_count : ℕ → ℕ
whole_count long = elim (eqb (request_size * (long / request_size)) long) [ true ↦ long / request_size | false ↦ plan_limit + 1 ]

-- one request, or more than a plan has
unfoldable pub one_count : ℕ → ℕ
one_count long = elim (leb request_size long) [ true ↦ 1 | false ↦ plan_limit + 1 ]

-- a list of so many numbers holds n requests, or n is more than a plan has
abbrev pub Within : ℕ → ℕ → Type 0
Within n long = n ≤ plan_limit → request_size * n ≤ long
