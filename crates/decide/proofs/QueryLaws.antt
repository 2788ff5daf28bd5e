-- A refusal's numbers. Assumes nothing.
use mathlib.Core.Path.{◌≡◌, refl, ◌∙◌, ap}
use Rattle.definition.specs.Base.{tell}
use Rattle.definition.specs.Base as F
use Rattle.choose.specs.Told.{refusal_of}
use Rattle.choose.specs.declared.Refusal.{Refusal}
use Rattle.choose.specs.declared.Refusal.TheVariants.{Malformed, BadInput, FixedNotAllowed, Exhausted, Conflict, Full, Short}
use Rattle.request.specs.Asked.{said_of}
use Rattle.request.specs.declared.Said.{Said}
use Rattle.decide.specs.Granted.{saying, numbers_of}

pub refusal_told : (y : Refusal) → said_of (numbers_of y) ≡ tell 0 (refusal_of y)
refusal_told Malformed = refl
refusal_told BadInput = refl
refusal_told (FixedNotAllowed s) = refl
refusal_told (Exhausted s) = refl
refusal_told (Conflict s o d) = refl
refusal_told Full = refl
refusal_told Short = refl

abbrev back : F.Said → Said
back w = saying w.number w.namespace w.owner w.detail

back_told : (y : Refusal) → back (tell 0 (refusal_of y)) ≡ numbers_of y
back_told Malformed = refl
back_told BadInput = refl
back_told (FixedNotAllowed s) = refl
back_told (Exhausted s) = refl
back_told (Conflict s o d) = refl
back_told Full = refl
back_told Short = refl

-- .. and no other numbers are
pub numbers_are : (y : Refusal) (d : Said) → said_of d ≡ tell 0 (refusal_of y) → d ≡ numbers_of y
numbers_are y d e = ap back e ∙ back_told y
