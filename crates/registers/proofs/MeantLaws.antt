-- What was sized is planned as it was meant: `planner_plan` reads the written numbers as the definition's requests, and none of them is refused with 2. Assumes nothing.
use Rattle.std.proofs.Common.{◌≡◌, ℕ, List, length, arith}
use Rattle.definition.specs.Base.{accepted}
use Rattle.definition.specs.Request.{Request}
use Rattle.definition.specs.Calls.{State}
use Rattle.definition.specs.Plan.{plan}
use Rattle.definition.specs.Registers.{register_count, registers}
use Rattle.definition.proofs.RegisterLaws.{registers_good}
use Rattle.flat.specs.Flat.{numbers_of_all, requests_of, flat_plan}
use Rattle.flat.proofs.NumbersLaws.{requests_back, numbers_plan}

module _ (q : ℕ) (ws : List ℕ) (most : ℕ) (rs : List Request) (six : length ws ≡ register_count) (made : registers q ws most ≡ accepted rs) where
  pub sized_back : requests_of (numbers_of_all rs) ≡ rs
  sized_back = requests_back rs (λ r m. registers_good q ws most rs (omega arith) made m)

  pub sized_plan : (s : State) (out : List ℕ) → flat_plan (numbers_of_all rs) s out ≡ plan rs s out
  sized_plan = numbers_plan rs (λ r m. registers_good q ws most rs (omega arith) made m)
