-- How often a search tries a base on one pool row: a count beside its loop, which the code does not keep. Assumes nothing.
use Rattle.std.specs.Prelude.{Bool, true, false, ◌&&◌, ℕ, zero, suc, ◌+◌, ◌<◌, ◌≤◌, ltb}
use Rattle.definition.specs.Tables.{same_dom, Row}
use Rattle.definition.specs.Request.{Need}
use Rattle.search.specs.Steps.{Free, Jumps}

-- how many of the first n rows pass
abbrev pub once : Bool → ℕ
once true = 1
once false = 0

unfoldable pub count_below : (ℕ → Bool) → ℕ → ℕ
count_below q zero = 0
count_below q (suc n) = once (q n) + count_below q n

-- owner row k is of the need's domain
abbrev pub own : (ℕ → Row) → Need → ℕ → Bool
own g n k = same_dom n.dom (g k).dom

-- .. and ends above base c: a base that only rises can be stopped by no other
abbrev pub ahead : (ℕ → Row) → Need → ℕ → ℕ → Bool
ahead g n c k = own g n k && ltb c (g k).end

-- the most turns that are left of the loop at base c: one for each row ahead, and one for c itself while it is below stop. This measures the loop
abbrev pub turns : (ℕ → Row) → ℕ → Need → ℕ → ℕ → ℕ
turns g on n stop c = count_below (ahead g n c) on + once (ltb c stop)

-- the loop over the bases of one pool row, from base c, and how many it tries: each step keeps its promise
pub data Walk (g : ℕ → Row) (on : ℕ) (n : Need) (stop : ℕ) : ℕ → ℕ → Type 0 where
  past : {c : ℕ} → stop ≤ c → Walk g on n stop c 0
  stays : {c : ℕ} → c < stop → Free g on n c → Walk g on n stop c 1
  goes : {c r m : ℕ} → c < stop → Jumps g on n c stop r → Walk g on n stop r m → Walk g on n stop c (m + 1)
