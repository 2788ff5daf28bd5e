-- What reading into a buffer of so many bytes answers: how many bytes were read, and what the last read answered. Assumes nothing.
use Rattle.std.specs.Prelude.{true, false, ℕ, ltb, ℤ, pos, negsuc, Result, Ok, Err}
use Rattle.standard_input.specs.declared.Failed.{Failed}

abbrev pub count_of : Result ℕ Failed → ℕ
count_of (Ok n) = n
count_of (Err f) = f.n

-- a negative number where it failed, 0 at the input's end; where the buffer is full it brought something
abbrev pub last_of : ℕ → Result ℕ Failed → ℤ
last_of long (Ok n) = elim (ltb n long) [ true ↦ pos 0 | false ↦ pos 1 ]
last_of long (Err f) = negsuc 0
