-- The digits of a number: those before the last are a tenth's. Assumes nothing.
use Rattle.writers.proofs.put.Page.+put_number.Given as goal

abbrev pub decreases-put_number : goal.decreases-put_number
decreases-put_number l = l.n
