-- The measure of `decimal::put_digits` is the number: without its last digit it is less. Assumes nothing.
use Rattle.decimal.proofs.+put_digits.Given as goal

abbrev pub decreases-put_digits : goal.decreases-put_digits
decreases-put_digits l = l.n
