-- The measure is the number, of which each call takes the tenth part.
use Rattle.key_text.proofs.+put_decimal.Given as goal

abbrev pub decreases-put_decimal : goal.decreases-put_decimal
decreases-put_decimal l = l.number
