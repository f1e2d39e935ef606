-- `decimals::put_right`: the digits of a tenth in a place less, then the last.
use Rattle.decimals.proofs.+put_right.Given as goal

abbrev pub decreases-put_right : goal.decreases-put_right
decreases-put_right l = l.n
