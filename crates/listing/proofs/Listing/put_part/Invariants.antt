-- What is done is a part, and a record has a byte; the measure is what is left.
use Rattle.std.proofs.Common.{◌-◌, ◌≤◌}
use Rattle.listing.proofs.Listing.put_part.Given as goal

abbrev pub invariant-loop-done : goal.invariant-loop-done
invariant-loop-done g l = (l.done ≤ l.all) × (1 ≤ l.size)

abbrev pub decreases-loop-done : goal.decreases-loop-done
decreases-loop-done g l = l.all - l.done
