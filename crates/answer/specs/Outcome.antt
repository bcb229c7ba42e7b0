-- What the printing of a call comes to.
use Rattle.std.specs.Prelude.{Result}
use Rattle.answer.specs.declared.Written.{Written}
use Rattle.answer.specs.declared.Unprinted.{Unprinted}
use Rattle.answer.specs.declared.Unprinted.TheVariants.{PageLimit, NoRoom}
use Rattle.verdict.specs.declared.Verdict.{Verdict}
use Rattle.verdict.specs.declared.Verdict.TheVariants.{Pages, Room}

-- the bytes written and the next place, or why none is written
abbrev pub Outcome : Type 0
Outcome = Result Written Unprinted

-- refusals 8 and 9
abbrev pub verdict_of : Unprinted → Verdict
verdict_of PageLimit = Pages
verdict_of NoRoom = Room
