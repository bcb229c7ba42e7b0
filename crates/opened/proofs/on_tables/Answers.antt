-- `opened::on_tables` meets its contract: a description that breaks D1 has no tables.
use mathlib.Core.Path.{refl}
use borrow.Author.Rules.{rules}
use Rattle.unpacked.proofs.Opening.{under, broken}
use Rattle.description.proofs.Answer.{d1-broken, front_room}
use Rattle.opened.proofs.on_tables.Goals as goal

pub returns-in_default : goal.returns-in_default
returns-in_default g c = (d1-broken _ (broken _ c.opening_of.ensures c.in_default.is), refl)

pub work_in-requires-clause-room : goal.work_in-requires-clause-room
work_in-requires-clause-room g c = let p = under _ c.opening_of.ensures c.in-Some.is in front_room _ p.0 p.1 c.numbers_of-n.ensures 608 1 c.if-n-gt-SMALL_TABLE.false
