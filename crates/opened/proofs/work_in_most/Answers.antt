-- `opened::work_in_most` meets its contract: a table of the most has room for the numbers of every description that keeps D1.
use mathlib.Core.Path.{sym}
use borrow.Author.Rules.{rules}
use Rattle.unpacked.specs.Table.{numbers_max}
use Rattle.description.proofs.Answer.{front, numbers-few, front_room}
use Rattle.opened.proofs.work_in_most.Goals as goal

pub slice_bounds-numbers-end : goal.slice_bounds-numbers-end
slice_bounds-numbers-end g c = numbers-few _ c.requires.head.0 c.requires.head.1 c.numbers_of-n.ensures

pub slice_bounds-work_in-end : goal.slice_bounds-work_in-end
slice_bounds-work_in-end g c = sym (front _ numbers_max 1 (numbers-few _ c.requires.head.0 c.requires.head.1 c.numbers_of-n.ensures))

pub work_in-requires-clause-room : goal.work_in-requires-clause-room
work_in-requires-clause-room g c =
    let p = c.requires.head in
    front_room _ p.0 p.1 c.numbers_of-n.ensures numbers_max 1 (numbers-few _ p.0 p.1 c.numbers_of-n.ensures)
