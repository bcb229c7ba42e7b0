-- `splice::copy_block` meets its contract. Assumes nothing.
use mathlib.Core.Path.{◌≡◌, refl, sym, ap, ◌∙◌}
use borrow.Author.Rules.{rules}
use borrow.Author.Tests.{tests}
use native.Mathlib.Omega.{arith}
use Prim.Native.Nat.{◌+◌, ◌-◌}
use lib.ListN.{length, take, drop, length-drop}
use lib.Seq.{length-take-le}
use Rattle.splice.proofs.Laws.{part-splice}
use Rattle.splice.proofs.copy_block.Goals as goal

pub returns : goal.returns
returns g c =
    let a = c.args in
    let here : a.i + g.row.N - a.i ≡ g.row.N = omega arith in
    let n : length (take g.row.N (drop a.i a.from.now)) ≡ a.at + g.row.N - a.at = omega (arith, length-drop a.i a.from.now, length-take-le g.row.N (drop a.i a.from.now) (omega (arith, length-drop a.i a.from.now, c.requires.0))) in
    rw (c.copy_from_slice.ensures.after, here) (part-splice a.out.now a.at (a.at + g.row.N - a.at) (take g.row.N (drop a.i a.from.now)) n)
