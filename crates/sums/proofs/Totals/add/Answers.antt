-- `Totals::add` meets its contract: two numbers in range have a sum that fits.
use mathlib.Core.Path.{◌≡◌, refl, sym, ◌∙◌}
use mathlib.Core.Bool.{true}
use borrow.Author.Rules.{rules}
use lib.IntN.{pos, ◌+ℤ◌}
use lib.ListN.{get_or}
use mir.Syntax.{w64}
use mir.Val.{to_z, of_z}
use Rattle.sums.specs.Sums.{in_range, add_at}
use Rattle.sums.proofs.Range.{sum_fits, read_sum, sum-in}
use Rattle.sums.proofs.Totals.add.Goals as goal

pub overflow_add-sum : goal.overflow_add-sum
unfolding add_at
overflow_add-sum c =
    let old_in : in_range (get_or c.args.self.now.sums c.args.i (pos 0)) ≡ true = sum-in c.args.self.now.sums c.args.i c.requires.1.0 c.requires.0 in
    sum_fits (get_or c.args.self.now.sums c.args.i (pos 0)) c.args.x (old_in) c.requires.1.1

pub returns-then-within : goal.returns-then-within
unfolding add_at
returns-then-within c =
    let sum-read : to_z w64 (of_z w64 (to_z w64 (of_z w64 (get_or c.args.self.now.sums c.args.i (pos 0))) +ℤ to_z w64 (of_z w64 c.args.x))) ≡ get_or c.args.self.now.sums c.args.i (pos 0) +ℤ c.args.x = let old_in : in_range (get_or c.args.self.now.sums c.args.i (pos 0)) ≡ true = sum-in c.args.self.now.sums c.args.i c.requires.1.0 c.requires.0 in
    read_sum (get_or c.args.self.now.sums c.args.i (pos 0)) c.args.x (old_in) c.requires.1.1 in
    let r = sum-read in
    rw (r, rw r at (sym c.within.ensures ∙ c.if-within.true)) refl

pub returns-else-within : goal.returns-else-within
unfolding add_at
returns-else-within c =
    let sum-read : to_z w64 (of_z w64 (to_z w64 (of_z w64 (get_or c.args.self.now.sums c.args.i (pos 0))) +ℤ to_z w64 (of_z w64 c.args.x))) ≡ get_or c.args.self.now.sums c.args.i (pos 0) +ℤ c.args.x = let old_in : in_range (get_or c.args.self.now.sums c.args.i (pos 0)) ≡ true = sum-in c.args.self.now.sums c.args.i c.requires.1.0 c.requires.0 in
    read_sum (get_or c.args.self.now.sums c.args.i (pos 0)) c.args.x (old_in) c.requires.1.1 in
    rw (rw (sum-read) at (sym c.within.ensures ∙ c.if-within.false)) refl
