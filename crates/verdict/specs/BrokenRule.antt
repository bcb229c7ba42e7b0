-- The number of a rule that a description breaks.
use Rattle.std.specs.Prelude.{ℕ}
use Rattle.verdict.specs.declared.BrokenRule.{BrokenRule}
use Rattle.verdict.specs.declared.BrokenRule.TheVariants.{Sections, Page, Fields, Controls, Groups, Lines, Items, Counters, Pictures}

-- D1 to D8, which are about these parts in turn; and rule 9, about the pictures
abbrev pub rule_number : BrokenRule → ℕ
rule_number Sections = 1
rule_number Page = 2
rule_number Fields = 3
rule_number Controls = 4
rule_number Groups = 5
rule_number Lines = 6
rule_number Items = 7
rule_number Counters = 8
rule_number Pictures = 9
