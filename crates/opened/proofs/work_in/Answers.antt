-- `opened::work_in` meets its contract: the tables that CHECK made and accepted are lent to the work.
use mathlib.Core.Path.{refl, sym, ◌∙◌, ap}
use borrow.Author.Rules.{rules}
use Rattle.opened.specs.Opened.{Opens}
use Rattle.opened.proofs.work_in.Goals as goal

pub returns : goal.returns
returns g c =
    let t = c.new-t.ensures in
    record {
      tables = _;
      opens = record {
        accepted = sym c.check_in.ensures.0 ∙ c.in_ok-check_in.was;
        head = t.0 ∙ c.requires.room.head;
        numbers = ap (λ (b : _). b.now) t.1.0 ∙ c.check_in.ensures.1;
        characters_are = ap (λ (b : _). b.now) t.1.1 ∙ c.characters_in.ensures;
      };
      before = _;
      lent = refl;
      after = _;
      met = c.work.ensures;
      left = refl;
    }
