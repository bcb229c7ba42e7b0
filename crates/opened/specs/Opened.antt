-- What work on the tables of a description finds, and what it comes to.
use Rattle.std.specs.Prelude.{ℕ, ◌≡◌, List, Ok}
use Rattle.std.specs.Fn.{Once}
use denote.Ref.{Bor, MutBor}
use Rattle.tables.specs.declared.Tables.{Tables}
use Rattle.unpacked.specs.Head.{head_of}
use Rattle.unpacked.specs.Table.{table, characters}
use Rattle.description.specs.Check.{checked}

-- the tables of an accepted description
pub record Opens (d : List ℕ) (t : Tables) : Type 0 where
  pub accepted : checked d ≡ Ok tt
  pub head : t.head ≡ head_of d
  pub numbers : t.numbers.now ≡ table d
  pub characters_are : t.characters.now ≡ characters d

-- the work may be called on them, with the output as it is
abbrev pub MayWork : {F R : Type 0} → Once F (Bor Tables × (MutBor (List ℕ) × Unit {0})) (R × (MutBor (List ℕ) × Unit {0})) → F → List ℕ → List ℕ → Type 0
MayWork g f d out = (t : Bor Tables) (o : MutBor (List ℕ)) → Opens d t.now → o.now ≡ out → g.pre f (t, (o, tt))

-- the work was called once, and this is what it answered and what it left of the output
pub record Worked {F R : Type 0} (g : Once F (Bor Tables × (MutBor (List ℕ) × Unit {0})) (R × (MutBor (List ℕ) × Unit {0}))) (f : F) (d out : List ℕ) (r : R) (new : List ℕ) : Type 0 where
  pub tables : Bor Tables
  pub opens : Opens d tables.now
  pub before : MutBor (List ℕ)
  pub lent : before.now ≡ out
  pub after : MutBor (List ℕ)
  pub met : g.post f (tables, (before, tt)) (r, (after, tt))
  pub left : after.now ≡ new
