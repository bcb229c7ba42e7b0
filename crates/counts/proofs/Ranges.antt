-- What `all`, `any` and `position` answer over a range from 0 or over a slice, in the words of `Below`, where the closure computes a test.
--     all_over, any_over, position_over   a range from 0 to n; the closure's answers count below n alone
--     all_each, position_each   a slice
--     all_skip   a slice from one of its elements on
-- Assumes nothing.
use mathlib.Core.Path.{◌≡◌, refl, sym, ap, ◌∙◌}
use mathlib.Core.List.{List, [], ◌∷◌, ◌++◌}
use mathlib.Core.Bool.{Bool, true, false, cond, ◌&&◌, ◌||◌, true≢false}
use Prim.Native.Nat.{ℕ, zero, suc, ◌+◌, ◌-◌, ◌≤◌, ◌<◌}
use native.Mathlib.Omega.{arith}
use lib.Dec.{ltb}
use lib.ListN.{length, get_or, drop, length-drop}
use lib.Seq.{get_or-drop}
use Rattle.std.specs.declared.iter.Skip.{Skip}
use Rattle.std.specs.Iterator.Adapters.{skip_source, skip_count, skip_steps}
use Rattle.std.proofs.lemmas.Iterator.Adapters.{YieldsList-from_skip}
use borrow.Author.Tests.{lt-ltb, le-ltb}
use denote.Param.Members.{Mut}
use denote.Ref.{Bor}
use Rattle.std.specs.declared.ops.Range.{Range}
use Rattle.std.specs.declared.option.Option.{Option}
use Rattle.std.specs.declared.option.Option.TheVariants.{None, Some}
use Rattle.std.specs.declared.slice.Iter.{Iter}
use Rattle.std.specs.Bool.{MatchBool}
use Rattle.std.specs.Fn.{Called}
use Rattle.std.specs.Iterator.{YieldsThen}
use Rattle.std.specs.List.{range_with_len, FoldsTo, AllWithin, HoldsAt, list_all}
use Rattle.std.specs.Option.{MatchOption, unwrap_or}
use Rattle.std.proofs.iter.Yields.{nat_range_steps, fronts}
use Rattle.std.proofs.lemmas.Iterator.Search.{all_from_yields_List}
use Rattle.std.specs.Slice.Iter.{iter_rest}
use Rattle.std.proofs.lemmas.Iterator.{YieldsList-from_slice, YieldsList-from_range, cases_from_all, cases_from_any, IsFirst-from_position}
use Rattle.std.proofs.lemmas.List.FromFn.{length-range_with_len, get_or-range_with_len}
use Rattle.counts.specs.Below.{all_below, first_below}
use Rattle.counts.proofs.Laws.{by-test, all_same, and_l, and_r, all-intro, all-fails, first-is, first-upto}

-- an answer for each number below n, read off the range's list
module _ (n : ℕ) (p : ℕ → Bool) (b : Bool) where
  abbrev pub Answers : ℕ → Type 0
  Answers x = x < n → b ≡ p x

  answer_at : (i : ℕ) → i < n → HoldsAt Answers (range_with_len 0 n) i → b ≡ p i
  answer_at i l h = let e : get_or (range_with_len 0 n) i 0 ≡ i = omega (arith, get_or-range_with_len 0 n i 0 l) in (rw e at (h 0)) l

module _ (n : ℕ) (p : ℕ → Bool) where
  abbrev numbers : List ℕ
  numbers = range_with_len 0 n

  is_all : (r : Bool) → MatchBool r (AllWithin (Answers n p true) numbers 0 (length numbers)) ((k : ℕ) × (k < length numbers) × HoldsAt (Answers n p false) numbers k) → r ≡ all_below n p
  is_all true h = sym (all-intro p n (λ i l. sym (answer_at n p true i l (λ d. h i d (omega arith) (omega (arith, length-range_with_len 0 n))))))
  is_all false h = let l : h.0 < n = omega (arith, h.1, length-range_with_len 0 n) in sym (all-fails p h.0 n l (sym (answer_at n p false h.0 l h.2)))

  is_any : (r : Bool) → MatchBool r ((k : ℕ) × (k < length numbers) × HoldsAt (Answers n p true) numbers k) (AllWithin (Answers n p false) numbers 0 (length numbers)) → r ≡ ltb (first_below n p) n
  is_any true h = let l : h.0 < n = omega (arith, h.1, length-range_with_len 0 n) in sym (lt-ltb _ n (omega (arith, l, first-upto p h.0 n l (sym (answer_at n p true h.0 l h.2)))))
  is_any false h = sym (le-ltb _ n (omega (arith, first-is p n n (omega arith) (λ k l. sym (answer_at n p false k l (λ d. h k d (omega arith) (omega (arith, length-range_with_len 0 n))))) (λ l. absurd (omega arith)))))

  is_first : (r : Option ℕ) → MatchOption r (AllWithin (Answers n p false) numbers 0 (length numbers)) (λ i. (i < length numbers) × HoldsAt (Answers n p true) numbers i × AllWithin (Answers n p false) numbers 0 i) → unwrap_or r n ≡ first_below n p
  is_first None h = first-is p n n (omega arith) (λ k l. sym (answer_at n p false k l (λ d. h k d (omega arith) (omega (arith, length-range_with_len 0 n))))) (λ l. absurd (omega arith))
  is_first (Some i) h =
      let l : i < n = omega (arith, h.0, length-range_with_len 0 n) in
      first-is p i n (omega arith) (λ k m. sym (answer_at n p false k (omega arith) (λ d. h.2 k d (omega arith) m))) (λ _. sym (answer_at n p true i l h.1))

  module _ {F : Type 0} {g : Mut F (ℕ × Unit {0}) Bool} {s u : Range ℕ} {f : F} {m : ℕ} where
    pub all_over : (r : Bool)
        → (xs : List ℕ) × (o : Option ℕ) × (j : F) × YieldsThen nat_range_steps s xs o u × FoldsTo (λ a x q. Called g a (x, tt) true q) f xs j × MatchOption o (r ≡ true) (λ x. (r ≡ false) × ((h : F) × Called g j (x, tt) false h))
        → s ≡ record { start = 0; end = m } → m ≡ n → ((x : ℕ) (b : Bool) (q : F) → Called g f (x, tt) b q → (q ≡ f) × (x < n → b ≡ p x)) → r ≡ all_below n p
    all_over r d e i k = is_all r (cases_from_all u f r (Answers n p true) (Answers n p false) d (YieldsList-from_range 0 m n e (omega arith)) (λ x q. k x true q) (λ x q c. (k x false q c).1))

    -- whether one passes
    pub any_over : (r : Bool)
        → (xs : List ℕ) × (o : Option ℕ) × (j : F) × YieldsThen nat_range_steps s xs o u × FoldsTo (λ a x q. Called g a (x, tt) false q) f xs j × MatchOption o (r ≡ false) (λ x. (r ≡ true) × ((h : F) × Called g j (x, tt) true h))
        → s ≡ record { start = 0; end = m } → m ≡ n → ((x : ℕ) (b : Bool) (q : F) → Called g f (x, tt) b q → (q ≡ f) × (x < n → b ≡ p x)) → r ≡ ltb (first_below n p) n
    any_over r d e i k = is_any r (cases_from_any u f r (Answers n p true) (Answers n p false) d (YieldsList-from_range 0 m n e (omega arith)) (λ x q c. (k x true q c).1) (λ x q. k x false q))

    -- the first that passes, or the bound
    pub position_over : (r : Option ℕ)
        → (xs : List ℕ) × (o : Option ℕ) × (j : F) × YieldsThen nat_range_steps s xs o u × FoldsTo (λ a x q. Called g a (x, tt) false q) f xs j × MatchOption o (r ≡ None) (λ x. (r ≡ Some (length xs)) × ((h : F) × Called g j (x, tt) true h))
        → s ≡ record { start = 0; end = m } → m ≡ n → ((x : ℕ) (b : Bool) (q : F) → Called g f (x, tt) b q → (q ≡ f) × (x < n → b ≡ p x)) → unwrap_or r m ≡ first_below n p
    position_over r d e i k = rw i (is_first r (IsFirst-from_position u f r (Answers n p true) (Answers n p false) d (YieldsList-from_range 0 m n e (omega arith)) (λ x q c. (k x true q c).1) (λ x q. k x false q)))

-- over a slice

each_passes : {A : Type 0} (p : A → Bool) (d : A) (xs : List A) (i : ℕ) → i < length xs → list_all p xs ≡ true → p (get_or xs i d) ≡ true
each_passes p d [] i l e = absurd (omega arith)
each_passes p d (x ∷ xs) zero l e = and_l (p x) (list_all p xs) e
each_passes p d (x ∷ xs) (suc i) l e = each_passes p d xs i (omega arith) (and_r (p x) (list_all p xs) e)

some_fails : {A : Type 0} (p : A → Bool) (d : A) (xs : List A) → list_all p xs ≡ false → (i : ℕ) × (i < length xs) × (p (get_or xs i d) ≡ false)
some_fails p d [] e = absurd (true≢false e)
some_fails p d (x ∷ xs) e = by-test (p x) (λ t. let h = some_fails p d xs (rw t at e) in (suc h.0, omega (arith, h.1), h.2)) (λ f. (0, omega arith, f))

all_within : {A : Type 0} (p : A → Bool) (d : A) (b : Bool) (xs : List A) → list_all p xs ≡ b → b ≡ all_below (length xs) (λ i. p (get_or xs i d))
all_within p d true xs e = sym (all-intro _ _ (λ i l. each_passes p d xs i l e))
all_within p d false xs e = let h = some_fails p d xs e in sym (all-fails _ h.0 _ h.1 h.2)

pub list_all-below : {A : Type 0} (p : A → Bool) (d : A) (xs : List A) → list_all p xs ≡ all_below (length xs) (λ i. p (get_or xs i d))
list_all-below p d xs = all_within p d _ xs refl

pub all_each : {A F : Type 0} {g : Mut F (Bor A × Unit {0}) Bool} {s u : Iter A} {f : F} (p : A → Bool) (d : A) (xs : List A) (r : Bool)
    → (ys : List (Bor A)) × (o : Option (Bor A)) × (j : F) × YieldsThen fronts s ys o u × FoldsTo (λ a x q. Called g a (x, tt) true q) f ys j × MatchOption o (r ≡ true) (λ x. (r ≡ false) × ((h : F) × Called g j (x, tt) false h))
    → iter_rest s ≡ xs → ((x : Bor A) (b : Bool) (q : F) → Called g f (x, tt) b q → (q ≡ f) × (b ≡ p x.now)) → r ≡ all_below (length xs) (λ i. p (get_or xs i d))
all_each {u = u} {f = f} p d xs r h e k = all_from_yields_List p u f r h (YieldsList-from_slice xs e) k ∙ list_all-below p d xs

-- from byte k of the slice on
pub all_skip : {A F : Type 0} {g : Mut F (Bor A × Unit {0}) Bool} {s u : Skip (Iter A)} {f : F} (p : A → Bool) (d : A) (k : ℕ) (xs : List A) (r : Bool)
    → (ys : List (Bor A)) × (o : Option (Bor A)) × (j : F) × YieldsThen (skip_steps fronts) s ys o u × FoldsTo (λ a x q. Called g a (x, tt) true q) f ys j × MatchOption o (r ≡ true) (λ x. (r ≡ false) × ((h : F) × Called g j (x, tt) false h))
    → iter_rest (skip_source s) ≡ xs → skip_count s ≡ k → ((x : Bor A) (b : Bool) (q : F) → Called g f (x, tt) b q → (q ≡ f) × (b ≡ p x.now)) → r ≡ list_all p (drop k xs)
all_skip {u = u} {f = f} p d k xs r h e n c = all_from_yields_List p u f r h (YieldsList-from_skip k (YieldsList-from_slice xs e) n) c

pub list_all-drop : {A : Type 0} (p : A → Bool) (d : A) (k : ℕ) (xs : List A) → list_all p (drop k xs) ≡ all_below (length xs - k) (λ i. p (get_or xs (k + i) d))
list_all-drop p d k xs =
    let n : length (drop k xs) ≡ length xs - k = length-drop k xs in
    list_all-below p d (drop k xs) ∙ rw n (all_same _ _ (length xs - k) (λ i l. ap p (get_or-drop k xs i d)))

-- the first element of a slice that passes, or its length
first_within : {A : Type 0} (p : A → Bool) (d : A) (xs : List A) (r : Option ℕ)
    → MatchOption r (AllWithin (λ x. false ≡ p x) xs 0 (length xs)) (λ i. (i < length xs) × HoldsAt (λ x. true ≡ p x) xs i × AllWithin (λ x. false ≡ p x) xs 0 i) → unwrap_or r (length xs) ≡ first_below (length xs) (λ i. p (get_or xs i d))
first_within p d xs None h = first-is _ (length xs) (length xs) (omega arith) (λ k l. sym (h k d (omega arith) l)) (λ l. absurd (omega arith))
first_within p d xs (Some i) h = first-is _ i (length xs) (omega (arith, h.0)) (λ k l. sym (h.2 k d (omega arith) l)) (λ l. sym (h.1 d))

pub position_each : {A F : Type 0} {g : Mut F (Bor A × Unit {0}) Bool} {s u : Iter A} {f : F} (p : A → Bool) (d : A) (xs : List A) (r : Option ℕ)
    → (ys : List (Bor A)) × (o : Option (Bor A)) × (j : F) × YieldsThen fronts s ys o u × FoldsTo (λ a x q. Called g a (x, tt) false q) f ys j × MatchOption o (r ≡ None) (λ x. (r ≡ Some (length ys)) × ((h : F) × Called g j (x, tt) true h))
    → iter_rest s ≡ xs → ((x : Bor A) (b : Bool) (q : F) → Called g f (x, tt) b q → (q ≡ f) × (b ≡ p x.now)) → unwrap_or r (length xs) ≡ first_below (length xs) (λ i. p (get_or xs i d))
position_each {u = u} {f = f} p d xs r h e k =
    first_within p d xs r (IsFirst-from_position u f r (λ x. true ≡ p x) (λ x. false ≡ p x) h (YieldsList-from_slice xs e) (λ x q c. (k x true q c).1) (λ x q c. k x false q c))
