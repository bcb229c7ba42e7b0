-- How many numbers of a range from 0 pass a test, and the number that passes after d others: what `filter(..).count()` and `filter(..).nth(d)` answer, in the words of `Below`.
-- Assumes nothing.
use mathlib.Core.Path.{◌≡◌, refl, sym, ap, ◌∙◌}
use mathlib.Core.List.{List, [], ◌∷◌, ◌++◌}
use mathlib.Core.Logic.{⊎_elim}
use mathlib.Core.Bool.{Bool, true, false, ◌&&◌}
use Prim.Native.Nat.{ℕ, zero, suc, ◌+◌, ◌≤◌, ◌<◌}
use native.Mathlib.Nat.{zero-add}
use native.Mathlib.Omega.{arith}
use lib.Dec.{eqb, ltb}
use lib.ListN.{length, get_or, length-append, get_or-append, get_or-eq_default}
use lib.Seq.{get_or_at}
use borrow.Author.Tests.{eq-eqb, eqb-true, ltb-true, ltb-false}
use denote.Param.Members.{Mut}
use denote.Ref.{Bor}
use Rattle.std.specs.declared.ops.Range.{Range}
use Rattle.std.specs.declared.iter.Filter.{Filter}
use Rattle.std.specs.declared.option.Option.{Option}
use Rattle.std.specs.Fn.{CalledAt}
use Rattle.std.specs.Iterator.{Drains, YieldsThen}
use Rattle.std.specs.Iterator.Adapters.{filter_source, filter_callee, filter_steps}
use Rattle.std.specs.List.{range_with_len, filter, slice_get}
use Rattle.std.specs.Option.{MatchOption, unwrap_or}
use Rattle.std.proofs.iter.Yields.{nat_range_steps}
use Rattle.std.proofs.lemmas.Iterator.{YieldsList, YieldsList-from_range}
use Rattle.std.proofs.lemmas.Iterator.Consumers.{YieldsList-from_filter, count_from_yields_List, nth_from_yields_List}
use Rattle.std.proofs.lemmas.Iterator.Adapters.{option_map_id}
use Rattle.std.proofs.lemmas.List.Elements.{filter-append}
use Rattle.std.proofs.lemmas.Option.{unwrap_or-slice_get}
use Rattle.counts.specs.Below.{bit, sum_below, first_below}
use Rattle.counts.proofs.Laws.{by-test, and_l, and_r, sum-part, first-is}

range_more : (a n : ℕ) → range_with_len a (suc n) ≡ range_with_len a n ++ ((a + n) ∷ [])
range_more a zero = ap (λ (x : ℕ). x ∷ []) (omega arith)
range_more a (suc n) = ap (λ (xs : List ℕ). a ∷ xs) (range_more (a + 1) n ∙ ap (λ (x : ℕ). range_with_len (a + 1) n ++ (x ∷ [])) (omega arith))

module _ (p : ℕ → Bool) where
  abbrev passing : ℕ → List ℕ
  passing n = filter p (range_with_len 0 n)

  -- one number more
  passing-more : (n : ℕ) → passing (suc n) ≡ passing n ++ filter p (n ∷ [])
  passing-more n = ap (filter p) (range_more 0 n) ∙ rw (filter-append, zero-add) refl

  one : (n : ℕ) → length (filter p (n ∷ [])) ≡ bit (p n)
  one n = by-test (p n) (λ t. rw t refl) (λ f. rw f refl)

  pub count-below : (n : ℕ) → length (passing n) ≡ sum_below n (λ i. bit (p i))
  unfolding sum_below
  count-below zero = refl
  count-below (suc n) = ap length (passing-more n) ∙ rw (length-append, count-below n, one n) refl

  module _ (d : ℕ) where
    -- the number that passes after d others: it passes, and d numbers before it do
    abbrev pub After : ℕ → Bool
    After i = p i && eqb (sum_below i (λ k. bit (p k))) d

    value-is : (n z x : ℕ) → get_or (passing n) d z ≡ x → x < n → After x ≡ true → (get_or (passing n) d z < n) × (After (get_or (passing n) d z) ≡ true)
    value-is n z x e l t = rw e (l, t)

    last-is : (n z : ℕ) (b : Bool) → p n ≡ b → d < sum_below n (λ k. bit (p k)) + bit b → sum_below n (λ k. bit (p k)) ≤ d → (get_or (passing (suc n)) d z < suc n) × (After (get_or (passing (suc n)) d z) ≡ true)
    last-is n z false t l m = absurd (omega arith)
    last-is n z true t l m =
        let e : sum_below n (λ k. bit (p k)) ≡ d = omega arith in
        let own : filter p (n ∷ []) ≡ n ∷ [] = rw t refl in
        value-is (suc n) z n (ap (λ (xs : List ℕ). get_or xs d z) (passing-more n ∙ ap (λ (xs : List ℕ). passing n ++ xs) own) ∙ get_or_at (passing n) n [] z d (count-below n ∙ e)) (omega arith) (rw (t, eq-eqb _ d e) refl)

    found_at : (n z : ℕ) → d < sum_below n (λ k. bit (p k)) → (get_or (passing n) d z < n) × (After (get_or (passing n) d z) ≡ true)
    unfolding sum_below
    found_at zero z l = absurd (omega arith)
    found_at (suc n) z l =
        by-test (ltb d (sum_below n (λ k. bit (p k))))
        (λ t. let m : d < sum_below n (λ k. bit (p k)) = ltb-true _ _ t in
        let h = found_at n z m in
        value-is (suc n) z _ (ap (λ (xs : List ℕ). get_or xs d z) (passing-more n) ∙ get_or-append (passing n) (filter p (n ∷ [])) z d (omega (arith, count-below n))) (omega (arith, h.0)) h.1)
        (λ t. last-is n z (p n) refl l (ltb-false _ _ t))

    -- none before it
    after-counts : (k x : ℕ) → k < x → After k ≡ true → d < sum_below x (λ k. bit (p k))
    after-counts k x l e =
        let t = and_l (p k) _ e in
        let s : sum_below k (λ k. bit (p k)) ≡ d = eqb-true _ d (and_r (p k) _ e) in
        let part : sum_below k (λ k. bit (p k)) + bit (p k) ≤ sum_below x (λ k. bit (p k)) = sum-part (λ k. bit (p k)) k x l in
        let whole : sum_below k (λ k. bit (p k)) + 1 ≤ sum_below x (λ k. bit (p k)) = rw t at part in
        omega arith

    pub nth-below : (n : ℕ) → get_or (passing n) d n ≡ first_below n After
    nth-below n =
        by-test (ltb d (sum_below n (λ k. bit (p k))))
        (λ t. let h = found_at n n (ltb-true _ _ t) in
        let s : sum_below (get_or (passing n) d n) (λ k. bit (p k)) ≡ d = eqb-true _ d (and_r (p (get_or (passing n) d n)) _ h.1) in
        first-is After _ n (omega (arith, h.0)) (λ k l. by-test (After k) (λ e. absurd (omega (arith, after-counts k _ l e))) (λ f. f)) (λ l. h.1))
        (λ t. let m : sum_below n (λ k. bit (p k)) ≤ d = ltb-false _ _ t in
        get_or-eq_default (passing n) n (omega (arith, count-below n))
        ∙ first-is After n n (omega arith) (λ k l. by-test (After k) (λ e. absurd (omega (arith, after-counts k n l e))) (λ f. f)) (λ l. absurd (omega arith)))

  module _ {F : Type 0} {g : Mut F (Bor ℕ × Unit {0}) Bool} {s : Filter (Range ℕ) F} {f : F} {m : ℕ} (n : ℕ) where
    road : filter_source s ≡ record { start = 0; end = m } → m ≡ n → filter_callee s ≡ f → ((x : ℕ) (b : Bool) (q : F) → CalledAt g f x b q → (q ≡ f) × (b ≡ p x)) → YieldsList (filter_steps nat_range_steps g) (λ x. x) s (passing n)
    road e i c k = YieldsList-from_filter g p (YieldsList-from_range 0 m n e (omega arith)) c k

    pub count_over : (r : ℕ) → (xs : List ℕ) × Drains (filter_steps nat_range_steps g) s xs × (r ≡ length xs)
        → filter_source s ≡ record { start = 0; end = m } → m ≡ n → filter_callee s ≡ f → ((x : ℕ) (b : Bool) (q : F) → CalledAt g f x b q → (q ≡ f) × (b ≡ p x)) → r ≡ sum_below n (λ i. bit (p i))
    count_over r h e i c k = count_from_yields_List s r h (road e i c k) ∙ count-below n

    pub nth_over : (d : ℕ) (u : Filter (Range ℕ) F) (r : Option ℕ) → (xs : List ℕ) × YieldsThen (filter_steps nat_range_steps g) s xs r u × MatchOption r (length xs ≤ d) (λ _. length xs ≡ d)
        → filter_source s ≡ record { start = 0; end = m } → m ≡ n → filter_callee s ≡ f → ((x : ℕ) (b : Bool) (q : F) → CalledAt g f x b q → (q ≡ f) × (b ≡ p x)) → unwrap_or r m ≡ first_below n (After d)
    nth_over d u r h e i c k =
        let at : r ≡ slice_get (passing n) d = sym (option_map_id r) ∙ nth_from_yields_List r u d h (road e i c k) in
        rw (at, i) (unwrap_or-slice_get (passing n) d n ∙ nth-below d n)
