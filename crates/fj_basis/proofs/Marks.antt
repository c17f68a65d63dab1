-- Places that are marked.
use Rattle.std.proofs.Common.{◌≡◌, ◌⊎◌, inl, inr, ℕ, ◌+◌, ◌<◌, ◌≤◌, Bool, true, false, List, [], ◌∷◌, ◌++◌, length, length-append, take, get_or, set, All, refl, sym, ap, ◌∙◌, subst, arith, add-one, true≢false}
use Rattle.std.proofs.Math.Seq.{take-suc}
use Rattle.std.proofs.lemmas.Bool.{cases_order}
use Rattle.std.proofs.lemmas.List.{get_or_append_left, get_or_default, get_or_push, get_or-set_other, get_or-set_same, length-set}
use Rattle.std.proofs.lemmas.List.Elements.{All-nil, All-push, All-weaker}
use Rattle.fj_basis.specs.declared.history.Summand.{Summand}
use Rattle.fj_basis.specs.declared.history.Source.{Source}
use Rattle.fj_basis.specs.declared.history.Source.TheVariants.{Given, Combined}
use Rattle.fj_basis.specs.declared.history.Making.{Making}
use Rattle.fj_basis.specs.Forming.{AreInOrder, AreMarked, IsMarked, UsesBelow}

-- A place more is marked.
marked-kept : (marks : List Bool) (p k : ℕ) → p < length marks → IsMarked marks k → IsMarked (set marks p true) k
marked-kept marks p k l own = by (cases_order k p)
  where
    by : (k ≡ p) ⊎ ((k < p) ⊎ (p < k)) → IsMarked (set marks p true) k
    by (inl e) = subst (IsMarked (set marks p true)) (sym e) (get_or-set_same marks p true false l)
    by (inr (inl h)) = get_or-set_other marks p k true false (λ e. absurd (omega (arith, e, h))) ∙ own
    by (inr (inr h)) = get_or-set_other marks p k true false (λ e. absurd (omega (arith, e, h))) ∙ own

marked-beyond : (marks : List Bool) (p k : ℕ) → p < k → IsMarked (set marks p true) k → IsMarked marks k
marked-beyond marks p k l own = sym (get_or-set_other marks p k true false (λ e. absurd (omega (arith, e, l)))) ∙ own

-- The places of the first n summands are marked.
pub record MarkedUpTo {K O : Type 0} (summands : List (Summand K O)) (before : List Bool) (n : ℕ) (marks : List Bool) : Type 0 where
  pub long : length marks ≡ length before
  pub marked : All (λ s. IsMarked marks s.place) (take n summands)
  pub kept : (k : ℕ) → IsMarked before k → IsMarked marks k
  pub beyond : (m k : ℕ) → All (λ s. s.place < m) summands → m ≤ k → IsMarked marks k → IsMarked before k

pub MarkedUpTo-none : {K O : Type 0} (summands : List (Summand K O)) (marks : List Bool) → MarkedUpTo summands marks 0 marks
MarkedUpTo-none summands marks = record { long = refl; marked = All-nil (λ s. IsMarked marks s.place); kept = λ k own. own; beyond = λ m k below l own. own }

pub MarkedUpTo-more : {K O : Type 0} (summands : List (Summand K O)) (before marks new : List Bool) (n : ℕ) (s : Summand K O) → n < length summands → s ≡ get_or summands n s → s.place < length before
    → new ≡ set marks s.place true → MarkedUpTo summands before n marks → MarkedUpTo summands before (n + 1) new
MarkedUpTo-more summands before marks new n s l at inside e h =
    let place : s.place < length marks = (let long = h.long in omega (arith, inside, long)) in
    subst (MarkedUpTo summands before (n + 1)) (sym e) (record {
      long = length-set marks s.place true ∙ h.long;
      marked = subst (All (λ t. IsMarked (set marks s.place true) t.place)) (sym (ap (λ m. take m summands) (add-one n) ∙ take-suc summands n s l))
          (All-push (λ t. IsMarked (set marks s.place true) t.place) (take n summands) (get_or summands n s)
          (All-weaker (λ t. IsMarked marks t.place) (λ t. IsMarked (set marks s.place true) t.place) (λ t own. marked-kept marks s.place t.place place own) (take n summands) h.marked)
          (subst (λ t. IsMarked (set marks s.place true) t.place) at (get_or-set_same marks s.place true false place)));
      kept = λ k own. marked-kept marks s.place k place (h.kept k own);
      beyond = λ m k below le own.
          let here = subst (λ t. t.place < m) (sym at) (below n s l) in
          h.beyond m k below le (marked-beyond marks s.place k (omega (arith, here, le)) own);
    })

-- What is marked stays so.
AreMarked-kept : {K O : Type 0} (marks new : List Bool) (source : Source K O) → ((k : ℕ) → IsMarked marks k → IsMarked new k) → AreMarked marks source → AreMarked new source
AreMarked-kept marks new (Given j) kept own = tt
AreMarked-kept marks new (Combined v) kept own = All-weaker (λ s. IsMarked marks s.place) (λ s. IsMarked new s.place) (λ s here. kept s.place here) v.items own

pub UsesBelow-more : {K O : Type 0} (m n : ℕ) (source : Source K O) → m ≤ n → UsesBelow m source → UsesBelow n source
UsesBelow-more m n (Given j) l own = tt
UsesBelow-more m n (Combined v) l own = All-weaker (λ s. s.place < m) (λ s. s.place < n) (λ s here. omega (arith, here, l)) v.items own

-- From the place k on, what a marked polynomial is made of is marked.
pub record ClosedFrom {K O : Type 0} (makings : List (Making K O)) (from k : ℕ) (marks : List Bool) : Type 0 where
  pub long : length marks ≡ length makings
  pub inside : k ≤ length makings
  pub asked : (j : ℕ) → from ≤ j → j < length makings → IsMarked marks j
  pub closed : (j : ℕ) (d : Making K O) → k ≤ j → j < length makings → IsMarked marks j → AreMarked marks (get_or makings j d).source

module _ {K O : Type 0} (makings : List (Making K O)) (order : AreInOrder makings) (from k : ℕ) (marks : List Bool) (h : ClosedFrom makings from (k + 1) marks) where
  -- One that isn't marked.
  pub closed-unmarked : get_or marks k false ≡ false → ClosedFrom makings from k marks
  closed-unmarked none = record {
    long = h.long;
    inside = (let inside = h.inside in omega (arith, inside));
    asked = h.asked;
    closed = λ j d le l own. by j d l own (cases_order j k) le;
  }
    where
      by : (j : ℕ) (d : Making K O) → j < length makings → IsMarked marks j → (j ≡ k) ⊎ ((j < k) ⊎ (k < j)) → k ≤ j → AreMarked marks (get_or makings j d).source
      by j d l own (inl e) le = absurd (true≢false (sym own ∙ ap (λ i. get_or marks i false) e ∙ none))
      by j d l own (inr (inl less)) le = absurd (omega (arith, less, le))
      by j d l own (inr (inr more)) le = h.closed j d (omega (arith, more)) l own

  -- One whose summands come to be marked.
  pub closed-marked : (new : List Bool) (m : Making K O) → m ≡ get_or makings k m → length new ≡ length marks → AreMarked new m.source → ((j : ℕ) → IsMarked marks j → IsMarked new j)
      → ((n j : ℕ) → UsesBelow n m.source → n ≤ j → IsMarked new j → IsMarked marks j) → ClosedFrom makings from k new
  closed-marked new m at long marked kept beyond = record {
    long = long ∙ h.long;
    inside = (let inside = h.inside in omega (arith, inside));
    asked = λ j le l. kept j (h.asked j le l);
    closed = λ j d le l own. by j d l own (cases_order j k) le;
  }
    where
      below : UsesBelow k m.source
      below = subst (λ x. UsesBelow k x.source) (sym at) (order.each k m (let inside = h.inside in omega (arith, inside)))

      by : (j : ℕ) (d : Making K O) → j < length makings → IsMarked new j → (j ≡ k) ⊎ ((j < k) ⊎ (k < j)) → k ≤ j → AreMarked new (get_or makings j d).source
      by j d l own (inl e) le =
          subst (λ x. AreMarked new x.source) (at ∙ get_or_default makings k m d (omega (arith, e, l)) ∙ ap (λ i. get_or makings i d) (sym e)) marked
      by j d l own (inr (inl less)) le = absurd (omega (arith, less, le))
      by j d l own (inr (inr more)) le = AreMarked-kept marks new (get_or makings j d).source kept (h.closed j d (omega (arith, more)) l (beyond k j below le own))

-- The places from a place on, up to the n-th.
pub record MarkedFrom (from n : ℕ) (marks : List Bool) : Type 0 where
  pub long : length marks ≡ n
  pub asked : (k : ℕ) → from ≤ k → k < n → IsMarked marks k

pub MarkedFrom-none : (from : ℕ) (marks : List Bool) → marks ≡ [] → MarkedFrom from 0 marks
MarkedFrom-none from marks e = record { long = ap length e; asked = λ k le l. absurd (omega (arith, l)) }

pub MarkedFrom-more : (from n : ℕ) (marks new : List Bool) (t : Bool) → (from ≤ n → t ≡ true) → new ≡ marks ++ (t ∷ []) → MarkedFrom from n marks → MarkedFrom from (n + 1) new
MarkedFrom-more from n marks new t is e h = subst (MarkedFrom from (n + 1)) (sym e) (record {
  long = length-append marks (t ∷ []) ∙ ap (λ m. m + 1) h.long;
  asked = λ k le l. by k le (cases_order k n) l;
})
  where
    by : (k : ℕ) → from ≤ k → (k ≡ n) ⊎ ((k < n) ⊎ (n < k)) → k < n + 1 → IsMarked (marks ++ (t ∷ [])) k
    by k le (inl e) l = get_or_push marks t false k (h.long ∙ sym e) ∙ is (omega (arith, le, e))
    by k le (inr (inl m)) l = get_or_append_left marks (t ∷ []) false k (let long = h.long in omega (arith, m, long)) ∙ h.asked k le m
    by k le (inr (inr m)) l = absurd (omega (arith, m, l))
