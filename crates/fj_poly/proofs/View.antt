-- What is seen of a falling list of terms: its polynomial has just these terms.
use Rattle.std.proofs.Common.{◌≡◌, ◌≢◌, ℕ, ◌<◌, ◌≤◌, List, [], ◌∷◌, length, get_or, map, max, Some, unwrap_or, refl, sym, ap, ap₂, ◌∙◌, subst, arith, slice_get, Bool, true, false, ◌&&◌, ◌==◌, nat_eq, cond, ⊎_elim, Ordering, Less, Equal, Greater}
use Rattle.std.proofs.Math.Nat.{eq-or-lt_of_le}
use Rattle.std.specs.FinMap.{empty, len}
use Rattle.std.specs.List.{reduce}
use Rattle.std.specs.Ordering.{ordering_index}
use Rattle.std.specs.Cmp.{tied_itself}
use lib.Pointwise.{pointwise, pointwise_decides, bytes_decides}
use Rattle.std.proofs.lemmas.Bool.{true≢false, cases_lt, eqb-true, eq-eqb}
use Rattle.std.proofs.lemmas.List.{length-map, get_or-map}
use Rattle.std.proofs.lemmas.Option.{slice_get-map, slice_get-get_or}
use Rattle.std.specs.Option.{option_map}
use Rattle.fj_coeff.specs.Field.{Field}
use Rattle.fj_theory.specs.Exponents.{IsExponents, total}
use Rattle.fj_theory.specs.MonomialOrder.{IsMonomialOrder, compare_by}
use Rattle.fj_theory.specs.Polynomial.{Polynomial, IsPolynomial, IsFalling, terms_falling, coefficient, lead, degree}
use Rattle.fj_theory.proofs.MonomialOrder.{compare_by_total, compare_by_exact}
use Rattle.fj_theory.proofs.Terms.{terms_falling-from_entries, length-terms_falling, coefficient-from_entries, coefficient-from_entries_cons, falling_coefficients, find_none}
use Rattle.fj_theory.proofs.TermLists.{degree-terms_falling}
use Rattle.fj_theory.proofs.FormalSum.{same_itself, same_false}
use Rattle.fj_theory.proofs.Polynomial.{coefficient-empty}
use Rattle.fj_poly.specs.Terms.{AreTerms}
use Rattle.fj_poly.proofs.Falling.{above_trans, falling-places}
use Rattle.fj_poly.proofs.Polynomials.{polynomial_of, each_term, IsPolynomial-polynomial_of}

module _ {key : List ℕ → List ℕ} (O : IsMonomialOrder key) (F : Field) (ts : List (List ℕ × ℕ)) (falls : IsFalling key ts) (terms : AreTerms F ts) where
  -- The terms of the polynomial are those of the list.
  pub terms_falling-polynomial_of : terms_falling key (polynomial_of ts) ≡ ts
  terms_falling-polynomial_of = terms_falling-from_entries O ts (λ k d h. (each_term {F = F} ts terms k d h).exponents) falls

  pub len-polynomial_of : len (polynomial_of ts) ≡ length ts
  len-polynomial_of = sym (length-terms_falling O (IsPolynomial-polynomial_of {F = F} ts terms)) ∙ ap length terms_falling-polynomial_of

-- An element of a list, seen by a function.
pub slice_get-map_at : {A B : Type 0} (f : A → B) (xs : List A) (i : ℕ) (x : A) → i < length xs → x ≡ get_or xs i x → slice_get (map f xs) i ≡ Some (f x)
slice_get-map_at f xs i x h e = slice_get-map f xs i ∙ ap (option_map f) (slice_get-get_or xs i x h ∙ ap Some (sym e))

-- A list of terms gives zero just where it is empty.
pub polynomial_of-empty : (F : Field) (ts : List (List ℕ × ℕ)) → AreTerms F ts → polynomial_of ts ≡ empty → ts ≡ []
polynomial_of-empty F [] terms e = refl
polynomial_of-empty F (t ∷ ts) terms e =
    let head : coefficient (polynomial_of (t ∷ ts)) t.0 ≡ t.1 = coefficient-from_entries_cons t ts t.0 ∙ ap (λ b. cond b t.1 (coefficient (polynomial_of ts) t.0)) (same_itself t.0) in
    let none : t.1 ≡ 0 = sym head ∙ ap (λ p. coefficient p t.0) e ∙ coefficient-empty t.0 in
    absurd (omega (arith, terms.0.1))

-- What a list of terms is seen as is a polynomial.
pub polynomial_seen : {F : Field} (ts : List (List ℕ × ℕ)) {f : Polynomial} → AreTerms F ts → polynomial_of ts ≡ f → IsPolynomial F f
polynomial_seen {F} ts terms seen = subst (IsPolynomial F) seen (IsPolynomial-polynomial_of {F = F} ts terms)

-- Whether two terms are the same, by their ranks and their exponents.
abbrev pub term_eq : List ℕ × ℕ → List ℕ × ℕ → Bool
term_eq s t = (s.1 == t.1) && pointwise nat_eq s.0 t.0

both : (a b : Bool) → (a && b) ≡ true → (a ≡ true) × (b ≡ true)
both true b e = (refl, e)
both false b e = absurd (true≢false (sym e))

term_eq_decides : (s t : List ℕ × ℕ) → (term_eq s t ≡ true → s ≡ t) × (s ≡ t → term_eq s t ≡ true)
term_eq_decides s t = (
  λ e. let h = both _ _ e in λ i. ((bytes_decides s.0 t.0).0 h.1 i, eqb-true s.1 t.1 h.0 i),
  λ e. ap₂ (λ a b. a && b) (eq-eqb s.1 t.1 (ap (λ u. u.1) e)) ((bytes_decides s.0 t.0).1 (ap (λ u. u.0) e)),
)

module _ {key : List ℕ → List ℕ} (O : IsMonomialOrder key) (F : Field) (ts : List (List ℕ × ℕ)) (falls : IsFalling key ts) (terms : AreTerms F ts) where
  -- Two falling lists of terms are the same just where their polynomials are.
  pub term_eq-polynomial_of : (us : List (List ℕ × ℕ)) → IsFalling key us → AreTerms F us
      → (pointwise term_eq ts us ≡ true → polynomial_of ts ≡ polynomial_of us) × (polynomial_of ts ≡ polynomial_of us → pointwise term_eq ts us ≡ true)
  term_eq-polynomial_of us others more =
      let same = pointwise_decides term_eq_decides ts us in (
        λ e. ap polynomial_of (same.0 e),
        λ e. same.1 (sym (terms_falling-polynomial_of O F ts falls terms) ∙ ap (terms_falling key) e ∙ terms_falling-polynomial_of O F us others more),
      )

  -- The lead is the first term.
  pub lead-polynomial_of : lead key (polynomial_of ts) ≡ slice_get ts 0
  unfolding lead
  lead-polynomial_of = ap (λ us. slice_get us 0) (terms_falling-polynomial_of O F ts falls terms)

  -- The degree is the greatest total.
  pub degree-polynomial_of : degree (polynomial_of ts) ≡ reduce max (map (λ t. total t.0) ts)
  degree-polynomial_of =
      degree-terms_falling O (IsPolynomial-polynomial_of {F = F} ts terms) ∙ ap (λ us. reduce max (map (λ t. total t.0) us)) (terms_falling-polynomial_of O F ts falls terms)

  exponents_at : (i : ℕ) (d : List ℕ × ℕ) → i < length ts → IsExponents (get_or ts i d).0
  exponents_at i d l = (each_term {F = F} ts terms i d l).exponents

  -- A term that ties with m has the coefficient at m.
  pub coefficient-tied : {m : List ℕ} → IsExponents m → (i : ℕ) (d : List ℕ × ℕ) → i < length ts → compare_by key m (get_or ts i d).0 ≡ Equal
      → (get_or ts i d).1 ≡ coefficient (polynomial_of ts) m
  coefficient-tied {m} M i d l tied =
      sym (ap (coefficient (polynomial_of ts)) (compare_by_exact O M (exponents_at i d l) tied) ∙ falling_coefficients O ts falls i d l)

  -- Where no term ties with m, the coefficient is 0.
  pub coefficient-untied : (m : List ℕ) → ((i : ℕ) (d : List ℕ × ℕ) → i < length ts → compare_by key m (get_or ts i d).0 ≢ Equal) → coefficient (polynomial_of ts) m ≡ 0
  coefficient-untied m apart =
      coefficient-from_entries ts m
      ∙ ap (λ o. unwrap_or o 0) (find_none m ts (λ i d l. same_false m (get_or ts i d).0 (λ e. apart i d l (ap (λ a. compare_by key a (get_or ts i d).0) e ∙ tied_itself (compare_by_total key) (get_or ts i d).0))))

  -- Going down the terms, m is first below, then tied, then above.
  pub places_rise : {m : List ℕ} → IsExponents m → (i j : ℕ) (d : List ℕ × ℕ) → i ≤ j → j < length ts
      → ordering_index (compare_by key m (get_or ts i d).0) ≤ ordering_index (compare_by key m (get_or ts j d).0)
  places_rise {m} M i j d le l =
      ⊎_elim (λ e. let index = ap (λ k. ordering_index (compare_by key m (get_or ts k d).0)) e in omega arith)
      (λ less. apart less (compare_by key m (get_or ts i d).0) refl) (eq-or-lt_of_le le)
    where
      apart : i < j → (r : Ordering) → compare_by key m (get_or ts i d).0 ≡ r → ordering_index r ≤ ordering_index (compare_by key m (get_or ts j d).0)
      apart less Less e = omega arith
      apart less Equal e =
          let at = compare_by_exact O M (exponents_at i d (omega arith)) e in
          rw (ap (λ a. compare_by key a (get_or ts j d).0) at ∙ falling-places key ts falls i j d less l) (omega arith)
      apart less Greater e = rw (above_trans key m (get_or ts i d).0 (get_or ts j d).0 e (falling-places key ts falls i j d less l)) (omega arith)

-- Where the terms before the n-th place are above m and the others below, the coefficient at m is 0.
pub coefficient-between : {A : Type 0} {key : List ℕ → List ℕ} (O : IsMonomialOrder key) (F : Field) (f : A → List ℕ × ℕ) (xs : List A) → IsFalling key (map f xs) → AreTerms F (map f xs)
    → {m : List ℕ} → IsExponents m → (n : ℕ)
    → (((i j : ℕ) (d : A) → i ≤ j → j < length xs → ordering_index (compare_by key m (f (get_or xs i d)).0) ≤ ordering_index (compare_by key m (f (get_or xs j d)).0))
    → ((k : ℕ) (d : A) → 0 ≤ k → k < n → compare_by key m (f (get_or xs k d)).0 ≡ Less)
    × ((k : ℕ) (d : A) → n ≤ k → k < length xs → compare_by key m (f (get_or xs k d)).0 ≡ Greater))
    → coefficient (polynomial_of (map f xs)) m ≡ 0
coefficient-between O F f [] falls terms {m} M n searched = coefficient-empty m
coefficient-between {A} {key} O F f (x ∷ xs) falls terms {m} M n searched =
    coefficient-untied O F (map f (x ∷ xs)) falls terms m (λ i d l tied.
    let within : i < length (x ∷ xs) = omega (arith, length-map (x ∷ xs) f) in
    let at : compare_by key m (f (get_or (x ∷ xs) i x)).0 ≡ Equal = subst (λ t. compare_by key m t.0 ≡ Equal) (get_or-map f (x ∷ xs) i x d within) tied in
    ⊎_elim (λ less. let k = sides.0 i x (omega arith) less in cc) (λ above. let k = sides.1 i x above within in cc) (cases_lt i n))
  where
    seen : (i : ℕ) (d : A) → i < length (x ∷ xs) → ordering_index (compare_by key m (get_or (map f (x ∷ xs)) i (f d)).0) ≡ ordering_index (compare_by key m (f (get_or (x ∷ xs) i d)).0)
    seen i d l = ap (λ t. ordering_index (compare_by key m t.0)) (get_or-map f (x ∷ xs) i d (f d) l)

    sides : ((k : ℕ) (d : A) → 0 ≤ k → k < n → compare_by key m (f (get_or (x ∷ xs) k d)).0 ≡ Less)
        × ((k : ℕ) (d : A) → n ≤ k → k < length (x ∷ xs) → compare_by key m (f (get_or (x ∷ xs) k d)).0 ≡ Greater)
    sides = searched (λ i j d le l. omega (arith, seen i d (omega arith), seen j d l, places_rise O F (map f (x ∷ xs)) falls terms M i j (f d) le (omega (arith, length-map (x ∷ xs) f))))
