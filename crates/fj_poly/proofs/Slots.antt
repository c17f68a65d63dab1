-- Polynomials as sums of lists of polynomials, of which one is replaced.
use Rattle.std.proofs.Common.{All, ◌≡◌, ◌≢◌, ℕ, zero, suc, ◌+◌, ◌<◌, ◌≤◌, List, [], ◌∷◌, ◌++◌, length, get_or, set, below_more, Option, Some, None, Greater, refl, sym, ap, ap₂, ◌∙◌, subst, arith}
use Rattle.std.specs.FinMap.{empty, len}
use Rattle.std.proofs.lemmas.List.{get_or-set_same, get_or-set_other, length-set, get_or_default}
use Rattle.std.proofs.lemmas.List.Elements.{All-head, All-tail, All-set, All-push}
use Rattle.fj_coeff.specs.Field.{Field, IsField}
use Rattle.fj_algebra.specs.Ring.{CommutativeRing, subtract}
use Rattle.fj_algebra.proofs.Ring.{ring_laws as ring_rules}
use Rattle.fj_theory.specs.Exponents.{IsExponents}
use Rattle.fj_theory.specs.Ideal.{ArePolynomials}
use Rattle.fj_theory.specs.Lead.{lead_exponents}
use Rattle.fj_theory.specs.MonomialOrder.{IsMonomialOrder, compare_by}
use Rattle.fj_theory.specs.Polynomial.{Polynomial, IsPolynomial, difference, lead, sum, term}
use Rattle.fj_theory.proofs.IdealBridge.{over, ArePolynomials-head, ArePolynomials-tail}
use Rattle.fj_theory.proofs.Lead.{IsExponents-lead}
use Rattle.fj_theory.proofs.Polynomial.{IsPolynomial-empty, IsPolynomial-sum, IsPolynomial-term}
use Rattle.fj_theory.proofs.PolynomialRing.{polynomial_ring, map_add, map_subtract, map_zero, sum_assoc, sum_empty}
use Rattle.fj_poly.specs.Slots.{AreZero, IsBelow, IsGreatest, IsGreatestPlace, IsUpTo, count_terms, sum_all}
use Rattle.fj_poly.proofs.Leads.{IsBelow-empty, IsBelow-sum, IsUpTo-above, IsUpTo-below, IsUpTo-empty, IsUpTo-lead, IsUpTo-not_above, lead_exponents-is, sum-zero_term}
use Rattle.fj_poly.proofs.Polynomials.{sum-terms}

replaced_first : {A : Type 0} (R : CommutativeRing A) (f g s : A) → R.add g s ≡ subtract R (R.add (R.add f s) g) f
replaced_first R f g s = simp (subtract, ring_rules)

replaced_later : {A : Type 0} (R : CommutativeRing A) (f g s x : A) → R.add f (subtract R (R.add s g) x) ≡ subtract R (R.add (R.add f s) g) x
replaced_later R f g s x = simp (subtract, ring_rules)

added : {A : Type 0} (R : CommutativeRing A) (f s h : A) → subtract R (R.add s (R.add f h)) f ≡ R.add s h
added R f s h = simp (subtract, ring_rules)

taken : {A : Type 0} (R : CommutativeRing A) (t g s : A) → s ≡ R.add t (subtract R (R.add s g) (R.add t g))
taken R t g s = simp (subtract, ring_rules)

cleared : {A : Type 0} (R : CommutativeRing A) (f s : A) → subtract R (R.add (R.add s f) R.zero) f ≡ s
cleared R f s = simp (subtract, ring_rules)

-- A polynomial at a place of a list of polynomials.
pub polynomial_at : {F : Field} (fs : List Polynomial) → ArePolynomials F fs → (i : ℕ) → i < length fs → IsPolynomial F (get_or fs i empty)
polynomial_at fs A i l = A.each i empty l

pub ArePolynomials-set : {F : Field} (fs : List Polynomial) (i : ℕ) {g : Polynomial} → ArePolynomials F fs → IsPolynomial F g → ArePolynomials F (set fs i g)
ArePolynomials-set {F} fs i {g} A G = record { each = All-set (IsPolynomial F) fs i g G A.each }

pub ArePolynomials-push : {F : Field} (fs : List Polynomial) {g : Polynomial} → ArePolynomials F fs → IsPolynomial F g → ArePolynomials F (fs ++ g ∷ [])
ArePolynomials-push {F} fs {g} A G = record { each = All-push (IsPolynomial F) fs g A.each G }

-- The number of terms when one polynomial of the list is replaced.
pub count_terms-set : (fs : List Polynomial) (g : Polynomial) (i : ℕ) → i < length fs → count_terms (set fs i g) + len (get_or fs i empty) ≡ count_terms fs + len g
unfolding count_terms
count_terms-set [] g i l = absurd (omega arith)
count_terms-set (f ∷ fs) g zero l = omega arith
count_terms-set (f ∷ fs) g (suc i) l = let h = count_terms-set fs g i (omega arith) in omega (arith, h)

module _ {F : Field} (L : IsField F) where
  pub IsPolynomial-sum_all : (fs : List Polynomial) → ArePolynomials F fs → IsPolynomial F (sum_all F fs)
  unfolding sum_all
  IsPolynomial-sum_all [] A = IsPolynomial-empty F
  IsPolynomial-sum_all (f ∷ fs) A = IsPolynomial-sum L (ArePolynomials-head A) (IsPolynomial-sum_all fs (ArePolynomials-tail A))

  -- The ring's operations on maps.
  sum_of : {f g : Polynomial} (P : IsPolynomial F f) (Q : IsPolynomial F g) → ((polynomial_ring L).add (over P) (over Q)).map ≡ sum F f g
  sum_of P Q = map_add L (over P) (over Q)

  difference_of : {f g : Polynomial} (P : IsPolynomial F f) (Q : IsPolynomial F g) → (subtract (polynomial_ring L) (over P) (over Q)).map ≡ difference F f g
  difference_of P Q = map_subtract L (over P) (over Q)

  -- One polynomial of the list is replaced.
  pub sum_all-set : (fs : List Polynomial) → ArePolynomials F fs → {g : Polynomial} → IsPolynomial F g → (i : ℕ) → i < length fs
      → sum_all F (set fs i g) ≡ difference F (sum F (sum_all F fs) g) (get_or fs i empty)
  unfolding sum_all
  sum_all-set [] A G i l = absurd (omega arith)
  sum_all-set (f ∷ fs) A {g} G zero l =
      let R = polynomial_ring L in
      let x = over (ArePolynomials-head A) in
      let y = over G in
      let s = over (IsPolynomial-sum_all fs (ArePolynomials-tail A)) in
      sym (map_add L y s) ∙ ap (λ h. h.map) (replaced_first R x y s) ∙ map_subtract L (R.add (R.add x s) y) x
      ∙ ap (λ h. difference F h f) (map_add L (R.add x s) y ∙ ap (λ h. sum F h g) (map_add L x s))
  sum_all-set (f ∷ fs) A {g} G (suc i) l =
      let R = polynomial_ring L in
      let x = over (ArePolynomials-head A) in
      let y = over G in
      let s = over (IsPolynomial-sum_all fs (ArePolynomials-tail A)) in
      let o = over (polynomial_at fs (ArePolynomials-tail A) i (omega arith)) in
      ap (sum F f) (sum_all-set fs (ArePolynomials-tail A) G i (omega arith) ∙ sym (map_subtract L (R.add s y) o ∙ ap (λ h. difference F h o.map) (map_add L s y)))
      ∙ sym (map_add L x (subtract R (R.add s y) o)) ∙ ap (λ h. h.map) (replaced_later R x y s o) ∙ map_subtract L (R.add (R.add x s) y) o
      ∙ ap (λ h. difference F h o.map) (map_add L (R.add x s) y ∙ ap (λ h. sum F h g) (map_add L x s))

  module _ (fs : List Polynomial) (A : ArePolynomials F fs) (i : ℕ) (l : i < length fs) where
    -- Something is added to one of them.
    pub sum_all-added : {h : Polynomial} → IsPolynomial F h → sum_all F (set fs i (sum F (get_or fs i empty) h)) ≡ sum F (sum_all F fs) h
    sum_all-added {h} H =
        let R = polynomial_ring L in
        let P = polynomial_at fs A i l in
        let x = over P in
        let y = over H in
        let s = over (IsPolynomial-sum_all fs A) in
        sum_all-set fs A (IsPolynomial-sum L P H) i l
        ∙ ap (λ k. difference F k x.map) (ap (sum F s.map) (sym (map_add L x y)) ∙ sym (map_add L s (R.add x y)))
        ∙ sym (map_subtract L (R.add s (R.add x y)) x) ∙ ap (λ k. k.map) (added R x s y) ∙ map_add L s y

    -- Something is taken out of one of them.
    pub sum_all-taken : {t g : Polynomial} → IsPolynomial F t → IsPolynomial F g → get_or fs i empty ≡ sum F t g → sum_all F fs ≡ sum F t (sum_all F (set fs i g))
    sum_all-taken {t} {g} T G e =
        let R = polynomial_ring L in
        let x = over T in
        let y = over G in
        let s = over (IsPolynomial-sum_all fs A) in
        ap (λ k. k.map) (taken R x y s) ∙ map_add L x (subtract R (R.add s y) (R.add x y))
        ∙ ap (sum F t) (map_subtract L (R.add s y) (R.add x y) ∙ ap₂ (difference F) (map_add L s y) (map_add L x y ∙ sym e) ∙ sym (sum_all-set fs A G i l))

    -- One of them is made zero when another has got it.
    pub sum_all-moved : (j : ℕ) → j < length fs → i ≢ j → sum_all F (set (set fs j (sum F (get_or fs j empty) (get_or fs i empty))) i empty) ≡ sum_all F fs
    sum_all-moved j m apart =
        let R = polynomial_ring L in
        let P = polynomial_at fs A i l in
        let Q = polynomial_at fs A j m in
        let x = over P in
        let s = over (IsPolynomial-sum_all fs A) in
        let gs : List Polynomial = set fs j (sum F (get_or fs j empty) (get_or fs i empty)) in
        let B : ArePolynomials F gs = ArePolynomials-set fs j A (IsPolynomial-sum L Q P) in
        let long = length-set fs j (sum F (get_or fs j empty) (get_or fs i empty)) in
        let more : sum_all F gs ≡ sum F (sum_all F fs) (get_or fs i empty) = added_at fs A j m P in
        sum_all-set gs B (IsPolynomial-empty F) i (omega (arith, long, l))
        ∙ ap₂ (difference F) (ap₂ (sum F) (more ∙ sym (map_add L s x)) (sym (map_zero L)) ∙ sym (map_add L (R.add s x) R.zero)) (get_or-set_other fs j i _ empty apart)
        ∙ sym (map_subtract L (R.add (R.add s x) R.zero) x) ∙ ap (λ k. k.map) (cleared R x s)
      where
        added_at : (fs : List Polynomial) (A : ArePolynomials F fs) (j : ℕ) → j < length fs → {h : Polynomial} → IsPolynomial F h
            → sum_all F (set fs j (sum F (get_or fs j empty) h)) ≡ sum F (sum_all F fs) h
        added_at fs A j m {h} H =
            let R = polynomial_ring L in
            let P = polynomial_at fs A j m in
            let x = over P in
            let y = over H in
            let s = over (IsPolynomial-sum_all fs A) in
            sum_all-set fs A (IsPolynomial-sum L P H) j m
            ∙ ap (λ k. difference F k x.map) (ap (sum F s.map) (sym (map_add L x y)) ∙ sym (map_add L s (R.add x y)))
            ∙ sym (map_subtract L (R.add s (R.add x y)) x) ∙ ap (λ k. k.map) (added R x s y) ∙ map_add L s y

  -- A zero more at the end.
  pub sum_all-push : (fs : List Polynomial) → sum_all F (fs ++ empty ∷ []) ≡ sum_all F fs
  unfolding sum_all
  sum_all-push [] = sum_empty L (IsPolynomial-empty F)
  sum_all-push (f ∷ fs) = ap (sum F f) (sum_all-push fs)

  -- A sum of zeros.
  pub sum_all-zeros : (fs : List Polynomial) → All (λ f. f ≡ empty) fs → sum_all F fs ≡ empty
  unfolding sum_all
  sum_all-zeros [] all = refl
  sum_all-zeros (f ∷ fs) all =
      ap₂ (sum F) (All-head (λ f. f ≡ empty) f fs all) (sum_all-zeros fs (All-tail (λ f. f ≡ empty) f fs all)) ∙ sum_empty L (IsPolynomial-empty F)

  -- A sum of polynomials below a monomial.
  pub IsBelow-sum_all : {key : List ℕ → List ℕ} (O : IsMonomialOrder key) {m : List ℕ} (fs : List Polynomial) → All (IsBelow key m) fs → IsBelow key m (sum_all F fs)
  unfolding sum_all
  IsBelow-sum_all O {m} [] all = IsBelow-empty L O m refl
  IsBelow-sum_all {key} O {m} (f ∷ fs) all = IsBelow-sum L O (All-head (IsBelow key m) f fs all) (IsBelow-sum_all O fs (All-tail (IsBelow key m) f fs all))

-- The place of the greatest lead, one polynomial more being looked at.
module _ {F : Field} (L : IsField F) {key : List ℕ → List ℕ} (O : IsMonomialOrder key) (fs : List Polynomial) (i : ℕ) where
  pub greatest-start : IsGreatestPlace key fs 0 None
  greatest-start = record { zero_at = λ j l. absurd (omega arith) }

  pub greatest-zero : (o : Option ℕ) → IsGreatestPlace key fs i o → get_or fs i empty ≡ empty → IsGreatestPlace key fs (i + 1) o
  greatest-zero None h e = record { zero_at = below_more _ _ h.zero_at e }
  greatest-zero (Some k) h e = record {
    place = let l = h.place in omega (arith, l);
    nonzero = h.nonzero;
    up_to = below_more _ _ h.up_to (IsUpTo-empty L O _ e);
  }

  module _ (P : IsPolynomial F (get_or fs i empty)) (n : get_or fs i empty ≢ empty) where
    pub greatest-first : AreZero fs i → IsGreatest key fs (i + 1) i
    greatest-first h = record {
      place = omega arith;
      nonzero = n;
      up_to = below_more _ _ (λ j l. IsUpTo-empty L O _ (h.zero_at j l)) (IsUpTo-lead L O P n);
    }

    pub greatest-above : (k : ℕ) → IsGreatest key fs i k → compare_by key (lead_exponents key (get_or fs i empty)) (lead_exponents key (get_or fs k empty)) ≡ Greater
        → IsGreatest key fs (i + 1) i
    greatest-above k h above = record {
      place = omega arith;
      nonzero = n;
      up_to = below_more _ _ (λ j l. IsUpTo-above L O above (h.up_to j l)) (IsUpTo-lead L O P n);
    }

    pub greatest-kept : (k : ℕ) → IsGreatest key fs i k → IsPolynomial F (get_or fs k empty)
        → compare_by key (lead_exponents key (get_or fs i empty)) (lead_exponents key (get_or fs k empty)) ≢ Greater → IsGreatest key fs (i + 1) k
    greatest-kept k h Q not = record {
      place = let l = h.place in omega (arith, l);
      nonzero = h.nonzero;
      up_to = below_more _ _ h.up_to (IsUpTo-not_above L O (IsExponents-lead O P) (IsExponents-lead O Q) not (IsUpTo-lead L O P n));
    }

-- The terms at a monomial taken out of the first i polynomials of a list.
pub record TakesAll (F : Field) (key : List ℕ → List ℕ) (m : List ℕ) (old now : List Polynomial) (c i : ℕ) : Type 0 where
  pub polynomials : ArePolynomials F now
  pub long : length now ≡ length old
  pub value : sum_all F old ≡ sum F (term c m) (sum_all F now)
  pub below : (j : ℕ) → j < i → IsBelow key m (get_or now j empty)
  pub up_to : (j : ℕ) → i ≤ j → j < length now → IsUpTo key m (get_or now j empty)
  pub fewer : count_terms now ≤ count_terms old

module _ {F : Field} (L : IsField F) {key : List ℕ → List ℕ} (O : IsMonomialOrder key) {m : List ℕ} (M : IsExponents m) where
  pub takes_all-start : (fs : List Polynomial) → ArePolynomials F fs → All (IsUpTo key m) fs → (c : ℕ) → c ≡ 0 → TakesAll F key m fs fs c 0
  takes_all-start fs A up c e = record {
    polynomials = A;
    long = refl;
    value = sym (sum-zero_term L (IsPolynomial-sum_all L fs A) c m e);
    below = λ j l. absurd (omega arith);
    up_to = λ j h l. up j empty l;
    fewer = omega arith;
  }

  -- Two terms at the monomial are one.
  pub sum-two_terms : (c d : ℕ) → c < F.size → d < F.size → {r : Polynomial} → IsPolynomial F r → sum F (term c m) (sum F (term d m) r) ≡ sum F (term (F.add c d) m) r
  sum-two_terms c d small less {r} P =
      sym (sum_assoc L (IsPolynomial-term c small M) (IsPolynomial-term d less M) P) ∙ ap (λ p. sum F p r) (sum-terms L m c d M small less)

  pub takes_all-more : {old now : List Polynomial} {c i : ℕ} → TakesAll F key m old now c i → i < length now → c < F.size → (d : ℕ) → d < F.size → {g : Polynomial} → IsPolynomial F g
      → get_or now i empty ≡ sum F (term d m) g → IsBelow key m g → len g ≤ len (get_or now i empty) → (b : ℕ) → b ≡ F.add c d → TakesAll F key m old (set now i g) b (i + 1)
  takes_all-more {old} {now} {c} {i} t l small d less {g} G e B f b sum_is =
      let A = ArePolynomials-set now i t.polynomials G in
      record {
        polynomials = A;
        long = length-set now i g ∙ t.long;
        value = t.value ∙ ap (sum F (term c m)) (sum_all-taken L now t.polynomials i l (IsPolynomial-term d less M) G e)
            ∙ sum-two_terms c d small less (IsPolynomial-sum_all L (set now i g) A) ∙ ap (λ n. sum F (term n m) (sum_all F (set now i g))) (sym sum_is);
        below = below_more _ _ (λ j h. subst (IsBelow key m) (sym (get_or-set_other now i j g empty (λ x. absurd (omega arith)))) (t.below j h))
            (subst (IsBelow key m) (sym (get_or-set_same now i g empty l)) B);
        up_to = λ j h k. (let long = length-set now i g in
            subst (IsUpTo key m) (sym (get_or-set_other now i j g empty (λ x. absurd (omega arith)))) (t.up_to j (omega arith) (omega (arith, long, k))));
        fewer = (let one = count_terms-set now g i l in let all = t.fewer in omega (arith, one, all, f));
      }

  -- All of them are then below the monomial.
  pub takes_all-below : {old now : List Polynomial} {c i : ℕ} → TakesAll F key m old now c i → length now ≤ i → All (IsBelow key m) now
  takes_all-below {now = now} t h k d l = subst (IsBelow key m) (get_or_default now k empty d l) (t.below k (omega (arith, h, l)))

  -- The greatest lead taken out of its polynomial.
  module _ (fs : List Polynomial) (A : ArePolynomials F fs) (k : ℕ) (G : IsGreatest key fs (length fs) k) (c : ℕ) (at : lead key (get_or fs k empty) ≡ Some (m, c)) {g : Polynomial}
      (P : IsPolynomial F g) (B : IsBelow key m g) where
    pub popped-up_to : All (IsUpTo key m) (set fs k g)
    popped-up_to =
        All-set (IsUpTo key m) fs k g (IsUpTo-below L O B)
        (λ j d l. subst (IsUpTo key m) (get_or_default fs j empty d l)
        (subst (λ a. IsUpTo key a (get_or fs j empty)) (lead_exponents-is key (get_or fs k empty) (m, c) at) (G.up_to j l)))

-- A list of polynomials after the greatest lead of one of them is taken out.
pub record AfterPop (F : Field) (key : List ℕ → List ℕ) (fs : List Polynomial) (k : ℕ) (m : List ℕ) (c : ℕ) (g : Polynomial) : Type 0 where
  pub polynomials : ArePolynomials F (set fs k g)
  pub up_to : All (IsUpTo key m) (set fs k g)
  pub value : sum_all F fs ≡ sum F (term c m) (sum_all F (set fs k g))
  pub fewer : count_terms (set fs k g) < count_terms fs

-- The list after the terms at its monomial are taken out of all.
pub record IsTakenOut (F : Field) (key : List ℕ → List ℕ) (fs gs : List Polynomial) (m : List ℕ) (c : ℕ) : Type 0 where
  pub rest : IsPolynomial F (sum_all F gs)
  pub value : sum_all F fs ≡ sum F (term c m) (sum_all F gs)
  pub below : IsBelow key m (sum_all F gs)
  pub fewer : count_terms gs < count_terms fs

module _ {F : Field} (L : IsField F) {key : List ℕ → List ℕ} (O : IsMonomialOrder key) {m : List ℕ} (M : IsExponents m) where
  pub after_pop : (fs : List Polynomial) → ArePolynomials F fs → (k : ℕ) → IsGreatest key fs (length fs) k → (x : Polynomial) → x ≡ get_or fs k x → (c : ℕ) → c < F.size
      → lead key x ≡ Some (m, c) → {g : Polynomial} → x ≡ sum F (term c m) g → IsBelow key m g → IsPolynomial F g → len g < len x → AfterPop F key fs k m c g
  after_pop fs A k G x is c small at {g} e B P f =
      let l = G.place in
      let own : x ≡ get_or fs k empty = is ∙ get_or_default fs k x empty l in
      record {
        polynomials = ArePolynomials-set fs k A P;
        up_to = popped-up_to L O M fs A k G c (ap (lead key) (sym own) ∙ at) P B;
        value = sum_all-taken L fs A k l (IsPolynomial-term c small M) P (sym own ∙ e);
        fewer = (let one = count_terms-set fs g k l in let same = ap len own in omega (arith, one, f, same));
      }

  pub taken_out : {fs gs : List Polynomial} {k c d : ℕ} {g : Polynomial} → AfterPop F key fs k m c g → c < F.size → d < F.size → ArePolynomials F gs → All (IsBelow key m) gs
      → sum_all F (set fs k g) ≡ sum F (term d m) (sum_all F gs) → count_terms gs ≤ count_terms (set fs k g) → (e : ℕ) → e ≡ F.add c d → IsTakenOut F key fs gs m e
  taken_out {fs} {gs} {k} {c} {d} {g} a small less A B v f e sum_is =
      let rest = IsPolynomial-sum_all L gs A in
      record {
        rest = rest;
        value = a.value ∙ ap (sum F (term c m)) v ∙ sum-two_terms L O M c d small less rest ∙ ap (λ n. sum F (term n m) (sum_all F gs)) (sym sum_is);
        below = IsBelow-sum_all L O gs B;
        fewer = (let h = a.fewer in omega (arith, h, f));
      }

-- Polynomials that are all zero.
pub all_zero : (fs : List Polynomial) → AreZero fs (length fs) → All (λ f. f ≡ empty) fs
all_zero fs h k d l = get_or_default fs k d empty l ∙ h.zero_at k l
