-- Sums of terms in two variables over GF(5), so that polynomials of examples are computed as lists of numbers.
use Rattle.std.proofs.Common.{◌≡◌, ◌≢◌, ℕ, zero, suc, ◌+◌, ◌*◌, ◌%◌, ◌^◌, ◌<◌, cond, eqb, ltb, List, [], ◌∷◌, ◌++◌, map, get_or, All, refl, sym, ap, ap₂, ◌∙◌, arith}
use Rattle.std.specs.FinMap.{empty}
use Rattle.std.proofs.lemmas.Bool.{cond_both, eqb-true}
use Rattle.std.proofs.lemmas.Option.{none-some}
use Rattle.std.proofs.lemmas.List.Elements.{All-map, All-from_recursion}
use Rattle.std.proofs.lemmas.Nat.{mod_below, mul-mod}
use Rattle.std.proofs.Math.Nat.{add-mod}
use Rattle.fj_coeff.specs.Field.{Field, IsField}
use Rattle.fj_coeff.specs.PrimeField.{prime_field}
use Rattle.fj_coeff.specs.PrimeFieldLaws.{IsField-prime_field, prime_5}
use Rattle.fj_theory.specs.Exponents.{IsExponents, origin, plus, times, total}
use Rattle.fj_theory.specs.MonomialOrder.{lex_key, IsRising}
use Rattle.fj_theory.specs.Polynomial.{Polynomial, IsPolynomial, sum, product, power, term, degree}
use Rattle.fj_theory.specs.Parts.{Part, sum_of_parts}
use Rattle.fj_theory.specs.Root.{IsRoot}
use Rattle.fj_theory.proofs.Degree.{degree-empty, degree-term}
use Rattle.fj_theory.proofs.RootParts.{IsRoot-parts}
use Rattle.fj_theory.proofs.Monomial.{product_terms, sum_terms, power_term}
use Rattle.fj_theory.proofs.Polynomial.{IsPolynomial-empty, IsPolynomial-term, IsPolynomial-sum}
use Rattle.fj_theory.proofs.PolynomialRing.{sum_assoc, sum_comm, sum_empty, product_sum, product_comm, product_empty, power_zero, power_suc}
use Rattle.fj_theory.proofs.Plain.{power_rank}

abbrev pub G : Field
G = prime_field 5

pub L : IsField (prime_field 5)
L = IsField-prime_field 5 prime_5

-- The exponents of x^i y^j.
abbrev pub at : ℕ → ℕ → List ℕ
at i j = i ∷ j ∷ 0 ∷ 0 ∷ 0 ∷ 0 ∷ 0 ∷ 0 ∷ []

pub IsExponents-at : (i j : ℕ) → IsExponents (at i j)
IsExponents-at i j = record { eight = refl }

-- (i, j, c) stands for c x^i y^j.
abbrev pub Item : Type 0
Item = ℕ × ℕ × ℕ

abbrev pub item : Item → Polynomial
item t = term (t.2 % 5) (at t.0 t.1)

-- The sum of the terms.
unfoldable pub value : List Item → Polynomial
value [] = empty
value (t ∷ ts) = sum (prime_field 5) (item t) (value ts)

below : (c : ℕ) → c % 5 < 5
below c = mod_below c 5 (omega arith)

pub IsPolynomial-item : (t : Item) → IsPolynomial (prime_field 5) (item t)
IsPolynomial-item t = IsPolynomial-term (t.2 % 5) (below t.2) (IsExponents-at t.0 t.1)

pub IsPolynomial-value : (ts : List Item) → IsPolynomial (prime_field 5) (value ts)
unfolding value
IsPolynomial-value [] = IsPolynomial-empty (prime_field 5)
IsPolynomial-value (t ∷ ts) = IsPolynomial-sum L (IsPolynomial-item t) (IsPolynomial-value ts)

sum_left_comm : {f g h : Polynomial} → IsPolynomial (prime_field 5) f → IsPolynomial (prime_field 5) g → IsPolynomial (prime_field 5) h
    → sum (prime_field 5) f (sum (prime_field 5) g h) ≡ sum (prime_field 5) g (sum (prime_field 5) f h)
sum_left_comm {f} {g} {h} P Q H = sym (sum_assoc L P Q H) ∙ ap (λ k. sum (prime_field 5) k h) (sum_comm L P Q) ∙ sum_assoc L Q P H

-- Sums.
value-append : (ts us : List Item) → value (ts ++ us) ≡ sum (prime_field 5) (value ts) (value us)
unfolding value
value-append [] us = sym (sum_comm L (IsPolynomial-empty (prime_field 5)) (IsPolynomial-value us) ∙ sum_empty L (IsPolynomial-value us))
value-append (t ∷ ts) us = ap (sum (prime_field 5) (item t)) (value-append ts us) ∙ sym (sum_assoc L (IsPolynomial-item t) (IsPolynomial-value ts) (IsPolynomial-value us))

-- Products.
abbrev pub item_times : Item → List Item → List Item
item_times t us = map (λ u. (t.0 + u.0, t.1 + u.1, t.2 * u.2)) us

abbrev pub multiply : List Item → List Item → List Item
multiply [] us = []
multiply (t ∷ ts) us = item_times t us ++ multiply ts us

abbrev pub raise : List Item → ℕ → List Item
raise ts zero = (0, 0, 1) ∷ []
raise ts (suc k) = multiply ts (raise ts k)

pub item_product : (t u : Item) → product (prime_field 5) (item t) (item u) ≡ item (t.0 + u.0, t.1 + u.1, t.2 * u.2)
unfolding plus
item_product t u =
    product_terms L (t.2 % 5) (u.2 % 5) (below t.2) (below u.2) (IsExponents-at t.0 t.1) (IsExponents-at u.0 u.1)
    ∙ ap (λ c. term c (at (t.0 + u.0) (t.1 + u.1))) (sym (mul-mod t.2 u.2 5))

value-item_times : (t : Item) (us : List Item) → value (item_times t us) ≡ product (prime_field 5) (item t) (value us)
unfolding value
value-item_times t [] = sym (product_empty L (IsPolynomial-item t))
value-item_times t (u ∷ us) =
    ap₂ (sum (prime_field 5)) (sym (item_product t u)) (value-item_times t us) ∙ sym (product_sum L (IsPolynomial-item t) (IsPolynomial-item u) (IsPolynomial-value us))

sum_product : {f g h : Polynomial} → IsPolynomial (prime_field 5) f → IsPolynomial (prime_field 5) g → IsPolynomial (prime_field 5) h
    → product (prime_field 5) (sum (prime_field 5) f g) h ≡ sum (prime_field 5) (product (prime_field 5) f h) (product (prime_field 5) g h)
sum_product P Q H = product_comm L (IsPolynomial-sum L P Q) H ∙ product_sum L H P Q ∙ ap₂ (sum (prime_field 5)) (product_comm L H P) (product_comm L H Q)

pub value-multiply : (ts us : List Item) → value (multiply ts us) ≡ product (prime_field 5) (value ts) (value us)
unfolding value
value-multiply [] us = sym (product_comm L (IsPolynomial-empty (prime_field 5)) (IsPolynomial-value us) ∙ product_empty L (IsPolynomial-value us))
value-multiply (t ∷ ts) us =
    value-append (item_times t us) (multiply ts us) ∙ ap₂ (sum (prime_field 5)) (value-item_times t us) (value-multiply ts us)
    ∙ sym (sum_product (IsPolynomial-item t) (IsPolynomial-value ts) (IsPolynomial-value us))

pub value-single : (t : Item) → value (t ∷ []) ≡ item t
unfolding value
value-single t = sum_empty L (IsPolynomial-item t)

pub value-raise : (ts : List Item) (k : ℕ) → value (raise ts k) ≡ power (prime_field 5) (value ts) k
unfolding origin
value-raise ts zero = value-single (0, 0, 1) ∙ sym (power_zero L (IsPolynomial-value ts))
value-raise ts (suc k) = value-multiply ts (raise ts k) ∙ ap (product (prime_field 5) (value ts)) (value-raise ts k) ∙ sym (power_suc L (IsPolynomial-value ts) k)

-- Terms in order, each monomial once.
abbrev pub put : Item → List Item → List Item
put t [] = t ∷ []
put t (u ∷ us) =
    cond (eqb t.0 u.0) (cond (eqb t.1 u.1) ((u.0, u.1, (t.2 + u.2) % 5) ∷ us) (cond (ltb t.1 u.1) (t ∷ u ∷ us) (u ∷ put t us))) (cond (ltb t.0 u.0) (t ∷ u ∷ us) (u ∷ put t us))

abbrev pub normal : List Item → List Item
normal [] = []
normal (t ∷ ts) = put t (normal ts)

same_sum : (t u : Item) → t.0 ≡ u.0 → t.1 ≡ u.1 → item (u.0, u.1, (t.2 + u.2) % 5) ≡ sum (prime_field 5) (item t) (item u)
same_sum t u e f =
    let first : item t ≡ term (t.2 % 5) (at u.0 u.1) = ap₂ (λ i j. term (t.2 % 5) (at i j)) e f in
    ap (λ c. term c (at u.0 u.1)) (mod_twice (t.2 + u.2) ∙ add-mod t.2 u.2 5) ∙ sym (sum_terms L (t.2 % 5) (u.2 % 5) (below t.2) (below u.2) (IsExponents-at u.0 u.1))
    ∙ ap (λ g. sum (prime_field 5) g (item u)) (sym first)
  where
    mod_twice : (n : ℕ) → n % 5 % 5 ≡ n % 5
    mod_twice n = grind (arith, below n)

value-put : (t : Item) (us : List Item) → value (put t us) ≡ sum (prime_field 5) (item t) (value us)
unfolding value
value-put t [] = refl
value-put t (u ∷ us) =
    let P : List Item → Type 0 = λ vs. value vs ≡ sum (prime_field 5) (item t) (value (u ∷ us)) in
    let later : P (u ∷ put t us) = ap (sum (prime_field 5) (item u)) (value-put t us) ∙ sum_left_comm (IsPolynomial-item u) (IsPolynomial-item t) (IsPolynomial-value us) in
    cond_both (eqb t.0 u.0) _ _ P
    (λ e. cond_both (eqb t.1 u.1) _ _ P
    (λ f. ap (λ g. sum (prime_field 5) g (value us)) (same_sum t u (eqb-true t.0 u.0 e) (eqb-true t.1 u.1 f)) ∙ sum_assoc L (IsPolynomial-item t) (IsPolynomial-item u) (IsPolynomial-value us))
    (λ f. cond_both (ltb t.1 u.1) _ _ P (λ _. refl) (λ _. later)))
    (λ e. cond_both (ltb t.0 u.0) _ _ P (λ _. refl) (λ _. later))

value-normal : (ts : List Item) → value (normal ts) ≡ value ts
unfolding value
value-normal [] = refl
value-normal (t ∷ ts) = value-put t (normal ts) ∙ ap (sum (prime_field 5) (item t)) (value-normal ts)

-- Sums with the same normal form are equal.
pub same_value : (ts us : List Item) → normal ts ≡ normal us → value ts ≡ value us
same_value ts us e = sym (value-normal ts) ∙ ap value e ∙ value-normal us

-- A part over fifth powers: the residue x^r y^s, and one term.
pub record ItemPart : Type 0 where
  pub r : ℕ
  pub s : ℕ
  pub term : Item
  pub r_below : r < 5
  pub s_below : s < 5
  pub nonzero : 0 < term.2 % 5

abbrev pub part_of : ItemPart → Part
part_of p = record { residue = at p.r p.s; polynomial = item p.term }

-- The fifth power of the term, times the residue.
abbrev pub raised : ItemPart → Item
raised p = (5 * p.term.0 + p.r, 5 * p.term.1 + p.s, p.term.2)

item_raised : (p : ItemPart) → product (prime_field 5) (power (prime_field 5) (item p.term) 5) (term 1 (at p.r p.s)) ≡ item (raised p)
unfolding times plus
item_raised p =
    let t = p.term in
    ap (λ g. product (prime_field 5) g (term 1 (at p.r p.s)))
    (power_term L (t.2 % 5) (below t.2) (IsExponents-at t.0 t.1) 5 ∙ ap (λ c. term c (at (5 * t.0) (5 * t.1))) (power_rank prime_5 (t.2 % 5) 1 (below t.2)))
    ∙ product_terms L (t.2 % 5) 1 (below t.2) (omega arith) (IsExponents-at (5 * t.0) (5 * t.1)) (IsExponents-at p.r p.s)
    ∙ ap (λ c. term c (at (5 * t.0 + p.r) (5 * t.1 + p.s))) (L.mul_one (t.2 % 5) (below t.2))

sum_of_parts_value : (ps : List ItemPart) → sum_of_parts (prime_field 5) 5 (map part_of ps) ≡ value (map raised ps)
unfolding value sum_of_parts
sum_of_parts_value [] = refl
sum_of_parts_value (p ∷ ps) = ap₂ (sum (prime_field 5)) (item_raised p) (sum_of_parts_value ps)

item_nonempty : (t : Item) → 0 < t.2 % 5 → item t ≢ empty
item_nonempty t h same =
    none-some (total (at t.0 t.1)) (sym degree-empty ∙ ap degree (sym same) ∙ degree-term (prime_field 5) (t.2 % 5) h (below t.2) (IsExponents-at t.0 t.1))

-- The parts of a sum of terms are its root at 1.
pub root_of_value : (ts : List Item) (ps : List ItemPart) → IsRising lex_key (map (λ part. part.residue) (map part_of ps)) → normal (map raised ps) ≡ normal ts
    → IsRoot (prime_field 5) (5 ^ 1) (value ts ∷ []) (map (λ part. part.polynomial) (map part_of ps))
root_of_value ts ps rising e = IsRoot-parts L 1 (IsPolynomial-value ts) (record {
  whole = same_value ts (map raised ps) (sym e) ∙ sym (sum_of_parts_value ps);
  residues = All-map (λ part. IsExponents part.residue) part_of ps (λ k d h. IsExponents-at _ _);
  below = All-map (λ part. All (λ k. k < 5) part.residue) part_of ps (λ k d h. entries (get_or ps k d));
  rising = rising;
  polynomials = All-map (λ part. IsPolynomial (prime_field 5) part.polynomial) part_of ps (λ k d h. IsPolynomial-item _);
  nonzero = All-map (λ part. part.polynomial ≢ empty) part_of ps (λ k d h. item_nonempty (get_or ps k d).term (get_or ps k d).nonzero);
})
  where
    entries : (p : ItemPart) → All (λ k. k < 5) (at p.r p.s)
    entries p =
        let z : 0 < 5 = omega arith in
        All-from_recursion (λ k. k < 5) (at p.r p.s) (p.r_below, (p.s_below, (z, (z, (z, (z, (z, (z, tt))))))))
