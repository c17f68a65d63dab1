-- The sugar degree bounds each state of a division.
use Rattle.std.proofs.Common.{◌≡◌, ℕ, ◌+◌, ◌<◌, ◌≤◌, max, List, length, get_or, set, replicate, sym, ◌∙◌, subst, arith, length-set, get_or-set_same, get_or-set_other}
use Rattle.std.proofs.lemmas.List.{get_or_default, length-replicate, get_or-replicate}
use native.Mathlib.Decide.{ℕ_discrete}
use Rattle.fj_algebra.specs.Polynomial.{OrderedPolynomials, Supported}
use Rattle.fj_algebra.specs.Division.{DivisionState, Cancels, Moves}
use Rattle.fj_algebra.specs.Sugar.{IsDegree, DegreeAtMost, IsWithinSugar}
use Rattle.fj_algebra.proofs.Polynomial.{Supported-zero, Supported-add, Supported-subtract, Supported-term, Supported-multiple, Supported-weaker, Supported-without}

module _ {K M A : Type 0} (P : OrderedPolynomials K M A) {degree : M → ℕ} (additive : IsDegree P.monomials degree) (sugars : List ℕ) where
  open P use {coefficient, term, ring.{zero as 𝟘, add, mul}, field.ring as scalars, monomials.{times}}

  -- A dividend of degree at most s starts a division within s.
  pub sugar_start : (s n : ℕ) (h : A) → DegreeAtMost P.polynomials degree s h →
      IsWithinSugar P.polynomials degree sugars s (record { dividend = h; quotients = replicate n 𝟘; remainder = 𝟘 })
  sugar_start s n h d =
      record {
        dividend = d;
        remainder = Supported-zero P.polynomials _;
        quotients = λ k l. subst (Supported P.polynomials (λ a. degree a + get_or sugars k 0 ≤ s))
            (sym (get_or-replicate n k 𝟘 𝟘 (omega (arith, l, length-replicate n 𝟘)))) (Supported-zero P.polynomials _);
      }

  -- The multiple by the monomial m of a member of sugar degree u raises it to degree m + u.
  pub sugar_cancels : {G : List A} {s : ℕ} {x y : DivisionState A} → length x.quotients ≡ length G →
      ((k : ℕ) → k < length G → DegreeAtMost P.polynomials degree (get_or sugars k 0) (get_or G k 𝟘)) → (c : Cancels P G x y)
      → IsWithinSugar P.polynomials degree sugars s x → IsWithinSugar P.polynomials degree sugars (max s (degree c.monomial + get_or sugars c.place 0)) y
  sugar_cancels {G} {s} {x} {y} long members c w = record {
    dividend =
        subst (DegreeAtMost P.polynomials degree _) (sym c.dividend)
        (Supported-subtract P.polynomials (Supported-weaker P.polynomials (λ a h. omega (arith, h)) w.dividend)
        (Supported-multiple P.polynomials c.scalar c.monomial (λ b h. omega (arith, additive.degree_times c.monomial b, h)) divisor));
    remainder = subst (DegreeAtMost P.polynomials degree _) (sym c.remainder) (Supported-weaker P.polynomials (λ a h. omega (arith, h)) w.remainder);
    quotients = λ k l. at k (subst (λ qs. k < length qs) c.quotients l);
  }
    where
      divisor : DegreeAtMost P.polynomials degree (get_or sugars c.place 0) c.divisor
      divisor =
          subst (DegreeAtMost P.polynomials degree (get_or sugars c.place 0)) (get_or_default G c.place 𝟘 c.divisor c.in_list ∙ c.is_divisor)
          (members c.place c.in_list)

      in_quotients : c.place < length x.quotients
      in_quotients = let l = c.in_list in omega (arith, l, long)

      bound : ℕ
      bound = max s (degree c.monomial + get_or sugars c.place 0)

      Bounded : ℕ → A → Type 0
      Bounded k q = Supported P.polynomials (λ a. degree a + get_or sugars k 0 ≤ bound) q

      factor : A
      factor = add (get_or x.quotients c.place 𝟘) (term c.scalar c.monomial)

      old : (k : ℕ) → k < length x.quotients → Bounded k (get_or x.quotients k 𝟘)
      old k l = Supported-weaker P.polynomials (λ a h. omega (arith, h)) (w.quotients k l)

      at : (k : ℕ) → k < length (set x.quotients c.place factor) → Bounded k (get_or y.quotients k 𝟘)
      at k l = subst (λ qs. Bounded k (get_or qs k 𝟘)) (sym c.quotients) (here (ℕ_discrete k c.place))
        where
          here : Dec (k ≡ c.place) → Bounded k (get_or (set x.quotients c.place factor) k 𝟘)
          here (yes e) =
              subst (λ k. Bounded k (get_or (set x.quotients c.place factor) k 𝟘)) (sym e)
              (subst (Bounded c.place) (sym (get_or-set_same x.quotients c.place factor 𝟘 in_quotients))
              (Supported-add P.polynomials (old c.place in_quotients) (Supported-term P c.scalar c.monomial (omega arith))))
          here (no n) =
              subst (Bounded k) (sym (get_or-set_other x.quotients c.place k factor 𝟘 n))
              (old k (omega (arith, l, length-set x.quotients c.place factor)))

  -- A term that moves to the remainder keeps it.
  pub sugar_moves : {G : List A} {s : ℕ} {x y : DivisionState A} → Moves P G x y → IsWithinSugar P.polynomials degree sugars s x →
      IsWithinSugar P.polynomials degree sugars s y
  sugar_moves {G} {s} {x} {y} m w = record {
    dividend = subst (DegreeAtMost P.polynomials degree s) (sym m.dividend) (Supported-without P m.lead w.dividend);
    remainder =
        subst (DegreeAtMost P.polynomials degree s) (sym m.remainder)
        (Supported-add P.polynomials w.remainder
        (Supported-term P (coefficient x.dividend m.lead) m.lead (w.dividend.within m.lead m.is_lead.nonzero)));
    quotients =
        λ k l. subst (λ qs. Supported P.polynomials (λ a. degree a + get_or sugars k 0 ≤ s) (get_or qs k 𝟘)) (sym m.quotients)
        (w.quotients k (subst (λ qs. k < length qs) m.quotients l));
  }
