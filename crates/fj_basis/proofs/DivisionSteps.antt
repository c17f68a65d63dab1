-- Steps by the first divisor.
use Rattle.std.proofs.Common.{◌≡◌, ◌≢◌, ℕ, ◌+◌, ◌<◌, max, List, length, get_or, map, All, Some, None, sym, ap, ◌∙◌}
use Rattle.std.specs.FinMap.{empty}
use Rattle.std.proofs.lemmas.List.{get_or-map}
use Rattle.fj_algebra.proofs.Lists.{All-map_back}
use Rattle.fj_coeff.specs.Field.{Field}
use Rattle.fj_theory.specs.Exponents.{total, minus}
use Rattle.fj_theory.specs.MonomialOrder.{IsMonomialOrder}
use Rattle.fj_theory.specs.Polynomial.{Polynomial, lead}
use Rattle.fj_theory.specs.Lead.{lead_exponents}
use Rattle.fj_groebner.specs.Division.{Sugared, AreWithinSugars, DegreeAtMost, Division, polynomials_of, member_at, first_divisor, step_by, cancel_lead, move_lead, IsDivisionStep}
use Rattle.fj_basis.proofs.DivisionState.{lead-parts, some-lead}

-- The member at a place of a list that is seen by a function.
pub member_at-map : {D : Type 0} (f : D → Sugared) (list : List D) (k : ℕ) (g : D) → k < length list → g ≡ get_or list k g → member_at (map f list) k ≡ f g
unfolding member_at
member_at-map f list k g l is = get_or-map f list k g (record { polynomial = empty; sugar = 0 }) l ∙ ap f (sym is)

pub sugared_same : {f : Polynomial} {n : ℕ} (g : Sugared) → f ≡ g.polynomial → n ≡ g.sugar → g ≡ record { polynomial = f; sugar = n }
sugared_same g e h = λ i. record { polynomial = sym e i; sugar = sym h i }

pub within_at : (G : List Sugared) → AreWithinSugars G → (k : ℕ) → k < length G → DegreeAtMost (member_at G k).sugar (member_at G k).polynomial
unfolding member_at
within_at G within k l = within k (record { polynomial = empty; sugar = 0 }) l

pub nonzero_list : {D : Type 0} (f : D → Sugared) (list : List D) → All (λ h. h ≢ empty) (polynomials_of (map f list)) → All (λ g. (f g).polynomial ≢ empty) list
nonzero_list f list all = All-map_back (λ g. g.polynomial ≢ empty) f list (All-map_back (λ h. h ≢ empty) (λ g. g.polynomial) (map f list) all)

module _ (F : Field) {key : List ℕ → List ℕ} (O : IsMonomialOrder key) (G : List Sugared) (s t : Division) (m : List ℕ) (c : ℕ) (is : lead key s.dividend ≡ Some (m, c)) where
  own : lead_exponents key s.dividend ≡ m
  own = (lead-parts key s.dividend (m, c) is).0

  -- A step that cancels the lead.
  pub step_by-cancel : (k : ℕ) (g : Sugared) → Some k ≡ first_divisor key G m → member_at G k ≡ g → t ≡ cancel_lead F key k g s → IsDivisionStep F key G s t
  unfolding step_by
  step_by-cancel k g found member e = record {
    nonzero = some-lead F O is;
    next = e ∙ ap (λ x. cancel_lead F key k x s) (sym member) ∙ ap (λ o. step_by F key G o s) (found ∙ ap (first_divisor key G) (sym own));
  }

  -- A step that moves it.
  pub step_by-move : None ≡ first_divisor key G m → t ≡ move_lead F key s → IsDivisionStep F key G s t
  unfolding step_by
  step_by-move found e = record { nonzero = some-lead F O is; next = e ∙ ap (λ o. step_by F key G o s) (found ∙ ap (first_divisor key G) (sym own)) }

  -- The sugar after a step that cancels.
  pub sugar-cancel : (k : ℕ) (g : Sugared) → Some k ≡ first_divisor key G m → member_at G k ≡ g
      → (step_by F key G (first_divisor key G m) s).sugar ≡ max s.sugar (total (minus m (lead_exponents key g.polynomial)) + g.sugar)
  unfolding step_by cancel_lead
  sugar-cancel k g found member =
      ap (λ o. (step_by F key G o s).sugar) (sym found) ∙ ap (λ x. max s.sugar (total (minus (lead_exponents key s.dividend) (lead_exponents key x.polynomial)) + x.sugar)) member
      ∙ ap (λ x. max s.sugar (total (minus x (lead_exponents key g.polynomial)) + g.sugar)) own

  pub sugar-move : None ≡ first_divisor key G m → (step_by F key G (first_divisor key G m) s).sugar ≡ s.sugar
  unfolding step_by move_lead
  sugar-move found = ap (λ o. (step_by F key G o s).sugar) (sym found)
