-- Members at their places, and rows of quotients.
use Rattle.std.proofs.Common.{◌≡◌, ℕ, ◌<◌, List, [], ◌∷◌, ◌++◌, length, get_or, sym, ap, ◌∙◌}
use Rattle.fj_coeff.specs.Field.{Field}
use Rattle.fj_theory.specs.Polynomial.{Polynomial}
use Rattle.fj_theory.specs.Lead.{lead_exponents}
use Rattle.fj_groebner.specs.Division.{Sugared}
use Rattle.fj_groebner.specs.Run.{given, lead_of}
use Rattle.fj_basis.specs.declared.members.Member.{Member}
use Rattle.fj_basis.specs.Members.{sugared_members}
use Rattle.fj_basis.specs.Finished.{IsQuotients, AreQuotients}
use Rattle.fj_basis.proofs.Subtracted.{member_at-sugared}

module _ {K O : Type 0} (key : List ℕ → List ℕ) where
  -- The lead of the member at a place.
  pub lead_at-sugared : (members : List (Member K O)) (k : ℕ) (m : Member K O) → k < length members → m ≡ get_or members k m
      → lead_of key (sugared_members members) k ≡ lead_exponents key m.polynomial
  unfolding lead_of
  lead_at-sugared members k m l at = ap (λ s. lead_exponents key s.polynomial) (member_at-sugared members k m l) ∙ ap (λ (m : Member K O). lead_exponents key m.polynomial) (sym at)

pub given-sugared : (f : Polynomial) (n : ℕ) → n ≡ (given f).sugar → record { polynomial = f; sugar = n } ≡ given f
unfolding given
given-sugared f n e = λ i. record { polynomial = f; sugar = e i }

-- One row of quotients more.
pub AreQuotients-more : {F : Field} {key : List ℕ → List ℕ} {G : List Sugared} (L : List Polynomial) (rows : List (List Polynomial)) (f : Polynomial) (row : List Polynomial)
    → AreQuotients F key G L rows → IsQuotients F key G f row → AreQuotients F key G (L ++ (f ∷ [])) (rows ++ (row ∷ []))
unfolding AreQuotients
AreQuotients-more [] [] f row all one = (one, tt)
AreQuotients-more [] (r ∷ rows) f row all one = absurd all
AreQuotients-more (h ∷ L) [] f row all one = absurd all
AreQuotients-more (h ∷ L) (r ∷ rows) f row all one = (all.0, AreQuotients-more L rows f row all.1 one)

pub AreQuotients-nil : (F : Field) (key : List ℕ → List ℕ) (G : List Sugared) → AreQuotients F key G [] []
unfolding AreQuotients
AreQuotients-nil F key G = tt
