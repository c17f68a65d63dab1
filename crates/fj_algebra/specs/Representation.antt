-- Representations of a polynomial by multiples of given polynomials, with bounds on their leads.
use Rattle.std.specs.Prelude.{◌≡◌}
use Rattle.fj_algebra.specs.Polynomial.{OrderedPolynomials, IsLead}

-- h is a sum of multiples of members g of S by terms c m. The height of such a multiple is m times the lead of g, and each
-- height satisfies B.
pub data Representation {K M A : Type 0} (P : OrderedPolynomials K M A) (S : A → Type 0) (B : M → Type 0) : A → Type 0 where
  nothing : {h : A} → h ≡ P.ring.zero → Representation P S B h
  more : {h rest : A} (c : K) (m : M) (g : A) → S g → ((a : M) → IsLead P g a → B (P.monomials.times m a)) → Representation P S B rest
      → h ≡ P.ring.add (P.ring.mul (P.term c m) g) rest → Representation P S B h
