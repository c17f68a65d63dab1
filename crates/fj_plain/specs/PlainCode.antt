-- A plain polynomial as the value of a model.
use Rattle.std.specs.Prelude.{◌≡◌, ℕ, List}
use Rattle.std.specs.Coded.{Coded, coded_list, coded×, coded_ℕ}
use base.Stored.{coded_via}
use mathlib.Core.HLevel.{Σ_prop_path}
use denote.Struct.Props.{props}
use Rattle.fj_theory.specs.Plain.{IsPlain, PlainPolynomial}

-- A plain polynomial is determined by its terms.
pub same_plain : (f g : PlainPolynomial) → f.terms ≡ g.terms → f ≡ g
same_plain f g e =
    let pairs : ◌≡◌ {A = (ts : List (List ℕ × ℕ)) × IsPlain ts} (f.terms, f.plain) (g.terms, g.plain) = Σ_prop_path (λ ts. hlevel props) e in
    λ i. record { terms = (pairs i).0; plain = (pairs i).1 }

-- It is stored as its terms.
abbrev pub plain_code : Coded PlainPolynomial
plain_code = coded_via (coded_list (coded× (coded_list coded_ℕ) coded_ℕ)) (λ (f : PlainPolynomial). f.terms) same_plain
