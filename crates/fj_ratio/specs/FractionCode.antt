-- How a fraction is stored.
use Rattle.std.specs.Prelude.{◌≡◌, ℕ, ◌<◌}
use Rattle.std.specs.Coded.{Coded, coded×, coded_ℕ}
use base.Stored.{coded_via}
use mathlib.Core.HLevel.{Σ_prop_path}
use denote.Struct.Props.{props}
use Rattle.fj_theory.specs.Fraction.{Fraction}

-- A fraction is determined by its numerator and its denominator.
pub same_fraction : (s t : Fraction) → ◌≡◌ {A = ℕ × ℕ} (s.numerator, s.denominator) (t.numerator, t.denominator) → s ≡ t
same_fraction s t e =
    let pairs : ◌≡◌ {A = (n : ℕ × ℕ) × (0 < n.1)} ((s.numerator, s.denominator), s.positive) ((t.numerator, t.denominator), t.positive) = Σ_prop_path (λ n. hlevel props) e in
    λ i. record { numerator = (pairs i).0.0; denominator = (pairs i).0.1; positive = (pairs i).1 }

-- A fraction is stored as its numerator and its denominator.
abbrev pub fraction_code : Coded Fraction
fraction_code = coded_via (coded× coded_ℕ coded_ℕ) (λ (t : Fraction). (t.numerator, t.denominator)) same_fraction
