-- Polynomials in the first variables, by their terms.
use Rattle.std.proofs.Common.{◌≡◌, ℕ, ◌≤◌, List, get_or, All, sym, ◌∙◌}
use Rattle.std.specs.FinMap.{from_entries, get-from_entries}
use Rattle.std.proofs.lemmas.Cmp.{nat_list_cmp_total}
use Rattle.fj_theory.specs.PointIdeal.{UsesFirst}
use Rattle.fj_theory.proofs.Polynomial.{get-coefficient}
use Rattle.fj_theory.proofs.Terms.{find_All}

-- from place n on the exponents are zero
abbrev pub AreZeroFrom : ℕ → List ℕ → Type 0
AreZeroFrom n exponents = (i : ℕ) → n ≤ i → get_or exponents i 0 ≡ 0

pub uses_first : (n : ℕ) (ts : List (List ℕ × ℕ)) → All (λ t. AreZeroFrom n t.0) ts → UsesFirst n (from_entries ts)
uses_first n ts all = record {
  later = λ a some. find_All (λ t. AreZeroFrom n t.0) ts a _ all (sym (get-from_entries nat_list_cmp_total ts a) ∙ get-coefficient (from_entries ts) a some);
}
