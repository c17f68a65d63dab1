-- The terms of a part of a polynomial, from those of the polynomial: each exponent is split, and roots of the coefficients
-- are taken. The definition of parts doesn't speak of them.
use Rattle.std.specs.Prelude.{ℕ, zero, suc, ◌^◌, if◌then◌else◌, List, [], ◌∷◌}
use Rattle.std.specs.Ordering.{nat_cmp, eq_by_cmp}
use Rattle.std.specs.Cmp.Lexicographic.{slice_cmp}
use Rattle.fj_coeff.specs.Field.{Field}
use Rattle.fj_theory.specs.Exponents.{quotient_by, residue_by}

-- The p^e-th root of an element of the field: the p-th root, e times.
unfoldable pub iterated_root : Field → ℕ → ℕ → ℕ
iterated_root F zero c = c
iterated_root F (suc e) c = iterated_root F e (F.root c)

-- The terms of the part at the residue a: of each term c * x^(q * b + a) of the list, q = p^e, the term root(c) * x^b.
unfoldable pub part_terms : Field → ℕ → List ℕ → List (List ℕ × ℕ) → List (List ℕ × ℕ)
part_terms F e a [] = []
part_terms F e a (t ∷ ts) =
    if eq_by_cmp (slice_cmp nat_cmp) a (residue_by (F.characteristic ^ e) t.0) then (quotient_by (F.characteristic ^ e) t.0, iterated_root F e t.1) ∷ part_terms F e a ts else part_terms F e a ts
