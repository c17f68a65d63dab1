-- Meets and quotients of ideals by elimination of the eighth variable (Cox, Little and O'Shea 2015, chapter 4, sections 3 and 4).
use Rattle.std.specs.Prelude.{◌==◌, Bool, List, ◌++◌, filter, slice_index}
use Rattle.std.specs.List.{list_all}
use Rattle.std.specs.FinMap.{entries}
use Rattle.fj_coeff.specs.Field.{Field}
use Rattle.fj_theory.specs.Exponents.{origin}
use Rattle.fj_theory.specs.Polynomial.{difference, Polynomial, term}
use Rattle.fj_theory.specs.Ideal.{multiples}
use Rattle.fj_theory.specs.PointIdeal.{variable_exponents}

-- The eighth variable t.
unfoldable pub eighth_variable : Polynomial
eighth_variable = term 1 (variable_exponents 7)

-- The list t I, (1 - t) J. The part of its ideal without t is the meet of (I) and (J).
unfoldable pub elimination_list : Field → List Polynomial → List Polynomial → List Polynomial
elimination_list F I J = multiples F eighth_variable I ++ multiples F (difference F (term 1 origin) eighth_variable) J

-- No term of the polynomial has the eighth variable.
unfoldable pub lacks_eighth : Polynomial → Bool
lacks_eighth f = list_all (λ t. slice_index t.0 7 == 0) (entries f)

-- The members of a list without the eighth variable.
unfoldable pub without_eighth : List Polynomial → List Polynomial
without_eighth G = filter lacks_eighth G
