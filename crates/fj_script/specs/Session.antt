-- A session as far as it is read.
use Rattle.std.specs.Prelude.{ℕ, ◌+◌, Bool, if◌then◌else◌, nat_lt, List, [], ◌∷◌, ◌++◌, length, map, sum}
use Rattle.std.specs.List.{list_any}
use Rattle.fj_theory.specs.Exponents.{total}
use Rattle.fj_plain.specs.declared.order_name.OrderName.{OrderName}
use Rattle.fj_plain.specs.declared.order_name.OrderName.TheVariants as orders
use Rattle.fj_script.specs.declared.question.Asked.{Asked}
use Rattle.fj_script.specs.declared.question.Question.{Question}
use Rattle.fj_script.specs.declared.value.Kind.{Kind}
use Rattle.fj_script.specs.declared.value.Kind.TheVariants as kinds

-- The terms of a polynomial over the prime field, falling in Grevlex: exponents and rank.
abbrev pub Terms : Type 0
Terms = List (List ℕ × ℕ)

-- What a declared name stands for: a polynomial, an ideal by its generators, a point, or the ideal that a question has as its
-- answer, with the turn budget that stands at its line.
pub data Value : Type 0 where
  Poly : Terms → Value
  Ideal : List Terms → Value
  Point : List ℕ → Value
  Let : ℕ → Question → Value

-- The prime and the variables of the ring, the values by their names in order of declaration, the terms of all declared
-- polynomials and generators, the printing order and the turn budget of the questions that follow, and the questions.
pub record Session : Type 0 where
  pub prime : ℕ
  pub variables : List (List ℕ)
  pub values : List (List ℕ × Value)
  pub terms : ℕ
  pub order : OrderName
  pub budget : ℕ
  pub asked : List Asked

abbrev pub new_session : ℕ → List (List ℕ) → Session
new_session p variables = record { prime = p; variables = variables; values = []; terms = 0; order = orders.Grevlex; budget = 100000; asked = [] }

-- A polynomial without a term of degree 1 or more is constant.
abbrev pub is_nonconstant : Terms → Bool
is_nonconstant f = list_any (λ t. nat_lt 0 (total t.0)) f

abbrev pub kind : Value → Kind
kind (Poly f) = if is_nonconstant f then kinds.Nonconstant else kinds.Constant
kind (Ideal fs) = kinds.Ideal
kind (Point cs) = kinds.Point
kind (Let budget question) = kinds.Ideal

-- How many terms count for the limit on all terms.
abbrev pub terms_in : List Terms → ℕ
terms_in fs = sum (map length fs)

-- the session with one more name
abbrev pub declare : Session → List ℕ → Value → ℕ → Session
declare S name value terms = record S { values = S.values ++ (name, value) ∷ []; terms = S.terms + terms }

-- the session with one more question
abbrev pub ask : Session → Question → Session
ask S question = record S { asked = S.asked ++ record { number = length S.asked + 1; order = S.order; budget = S.budget; question = question } ∷ [] }
