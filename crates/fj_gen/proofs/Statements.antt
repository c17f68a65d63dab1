-- The statements of a generated session, one after the other.
use Rattle.std.proofs.Common.{◌≡◌, ◌≢◌, ℕ, zero, suc, ◌+◌, ◌*◌, ◌/◌, ◌^◌, ◌<◌, ◌≤◌, List, [], ◌∷◌, ◌++◌, length, get_or, map, All, Contains, Some, refl, sym, ap, ◌∙◌, subst, arith, codes}
use Rattle.std.specs.List.{flat_map, range_with_len, slice_get}
use Rattle.std.proofs.lemmas.Fmt.{decimal_injective}
use Rattle.std.proofs.lemmas.List.{length-append}
use Rattle.std.proofs.lemmas.Option.{slice_get-get_or}
use Rattle.std.proofs.lemmas.List.Elements.{All-nil, All-cons, All-push, All-weaker}
use Rattle.std.proofs.lemmas.Nat.{mod_below}
use Rattle.std.proofs.Math.Nat.{pow-le-pow_left}
use Rattle.fj_coeff.specs.Field.{greatest_prime, primes}
use Rattle.fj_coeff.specs.PrimeFieldLaws.{prime_bounds}
use Rattle.fj_theory.specs.Fraction.{Fraction}
use Rattle.fj_theory.specs.MonomialOrder.{grevlex_key}
use Rattle.fj_theory.specs.Polynomial.{terms_falling}
use Rattle.fj_theory.proofs.Exponents.{heads_same, tails_same}
use Rattle.fj_plain.specs.declared.order_name.OrderName.TheVariants as orders
use Rattle.fj_text.specs.Token.{tokens_from}
use Rattle.fj_script.specs.declared.question.Asked.{Asked}
use Rattle.fj_script.specs.declared.question.Question.TheVariants as questions
use Rattle.fj_script.specs.Script.{lines}
use Rattle.fj_script.specs.Session.{Session, Terms, Value, Poly, ask, declare}
use Rattle.fj_grammar.specs.Grammar as grammar
use Rattle.fj_grammar.specs.Grammar.{AreStatements, IsExponent, IsLevel, IsNew, IsQuestion, IsStatement, NamesNonconstant, tokens_of}
use Rattle.fj_gen.specs.Generated.{lines_at, name_at, numerator_at, x_exponent, y_exponent}
use Rattle.fj_gen.proofs.Exponents.{exponent_at}
use Rattle.fj_gen.proofs.LineTokens.{jumps_tokens, lines_read, poly_tokens, test_tokens}
use Rattle.fj_gen.proofs.Polynomials.{IsCurve, curve, is_curve, xy}

-- the value behind the others
at_end : (vs : List (List ℕ × Value)) (v : List ℕ × Value) (k : ℕ) → length vs ≡ k → slice_get (vs ++ v ∷ []) k ≡ Some v
at_end vs v k many = slice_get-get_or (vs ++ v ∷ []) k v (omega (arith, many, length-append vs (v ∷ []))) ∙ ap (λ x. Some x) (get_or_last vs v k many)
  where
    get_or_last : (vs : List (List ℕ × Value)) (v : List ℕ × Value) (k : ℕ) → length vs ≡ k → get_or (vs ++ v ∷ []) k v ≡ v
    get_or_last [] v zero many = refl
    get_or_last [] v (suc k) many = absurd (omega arith)
    get_or_last (u ∷ vs) v zero many = absurd (omega arith)
    get_or_last (u ∷ vs) v (suc k) many = get_or_last vs v k (omega arith)

-- A name of one of the first k polynomials.
abbrev pub IsEarlier : ℕ → List ℕ × Value → Type 0
IsEarlier k v = (j : ℕ) × (v.0 ≡ name_at j) × (j ≤ k)

-- The session over GF(p) after the first k polynomials.
pub record After (k : ℕ) (vs : List (List ℕ × Value)) (terms : ℕ) (qs : List Asked) : Type 0 where
  pub many : length vs ≡ k
  pub names : All (IsEarlier k) vs
  pub few_terms : terms ≤ k * 1000
  pub asked : length qs ≡ 2 * k

no_variable : (i : ℕ) → All (λ v. v ≢ name_at i) xy
no_variable i =
    All-cons (λ v. v ≢ name_at i) (codes "x") (codes "y" ∷ []) (λ e. absurd (let first : 120 ≡ 102 = heads_same e in omega (arith, first)))
    (All-cons (λ v. v ≢ name_at i) (codes "y") [] (λ e. absurd (let first : 121 ≡ 102 = heads_same e in omega (arith, first))) (All-nil (λ v. v ≢ name_at i)))

later_name : (k : ℕ) → k < 1000 → (v : List ℕ × Value) → IsEarlier k v → v.0 ≢ name_at (k + 1)
later_name k low v h e =
    let same : h.0 ≡ k + 1 = decimal_injective h.0 (k + 1) (omega (arith, h.2, low)) (omega (arith, low)) (tails_same (sym h.1 ∙ e)) in
    absurd (omega (arith, same, h.2))

module _ {p : ℕ} (prime : Contains primes p) where
  abbrev pub at : List (List ℕ × Value) → ℕ → List Asked → Session
  at vs terms qs = record { prime = p; variables = xy; values = vs; terms = terms; order = orders.Grevlex; budget = 100000; asked = qs }

  level : IsLevel p 1
  level = let power : p ^ 1 ≤ greatest_prime ^ 1 = pow-le-pow_left (prime_bounds p prime).1 1 in record { above_zero = omega arith; low = omega (arith, power) }

  -- The rest of a generated session.
  pub record Rest (k m : ℕ) (vs : List (List ℕ × Value)) (terms : ℕ) (qs : List Asked) : Type 0 where
    pub session : Session
    pub statements : AreStatements (at vs terms qs) (map tokens_of (lines (flat_map (lines_at p) (range_with_len (k + 1) m)))) session
    pub over : session.prime ≡ p
    pub names : length session.values ≡ k + m
    pub questions : length session.asked ≡ 2 * (k + m)

  module _ (k : ℕ) (low : k < 1000) (vs : List (List ℕ × Value)) (terms : ℕ) (qs : List Asked) (A : After k vs terms qs) where
    abbrev i : ℕ
    i = k + 1

    some_x : 0 < x_exponent i
    some_x = omega arith

    low_x : x_exponent i ≤ 1000
    low_x = let below = mod_below i 4 (omega arith) in omega (arith, below)

    low_y : y_exponent i ≤ 1000
    low_y = let below = mod_below (i / 4) 4 (omega arith) in omega (arith, below)

    C : IsCurve prime (x_exponent i) (y_exponent i) some_x low_x low_y
    C = is_curve prime (x_exponent i) (y_exponent i) some_x low_x low_y (omega arith)

    abbrev f : Terms
    f = terms_falling grevlex_key (curve prime (x_exponent i) (y_exponent i) some_x low_x low_y)

    abbrev declared : List (List ℕ × Value)
    declared = vs ++ (name_at i, Poly f) ∷ []

    abbrev first : Session
    first = declare (at vs terms qs) (name_at i) (Poly f) (length f)

    poly_statement : IsStatement (at vs terms qs) (poly_tokens i) first
    poly_statement =
        grammar.poly (record { no_variable = no_variable i; not_declared = All-weaker (IsEarlier k) (λ v. v.0 ≢ name_at i) (later_name k low) vs A.names; few = omega (arith, A.many, low) }) (grammar.terms C.expression)
        (omega (arith, A.few_terms, C.few, low))

    named : (qs : List Asked) → NamesNonconstant (at declared (terms + length f) qs) (name_at i) k
    named qs = record { terms = f; is = at_end vs (name_at i, Poly f) k A.many; nonconstant = C.nonconstant }

    abbrev second : Session
    second = ask first (questions.Jumps k 1)

    jumps_statement : IsStatement first (jumps_tokens i) second
    jumps_statement = grammar.asked (omega (arith, A.asked, low)) (grammar.jumps (named qs) level)

    numerator_low : numerator_at p i ≤ p
    numerator_low = let below = mod_below i p (omega (arith, (prime_bounds p prime).0)) in omega (arith, below)

    t : (r : Fraction) × IsExponent (numerator_at p i) p r
    t = exponent_at (numerator_at p i) p (omega arith) numerator_low (prime_bounds p prime).1

    abbrev third : Session
    third = ask second (questions.Test k t.0)

    test_statement : IsStatement second (test_tokens p i) third
    test_statement =
        grammar.asked (omega (arith, A.asked, low, length-append qs (record { number = length qs + 1; order = orders.Grevlex; budget = 100000; question = questions.Jumps k 1 } ∷ [])))
        (grammar.test (named second.asked) (grammar.quotient t.1))

    next : After (k + 1) declared (terms + length f) third.asked
    next =
        record {
          many = omega (arith, A.many, length-append vs ((name_at i, Poly f) ∷ []));
          names = All-push (IsEarlier (k + 1)) vs (name_at i, Poly f) (All-weaker (IsEarlier k) (IsEarlier (k + 1)) (λ v h. (h.0, h.1, omega (arith, h.2))) vs A.names) (i, refl, omega arith);
          few_terms = omega (arith, A.few_terms, C.few);
          asked = omega (arith, A.asked, length-append qs (record { number = length qs + 1; order = orders.Grevlex; budget = 100000; question = questions.Jumps k 1 } ∷ []), length-append second.asked (record { number = length second.asked + 1; order = orders.Grevlex; budget = 100000; question = questions.Test k t.0 } ∷ []));
        }

    more : (m : ℕ) → Rest (k + 1) m declared (terms + length f) third.asked → Rest k (suc m) vs terms qs
    more m R =
        let bounds = prime_bounds p prime in
        let rest : List ℕ = flat_map (lines_at p) (range_with_len (k + 1 + 1) m) in
        record {
          session = R.session;
          statements = subst (λ ls. AreStatements (at vs terms qs) ls R.session) (sym (lines_read p i (omega (arith, bounds.0)) bounds.1 (omega (arith, low)) rest))
              (grammar.statement poly_statement (grammar.statement jumps_statement (grammar.statement test_statement R.statements)));
          over = R.over;
          names = R.names ∙ omega arith;
          questions = R.questions ∙ omega arith;
        }

  pub rest_of : (m k : ℕ) → k + m ≤ 1000 → (vs : List (List ℕ × Value)) (terms : ℕ) (qs : List Asked) → After k vs terms qs → Rest k m vs terms qs
  unfolding lines tokens_from
  rest_of zero k low vs terms qs A =
      record { session = at vs terms qs; statements = grammar.nothing grammar.none; over = refl; names = omega (arith, A.many); questions = omega (arith, A.asked) }
  rest_of (suc m) k low vs terms qs A = more k (omega arith) vs terms qs A m (rest_of m (k + 1) (omega arith) _ _ _ (next k (omega arith) vs terms qs A))

pub after_none : After 0 [] 0 []
after_none = record { many = refl; names = All-nil (IsEarlier 0); few_terms = omega arith; asked = refl }
