-- What statements keep: declared polynomials and generators are over GF(p), in the variables of the ring and of degree
-- at most 1,000, and the arguments of each question are of the kinds and within the limits that it takes.
use Rattle.std.proofs.Common.{◌≡◌, ◌≢◌, ℕ, ◌+◌, ◌<◌, ◌≤◌, Bool, true, false, leb, ltb, leb-false, ltb-false, List, [], ◌∷◌, ◌++◌, zero, suc, length, length-append, take, All, Contains, Option, Some, None, Ok, Err, refl, sym, subst, arith}
use Rattle.std.specs.List.{slice_get}
use Rattle.std.specs.Option.{option_map_or}
use Rattle.std.specs.FinMap.{get}
use Rattle.std.specs.Option.{is_some}
use Rattle.std.specs.Str.{bytes_eq}
use Rattle.std.proofs.lemmas.Nat.{mod_below}
use Rattle.std.proofs.lemmas.List.Quantifiers.{position-Some}
use Rattle.std.proofs.lemmas.Option.{none-some, same_Some}
use Rattle.std.proofs.lemmas.List.Elements.{All-nil, All-cons, All-append, All-push, All-weaker}
use Rattle.fj_coeff.specs.Field.{primes}
use Rattle.fj_coeff.specs.PrimeField.{prime_field}
use Rattle.fj_coeff.specs.PrimeFieldLaws.{IsField-prime_field, prime_bounds}
use Rattle.fj_theory.specs.Exponents.{total}
use Rattle.fj_theory.specs.MonomialOrder.{grevlex_key}
use Rattle.fj_theory.specs.Polynomial.{Polynomial, support, terms_falling}
use Rattle.fj_theory.proofs.Keys.{grevlex_key-IsMonomialOrder}
use Rattle.fj_theory.proofs.Polynomial.{coefficient-Some}
use Rattle.fj_theory.proofs.Terms.{terms_falling-get}
use Rattle.fj_plain.specs.declared.order_name.OrderName.{OrderName}
use Rattle.fj_plain.specs.declared.order_name.OrderName.TheVariants as orders
use Rattle.fj_text.proofs.FirstVariables.{AreZeroFrom}
use Rattle.fj_text.specs.declared.scope.Meaning.TheVariants as meanings
use Rattle.fj_text.specs.Expression as text
use Rattle.fj_text.specs.State.{State, after_sign, next}
use Rattle.fj_text.specs.Token.{minus}
use Rattle.fj_text.specs.Word.{place_of}
use Rattle.fj_script.specs.declared.question.Asked.{Asked}
use Rattle.fj_script.specs.declared.question.Question.{Question}
use Rattle.fj_script.specs.Declaration as declaration
use Rattle.fj_script.specs.Items.{at_end, enclosed, listed, narrow}
use Rattle.fj_script.specs.Names as names
use Rattle.fj_script.specs.Question.{answers_ideal, ideal_question_at}
use Rattle.fj_script.specs.Session.{Session, Terms, Value, Poly, Ideal, Point, Let, ask, declare, terms_in}
use Rattle.fj_script.proofs.AcceptedExpressions.{expression_read}
use Rattle.fj_script.proofs.AcceptedPolynomials.{IsSmallIn, at_coefficient}
use Rattle.fj_script.proofs.AcceptedArguments.{IsSoundQuestion, question_kept}
use Rattle.fj_script.proofs.AcceptedItems.{enclosed_kept, listed_kept}
use Rattle.fj_script.proofs.AcceptedQuestions.{ideal_question_sound}
use Rattle.fj_script.proofs.AcceptedYields.{Yields, Anything, yields_anything, yields_if, yields_option, yields_then, yields_weaker}

-- Terms over GF(p) in the first n variables, of degree at most 1,000.
pub record AreSound (p n : ℕ) (ts : Terms) : Type 0 where
  pub ranks : All (λ t. t.1 < p) ts
  pub first : All (λ t. AreZeroFrom n t.0) ts
  pub low : All (λ t. total t.0 ≤ 1000) ts

-- What a declared name stands for: polynomials as these terms are, a point with a coordinate below p for each variable, or
-- the ideal that a question has as its answer, with a turn budget.
abbrev pub IsSoundValue : ℕ → ℕ → Value → Type 0
IsSoundValue p n (Poly f) = AreSound p n f
IsSoundValue p n (Ideal fs) = All (AreSound p n) fs
IsSoundValue p n (Point cs) = (length cs ≡ n) × All (λ c. c < p) cs
IsSoundValue p n (Let budget question) = (1 ≤ budget) × (budget ≤ 10000000) × (answers_ideal question ≡ true)

-- The question of a let is one about the values that were declared before it.
abbrev pub IsAboutEarlier : ℕ → List (List ℕ × Value) → Value → Type 0
IsAboutEarlier p earlier (Poly f) = Unit {0}
IsAboutEarlier p earlier (Ideal fs) = Unit {0}
IsAboutEarlier p earlier (Point cs) = Unit {0}
IsAboutEarlier p earlier (Let budget question) = IsSoundQuestion p earlier question

abbrev pub AreAboutEarlier : ℕ → List (List ℕ × Value) → Type 0
AreAboutEarlier p values = (i : ℕ) (v : List ℕ × Value) → slice_get values i ≡ Some v → IsAboutEarlier p (take i values) v.1

-- What holds of each item of a list and those before it holds with one more item.
with_earlier : {X : Type 0} (Q : List X → X → Type 0) (xs : List X) (v : X) → ((i : ℕ) (x : X) → slice_get xs i ≡ Some x → Q (take i xs) x) → Q xs v
    → (i : ℕ) (x : X) → slice_get (xs ++ v ∷ []) i ≡ Some x → Q (take i (xs ++ v ∷ [])) x
with_earlier Q [] v each last zero x e = subst (Q []) (same_Some v x e) last
with_earlier Q [] v each last (suc i) x e = absurd (none-some _ e)
with_earlier Q (y ∷ ys) v each last zero x e = each zero x e
with_earlier Q (y ∷ ys) v each last (suc i) x e = with_earlier (λ zs z. Q (y ∷ zs) z) ys v (λ k z f. each (suc k) z f) last i x e

-- The printing order and the turn budget of a question.
pub record IsSoundPrinting (order : OrderName) (budget : ℕ) : Type 0 where
  pub named : order ≢ orders.Elim
  pub positive : 1 ≤ budget
  pub low : budget ≤ 10000000

pub record IsSoundAsked (p : ℕ) (values : List (List ℕ × Value)) (asked : Asked) : Type 0 where
  pub printing : IsSoundPrinting asked.order asked.budget
  pub question : IsSoundQuestion p values asked.question

pub record IsSound (S : Session) : Type 0 where
  pub prime : Contains primes S.prime
  pub printing : IsSoundPrinting S.order S.budget
  pub values : All (λ v. IsSoundValue S.prime (length S.variables) v.1) S.values
  pub earlier : AreAboutEarlier S.prime S.values
  pub asked : All (IsSoundAsked S.prime S.values) S.asked

single : {X : Type 0} (P : X → Type 0) (x : X) → P x → All P (x ∷ [])
single P x h = All-cons P x [] h (All-nil P)

-- The terms of a polynomial that is small.
terms_sound : {p n : ℕ} {f : Polynomial} → IsSmallIn (prime_field p) n f → AreSound p n (terms_falling grevlex_key f)
terms_sound {p} {n} {f} H =
    let each = terms_falling-get grevlex_key-IsMonomialOrder H.polynomial in
    let there : (P : List ℕ → Type 0) → All P (support f) → All (λ t. P t.0) (terms_falling grevlex_key f) = λ P all.
    All-weaker (λ t. get f t.0 ≡ Some t.1) (λ t. P t.0) (λ t g. at_coefficient P f all t.0 (subst (λ c. 0 < c) (sym (coefficient-Some f t.0 t.1 g)) (H.polynomial.nonzero t.0 t.1 g))) (terms_falling grevlex_key f) each in
    record {
      ranks = All-weaker (λ t. get f t.0 ≡ Some t.1) (λ t. t.1 < p) (λ t g. H.polynomial.below t.0 t.1 g) (terms_falling grevlex_key f) each;
      first = there (AreZeroFrom n) H.first;
      low = there (λ a. total a ≤ 1000) H.low;
    }

-- A word is a variable of the ring at its place.
known_variable : (S : Session) (w : List ℕ) (i : ℕ) → names.meaning S w ≡ meanings.Variable i → i < length S.variables
unfolding names.meaning
known_variable S w i = by (place_of S.variables w) refl
  where
    by : (o : Option ℕ) → place_of S.variables w ≡ o → option_map_or (λ k. meanings.Variable k) o (names.unless_declared (is_some (place_of (names.declared_names S.values) w))) ≡ meanings.Variable i
        → i < length S.variables
    by None e h = absurd (other (is_some (place_of (names.declared_names S.values) w)) h)
      where
        other : (b : Bool) → names.unless_declared b ≡ meanings.Variable i → ⊥
        other true h = cc
        other false h = cc
    by (Some k) e h =
        let within = (position-Some (λ name. bytes_eq name w) S.variables k [] e).0 in
        let same : k ≡ i = cc in
        omega (arith, within, same)

module _ (S : Session) (H : IsSound S) where
  abbrev SoundTerms : Terms × State → Type 0
  SoundTerms x = AreSound S.prime (length S.variables) x.0

  expression_sound : (s : State) → Yields SoundTerms (declaration.expression S s)
  unfolding declaration.expression
  expression_sound s = by (text.expression (prime_field S.prime) (names.meaning S) s) (expression_read (IsField-prime_field S.prime H.prime) (length S.variables) (names.meaning S) (known_variable S) s)
    where
      by : (r : text.Answer Polynomial) → Yields (λ x. IsSmallIn (prime_field S.prime) (length S.variables) x.0) r → Yields SoundTerms (declaration.of_text r)
      by (Ok x) h = terms_sound h
      by (Err e) h = tt

  counted_sound : (terms : ℕ) (s : State) → Yields SoundTerms (declaration.counted S terms s)
  unfolding declaration.counted
  counted_sound terms s = yields_then SoundTerms SoundTerms (declaration.expression S s) _ (expression_sound s) (λ f h. yields_if SoundTerms (ltb 1000000 (terms + length f.0)) _ _ (λ _. tt) (λ _. h))

  declare_sound : (name : List ℕ) (value : Value) (terms : ℕ) → IsSoundValue S.prime (length S.variables) value → IsAboutEarlier S.prime S.values value → IsSound (declare S name value terms)
  declare_sound name value terms h about = record {
    prime = H.prime;
    printing = H.printing;
    values = All-append (λ v. IsSoundValue S.prime (length S.variables) v.1) S.values ((name, value) ∷ []) H.values (single (λ v. IsSoundValue S.prime (length S.variables) v.1) (name, value) h);
    earlier = with_earlier (λ vs v. IsAboutEarlier S.prime vs v.1) S.values (name, value) H.earlier about;
    asked = All-weaker (IsSoundAsked S.prime S.values) (IsSoundAsked S.prime (S.values ++ (name, value) ∷ [])) (λ a k. record { printing = k.printing; question = question_kept S.values (name, value) S.prime a.question k.question }) S.asked H.asked;
  }

  pub ask_sound : (q : Question) → IsSoundQuestion S.prime S.values q → IsSound (ask S q)
  ask_sound q h = record {
    prime = H.prime;
    printing = H.printing;
    values = H.values;
    earlier = H.earlier;
    asked = All-append (IsSoundAsked S.prime S.values) S.asked _ H.asked (single (IsSoundAsked S.prime S.values) _ (record { printing = H.printing; question = h }));
  }

  pub at_end_sound : (x : Session × State) → IsSound x.0 → Yields IsSound (at_end x)
  unfolding at_end
  at_end_sound x h = yields_option IsSound (next x.1) _ _ (λ t e. tt) h

  pub poly_sound : (s : State) → Yields IsSound (declaration.poly S s)
  unfolding declaration.poly
  poly_sound s =
      yields_then Anything IsSound (declaration.name_equals S s) _ (yields_anything _)
      (λ name _. yields_then SoundTerms IsSound (declaration.counted S S.terms name.1) _ (counted_sound S.terms name.1)
      (λ f h. at_end_sound (declare S name.0 (Poly f.0) (length f.0), f.1) (declare_sound name.0 (Poly f.0) (length f.0) h tt)))

  generator_sound : (fs : List Terms) (s : State) → All (AreSound S.prime (length S.variables)) fs → Yields (λ f. All (AreSound S.prime (length S.variables)) (fs ++ f.0 ∷ [])) (declaration.generator S fs s)
  unfolding declaration.generator
  generator_sound fs s h =
      let with_one : Terms × State → Type 0 = λ f. All (AreSound S.prime (length S.variables)) (fs ++ f.0 ∷ []) in
      yields_if with_one (leb 256 (length fs)) _ _ (λ _. tt)
      (λ _. yields_weaker SoundTerms with_one _ (counted_sound (S.terms + terms_in fs) s) (λ f k. All-push (AreSound S.prime (length S.variables)) fs f.0 h k))

  pub ideal_sound : (s : State) → Yields IsSound (declaration.ideal S s)
  unfolding declaration.ideal
  ideal_sound s =
      let generators : List Terms → Type 0 = All (AreSound S.prime (length S.variables)) in
      yields_then Anything IsSound (declaration.name_equals S s) _ (yields_anything _)
      (λ name _. yields_then (λ fs. generators fs.0) IsSound (enclosed (listed (declaration.generator S)) name.1) _ (enclosed_kept generators _ (listed_kept generators (declaration.generator S) generator_sound (All-nil _)) name.1)
      (λ fs h. at_end_sound (declare S name.0 (Ideal fs.0) (terms_in fs.0), fs.1) (declare_sound name.0 (Ideal fs.0) (terms_in fs.0) h tt)))

  -- Coordinates below p, at most one for each variable.
  abbrev ArePartly : List ℕ → Type 0
  ArePartly cs = (length cs ≤ length S.variables) × All (λ c. c < S.prime) cs

  constant_sound : (s : State) → Yields (λ c. c.0 < S.prime) (declaration.constant S.prime s)
  unfolding declaration.constant
  constant_sound s =
      let below : ℕ × State → Type 0 = λ c. c.0 < S.prime in
      let positive : 0 < S.prime = omega (arith, (prime_bounds S.prime H.prime).0) in
      yields_option below (after_sign minus s) _ _
      (λ t _. yields_then Anything below (narrow t) _ (yields_anything _) (λ n _. mod_below _ S.prime positive))
      (yields_then Anything below (narrow s) _ (yields_anything _) (λ n _. mod_below n.0 S.prime positive))

  coordinate_sound : (cs : List ℕ) (s : State) → ArePartly cs → Yields (λ c. ArePartly (cs ++ c.0 ∷ [])) (declaration.coordinate S cs s)
  unfolding declaration.coordinate
  coordinate_sound cs s h =
      let with_one : ℕ × State → Type 0 = λ c. ArePartly (cs ++ c.0 ∷ []) in
      yields_if with_one (leb (length S.variables) (length cs)) _ _ (λ _. tt)
      (λ few. yields_weaker (λ c. c.0 < S.prime) with_one _ (constant_sound s)
      (λ c k. let less = leb-false (length S.variables) (length cs) few in let longer = length-append cs (c.0 ∷ []) in (omega (arith, less, longer), All-push (λ c. c < S.prime) cs c.0 h.1 k)))

  pub point_sound : (s : State) → Yields IsSound (declaration.point S s)
  unfolding declaration.point
  point_sound s =
      yields_then Anything IsSound (declaration.name_equals S s) _ (yields_anything _)
      (λ name _. yields_then (λ cs. ArePartly cs.0) IsSound (enclosed (listed (declaration.coordinate S)) name.1) _
      (enclosed_kept ArePartly _ (listed_kept ArePartly (declaration.coordinate S) coordinate_sound (omega arith, All-nil _)) name.1)
      (λ cs h. yields_if IsSound (ltb (length cs.0) (length S.variables)) _ _ (λ _. tt)
      (λ all. let enough = ltb-false (length cs.0) (length S.variables) all in
      at_end_sound (declare S name.0 (Point cs.0) 0, cs.1) (declare_sound name.0 (Point cs.0) 0 (omega (arith, enough, h.0), h.1) tt))))

  pub named_result_sound : (s : State) → Yields IsSound (declaration.named_result S s)
  unfolding declaration.named_result
  named_result_sound s =
      yields_then Anything IsSound (declaration.name_equals S s) _ (yields_anything _)
      (λ name _. yields_then (λ q. IsSoundQuestion S.prime S.values q.0 × (answers_ideal q.0 ≡ true)) IsSound (ideal_question_at S name.1) _ (ideal_question_sound S name.1)
      (λ q h. at_end_sound (declare S name.0 (Let S.budget q.0) 0, q.1) (declare_sound name.0 (Let S.budget q.0) 0 (H.printing.positive, H.printing.low, h.1) h.0)))
