-- Nothing past the variables of the ring occurs in an answer.
use Rattle.std.proofs.Common.{◌≡◌, ◌⊎◌, inl, inr, ℕ, suc, zero, ◌+◌, ◌<◌, Bool, Contains, ◌^◌, ◌++◌, List, [], ◌∷◌, length, map, All, sym, subst, refl, arith}
use Rattle.std.proofs.lemmas.List.Elements.{All-contains, All-cons, All-head, All-map, All-nil, All-tail, All-weaker}
use Rattle.fj_algebra.proofs.Lists.{All-map_back}
use Rattle.fj_algebra.proofs.Pairs.{All-from_elements}
use Rattle.fj_coeff.specs.Field.{Field, IsField, primes}
use Rattle.fj_coeff.specs.PrimeField.{prime_field}
use Rattle.fj_coeff.specs.PrimeFieldLaws.{IsField-prime_field}
use Rattle.fj_theory.specs.Fraction.{Fraction}
use Rattle.fj_theory.specs.Ideal.{ArePolynomials, SameIdeal}
use Rattle.fj_theory.specs.MonomialOrder.{IsMonomialOrder}
use Rattle.fj_theory.specs.Plain.{PlainPolynomial, polynomial}
use Rattle.fj_theory.specs.PointIdeal.{UsesFirst}
use Rattle.fj_theory.specs.Polynomial.{Polynomial, IsPolynomial, power}
use Rattle.fj_theory.specs.Root.{IsRoot}
use Rattle.fj_theory.proofs.FrobeniusPower.{ArePolynomials-frobenius_power}
use Rattle.fj_theory.proofs.Ideal.{ArePolynomials-append, ArePolynomials-products, SameIdeal-refl}
use Rattle.fj_theory.proofs.Keys.{grevlex_key-IsMonomialOrder}
use Rattle.fj_theory.proofs.IdealBridge.{ArePolynomials-head, ArePolynomials-single, ArePolynomials-tail}
use Rattle.fj_groebner.proofs.Lacking.{IsColon-UsesFirst, IsMeet-UsesFirst, IsReducedBasis-UsesFirst}
use Rattle.fj_theory.proofs.PartsExistence.{parts_of, IsParts-parts_of}
use Rattle.fj_theory.proofs.Plain.{IsPolynomial-polynomial}
use Rattle.fj_groebner.specs.ReducedBasis.{IsReducedBasis}
use Rattle.fj_groebner.proofs.ReducedBasis.{IsReducedBasis-same_ideal, IsReducedBasis_polynomials}
use Rattle.fj_plain.specs.declared.order_name.OrderName.{OrderName}
use Rattle.fj_plain.specs.declared.order_name.OrderName.TheVariants.{Grevlex}
use Rattle.fj_ideal.specs.Stop.{key_of}
use Rattle.fj_theory.proofs.PolynomialRing.{IsPolynomial-power}
use Rattle.fj_theory.proofs.Root.{IsRoot-append, IsRoot-nil, IsRoot-unique}
use Rattle.fj_theory.proofs.RootParts.{IsRoot-parts}
use Rattle.fj_theory.proofs.UsesFirst.{UsesFirst-append, UsesFirst-frobenius_power, UsesFirst-parts, UsesFirst-power, UsesFirst-products}
use Rattle.fj_testideal.specs.TestIdeal.{IsLeftLimit, IsTestIdeal}
use Rattle.fj_fedder.specs.Fedder.{IsFedderColon, IsSplitIdeal}
use Rattle.fj_script.specs.declared.question.Asked.{Asked}
use Rattle.fj_script.specs.declared.question.Question.{Question}
use Rattle.fj_script.specs.declared.question.Question.TheVariants as questions
use Rattle.fj_script.specs.declared.script.Env.{Env}
use Rattle.fj_script.specs.Seen.{seen_values}
use Rattle.fj_script.proofs.AcceptedArguments.{IsSoundQuestion, NamesIdeal, NamesNonconstant}
use Rattle.fj_session.specs.declared.types.Answer.{Answer}
use Rattle.fj_session.specs.declared.types.Answer.TheVariants.{Parts, Ideal, Yes, No, Off, StoppedPairs, StoppedHigh}
use Rattle.fj_session.specs.declared.types.Answer.TheVariants as answers
use Rattle.fj_session.specs.Answer.{AnswerUsesFirst, IdealUsesFirst, IsAnswer, IsAnswerWith, IsStop, RowUsesFirst}
use Rattle.fj_session.specs.Jumps.{ShowsTestIdeal}
use Rattle.fj_session.specs.Meaning.{IsIdealAnswer}
use Rattle.fj_shell.specs.Asked.{AreOfOneSession, IsDeclaredIdealAt, IsIdealAt, IsLetAt, IsNonconstantAt, IsOfSession}
use Rattle.fj_shell.specs.Asked as stated
use Rattle.fj_shell.specs.Named.{places_in, polynomial_at, polynomials}
use Rattle.fj_session.specs.Lets.{AreValues}
use Rattle.fj_session.specs.Standing.{IsLet, Uses, Values, standing_at}
use Rattle.fj_session.specs.Standing as standing
use Rattle.fj_session.specs.Statement.{meaning_of}
use Rattle.fj_session.specs.declared.types.PartRow.{PartRow}
use Rattle.fj_session.specs.declared.types.ShownJump.{ShownJump}
use Rattle.fj_jump.specs.declared.rows.GapRow.{GapRow}
use Rattle.fj_shell.proofs.Known.{ideal_at, jumps_question, nonconstant_at, parts_question, prime_known, question_known, ring_known, session_of}
use Rattle.fj_session.proofs.Declared.{polynomial_named}
use Rattle.fj_session.proofs.Marks.{is_let, named_earlier}
use Rattle.fj_session.proofs.Standings.{standing_declared, standing_let}
use Rattle.fj_session.proofs.Stated.{sound_known}
use Rattle.fj_session.proofs.Printed.{key_of-IsMonomialOrder, polynomials_of_equal}
use Rattle.fj_session.proofs.Variables.{rows_use_first}

-- Some list of polynomials in the first n variables generates the ideal.
pub record IsGenerated (F : Field) (n : ℕ) (M : List Polynomial) : Type 0 where
  list : List Polynomial
  are : ArePolynomials F list
  uses : All (UsesFirst n) list
  same : SameIdeal F M list

-- A root of an ideal in the first n variables is generated in them: by parts.
record HasRoot (F : Field) (n q : ℕ) (J : List Polynomial) : Type 0 where
  list : List Polynomial
  uses : All (UsesFirst n) list
  root : IsRoot F q J list

module _ {F : Field} (L : IsField F) (n e : ℕ) where
  has_root : (J : List Polynomial) → ArePolynomials F J → All (UsesFirst n) J → HasRoot F n (F.characteristic ^ e) J
  has_root [] A uses = record { list = []; uses = All-nil (UsesFirst n); root = IsRoot-nil F (F.characteristic ^ e) }
  has_root (h ∷ J) A uses =
      let H = ArePolynomials-head A in
      let rest = has_root J (ArePolynomials-tail A) (All-tail (UsesFirst n) h J uses) in
      let own = IsParts-parts_of L e H in
      let first = map (λ part. part.polynomial) (parts_of F e h) in
      record {
        list = first ++ rest.list;
        uses = UsesFirst-append first rest.list (All-map (UsesFirst n) (λ part. part.polynomial) (parts_of F e h) (UsesFirst-parts L e (All-head (UsesFirst n) h J uses) own)) rest.uses;
        root = IsRoot-append L e (ArePolynomials-single H) (IsRoot-parts L e H own) (ArePolynomials-tail A) rest.root;
      }

-- A list of polynomials over the field of the ring, in its variables.
pub record IsFitting (env : Env) (list : List Polynomial) : Type 0 where
  pub are : ArePolynomials (prime_field env.p) list
  pub uses : All (UsesFirst (length env.vars)) list

module _ (env : Env) (prime : Contains primes env.p) where
  lawful : IsField (prime_field env.p)
  lawful = IsField-prime_field env.p prime

  pub declared_fits : {j : ℕ} (D : IsDeclaredIdealAt env j) → IsFitting env (polynomials D.gens)
  declared_fits D = record {
    are = record { each = All-map (IsPolynomial (prime_field env.p)) polynomial D.gens (λ k d h. IsPolynomial-polynomial prime _ (D.ranks k d h)) };
    uses = All-map (UsesFirst (length env.vars)) polynomial D.gens D.variables;
  }

  itself : {M : List Polynomial} → ArePolynomials (prime_field env.p) M → All (UsesFirst (length env.vars)) M → IsGenerated (prime_field env.p) (length env.vars) M
  itself {M} A uses = record { list = M; are = A; uses = uses; same = SameIdeal-refl lawful A }

  exactly : {M : List Polynomial} → IsGenerated (prime_field env.p) (length env.vars) M → (N : List Polynomial) → N ≡ M → IsGenerated (prime_field env.p) (length env.vars) N
  exactly G N is = subst (IsGenerated (prime_field env.p) (length env.vars)) (sym is) G

  root_generated : (e : ℕ) {J M : List Polynomial} → ArePolynomials (prime_field env.p) J → All (UsesFirst (length env.vars)) J → IsRoot (prime_field env.p) ((prime_field env.p).characteristic ^ e) J M
      → IsGenerated (prime_field env.p) (length env.vars) M
  root_generated e {J} A uses root =
      let found = has_root lawful (length env.vars) e J A uses in
      record { list = found.list; are = found.root.polynomials; uses = found.uses; same = IsRoot-unique root found.root }

  root_of_power : (f : ℕ) → IsNonconstantAt env f → (e k : ℕ) {M : List Polynomial} → IsRoot (prime_field env.p) ((prime_field env.p).characteristic ^ e) (power (prime_field env.p) (polynomial_at env f) k ∷ []) M
      → IsGenerated (prime_field env.p) (length env.vars) M
  root_of_power f N e k root =
      let is = polynomial_named env f N.poly in
      let A = subst (IsPolynomial (prime_field env.p)) (sym is) (IsPolynomial-polynomial prime N.poly.f N.poly.ranks) in
      let uses = subst (UsesFirst (length env.vars)) (sym is) N.poly.variables in
      let power_uses = UsesFirst-power lawful A uses k in
      root_generated e (ArePolynomials-single (IsPolynomial-power lawful A k)) (All-cons (UsesFirst (length env.vars)) (power (prime_field env.p) (polynomial_at env f) k) [] power_uses (All-nil (UsesFirst (length env.vars)))) root

  test_generated : (f : ℕ) → IsNonconstantAt env f → (t : Fraction) {M : List Polynomial} → IsTestIdeal (prime_field env.p) (polynomial_at env f) t M → IsGenerated (prime_field env.p) (length env.vars) M
  test_generated f N t T = root_of_power f N T.start _ (T.root T.start (omega arith))

  left_generated : (f : ℕ) → IsNonconstantAt env f → (t : Fraction) {M : List Polynomial} → IsLeftLimit (prime_field env.p) (polynomial_at env f) t M → IsGenerated (prime_field env.p) (length env.vars) M
  left_generated f N t T = root_of_power f N T.start _ (T.root T.start (omega arith))

  split_generated : {J M : List Polynomial} → IsFitting env J → IsSplitIdeal (prime_field env.p) J M → IsGenerated (prime_field env.p) (length env.vars) M
  split_generated {J} fits S =
      let q = (prime_field env.p).characteristic ^ 1 in
      let c = S.is_colon in
      let uses = IsColon-UsesFirst grevlex_key-IsMonomialOrder lawful (ArePolynomials-frobenius_power lawful fits.are q) fits.are (UsesFirst-frobenius_power lawful fits.are fits.uses q) fits.uses c.colon c.reduced in
      root_generated 1 c.colon.polynomials uses S.root

  -- The reduced basis of an ideal that is generated in the variables of the ring is in them.
  module _ {key : List ℕ → List ℕ} (K : IsMonomialOrder key) where
    generated_fits : {M G : List Polynomial} → IsGenerated (prime_field env.p) (length env.vars) M → IsReducedBasis (prime_field env.p) key M G → IsFitting env G
    generated_fits G B =
        let A = polynomials_of_equal lawful G.are G.same in
        record { are = IsReducedBasis_polynomials K lawful A B; uses = IsReducedBasis-UsesFirst K lawful G.are G.uses (IsReducedBasis-same_ideal K lawful A G.are G.same B) }

    module _ (session : IsOfSession env) (V : Values) where
      abbrev Fits : ℕ → Type 0
      Fits j = IsIdealAt env j → IsFitting env (standing_at env V j).list

      first_fits : (j : ℕ) (rest : List ℕ) → All Fits (j ∷ rest) → NamesIdeal (seen_values env.values) j → IsFitting env (standing_at env V j).list
      first_fits j rest fits h = All-head Fits j rest fits (ideal_at env j (ring_known env session).values session h)

      second_fits : (i j : ℕ) → All Fits (i ∷ j ∷ []) → NamesIdeal (seen_values env.values) j → IsFitting env (standing_at env V j).list
      second_fits i j fits h = first_fits j [] (All-tail Fits i (j ∷ []) fits) h

      nonconstant_here : (f : ℕ) → NamesNonconstant (seen_values env.values) f → IsNonconstantAt env f
      nonconstant_here f h = nonconstant_at env f (ring_known env session).values prime h

      -- So is that of an ideal that a question asks for.
      pub basis_fits : (o : OrderName) (q : Question) → IsSoundQuestion env.p (seen_values env.values) q → All (λ j. IsIdealAt env j → IsFitting env (standing_at env V j).list) (places_in q) → {M G : List Polynomial}
          → (meaning_of (prime_field env.p) env V o q).ideal M → IsReducedBasis (prime_field env.p) key M G → IsFitting env G
      basis_fits o (questions.Basis j) s fits {M} h B =
          let J = first_fits j [] fits s in
          generated_fits (exactly (itself J.are J.uses) M h) B
      basis_fits o (questions.Sum j k) s fits {M} h B =
          let I = first_fits j (k ∷ []) fits s.0 in
          let J = second_fits j k fits s.1 in
          generated_fits (exactly (itself (ArePolynomials-append I.are J.are) (UsesFirst-append (standing_at env V j).list (standing_at env V k).list I.uses J.uses)) M h) B
      basis_fits o (questions.Product j k) s fits {M} h B =
          let I = first_fits j (k ∷ []) fits s.0 in
          let J = second_fits j k fits s.1 in
          generated_fits (exactly (itself (ArePolynomials-products lawful I.are J.are) (UsesFirst-products lawful I.are J.are I.uses J.uses)) M h) B
      basis_fits o (questions.Meet j k) s fits h B =
          let I = first_fits j (k ∷ []) fits s.0 in
          let J = second_fits j k fits s.1 in
          record { are = IsReducedBasis_polynomials K lawful h.polynomials B; uses = IsMeet-UsesFirst K lawful I.are J.are I.uses J.uses h B }
      basis_fits o (questions.Colon j k) s fits h B =
          let I = first_fits j (k ∷ []) fits s.0 in
          let J = second_fits j k fits s.1 in
          record { are = IsReducedBasis_polynomials K lawful h.polynomials B; uses = IsColon-UsesFirst K lawful I.are J.are I.uses J.uses h B }
      basis_fits o (questions.Power e j) s fits {M} h B =
          let J = first_fits j [] fits s.1 in
          let q = (prime_field env.p).characteristic ^ e in
          generated_fits (exactly (itself (ArePolynomials-frobenius_power lawful J.are q) (UsesFirst-frobenius_power lawful J.are J.uses q)) M h) B
      basis_fits o (questions.Root e j) s fits h B =
          let J = first_fits j [] fits s.1 in
          generated_fits (root_generated e J.are J.uses h) B
      basis_fits o (questions.Test f t) s fits h B = generated_fits (test_generated f (nonconstant_here f s.0) t h) B
      basis_fits o (questions.Left f t) s fits h B = generated_fits (left_generated f (nonconstant_here f s.0) t h) B
      basis_fits o (questions.Split j) s fits h B = generated_fits (split_generated (first_fits j [] fits s) h) B
      basis_fits o (questions.Parts e f) s fits h B = absurd h
      basis_fits o (questions.Member f j) s fits h B = absurd h
      basis_fits o (questions.Same j k) s fits h B = absurd h
      basis_fits o (questions.IsJump f t) s fits h B = absurd h
      basis_fits o (questions.Regular f t) s fits h B = absurd h
      basis_fits o (questions.Jumps f e) s fits h B = absurd h
      basis_fits o (questions.Nu e f j) s fits h B = absurd h
      basis_fits o (questions.Threshold f j e) s fits h B = absurd h
      basis_fits o (questions.ThresholdAt f at e) s fits h B = absurd h
      basis_fits o (questions.Pure j) s fits h B = absurd h
      basis_fits o (questions.PureAt j at) s fits h B = absurd h
      basis_fits o (questions.Compatible e u j) s fits h B = absurd h

  -- The values of lets are in the variables of the ring.
  module _ (session : IsOfSession env) {question : Question} (V : Values) (values : AreValues (prime_field env.p) env question V) where
    standing_fits : (j : ℕ) → ((L : IsLetAt env j) → IsFitting env (V j)) → IsIdealAt env j → IsFitting env (standing_at env V j).list
    standing_fits j of_let (stated.declared D) = subst (λ S. IsFitting env S.list) (sym (standing_declared env V j D)) (declared_fits D)
    standing_fits j of_let (stated.answered L) = subst (λ S. IsFitting env S.list) (sym (standing_let env V j L.stands)) (of_let L)

    let_in : {j : ℕ} (L : IsLetAt env j) → IsLet env j L.budget L.question
    let_in L = record { name = L.name; stands = L.stands }

    value_fits : (m place budget : ℕ) (k : Question) → place < m → Uses env question place budget k → IsFitting env (V place)
    value_fits zero place budget k before uses = absurd (omega (arith, before))
    value_fits (suc m) place budget k before uses =
        let v = values place budget k uses in
        let l = is_let uses in
        let at : IsLetAt env place = record { session = session; name = l.name; budget = budget; question = k; stands = l.stands } in
        let sound = sound_known env k (standing.named place at refl) in
        let fits = All-from_elements (λ j. IsIdealAt env j → IsFitting env (standing_at env V j).list) (places_in k)
        (λ j there. standing_fits j (λ L. let earlier = All-contains (λ i. i < place) (places_in k) j (named_earlier env session l) there in value_fits m j L.budget L.question (omega (arith, earlier, before)) (standing.through uses there (let_in L)))) in
        basis_fits grevlex_key-IsMonomialOrder session V Grevlex k sound fits v.asked v.reduced

    -- What a name of the question stands for is.
    pub named_fits : All (λ j. IsIdealAt env j → IsFitting env (standing_at env V j).list) (places_in question)
    named_fits =
        All-from_elements (λ j. IsIdealAt env j → IsFitting env (standing_at env V j).list) (places_in question)
        (λ j there. standing_fits j (λ L. value_fits (j + 1) j L.budget L.question (omega arith) (standing.itself there (let_in L))))

module _ (env : Env) (asked : Asked) (one : AreOfOneSession env asked) where
  session : IsOfSession env
  session = session_of env asked one

  prime : Contains primes env.p
  prime = prime_known env asked one

  sound : (q : Question) → asked.question ≡ q → IsSoundQuestion env.p (seen_values env.values) q
  sound q is = question_known env asked q one is

  nonconstant_named : (f : ℕ) → NamesNonconstant (seen_values env.values) f → IsNonconstantAt env f
  nonconstant_named f h = nonconstant_at env f (ring_known env session).values prime h

  module _ (V : Values) (fits : All (λ j. IsIdealAt env j → IsFitting env (standing_at env V j).list) (places_in asked.question)) where
    -- The reduced basis of an ideal in the variables of the ring is printed.
    shown_fits : {IsAsked : List Polynomial → Type 0} → ((M G : List Polynomial) → IsAsked M → IsReducedBasis (prime_field env.p) (key_of asked.order) M G → IsFitting env G) → (list : List PlainPolynomial)
        → IsIdealAnswer (prime_field env.p) asked.order IsAsked list → All (λ h. UsesFirst (length env.vars) (polynomial h)) list
    shown_fits each list h = All-map_back (UsesFirst (length env.vars)) polynomial list (each h.ideal (polynomials list) h.asked h.shown.reduced).uses

    of_question : (q : Question) → asked.question ≡ q → (M G : List Polynomial) → (meaning_of (prime_field env.p) env V asked.order q).ideal M → IsReducedBasis (prime_field env.p) (key_of asked.order) M G → IsFitting env G
    of_question q is M G h B =
        basis_fits env prime (key_of-IsMonomialOrder asked.order) session V asked.order q (sound q is) (subst (λ k. All (λ j. IsIdealAt env j → IsFitting env (standing_at env V j).list) (places_in k)) is fits) h B

    -- The ideal that a question asks for.
    list_uses_first : (q : Question) → asked.question ≡ q → (list : List PlainPolynomial) → (meaning_of (prime_field env.p) env V asked.order q).answer (Ideal list) → All (λ h. UsesFirst (length env.vars) (polynomial h)) list
    list_uses_first (questions.Basis j) is list h = shown_fits (of_question (questions.Basis j) is) list h
    list_uses_first (questions.Sum j k) is list h = shown_fits (of_question (questions.Sum j k) is) list h
    list_uses_first (questions.Product j k) is list h = shown_fits (of_question (questions.Product j k) is) list h
    list_uses_first (questions.Meet j k) is list h = shown_fits (of_question (questions.Meet j k) is) list h
    list_uses_first (questions.Colon j k) is list h = shown_fits (of_question (questions.Colon j k) is) list h
    list_uses_first (questions.Power e j) is list h = shown_fits (of_question (questions.Power e j) is) list h
    list_uses_first (questions.Root e j) is list h = shown_fits (of_question (questions.Root e j) is) list h
    list_uses_first (questions.Test f t) is list h = shown_fits (of_question (questions.Test f t) is) list h
    list_uses_first (questions.Left f t) is list h = shown_fits (of_question (questions.Left f t) is) list h
    list_uses_first (questions.Split j) is list h = shown_fits (of_question (questions.Split j) is) list h
    list_uses_first (questions.Parts e f) is list h = absurd h
    list_uses_first (questions.Member f j) is list h = absurd h
    list_uses_first (questions.Same j k) is list h = absurd h
    list_uses_first (questions.IsJump f t) is list h = absurd h
    list_uses_first (questions.Regular f t) is list h = absurd h
    list_uses_first (questions.Jumps f e) is list h = absurd h
    list_uses_first (questions.Nu e f j) is list h = absurd h
    list_uses_first (questions.Threshold f j e) is list h = absurd h
    list_uses_first (questions.ThresholdAt f at e) is list h = absurd h
    list_uses_first (questions.Pure j) is list h = absurd h
    list_uses_first (questions.PureAt j at) is list h = absurd h
    list_uses_first (questions.Compatible e u j) is list h = absurd h

    rows_of_question : (q : Question) → asked.question ≡ q → (rows : List PartRow) → (meaning_of (prime_field env.p) env V asked.order q).answer (Parts rows) → All (RowUsesFirst (length env.vars)) rows
    rows_of_question (questions.Parts e f) is rows h =
        let P = (parts_question env asked e f one is).poly in
        rows_use_first (lawful env prime) (length env.vars) e (polynomial_at env f) (subst (UsesFirst (length env.vars)) (sym (polynomial_named env f P)) P.variables) rows h
    rows_of_question (questions.Basis j) is rows h = absurd h
    rows_of_question (questions.Member f j) is rows h = absurd h
    rows_of_question (questions.Same j k) is rows h = absurd h
    rows_of_question (questions.Sum j k) is rows h = absurd h
    rows_of_question (questions.Product j k) is rows h = absurd h
    rows_of_question (questions.Meet j k) is rows h = absurd h
    rows_of_question (questions.Colon j k) is rows h = absurd h
    rows_of_question (questions.Power e j) is rows h = absurd h
    rows_of_question (questions.Root e j) is rows h = absurd h
    rows_of_question (questions.Test f t) is rows h = absurd h
    rows_of_question (questions.Left f t) is rows h = absurd h
    rows_of_question (questions.IsJump f t) is rows h = absurd h
    rows_of_question (questions.Regular f t) is rows h = absurd h
    rows_of_question (questions.Pure j) is rows h = absurd h
    rows_of_question (questions.PureAt j at) is rows h = absurd h
    rows_of_question (questions.Split j) is rows h = absurd h
    rows_of_question (questions.Compatible e u j) is rows h = absurd h
    rows_of_question (questions.Nu e f j) is rows h = absurd h
    rows_of_question (questions.Jumps f e) is rows h = absurd h
    rows_of_question (questions.Threshold f j e) is rows h = absurd h
    rows_of_question (questions.ThresholdAt f at e) is rows h = absurd h

    jumps_of_question : (q : Question) → asked.question ≡ q → (jumps : List ShownJump) (gaps : List GapRow) (complete : Bool) → (meaning_of (prime_field env.p) env V asked.order q).answer (answers.Jumps jumps gaps complete)
        → All (λ row. IdealUsesFirst (length env.vars) row.ideal) jumps
    jumps_of_question (questions.Jumps f e) is jumps gaps complete h =
        let N = (jumps_question env asked f e one is).0 in
        All-weaker (ShowsTestIdeal (prime_field env.p) asked.order (polynomial_at env f)) (λ row. IdealUsesFirst (length env.vars) row.ideal)
        (λ row s. shown_fits {IsAsked = IsTestIdeal (prime_field env.p) (polynomial_at env f) row.at} (λ M G T B. generated_fits env prime (key_of-IsMonomialOrder asked.order) (test_generated env prime f N row.at T) B) row.ideal s) jumps h.shown
    jumps_of_question (questions.Parts e f) is jumps gaps complete h = absurd h
    jumps_of_question (questions.Basis j) is jumps gaps complete h = absurd h
    jumps_of_question (questions.Member f j) is jumps gaps complete h = absurd h
    jumps_of_question (questions.Same j k) is jumps gaps complete h = absurd h
    jumps_of_question (questions.Sum j k) is jumps gaps complete h = absurd h
    jumps_of_question (questions.Product j k) is jumps gaps complete h = absurd h
    jumps_of_question (questions.Meet j k) is jumps gaps complete h = absurd h
    jumps_of_question (questions.Colon j k) is jumps gaps complete h = absurd h
    jumps_of_question (questions.Power e j) is jumps gaps complete h = absurd h
    jumps_of_question (questions.Root e j) is jumps gaps complete h = absurd h
    jumps_of_question (questions.Test f t) is jumps gaps complete h = absurd h
    jumps_of_question (questions.Left f t) is jumps gaps complete h = absurd h
    jumps_of_question (questions.IsJump f t) is jumps gaps complete h = absurd h
    jumps_of_question (questions.Regular f t) is jumps gaps complete h = absurd h
    jumps_of_question (questions.Nu e f j) is jumps gaps complete h = absurd h
    jumps_of_question (questions.Threshold f j e) is jumps gaps complete h = absurd h
    jumps_of_question (questions.ThresholdAt f at e) is jumps gaps complete h = absurd h
    jumps_of_question (questions.Pure j) is jumps gaps complete h = absurd h
    jumps_of_question (questions.PureAt j at) is jumps gaps complete h = absurd h
    jumps_of_question (questions.Split j) is jumps gaps complete h = absurd h
    jumps_of_question (questions.Compatible e u j) is jumps gaps complete h = absurd h

    with_values : (a : Answer) → IsAnswerWith (prime_field env.p) env asked a V → AnswerUsesFirst (length env.vars) a
    with_values (Parts rows) h = rows_of_question asked.question refl rows h
    with_values (Ideal list) h = list_uses_first asked.question refl list h
    with_values Yes h = tt
    with_values No h = tt
    with_values Off h = tt
    with_values (answers.Jumps jumps gaps complete) h = jumps_of_question asked.question refl jumps gaps complete h
    with_values (answers.Nu r) h = tt
    with_values (answers.At t) h = tt
    with_values (answers.Between s t) h = tt
    with_values answers.NotIn h = tt
    with_values answers.Unit h = tt
    with_values (StoppedPairs k) h = tt
    with_values (StoppedHigh k) h = tt

  of_stop : (a : Answer) → IsStop a → AnswerUsesFirst (length env.vars) a
  of_stop (StoppedPairs k) h = tt
  of_stop (StoppedHigh k) h = tt
  of_stop _ h = absurd h

  pub answer_uses_first : (a : Answer) → IsAnswer env asked a → AnswerUsesFirst (length env.vars) a
  answer_uses_first a (inl (V, values, is)) = with_values V (named_fits env prime session V values) a is
  answer_uses_first a (inr stop) = of_stop a stop.stop
