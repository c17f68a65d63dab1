-- The ideal that a question asks for, in the printing order, and the stops of the question.
use Rattle.std.proofs.Common.{◌≡◌, ◌≢◌, ◌⊎◌, ◌^◌, ℕ, Bool, true, false, cond, MatchBool, List, [], ◌∷◌, All, Result, Ok, Err, IfOk, inl, inr, sym, subst, refl}
use Rattle.std.specs.Result.{IsErrAnd}
use Rattle.std.proofs.lemmas.List.Elements.{All-cons, All-nil, All-weaker}
use Rattle.std.proofs.lemmas.Result.{IfOk-weaker}
use Rattle.fj_coeff.specs.Field.{Field, IsField}
use Rattle.fj_theory.specs.Ideal.{ArePolynomials, SameIdeal, Member}
use Rattle.fj_theory.specs.MonomialOrder.{IsMonomialOrder, grevlex_key}
use Rattle.fj_theory.specs.Plain.{PlainPolynomial}
use Rattle.fj_theory.specs.Polynomial.{Polynomial, IsPolynomial}
use Rattle.fj_theory.specs.Root.{IsRoot}
use Rattle.fj_groebner.specs.ReducedBasis.{IsReducedBasis}
use Rattle.fj_theory.proofs.Ideal.{SameIdeal-refl, SameIdeal-sym}
use Rattle.fj_theory.proofs.IdealBridge.{Member_polynomial}
use Rattle.fj_theory.proofs.Keys.{elim_key-IsMonomialOrder, grevlex_key-IsMonomialOrder, grlex_key-IsMonomialOrder, lex_key-IsMonomialOrder}
use Rattle.fj_groebner.proofs.ReducedBasis.{IsReducedBasis-same_ideal}
use Rattle.fj_plain.specs.Holds.{Holds}
use Rattle.fj_plain.specs.declared.cert.Cert.{Cert}
use Rattle.fj_plain.specs.declared.order_name.OrderName.{OrderName}
use Rattle.fj_plain.specs.declared.order_name.OrderName.TheVariants.{Lex, Grlex, Grevlex, Elim}
use Rattle.fj_basis.specs.declared.stop.Stop.{Stop}
use Rattle.fj_ideal.specs.Ideal.{IsIdealOf, WithBasis}
use Rattle.fj_ideal.specs.Lists.{NoProduct, RunFor}
use Rattle.fj_ideal.specs.Stop.{IsCauseOf, IsWritten, StopsOnlyWith, key_of}
use Rattle.fj_ideal.proofs.Lists.{polynomials_of_list}
use Rattle.fj_ideal.proofs.Stops.{only_handed_on, only_of_more}
use Rattle.fj_script.specs.declared.question.Asked.{Asked}
use Rattle.fj_script.specs.declared.question.Question.{Question}
use Rattle.fj_script.specs.declared.script.Env.{Env}
use Rattle.fj_session.specs.declared.certified.Certified.{Certified}
use Rattle.fj_session.specs.declared.types.Answer.{Answer}
use Rattle.fj_session.specs.declared.types.Answer.TheVariants.{Parts, Ideal, Yes, No, Off, StoppedPairs, StoppedHigh}
use Rattle.fj_session.specs.declared.types.Answer.TheVariants as answers
use Rattle.fj_session.specs.Answer.{CertifiesFor, IsAnswerTo}
use Rattle.fj_session.specs.Ideals.{CertifiesParts, CertifiesSame, IsLastOfRoot, IsListOfRoot, meaning_of_root, meaning_of_same}
use Rattle.fj_session.specs.Meaning.{CertifiesIdeal, IsGivenList, IsIdealAnswer, IsPrintedList, IsVerdict, Meaning, meaning_of_ideal, meaning_of_verdict}
use Rattle.fj_session.specs.Outcome.{IsAlone, IsCertified, IsCompared, IsFound, IsHandedOn, IsIdealAfter, IsIdealFor, IsJudged, IsPrinted, IsPrintedRoot, IsRunOf, IsShown, OwnStops, PrintStops, StopsFor}
use Rattle.fj_session.specs.Splittings.{IsPurityAt, meaning_of_pure_at}
use Rattle.fj_session.specs.Standing.{Standing, Values}
use Rattle.fj_session.specs.Statement.{meaning_of}

pub key_of-IsMonomialOrder : (order : OrderName) → IsMonomialOrder (key_of order)
key_of-IsMonomialOrder Lex = lex_key-IsMonomialOrder
key_of-IsMonomialOrder Grlex = grlex_key-IsMonomialOrder
key_of-IsMonomialOrder Grevlex = grevlex_key-IsMonomialOrder
key_of-IsMonomialOrder Elim = elim_key-IsMonomialOrder

-- A list that generates an ideal holds polynomials where one other list of the ideal does.
pub polynomials_of_equal : {F : Field} (L : IsField F) {M N : List Polynomial} → ArePolynomials F N → SameIdeal F M N → ArePolynomials F M
polynomials_of_equal {F} L {M} {N} B E = record { each = All-weaker (Member F N) (IsPolynomial F) (λ g m. Member_polynomial L B m) M E.forth.each }

-- A declared ideal is what `basis` asks for.
pub declared_for : {F : Field} (L : IsField F) {M : List Polynomial} {J : WithBasis} → IsIdealOf F M J → IsIdealFor F (λ N. N ≡ M) (λ N. N ≡ M) J
declared_for {F} L {M} is = record { ideal = M; asked = refl; same = subst (SameIdeal F M) (sym is.given) (SameIdeal-refl L (polynomials_of_list is)); is_ideal = is.ideal; last = is.given }

-- Where a stop is handed on, there is no answer.
handed_answer : {T : Type 0} (P : T → Type 0) (s : Stop) (r : Result T Stop) → IsErrAnd r (λ y. y ≡ s) → IfOk r P
handed_answer P s (Ok a) is = absurd is
handed_answer P s (Err e) is = tt

-- An ideal that a question asks for, in the printing order.
module _ {F : Field} (L : IsField F) {IsAsked IsLast : List Polynomial → Type 0} {J : WithBasis} (I : IsIdealFor F IsAsked IsLast J) where
  -- Its reduced basis for an order is that of the list that it was made of.
  pub basis_of_asked : {key : List ℕ → List ℕ} (K : IsMonomialOrder key) {G : List Polynomial} → IsReducedBasis F key J.given G → IsReducedBasis F key I.ideal G
  basis_of_asked K B = IsReducedBasis-same_ideal K L I.is_ideal.polynomials (polynomials_of_equal L I.is_ideal.polynomials I.same) (SameIdeal-sym I.same) B

  module _ (printing : OrderName) where
    -- The reduced Grevlex basis is what is run for another printing order.
    pub printed_list : printing ≢ Grevlex → (M : List Polynomial) → M ≡ J.members → IsPrintedList F printing IsAsked M
    printed_list other M is = record { other = other; ideal = I.ideal; asked = I.asked; basis = subst (IsReducedBasis F grevlex_key I.ideal) (sym is) (basis_of_asked grevlex_key-IsMonomialOrder I.is_ideal.reduced) }

    given_is : (M : List Polynomial) → IsRunOf printing J M → IsGivenList F printing IsAsked IsLast M
    given_is M (inl own) = inl (own.0, subst IsLast (sym own.1) I.last)
    given_is M (inr run) = inr (printed_list run.0 M run.1)

    module _ {list : List PlainPolynomial} {cert : Cert} (shown : IsShown F printing J list cert) where
      pub ideal_answer : IsIdealAnswer F printing IsAsked list
      ideal_answer = record { ideal = I.ideal; asked = I.asked; shown = record { reduced = basis_of_asked (key_of-IsMonomialOrder printing) shown.basis.reduced; falling = shown.basis.falling } }

      pub ideal_certificate : CertifiesIdeal F printing IsAsked IsLast list cert
      ideal_certificate = record { given = shown.given; is_given = given_is shown.given shown.run; basis = shown.certificate }

-- The stops of a question for an ideal, and the answer that this ideal is.
module _ {F : Field} (L : IsField F) (printing : OrderName) (budget : ℕ) (IsAsked IsLast : List Polynomial → Type 0) (IsList : OrderName → List Polynomial → Type 0) (IsProduct : List Polynomial → Type 0) where
  abbrev IsListOrPrinted : OrderName → List Polynomial → Type 0
  IsListOrPrinted order M = IsList order M ⊎ RunFor printing (IsPrintedList F printing IsAsked) order M

  -- A stop of the run for the printing order.
  print_stop_for : {J : WithBasis} → IsIdealFor F IsAsked IsLast J → {T : Type 0} (r : Result T Stop) → PrintStops F printing J.members budget r → StopsOnlyWith F IsListOrPrinted IsProduct budget r
  print_stop_for {J} I r h =
      only_of_more F budget (RunFor printing (λ M. (printing ≢ Grevlex) × (M ≡ J.members))) IsListOrPrinted NoProduct IsProduct
      (λ o M e. inr (e.0, printed_list L I printing e.1.0 M e.1.1)) (λ M none. absurd none) r h

  -- A stop of the calculation of the ideal.
  own_stop_for : {T : Type 0} (s : Stop) (r : Result T Stop) → IsErrAnd r (λ y. y ≡ s) → IsCauseOf F IsList IsProduct budget s × IsWritten F s → StopsOnlyWith F IsListOrPrinted IsProduct budget r
  own_stop_for s r handed stop = only_handed_on F budget IsList IsListOrPrinted IsProduct IsProduct (λ o M e. inl e) (λ M e. e) s r handed stop

  abbrev asks : Meaning
  asks = meaning_of_ideal F printing IsAsked IsLast IsList IsProduct

  certified_for : {J : WithBasis} → IsIdealFor F IsAsked IsLast J → (c : Certified) → IsIdealAfter F printing J [] c → IsCertified F asks printing budget c
  certified_for I c h = record {
    answer = subst (IsAnswerTo F asks printing budget) (sym h.answer) (ideal_answer L I printing h.shown);
    certificates = subst (λ a. CertifiesFor asks a c.certificates.items) (sym h.answer) (h.cert, h.certificates, ideal_certificate L I printing h.shown);
    hold = subst (All Holds) (sym h.certificates) (All-cons Holds h.cert [] h.shown.holds (All-nil Holds));
  }

  pub found_ideal : (j : Result WithBasis Stop) (r : Result Certified Stop) → IsPrinted F printing budget j r → IfOk j (IsIdealFor F IsAsked IsLast) → StopsOnlyWith F IsList IsProduct budget j
      → IsFound F (meaning_of_ideal F printing IsAsked IsLast IsList IsProduct) printing budget r
  found_ideal (Ok J) r printed I stop = (IfOk-weaker r (IsIdealAfter F printing J []) (IsCertified F asks printing budget) (certified_for I) printed.0, print_stop_for I r printed.1)
  found_ideal (Err s) r handed I stop = (handed_answer (IsCertified F asks printing budget) s r handed, own_stop_for s r handed stop)

-- A root, which has the certificate of its parts before that of its basis.
module _ {F : Field} (L : IsField F) (printing : OrderName) (budget e : ℕ) (J : Standing) where
  abbrev IsItsRoot : List Polynomial → Type 0
  IsItsRoot = IsRoot F (F.characteristic ^ e) J.list

  abbrev IsLast : List Polynomial → Type 0
  IsLast = IsLastOfRoot F (F.characteristic ^ e) J.list

  root_for : {I : WithBasis} {parts : Cert} → IsIdealFor F IsItsRoot IsLast I → CertifiesParts F e J.list parts → Holds parts → (c : Certified) → IsIdealAfter F printing I (parts ∷ []) c
      → IsCertified F (meaning_of_root F printing e J) printing budget c
  root_for {I} {parts} root certifies holds c h = record {
    answer = subst (IsAnswerTo F (meaning_of_root F printing e J) printing budget) (sym h.answer) (ideal_answer L root printing h.shown);
    certificates =
        subst (λ a. CertifiesFor (meaning_of_root F printing e J) a c.certificates.items) (sym h.answer)
        (parts, h.cert ∷ [], h.certificates, certifies, (h.cert, refl, ideal_certificate L root printing h.shown));
    hold = subst (All Holds) (sym h.certificates) (All-cons Holds parts (h.cert ∷ []) holds (All-cons Holds h.cert [] h.shown.holds (All-nil Holds)));
  }

  pub found_root : (j : Result (WithBasis × Cert) Stop) (r : Result Certified Stop) → IsPrintedRoot F printing budget j r → IfOk j (λ root. IsIdealFor F (IsRoot F (F.characteristic ^ e) J.list) (IsLastOfRoot F (F.characteristic ^ e) J.list) root.0)
      → IfOk j (λ root. CertifiesParts F e J.list root.1) → IfOk j (λ root. Holds root.1) → OwnStops F (IsListOfRoot F (F.characteristic ^ e) J) NoProduct budget j → IsFound F (meaning_of_root F printing e J) printing budget r
  found_root (Ok root) r printed I certifies holds stop = (
    IfOk-weaker r (IsIdealAfter F printing root.0 (root.1 ∷ [])) (IsCertified F (meaning_of_root F printing e J) printing budget) (root_for I certifies holds) printed.0,
    print_stop_for L printing budget IsItsRoot IsLast (RunFor Grevlex (IsListOfRoot F (F.characteristic ^ e) J)) NoProduct I r printed.1,
  )
  found_root (Err s) r handed I certifies holds stop = (
    handed_answer (IsCertified F (meaning_of_root F printing e J) printing budget) s r handed,
    own_stop_for L printing budget IsItsRoot IsLast (RunFor Grevlex (IsListOfRoot F (F.characteristic ^ e) J)) NoProduct s r handed stop,
  )

-- The result is an answer that this meaning gives, or a stop with a cause that it gives.
abbrev pub IsAnswered : Field → Meaning → OrderName → ℕ → Result Answer Stop → Type 0
IsAnswered F meaning printing budget r = IfOk r (IsAnswerTo F meaning printing budget) × StopsFor F meaning budget r

-- An answer that has no certificate.
module _ (F : Field) (meaning : Meaning) (printing : OrderName) (budget : ℕ) where
  pub certified_alone : (a : Answer) (c : Certified) → CertifiesFor meaning a [] → IsAlone a c → IsAnswerTo F meaning printing budget a → IsCertified F meaning printing budget c
  certified_alone a c none alone is = record {
    answer = subst (IsAnswerTo F meaning printing budget) (sym alone.answer) is;
    certificates = subst (λ b. CertifiesFor meaning b c.certificates.items) (sym alone.answer) (subst (CertifiesFor meaning a) (sym alone.none) none);
    hold = subst (All Holds) (sym alone.none) (All-nil Holds);
  }

  module _ (none : (a : Answer) → meaning.certificates a []) where
    none_for : (a : Answer) → CertifiesFor meaning a []
    none_for (StoppedPairs k) = refl
    none_for (StoppedHigh k) = refl
    none_for (Parts rows) = none (Parts rows)
    none_for (Ideal list) = none (Ideal list)
    none_for Yes = none Yes
    none_for No = none No
    none_for Off = none Off
    none_for (answers.Jumps jumps gaps complete) = none (answers.Jumps jumps gaps complete)
    none_for (answers.Nu r) = none (answers.Nu r)
    none_for (answers.At t) = none (answers.At t)
    none_for (answers.Between s t) = none (answers.Between s t)
    none_for answers.NotIn = none answers.NotIn
    none_for answers.Unit = none answers.Unit

    pub found_alone : (j : Result Answer Stop) (r : Result Certified Stop) → IsHandedOn j r → IsAnswered F meaning printing budget j → IsFound F meaning printing budget r
    found_alone (Ok a) (Ok c) alone is = (certified_alone a c (none_for a) alone is.0, tt)
    found_alone (Ok a) (Err s) alone is = absurd alone
    found_alone (Err s) r handed is =
        (handed_answer (IsCertified F meaning printing budget) s r handed, only_handed_on F budget meaning.lists meaning.lists meaning.products meaning.products (λ o M e. e) (λ M e. e) s r handed is.1)

-- A verdict.
module _ (F : Field) (printing : OrderName) (budget : ℕ) (P : Type 0) (IsList : OrderName → List Polynomial → Type 0) (IsProduct : List Polynomial → Type 0) where
  verdict_for : (b : Bool) → MatchBool b P (P → ⊥) → IsAnswerTo F (meaning_of_verdict P IsList IsProduct) printing budget (cond b Yes No)
  verdict_for true h = h
  verdict_for false h = h

  none_of_verdict : (b : Bool) → CertifiesFor (meaning_of_verdict P IsList IsProduct) (cond b Yes No) []
  none_of_verdict true = refl
  none_of_verdict false = refl

  pub found_verdict : (v : Result Bool Stop) (r : Result Certified Stop) → IsJudged v r → IfOk v (λ b. MatchBool b P (P → ⊥)) → StopsOnlyWith F IsList IsProduct budget v → IsFound F (meaning_of_verdict P IsList IsProduct) printing budget r
  found_verdict (Ok b) (Ok c) alone verdict stop = (certified_alone F (meaning_of_verdict P IsList IsProduct) printing budget (cond b Yes No) c (none_of_verdict b) alone (verdict_for b verdict), tt)
  found_verdict (Ok b) (Err s) alone verdict stop = absurd alone
  found_verdict (Err s) r handed verdict stop =
      (handed_answer (IsCertified F (meaning_of_verdict P IsList IsProduct) printing budget) s r handed, only_handed_on F budget IsList IsList IsProduct IsProduct (λ o M e. e) (λ M e. e) s r handed stop)

-- The verdict whether two ideals are one.
module _ (F : Field) (printing : OrderName) (budget : ℕ) (J K : Standing) where
  same_answer : (a : Answer) → IsVerdict (SameIdeal F J.list K.list) a → IsAnswerTo F (meaning_of_same F J K) printing budget a
  same_answer Yes h = h
  same_answer No h = h
  same_answer _ h = absurd h

  same_certificates : (a : Answer) (certs : List Cert) → IsVerdict (SameIdeal F J.list K.list) a → CertifiesSame F J.list K.list a certs → CertifiesFor (meaning_of_same F J K) a certs
  same_certificates Yes certs h c = c
  same_certificates No certs h c = c
  same_certificates _ certs h c = absurd h

  pub found_same : (r : Result Certified Stop) → IfOk r (IsCompared F J.list K.list) → StopsFor F (meaning_of_same F J K) budget r → IsFound F (meaning_of_same F J K) printing budget r
  found_same (Ok c) is stop = (record { answer = same_answer c.answer is.answer; certificates = same_certificates c.answer c.certificates.items is.answer is.certificates; hold = is.hold }, stop)
  found_same (Err s) is stop = (tt, stop)

-- The verdict at a point.
module _ (F : Field) (printing : OrderName) (budget : ℕ) (J : Standing) (point : List ℕ) where
  purity_for : (a : Answer) → IsPurityAt F J.list point a → IsAnswerTo F (meaning_of_pure_at F J point) printing budget a
  purity_for Yes h = h
  purity_for No h = h
  purity_for Off h = h
  purity_for (StoppedPairs k) h = absurd h
  purity_for (StoppedHigh k) h = absurd h
  purity_for _ h = h

  pub found_purity : (j : Result Answer Stop) (r : Result Certified Stop) → IsHandedOn j r → IfOk j (IsPurityAt F J.list point) → StopsFor F (meaning_of_pure_at F J point) budget j → IsFound F (meaning_of_pure_at F J point) printing budget r
  found_purity j r handed h stop =
      found_alone F (meaning_of_pure_at F J point) printing budget (λ a. refl) j r handed (IfOk-weaker j (IsPurityAt F J.list point) (IsAnswerTo F (meaning_of_pure_at F J point) printing budget) (λ a p. purity_for a p) h, stop)

-- What a question means is told by its kind.
pub found_as : (F : Field) (env : Env) (V : Values) (asked : Asked) (question : Question) → asked.question ≡ question → (r : Result Certified Stop) → IsFound F (meaning_of F env V asked.order question) asked.order asked.budget r
    → IsFound F (meaning_of F env V asked.order asked.question) asked.order asked.budget r
found_as F env V asked question is r h = subst (λ q. IsFound F (meaning_of F env V asked.order q) asked.order asked.budget r) (sym is) h
