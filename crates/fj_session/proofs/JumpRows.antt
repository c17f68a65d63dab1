-- The F-jumping numbers of a polynomial as the answer to a question.
use Rattle.std.proofs.Common.{◌≡◌, ◌≢◌, ◌↔◌, ◌⊎◌, inl, inr, ℕ, Bool, IsTrue, List, [], ◌∷◌, All, Any, Contains, map, Result, Ok, Err, IfOk, sym, ap, ◌∙◌, subst, refl}
use Rattle.std.specs.List.{AllZip}
use Rattle.std.specs.List.Sorted.{IsStrictlySortedBy}
use Rattle.std.proofs.lemmas.List.Elements.{All-contains, All-map}
use Rattle.fj_coeff.specs.Field.{Field, IsField}
use Rattle.fj_theory.specs.Candidates.{IsCandidate}
use Rattle.fj_theory.specs.Fraction.{Fraction, IsInUnitInterval, SameValue, compare}
use Rattle.fj_theory.specs.MonomialOrder.{grevlex_key}
use Rattle.fj_theory.specs.Polynomial.{Polynomial, IsPolynomial}
use Rattle.fj_algebra.proofs.Lists.{Any-element}
use Rattle.fj_algebra.proofs.Pairs.{contains_map, contains_map_back}
use Rattle.fj_groebner.specs.ReducedBasis.{IsReducedBasis}
use Rattle.fj_groebner.proofs.ReducedBasis.{IsReducedBasis-SameIdeal, IsReducedBasis_polynomials}
use Rattle.fj_testideal.specs.Jump.{IsJump, IsUnchangedAt}
use Rattle.fj_testideal.specs.JumpList.{AreJumps, AreOpenGaps, IsListedJump, Jump}
use Rattle.fj_testideal.specs.TestIdeal.{IsTestIdeal}
use Rattle.fj_testideal.proofs.Jump.{ArePolynomials-IsTestIdeal}
use Rattle.fj_testideal.proofs.TestIdeal.{IsTestIdeal-SameIdeal}
use Rattle.fj_plain.specs.Holds.{Holds}
use Rattle.fj_plain.specs.declared.cert.Cert.{Cert}
use Rattle.fj_plain.specs.declared.order_name.OrderName.{OrderName}
use Rattle.fj_plain.specs.declared.order_name.OrderName.TheVariants.{Grevlex}
use Rattle.fj_basis.specs.declared.stop.Stop.{Stop}
use Rattle.fj_chain.specs.Lists.{IsLastTestList}
use Rattle.fj_jump.specs.Rows.{gap_of, jump_of}
use Rattle.fj_jump.specs.Search.{IsMadeOfLastList}
use Rattle.fj_jump.specs.declared.rows.GapRow.{GapRow}
use Rattle.fj_jump.specs.declared.rows.JumpRow.{JumpRow}
use Rattle.fj_shell.specs.Named.{polynomials}
use Rattle.fj_session.specs.Answer.{CertifiesFor, IsAnswerTo}
use Rattle.fj_session.specs.Jumps.{AreAllJumps, CertifiesJumps, IsIdealOfJump, IsShownJumps, ShowsTestIdeal, meaning_of_jumps, shown_jump}
use Rattle.fj_session.specs.Meaning.{CertifiesIdeal, IsPrintedList}
use Rattle.fj_session.specs.Outcome.{IsCertified, IsFound, IsIdealFor, ShowsSomeRow, StopsFor}
use Rattle.fj_session.specs.declared.certified.Certified.{Certified}
use Rattle.fj_session.specs.declared.types.Answer.{Answer}
use Rattle.fj_session.specs.declared.types.Answer.TheVariants as answers
use Rattle.fj_session.specs.declared.types.ShownJump.{ShownJump}
use Rattle.fj_session.proofs.Made.{made_for}
use Rattle.fj_session.proofs.Printed.{ideal_answer, ideal_certificate, key_of-IsMonomialOrder}
use Rattle.fj_session.proofs.Zips.{AllZip-first, AllZip-second, AllZip-weaker}

map_of_map : {X Y Z : Type 0} (g : Y → Z) (h : X → Y) (xs : List X) → map g (map h xs) ≡ map (λ x. g (h x)) xs
map_of_map g h [] = refl
map_of_map g h (x ∷ xs) = ap (λ zs. g (h x) ∷ zs) (map_of_map g h xs)

-- A number that stands in one list stands in another list of the same numbers.
any_as : (t : Fraction) {X Y : Type 0} (f : X → Fraction) (g : Y → Fraction) (xs : List X) (ys : List Y) → map f xs ≡ map g ys → Any (λ x. SameValue t (f x)) xs → Any (λ y. SameValue t (g y)) ys
any_as t f g xs ys same h =
    let found = Any-element (λ x. SameValue t (f x)) xs h in
    let back = contains_map_back g ys (f found.0) (subst (λ ats. Contains ats (f found.0)) same (contains_map f xs found.0 found.1)) in
    (back.1.0, back.0, back.1.1, back.1.2, subst (SameValue t) (sym back.2) found.2)

module _ {F : Field} {f : Polynomial} {E : ℕ} {K : Type 0} (found : List (JumpRow K)) (are : AreJumps F f E (map jump_of found)) where
  listed : (row : JumpRow K) → Contains found row → IsListedJump F f E (jump_of row)
  listed row c = All-contains (IsListedJump F f E) (map jump_of found) (jump_of row) are.sound (contains_map jump_of found row c)

  -- A list that is run for the printing order is the basis of the ideal of a row.
  pub printed_row : (printing : OrderName) → All (IsMadeOfLastList F f) found → (L : List Polynomial) → (printing ≢ Grevlex) × Any (λ row. L ≡ row.ideal.members) found → IsPrintedList F printing (IsIdealOfJump F f E) L
  printed_row printing made L h =
      let one = Any-element (λ row. L ≡ row.ideal.members) found h.1 in
      let jump = listed one.0 one.1 in
      let ideal = (All-contains (IsMadeOfLastList F f) found one.0 made one.1).ideal in
      record {
        other = h.0;
        ideal = one.0.ideal.given;
        asked = record { at = one.0.at; candidate = jump.candidate; is_jump = jump.is_jump; is_test_ideal = jump.is_test_ideal };
        basis = subst (IsReducedBasis F grevlex_key one.0.ideal.given) (sym one.2) ideal.reduced;
      }

  module _ (L : IsField F) (A : IsPolynomial F f) (made : All (IsMadeOfLastList F f) found) (printing : OrderName) (rows : List ShownJump) (certs : List Cert) (same : map (λ row. row.at) rows ≡ map (λ row. row.at) found) (shows : AllZip (ShowsSomeRow F printing found) rows certs) where
    -- The ideal of the row that is shown is the test ideal that is asked for.
    row_for : (row : ShownJump) (cert : Cert) (s : ShowsSomeRow F printing found row cert) → IsIdealFor F (IsTestIdeal F f row.at) (IsLastTestList F f row.at) s.found.ideal
    row_for row cert s =
        let at = sym s.shows.at in
        let from = All-contains (IsMadeOfLastList F f) found s.found made s.among in
        made_for L (IsTestIdeal F f row.at) (IsLastTestList F f row.at) (subst (λ t. IsTestIdeal F f t s.found.ideal.given) at (listed s.found s.among).is_test_ideal) from.ideal
        (subst (λ t. IsLastTestList F f t s.found.ideal.given) at from.last)

    shows_ideal : (row : ShownJump) (cert : Cert) → ShowsSomeRow F printing found row cert → ShowsTestIdeal F printing f row
    shows_ideal row cert s = ideal_answer L (row_for row cert s) printing s.shows.ideal

    pub rows_certified : AllZip (λ row cert. CertifiesIdeal F printing (IsTestIdeal F f row.at) (IsLastTestList F f row.at) row.ideal cert) rows certs
    rows_certified =
        AllZip-weaker (ShowsSomeRow F printing found) (λ row cert. CertifiesIdeal F printing (IsTestIdeal F f row.at) (IsLastTestList F f row.at) row.ideal cert)
        (λ row cert s. ideal_certificate L (row_for row cert s) printing s.shows.ideal) rows certs shows

    pub certificates_hold : All Holds certs
    certificates_hold = AllZip-second (ShowsSomeRow F printing found) Holds (λ row cert s. s.shows.ideal.holds) rows certs shows

    shows_jump : (row : ShownJump) (cert : Cert) → ShowsSomeRow F printing found row cert → IsListedJump F f E (shown_jump row)
    shows_jump row cert s =
        let jump = listed s.found s.among in
        let at = sym s.shows.at in
        let K = key_of-IsMonomialOrder printing in
        let P = ArePolynomials-IsTestIdeal jump.is_test_ideal in
        let basis = s.shows.ideal.basis.reduced in
        record {
          candidate = subst (IsCandidate F.characteristic E) at jump.candidate;
          is_jump = subst (IsJump F f) at jump.is_jump;
          is_test_ideal =
              subst (λ t. IsTestIdeal F f t (polynomials row.ideal)) at
              (IsTestIdeal-SameIdeal L A s.found.at jump.is_test_ideal (IsReducedBasis_polynomials K L P basis) (IsReducedBasis-SameIdeal K L P basis));
        }

    numbers : map (λ jump. jump.at) (map jump_of found) ≡ map (λ jump. jump.at) (map shown_jump rows)
    numbers = map_of_map (λ (jump : Jump). jump.at) jump_of found ∙ sym same ∙ sym (map_of_map (λ (jump : Jump). jump.at) shown_jump rows)

    jumps_shown : AreJumps F f E (map shown_jump rows)
    jumps_shown = record {
      sound = All-map (IsListedJump F f E) shown_jump rows (AllZip-first (ShowsSomeRow F printing found) (λ row. IsListedJump F f E (shown_jump row)) shows_jump rows certs shows);
      listed_or_unchanged = λ t candidate. by t (are.listed_or_unchanged t candidate);
      rising = subst (IsStrictlySortedBy compare) numbers are.rising;
    }
      where
        by : (t : Fraction) → Any (λ jump. SameValue t jump.at) (map jump_of found) ⊎ IsUnchangedAt F f t → Any (λ jump. SameValue t jump.at) (map shown_jump rows) ⊎ IsUnchangedAt F f t
        by t (inl there) = inl (any_as t (λ (jump : Jump). jump.at) (λ (jump : Jump). jump.at) (map jump_of found) (map shown_jump rows) numbers there)
        by t (inr unchanged) = inr unchanged

    pub all_shown : (gaps : List GapRow) (complete : Bool) → AreOpenGaps F f E (map gap_of gaps) → IsTrue complete ↔ (gaps ≡ [])
        → (IsTrue complete → (t : Fraction) → IsInUnitInterval t → IsJump F f t ↔ Any (λ row. SameValue t row.at) found) → AreAllJumps F printing f E rows gaps complete
    all_shown gaps complete open_gaps none all = record {
      are_jumps = jumps_shown;
      shown = AllZip-first (ShowsSomeRow F printing found) (ShowsTestIdeal F printing f) shows_ideal rows certs shows;
      are_open = open_gaps;
      is_complete = none;
      all = λ is t unit. (
        λ jump. any_as t (λ row. row.at) (λ row. row.at) found rows (sym same) ((all is t unit).0 jump),
        λ there. (all is t unit).1 (any_as t (λ row. row.at) (λ row. row.at) rows found same there),
      );
    }

module _ (F : Field) (printing : OrderName) (f : Polynomial) (E budget : ℕ) where
  jumps_for : (a : Answer) → IsShownJumps F printing f E a → IsAnswerTo F (meaning_of_jumps F printing f E) printing budget a
  jumps_for (answers.Jumps jumps gaps complete) h = h
  jumps_for _ h = absurd h

  certifies_for : (a : Answer) (certs : List Cert) → CertifiesJumps F printing f a certs → CertifiesFor (meaning_of_jumps F printing f E) a certs
  certifies_for (answers.Jumps jumps gaps complete) certs h = h
  certifies_for _ certs h = absurd h

  pub found_jumps : (r : Result Certified Stop) → IfOk r (λ c. IsShownJumps F printing f E c.answer) → IfOk r (λ c. CertifiesJumps F printing f c.answer c.certificates.items) → IfOk r (λ c. All Holds c.certificates.items)
      → StopsFor F (meaning_of_jumps F printing f E) budget r → IsFound F (meaning_of_jumps F printing f E) printing budget r
  found_jumps (Ok c) h certifies hold stop = (record { answer = jumps_for c.answer h; certificates = certifies_for c.answer c.certificates.items certifies; hold = hold }, stop)
  found_jumps (Err s) h certifies hold stop = (tt, stop)
