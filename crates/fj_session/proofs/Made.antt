-- The ideals that meets, quotients, Frobenius powers and roots are.
use Rattle.std.proofs.Common.{◌≡◌, ℕ, List, Option, Some, None, Result, Ok, Err, IfOk, sym, subst, refl}
use Rattle.std.specs.Prelude.{MatchOption}
use Rattle.fj_coeff.specs.Field.{Field, IsField}
use Rattle.fj_theory.specs.Ideal.{SameIdeal}
use Rattle.fj_theory.specs.Polynomial.{Polynomial}
use Rattle.fj_theory.proofs.Ideal.{SameIdeal-refl}
use Rattle.fj_ideal.specs.Ideal.{IsIdeal, IsIdealOf, WithBasis}
use Rattle.fj_ideal.specs.Lists.{OfBasis}
use Rattle.fj_ideal.proofs.Lists.{of_members}
use Rattle.fj_session.specs.Ideals.{OfBases}
use Rattle.fj_session.specs.Names.{ideal_of}
use Rattle.fj_session.specs.Outcome.{IsCompared, IsIdealFor}
use Rattle.fj_session.specs.declared.names.Standing.{Standing}
use Rattle.fj_session.specs.declared.certified.Certified.{Certified}

-- Two facts on one value.
pub both_ok : {T E : Type 0} (P Q R : T → Type 0) (r : Result T E) → ((x : T) → P x → Q x → R x) → IfOk r P → IfOk r Q → IfOk r R
both_ok P Q R (Ok x) f p q = f x p q
both_ok P Q R (Err e) f p q = tt

-- Three facts on one value.
pub three_ok : {T E : Type 0} (P Q S R : T → Type 0) (r : Result T E) → ((x : T) → P x → Q x → S x → R x) → IfOk r P → IfOk r Q → IfOk r S → IfOk r R
three_ok P Q S R (Ok x) f p q s = f x p q s
three_ok P Q S R (Err e) f p q s = tt

-- The list that an ideal was made of is itself asked for.
pub made_for : {F : Field} (L : IsField F) (IsAsked IsLast : List Polynomial → Type 0) {J : WithBasis} → IsAsked J.given → IsIdeal F J → IsLast J.given → IsIdealFor F IsAsked IsLast J
made_for {F} L IsAsked IsLast {J} asked is last = record { ideal = J.given; asked = asked; same = SameIdeal-refl L is.polynomials; is_ideal = is; last = last }

-- A limit of a polynomial is asked for.
pub limit_for : {F : Field} (L : IsField F) (IsLimit IsLast : Polynomial → List Polynomial → Type 0) {p f : Polynomial} → p ≡ f → {E : Type 0} (r : Result WithBasis E) → IfOk r (λ J. IsLimit p J.given) → IfOk r (IsIdeal F)
    → IfOk r (λ J. IsLast p J.given) → IfOk r (IsIdealFor F (IsLimit f) (IsLast f))
limit_for {F} L IsLimit IsLast {p} {f} e r limit is last =
    three_ok (λ J. IsLimit p J.given) (IsIdeal F) (λ J. IsLast p J.given) (IsIdealFor F (IsLimit f) (IsLast f)) r
    (λ J l i x. made_for L (IsLimit f) (IsLast f) (subst (λ h. IsLimit h J.given) e l) i (subst (λ h. IsLast h J.given) e x)) limit is last

-- Another list of the ideal is asked for.
pub same_for : {F : Field} (M : List Polynomial) (IsLast : List Polynomial → Type 0) {J : WithBasis} → SameIdeal F M J.given → IsIdeal F J → IsLast J.given → IsIdealFor F (λ N. N ≡ M) IsLast J
same_for M IsLast same is last = record { ideal = M; asked = refl; same = same; is_ideal = is; last = last }

-- The ideal of the second name, which is another one, or the first one again. The names stand for these lists.
module _ {T : Type 0} (F : Field) (lists : ℕ → List Polynomial) (j k : ℕ) where
  abbrev IsOther : Option (Standing T) → Type 0
  IsOther o = MatchOption o (k ≡ j) (λ J. IsIdealOf F (lists k) (ideal_of J))

  pub other_is : {o : Option (Standing T)} (S : Standing T) {J : WithBasis} → o ≡ Some S → J ≡ ideal_of S → MatchOption o (k ≡ j) (λ J. IsIdealOf F (lists k) (ideal_of J)) → IsIdealOf F (lists k) J
  other_is S is same h = subst (IsIdealOf F (lists k)) (sym same) (subst IsOther is h)

  pub same_is : {o : Option (Standing T)} {J : WithBasis} → o ≡ None → MatchOption o (k ≡ j) (λ J. IsIdealOf F (lists k) (ideal_of J)) → IsIdealOf F (lists j) J → IsIdealOf F (lists k) J
  same_is {o} {J} is h first = subst (λ n. IsIdealOf F (lists n) J) (sym (subst IsOther is h)) first

-- Two ideals, and what is made of them.
module _ {F : Field} {J K : List Polynomial} {I H : WithBasis} (first : IsIdealOf F J I) (second : IsIdealOf F K H) where
  -- What holds of the members of both holds of their bases.
  pub of_bases : (P : List Polynomial → List Polynomial → Type 0) → P I.members H.members → OfBases F J K P
  of_bases P h = of_members first (λ A. OfBasis F K (λ B. P A B)) (of_members second (λ B. P I.members B) h)

  -- A list that is so made of the lists of both is asked for, and it was made of one that is so made of the bases.
  pub made_of_two : (L : IsField F) (IsMade IsGiven : List Polynomial → List Polynomial → List Polynomial → Type 0) {E : Type 0} (r : Result WithBasis E) → IfOk r (λ M. IsMade I.given H.given M.given) → IfOk r (IsIdeal F)
      → IfOk r (λ M. IsGiven I.members H.members M.given) → IfOk r (IsIdealFor F (IsMade J K) (λ N. OfBases F J K (λ A B. IsGiven A B N)))
  made_of_two L IsMade IsGiven r made is given =
      three_ok (λ M. IsMade I.given H.given M.given) (IsIdeal F) (λ M. IsGiven I.members H.members M.given) (IsIdealFor F (IsMade J K) (λ N. OfBases F J K (λ A B. IsGiven A B N))) r
      (λ M m i g. made_for L (IsMade J K) (λ N. OfBases F J K (λ A B. IsGiven A B N)) (subst (λ A. IsMade A K M.given) first.given (subst (λ B. IsMade I.given B M.given) second.given m)) i (of_bases (λ A B. IsGiven A B M.given) g)) made is given

  -- The list of the two that is asked for is made of the lists of both, and its ideal of that of the bases.
  pub list_of_two : (list : List Polynomial → List Polynomial → List Polynomial) {E : Type 0} (r : Result WithBasis E) → IfOk r (IsIdealOf F (list I.members H.members)) → IfOk r (λ M. SameIdeal F (list I.given H.given) M.given)
      → IfOk r (IsIdealFor F (λ N. N ≡ list J K) (λ N. OfBases F J K (λ A B. N ≡ list A B)))
  list_of_two list r is same =
      both_ok (IsIdealOf F (list I.members H.members)) (λ M. SameIdeal F (list I.given H.given) M.given) (IsIdealFor F (λ N. N ≡ list J K) (λ N. OfBases F J K (λ A B. N ≡ list A B))) r
      (λ M i s. same_for (list J K) (λ N. OfBases F J K (λ A B. N ≡ list A B)) (subst (λ A. SameIdeal F (list A K) M.given) first.given (subst (λ B. SameIdeal F (list I.given B) M.given) second.given s)) i.ideal
      (of_bases (λ A B. M.given ≡ list A B) i.given)) is same

  -- The answer whether their lists generate one ideal.
  pub compared_is : (c : Certified) → IsCompared F I.given H.given c → IsCompared F J K c
  compared_is c is = subst (λ A. IsCompared F A K c) first.given (subst (λ B. IsCompared F I.given B c) second.given is)
