use Rattle.std.proofs.Common.{◌≡◌, ℕ, ◌+◌, ◌*◌, ◌<◌, List, [], ◌∷◌, ◌++◌, sym, ap, ap₂, ◌∙◌, subst, length, arith}
use Rattle.fj_theory.specs.Digits.{value_of}
use Rattle.fj_theory.proofs.Digits.{value_of-push}
use Rattle.fj_plain.specs.declared.order_name.OrderName.TheVariants.{Grevlex}
use Rattle.fj_ideal.specs.Lists.{RunFor}
use Rattle.fj_ideal.proofs.Stops.{only_handed_on}
use Rattle.fj_testideal.specs.Threshold.{IsNu}
use Rattle.fj_thresh.specs.Lists.{IsHighInLongerDigits, IsHighInNu, IsLongerDigitList, IsNuList, WriteNu}
use Rattle.fj_thresh.proofs.NuByDigits.{length-push, nu_fits, nu_start}
use Rattle.fj_thresh.proofs.powers.greatest_power.Goals as goal

pub digits-init : goal.digits-init
unfolding value_of
digits-init g c =
    let F = g.K.Coeff.field in
    let none = c.new-digits.ensures.items in
    record {
      written = subst (WriteNu F c.args.f.now c.args.j.now.given) (sym none) (nu_start g.met.K.Coeff.lawful c.is_zero.ensures.polynomial c.given.ensures.ideal.polynomials c.requires.within);
      count = ap (length {A = ℕ}) none;
      value = sym (ap (value_of F.characteristic) none);
    }

pub digits-preserved : goal.digits-preserved
digits-preserved g c =
    let F = g.K.Coeff.field in
    let inv = c.digits.invariant in
    let old : List ℕ = c.digits.digits.items in
    let is = c.deref.ensures.value in
    let more : c.push.new.self.items ≡ old ++ c.in_ok-digit.digit ∷ [] = c.in_ok-push.ensures.items in
    let count = inv.count in
    let longer = length-push old c.in_ok-digit.digit in
    let P = c.P.ensures ∙ g.met.K.Coeff.characteristic_is in
    record {
      written = subst (WriteNu F c.args.f.now c.args.j.now.given) (sym more) (subst (λ (ds : List ℕ). WriteNu F c.args.f.now c.args.j.now.given (ds ++ c.in_ok-digit.digit ∷ [])) is c.in_ok-digit.ensures.nu);
      count = ap (length {A = ℕ}) more ∙ omega (arith, longer, count);
      value = ap₂ (λ p v. p * v + c.in_ok-digit.digit) P inv.value ∙ sym (value_of-push F.characteristic c.in_ok-digit.digit old) ∙ sym (ap (value_of F.characteristic) more);
    }

pub returns-in_err-digit-clause-stop : goal.returns-in_err-digit-clause-stop
returns-in_err-digit-clause-stop g c =
    let F = g.K.Coeff.field in
    let f = c.args.f.now in
    let J = c.args.j.now.given in
    let ds : List ℕ = c.deref.result.now in
    let inv = c.digits.invariant in
    let is = c.deref.ensures.value in
    let count : length ds ≡ c.digits.counter = ap (length {A = ℕ}) is ∙ inv.count in
    let test = c.digits-test.true in
    let few : length ds < c.args.e = omega (arith, count, test) in
    let written : WriteNu F f J ds = subst (WriteNu F f J) (sym is) inv.written in
    only_handed_on F c.args.pairs (RunFor Grevlex (IsLongerDigitList F f ds)) (RunFor Grevlex (IsNuList F c.args.e f J)) (IsHighInLongerDigits F f ds) (IsHighInNu F c.args.e f J)
    (λ o N h. (h.0, record { within = c.requires.within; digits = ds; few = few; written = written; list = h.1 })) (λ N h. record { within = c.requires.within; digits = ds; few = few; written = written; high = h })
    c.in_err-digit.field-0.0 c.from_residual.result c.from_residual.ensures.1 c.in_err-digit.ensures.stop

pub overflow_add-nu : goal.overflow_add-nu
overflow_add-nu g c =
    let F = g.K.Coeff.field in
    let inv = c.digits.invariant in
    let old : List ℕ = c.digits.digits.items in
    let digit : ℕ = c.in_ok-digit.digit in
    let test = c.digits-test.true in
    let count = inv.count in
    let small = c.requires.small in
    let P = c.P.ensures ∙ g.met.K.Coeff.characteristic_is in
    let written : WriteNu F c.args.f.now c.args.j.now.given (old ++ digit ∷ []) = subst (λ (ds : List ℕ). WriteNu F c.args.f.now c.args.j.now.given (ds ++ digit ∷ [])) c.deref.ensures.value c.in_ok-digit.ensures.nu in
    let whole : c.P.result * c.digits.nu ≡ F.characteristic * value_of F.characteristic old = ap₂ (λ p v. p * v) P inv.value in
    let fits = nu_fits g.met.K.Coeff.lawful c.is_zero.ensures.polynomial c.given.ensures.ideal.polynomials c.requires.within old digit written (omega (arith, count, test, small)) in
    omega (arith, whole, fits)

pub overflow_mul-nu : goal.overflow_mul-nu
overflow_mul-nu g c = let fits = overflow_add-nu g c in omega (arith, fits)

pub returns-clause-value : goal.returns-clause-value
returns-clause-value g c =
    let F = g.K.Coeff.field in
    let inv = c.digits.invariant in
    let count = inv.count in
    let end = c.digits.auto.counter-end in
    let stop = c.digits-test.false in
    let length_is : length c.digits.digits.items ≡ c.args.e = omega (arith, count, end, stop) in
    subst (λ r. IsNu F c.args.f.now c.args.j.now.given c.args.e r) (sym inv.value)
    (subst (λ e. IsNu F c.args.f.now c.args.j.now.given e (value_of F.characteristic c.digits.digits.items)) length_is inv.written.is_nu)
