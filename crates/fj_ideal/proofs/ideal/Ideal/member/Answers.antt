use Rattle.std.proofs.Common.{◌≡◌, ◌≢◌, ◌∙◌, Bool, true, false, true≢false, ◌↔◌, List, MatchOption, map, refl, ap, sym, subst, length, All}
use Rattle.std.specs.Bool.{then_some}
use Rattle.std.specs.FinMap.{empty}
use Rattle.fj_theory.specs.Ideal.{Member, list_combination}
use Rattle.fj_theory.specs.MonomialOrder.{grevlex_key}
use Rattle.fj_theory.specs.Polynomial.{Polynomial, sum}
use Rattle.fj_groebner.specs.Rows.{IsRow}
use Rattle.fj_groebner.specs.Run.{given}
use Rattle.fj_groebner.proofs.DegreeOrder.{grevlex_key-IsDegreeOrder}
use Rattle.fj_basis.specs.Quotients.{IsDivided}
use Rattle.fj_ideal.proofs.ReducedBasis.{members_nonzero, Member-remainder, IsRow-quotients}
use Rattle.fj_ideal.proofs.ideal.Ideal.member.Goals as goal

-- What is answered where the test is true.
answered : {A : Type 0} (b : Bool) (x : A) (N : Type 0) (S : A → Type 0) → (b ≡ true → S x) → (b ≡ false → N) → MatchOption (then_some b x) N S
answered true x N S s n = s refl
answered false x N S s n = n refl

pub divide-requires : goal.divide-requires
divide-requires g c = subst (All (λ f. f ≢ empty)) (sym c.members.ensures.value) (members_nonzero g.met.K.Coeff.lawful c.members.ensures.ideal)

pub unreachable-requires : goal.unreachable-requires
unreachable-requires g c = rw c.in-Err-High.field-0-is at (c.in-Err-High.ensures.degree_order grevlex_key-IsDegreeOrder)

pub returns-in-Ok : goal.returns-in-Ok
returns-in-Ok g c =
    let F = g.K.Coeff.field in
    let L = g.met.K.Coeff.lawful in
    let I = c.members.ensures.ideal in
    let H = c.is_zero.ensures.polynomial in
    let D : IsDivided F grevlex_key (map given c.args.self.now.members) (given c.args.h.now) c.in-Ok.cofactors.items c.in-Ok.remainder =
    subst (λ (M : List Polynomial). IsDivided F grevlex_key (map given M) (given c.args.h.now) c.in-Ok.cofactors.items c.in-Ok.remainder) c.members.ensures.value c.in-Ok.ensures.value in
    let identity = subst (λ (M : List Polynomial). c.args.h.now ≡ sum F (list_combination F c.in-Ok.cofactors.items M) c.in-Ok.remainder) c.members.ensures.value c.in-Ok.ensures.identity in
    let long : length c.in-Ok.cofactors.items ≡ length c.args.self.now.members = c.in-Ok.ensures.long ∙ ap length c.members.ensures.value in
    let law : Member F c.args.self.now.given c.args.h.now ↔ (c.in-Ok.remainder ≡ empty) = Member-remainder L I H D in
    let zero = c.is_zero-in-Ok.ensures.zero in
    subst (λ o. MatchOption o (Member F c.args.self.now.given c.args.h.now → ⊥) (λ cofactors. Member F c.args.self.now.given c.args.h.now × IsRow F c.args.self.now.members c.args.h.now cofactors.items))
    (sym c.then_some.ensures)
    (answered c.is_zero-in-Ok.result c.in-Ok.cofactors _ _ (λ t. (law.1 (zero.0 t), IsRow-quotients L I H D long identity (zero.0 t))) (λ f m. true≢false (sym (zero.1 (law.0 m)) ∙ f)))
