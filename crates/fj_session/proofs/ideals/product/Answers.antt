use Rattle.std.proofs.Common.{◌≡◌, inl, inr, sym, subst, refl}
use Rattle.fj_theory.specs.Ideal.{products}
use Rattle.fj_ideal.specs.Ideal.{IsIdealOf}
use Rattle.fj_ideal.specs.Lists.{IsHighPair, IsProductList, OfBasis}
use Rattle.fj_ideal.proofs.Lists.{of_members}
use Rattle.fj_session.specs.Ideals.{IsHighOfProduct, IsListOfProduct}
use Rattle.fj_session.proofs.Made.{list_of_two, other_is, same_is}
use Rattle.fj_session.specs.Names.{standing_in}
use Rattle.fj_session.proofs.Standings.{there}
use Rattle.fj_session.proofs.OwnStops.{own_handed_on, own_of_exactly}
use Rattle.fj_session.proofs.ideals.product.Goals as goal

pub returns-in_err-first-clause-stop : goal.returns-in_err-first-clause-stop
returns-in_err-first-clause-stop g c =
    let F = g.K.Coeff.field in
    let J = standing_in c.args.names.now c.args.j in
    let K = standing_in c.args.names.now c.args.k in
    own_handed_on F c.args.budget (IsListOfProduct F J K) (IsHighOfProduct F J.list K.list) J (λ M d. inl (inl d)) c.in_err-first.field-0.0 c.from_residual.result c.from_residual.ensures.1 c.in_err-first.ensures.stop

pub returns-in_err-second-clause-stop : goal.returns-in_err-second-clause-stop
returns-in_err-second-clause-stop g c =
    let F = g.K.Coeff.field in
    let J = standing_in c.args.names.now c.args.j in
    let K = standing_in c.args.names.now c.args.k in
    own_handed_on F c.args.budget (IsListOfProduct F J K) (IsHighOfProduct F J.list K.list) K (λ M d. inl (inr d)) c.in_err-second.field-0.0 c.from_residual-in_err-second.result c.from_residual-in_err-second.ensures.1 c.in_err-second.ensures.stop

pub returns-in-Some-clause-ideal : goal.returns-in-Some-clause-ideal
returns-in-Some-clause-ideal g c =
    list_of_two (there c.in_ok-first.first c.ideal-first.ensures c.in_ok-first.ensures.ideal) (other_is g.K.Coeff.field (λ n. (standing_in c.args.names.now n).list) c.args.j c.args.k c.in-Some.second c.in-Some.is c.ideal.ensures c.in_ok-second.ensures.ideal) (products g.K.Coeff.field) c.product.result c.product.ensures.value c.product.ensures.ideal

pub returns-in-Some-clause-stop : goal.returns-in-Some-clause-stop
returns-in-Some-clause-stop g c =
    let F = g.K.Coeff.field in
    let J = standing_in c.args.names.now c.args.j in
    let K = standing_in c.args.names.now c.args.k in
    let G = c.ideal-first.result.now.members in
    let H = c.ideal.result.now.members in
    let second : IsIdealOf F K.list c.ideal.result.now = other_is g.K.Coeff.field (λ n. (standing_in c.args.names.now n).list) c.args.j c.args.k c.in-Some.second c.in-Some.is c.ideal.ensures c.in_ok-second.ensures.ideal in
    own_of_exactly F c.args.budget (IsListOfProduct F J K) (IsHighOfProduct F J.list K.list) (IsProductList F G H) (IsHighPair F G H)
    (λ M e. inr (of_members (there c.in_ok-first.first c.ideal-first.ensures c.in_ok-first.ensures.ideal) (λ A. OfBasis F K.list (λ B. IsProductList F A B M)) (of_members second (λ B. IsProductList F G B M) e)))
    (λ M e. of_members (there c.in_ok-first.first c.ideal-first.ensures c.in_ok-first.ensures.ideal) (λ A. OfBasis F K.list (λ B. IsHighPair F A B M)) (of_members second (λ B. IsHighPair F G B M) e))
    c.product.result c.product.ensures.stop

pub returns-clause-ideal : goal.returns-clause-ideal
returns-clause-ideal g c =
    list_of_two (there c.in_ok-first.first c.ideal-first.ensures c.in_ok-first.ensures.ideal) (same_is g.K.Coeff.field (λ n. (standing_in c.args.names.now n).list) c.args.j c.args.k c.in-None.is c.in_ok-second.ensures.ideal (there c.in_ok-first.first c.ideal-first.ensures c.in_ok-first.ensures.ideal)) (products g.K.Coeff.field) c.product-in-None.result c.product-in-None.ensures.value c.product-in-None.ensures.ideal

pub returns-clause-stop : goal.returns-clause-stop
returns-clause-stop g c =
    let F = g.K.Coeff.field in
    let J = standing_in c.args.names.now c.args.j in
    let K = standing_in c.args.names.now c.args.k in
    let G = c.ideal-first.result.now.members in
    let second : IsIdealOf F K.list c.ideal-first.result.now = same_is g.K.Coeff.field (λ n. (standing_in c.args.names.now n).list) c.args.j c.args.k c.in-None.is c.in_ok-second.ensures.ideal (there c.in_ok-first.first c.ideal-first.ensures c.in_ok-first.ensures.ideal) in
    own_of_exactly F c.args.budget (IsListOfProduct F J K) (IsHighOfProduct F J.list K.list) (IsProductList F G G) (IsHighPair F G G)
    (λ M e. inr (of_members (there c.in_ok-first.first c.ideal-first.ensures c.in_ok-first.ensures.ideal) (λ A. OfBasis F K.list (λ B. IsProductList F A B M)) (of_members second (λ B. IsProductList F G B M) e)))
    (λ M e. of_members (there c.in_ok-first.first c.ideal-first.ensures c.in_ok-first.ensures.ideal) (λ A. OfBasis F K.list (λ B. IsHighPair F A B M)) (of_members second (λ B. IsHighPair F G B M) e))
    c.product-in-None.result c.product-in-None.ensures.stop
