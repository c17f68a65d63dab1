use Rattle.std.proofs.Common.{◌≡◌, List, [], ◌∷◌, map, refl, sym, ap, ◌∙◌}
use Rattle.std.proofs.lemmas.Iterator.Adapters.{YieldsList-from_vec}
use Rattle.std.proofs.lemmas.Iterator.Consumers.{YieldsList-end}
use Rattle.fj_basis.proofs.members.polynomials.Goals as goal

same_items : {X : Type 0} (xs : List X) → map (λ x. x) xs ≡ xs
same_items [] = refl
same_items (x ∷ xs) = ap (λ ys. x ∷ ys) (same_items xs)

pub returns : goal.returns
returns g c =
    let gives = c.into_iter-member-iterator.ensures.into_iter_gives in
    let whole : c.loop-member.yielded ≡ c.args.members.items =
    sym (same_items c.loop-member.yielded)
    ∙ (YieldsList-end (YieldsList-from_vec c.args.members.items gives.0 (gives.1 ∙ c.args.members.ok.0)) c.loop-member.yielded c.loop-member.member-iterator c.loop-member.yielded_by c.next.result c.next.new.self c.in-None.is c.next.ensures.steps).0 in
    c.loop-member.invariant ∙ ap (map (λ m. m.polynomial)) whole
