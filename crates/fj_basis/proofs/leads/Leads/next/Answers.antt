use Rattle.std.proofs.Common.{◌≡◌, ◌<◌, ℕ, List, [], length, map, get_or, sym, ap, ◌∙◌, subst, arith}
use Rattle.std.proofs.lemmas.List.{length-map, get_or-map}
use Rattle.fj_mono.specs.Monomial.{Monomial}
use Rattle.fj_theory.specs.Exponents.{divides}
use Rattle.fj_basis.specs.Leads.{exponents_of, mask_after}
use Rattle.fj_basis.specs.declared.leads.Lead.{Lead}
use Rattle.fj_basis.proofs.Dividing.{divides-no_mask, none-more}
use Rattle.fj_basis.proofs.leads.Leads.next.Goals as goal
use Rattle.fj_basis.proofs.leads.Leads.next.Goals.{else-lead-mask-via-then-lead-mask+else-divides, else-lead-mask-via-else-lead-mask}

at : (items : List Lead) (ms : List Monomial) (k : ℕ) (x : Lead) → map (λ l. l.monomial) items ≡ ms → k < length items → x ≡ get_or items k x → get_or (exponents_of ms) k [] ≡ x.monomial.exponents
at items ms k x seen l is =
    let long : length (map (λ y. y.monomial) items) ≡ length items = length-map items (λ y. y.monomial) in
    ap (λ us. get_or (exponents_of us) k []) (sym seen)
    ∙ get_or-map (λ m. m.exponents) (map (λ y. y.monomial) items) k x.monomial [] (omega (arith, long, l))
    ∙ ap (λ m. m.exponents) (get_or-map (λ y. y.monomial) items k x x.monomial l ∙ ap (λ y. y.monomial) (sym is))

places : (items : List Lead) (ms : List Monomial) → map (λ l. l.monomial) items ≡ ms → length (exponents_of ms) ≡ length items
places items ms seen = ap (λ us. length (exponents_of us)) (sym seen) ∙ length-map (map (λ y. y.monomial) items) (λ m. m.exponents) ∙ length-map items (λ y. y.monomial)

pub returns-then-divides : goal.returns-then-divides
returns-then-divides c =
    let within : c.loop-k.k < length c.self.inside.leads.items = omega (arith, c.loop-k-test.true, c.len-k-end.ensures, c.self.inside.leads.ok.0) in
    let own = at c.self.inside.leads.items c.args.self.now c.loop-k.k c.index-lead.result.now c.self.view_is within c.index-lead.ensures in
    record {
      after = c.loop-k.auto.k;
      place = (let long = places c.self.inside.leads.items c.args.self.now c.self.view_is in omega (arith, long, within));
      divides = ap (λ e. divides e c.args.m.now.exponents) own ∙ sym c.divides.ensures ∙ c.if-divides.true;
      before = c.loop-k.invariant;
    }

pub loop-k-preserved : goal.loop-k-preserved
loop-k-preserved c =
    let within : c.loop-k.k < length c.self.inside.leads.items = omega (arith, c.loop-k-test.true, c.len-k-end.ensures, c.self.inside.leads.ok.0) in
    let own = at c.self.inside.leads.items c.args.self.now c.loop-k.k c.index-lead.result.now c.self.view_is within c.index-lead.ensures in
    let mask : c.index-lead.result.now.mask ≡ mask_after 0 c.index-lead.result.now.monomial.exponents =
    subst (λ y. y.mask ≡ mask_after 0 y.monomial.exponents) (sym c.index-lead.ensures) (c.self.invariant c.loop-k.k c.index-lead.result.now within) in
    none-more (exponents_of c.args.self.now) c.args.from c.loop-k.k c.args.m.now.exponents c.loop-k.invariant
    (ap (λ e. divides e c.args.m.now.exponents) own
    ∙ elim c.else-lead-mask.branch [
      | else-lead-mask-via-then-lead-mask+else-divides w ↦ sym w.divides.ensures ∙ w.if-divides.false
      | else-lead-mask-via-else-lead-mask w ↦ divides-no_mask c.index-lead.result.now.monomial c.args.m.now _ _ mask c.mask_of-mask.ensures w.if-lead-mask.false
    ])
