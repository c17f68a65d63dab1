use Rattle.std.proofs.Common.{◌≡◌, ◌<◌, ◌⊎◌, inl, inr, ℕ, ◌+◌, length, ap, refl, sym, ◌∙◌, arith, true≢false}
use Rattle.std.proofs.lemmas.List.{length-map}
use Rattle.fj_basis.proofs.Sparing.{places-long}
use Rattle.fj_basis.proofs.pending.Pending.is_spared.Goals as goal

before_or : (p k : ℕ) → p < k + 1 → (p < k) ⊎ (p ≡ k)
before_or p k l = grind arith

pub loop-k-init : goal.loop-k-init
loop-k-init g c = λ s h spared l. omega (arith, l)

pub loop-k-preserved : goal.loop-k-preserved
loop-k-preserved g c = λ s h spared l. elim (before_or spared.place c.loop-k.k l) [
  | inl m ↦ c.loop-k.invariant s h spared m
  | inr e ↦ true≢false (sym ((c.spares.ensures s h).1 (spared, e)) ∙ c.if-spares.false)
]

pub returns-then-spares : goal.returns-then-spares
returns-then-spares g c = λ s h. (λ t. ((c.spares.ensures s h).0 c.if-spares.true).0, λ spared. refl)

pub returns : goal.returns
returns g c = λ s h. (
  λ t. absurd (true≢false (sym t)),
  λ spared. absurd (c.loop-k.invariant s h spared (beyond spared.place (length s.members) spared.is_place (places-long g.O.Order.key s c.args.self.now h))),
)
  where
    beyond : (p n : ℕ) → p < n → length c.args.self.now.leads ≡ n → p < c.loop-k.k
    beyond p n l e = let past = c.loop-k-test.false in let count = c.len-k-end.ensures in let own = c.self.inside.leads.ok.0 in
        let whole = sym (length-map c.self.inside.leads.items (λ m. m.exponents)) ∙ ap (λ v. length v.leads) c.self.view_is in omega (arith, l, e, past, count, own, whole)
