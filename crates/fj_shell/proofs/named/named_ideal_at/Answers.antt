use Rattle.std.proofs.Common.{◌≡◌, ℕ, List, Some, sym, ap, ◌∙◌}
use Rattle.std.specs.List.{slice_get}
use Rattle.std.proofs.lemmas.Option.{same_Some}
use Rattle.fj_theory.specs.Plain.{PlainPolynomial}
use Rattle.fj_script.specs.declared.question.Question.{Question}
use Rattle.fj_script.specs.declared.script.Env.{Env}
use Rattle.fj_script.specs.declared.value.Value as held
use Rattle.fj_script.specs.declared.value.Value.TheVariants as values
use Rattle.fj_shell.specs.Asked as stated
use Rattle.fj_shell.specs.Asked.{IsDeclaredIdealAt, IsIdealAt, IsLetAt}
use Rattle.fj_shell.proofs.named.named_ideal_at.Goals as goal

module _ (env : Env) (place : ℕ) (name : List ℕ) where
  same_value : (n : List ℕ) (v w : held.Value) → slice_get env.values place ≡ Some (n, v) → slice_get env.values place ≡ Some (name, w) → v ≡ w
  same_value n v w one other = ap (λ x. x.1) (same_Some _ _ (sym one ∙ other))

  by_generators : (gens : List PlainPolynomial) → slice_get env.values place ≡ Some (name, values.Ideal gens) → IsIdealAt env place → (h : IsDeclaredIdealAt env place) × (h.gens ≡ gens)
  by_generators gens at (stated.declared h) = let same = same_value h.name _ _ h.stands at in (h, cc)
  by_generators gens at (stated.answered h) = absurd (let same = same_value h.name _ _ h.stands at in cc)

  by_question : (budget : ℕ) (q : Question) → slice_get env.values place ≡ Some (name, values.Let budget q) → IsIdealAt env place → (h : IsLetAt env place) × (h.budget ≡ budget) × (h.question ≡ q)
  by_question budget q at (stated.declared h) = absurd (let same = same_value h.name _ _ h.stands at in cc)
  by_question budget q at (stated.answered h) = let same = same_value h.name _ _ h.stands at in (h, cc, cc)

pub returns-in-Ideal : goal.returns-in-Ideal
returns-in-Ideal c = by_generators c.args.env.now c.args.place c.get.result.0.now c.in-Ideal.gens (c.get.ensures ∙ ap (λ v. Some (c.get.result.0.now, v)) c.in-Ideal.is) c.requires

pub returns-in-Let : goal.returns-in-Let
returns-in-Let c = by_question c.args.env.now c.args.place c.get.result.0.now c.in-Let.budget c.in-Let.question (c.get.ensures ∙ ap (λ v. Some (c.get.result.0.now, v)) c.in-Let.is) c.requires
