-- Words of no form.
use Rattle.std.proofs.Common.{◌≡◌, ℕ, Bool, true, false, List, not, refl}
use Rattle.fj_session.specs.Words.{IsForm, IsNoForm}
use Rattle.fj_session.specs.declared.words.Form.TheVariants.{Run, Audit, Gen}

pub no_form : (words : List (List ℕ)) → (IsForm Run words → ⊥) → (IsForm Audit words → ⊥) → ((n : ℕ) → IsForm (Gen n) words → ⊥) → IsNoForm words
no_form words run audit gen Run is = run is
no_form words run audit gen Audit is = audit is
no_form words run audit gen (Gen n) is = gen n is

pub true_from_not : (b : Bool) → not b ≡ false → b ≡ true
true_from_not true e = refl
true_from_not false e = cc
