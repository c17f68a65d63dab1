-- Lists that are read: what each item keeps holds of them.
use Rattle.std.proofs.Common.{ℕ, zero, suc, List, [], ◌∷◌, ◌++◌, length}
use Rattle.fj_text.specs.State.{State, after_sign}
use Rattle.fj_text.specs.Token.{closing, opening}
use Rattle.fj_script.specs.Items.{comma, enclosed, listed, more, sign}
use Rattle.fj_script.specs.LineFault.{Answer}
use Rattle.fj_script.proofs.AcceptedYields.{Yields, Anything, yields_anything, yields_option, yields_then}

module _ {A : Type 0} (P : List A → Type 0) (item : List A → State → Answer A) (each : (xs : List A) (s : State) → P xs → Yields (λ x. P (xs ++ x.0 ∷ [])) (item xs s)) where
  abbrev Kept : List A × State → Type 0
  Kept ys = P ys.0

  more_kept : (turns : ℕ) (xs : List A) (s : State) → P xs → Yields Kept (more item turns xs s)
  unfolding more
  more_kept zero xs s h = h
  more_kept (suc turns) xs s h =
      yields_option Kept (after_sign comma s) _ _
      (λ t _. yields_then (λ x. P (xs ++ x.0 ∷ [])) Kept (item xs t) _ (each xs t h) (λ x k. more_kept turns (xs ++ x.0 ∷ []) x.1 k)) h

  pub listed_kept : P [] → (s : State) → Yields Kept (listed item s)
  unfolding listed
  listed_kept h s = yields_then (λ x. P (x.0 ∷ [])) Kept (item [] s) _ (each [] s h) (λ x k. more_kept (length x.1.left) (x.0 ∷ []) x.1 k)

-- What stands in parentheses is what was read there.
pub enclosed_kept : {A : Type 0} (P : A → Type 0) (inside : State → Answer A) → ((s : State) → Yields (λ x. P x.0) (inside s)) → (s : State) → Yields (λ x. P x.0) (enclosed inside s)
unfolding enclosed
enclosed_kept P inside h s =
    yields_then Anything (λ x. P x.0) (sign opening s) _ (yields_anything _)
    (λ t _. yields_then (λ x. P x.0) (λ x. P x.0) (inside t) _ (h t) (λ x k. yields_then Anything (λ y. P y.0) (sign closing x.1) _ (yields_anything _) (λ _ _. k)))
