-- What an expression reads is a polynomial over the field in the variables of the text, of degree at most 1,000.
use Rattle.std.proofs.Common.{◌≡◌, ℕ, zero, suc, ◌%◌, ◌<◌, eqb, List, length, Option, Some, None, Result, Ok, Err, refl, subst, arith}
use Rattle.std.proofs.lemmas.Nat.{mod_below}
use Rattle.std.proofs.lemmas.Option.{none-some, same_Some}
use Rattle.std.specs.Option.{option_map, option_map_or}
use Rattle.fj_coeff.specs.Field.{Field, IsField}
use Rattle.fj_coeff.specs.PrimeFieldLaws.{prime_bounds}
use Rattle.fj_theory.specs.Polynomial.{Polynomial, negation, product, sum}
use Rattle.fj_text.specs.declared.fault.Fault.{Fault}
use Rattle.fj_text.specs.declared.scope.Meaning.{Meaning}
use Rattle.fj_text.specs.declared.scope.Meaning.TheVariants as meanings
use Rattle.fj_text.specs.Expression as text
use Rattle.fj_text.specs.State.{State, ◌>>=◌, after_sign, next}
use Rattle.fj_text.specs.Token.{Token, Word, Number, Sign, BadByte, opening, closing, minus, plus, star, caret}
use Rattle.fj_script.proofs.AcceptedPolynomials.{IsSmallIn, constant_small, negation_small, power_small, product_small, sum_small, variable_small, within_small}
use Rattle.fj_script.proofs.AcceptedYields.{Yields, Anything, yields_anything, yields_if, yields_option}

pub yields_bind : {A B : Type 0} (P : A → Type 0) (Q : B → Type 0) (r : Result A Fault) (f : A → Result B Fault) → Yields P r → ((x : A) → P x → Yields Q (f x)) → Yields Q (r >>= f)
yields_bind P Q (Ok x) f h k = k x h
yields_bind P Q (Err e) f h k = tt

module _ {F : Field} (L : IsField F) (n : ℕ) where
  abbrev pub Small : Polynomial × State → Type 0
  Small x = IsSmallIn F n x.0

  formed_small : (o : Option Polynomial) (s : State) → ((f : Polynomial) → o ≡ Some f → IsSmallIn F n f) → Yields Small (text.formed o s)
  formed_small None s h = tt
  formed_small (Some f) s h = h f refl

  reduced : (c : ℕ) → c % F.characteristic < F.size
  reduced c = let small = mod_below c F.characteristic (omega (arith, (prime_bounds F.characteristic L.prime).0)) in let fits = L.characteristic_fits in omega (arith, small, fits)

  -- Turns keep it.
  abbrev Keeps : (Polynomial → State → Option (text.Answer Polynomial)) → Type 0
  Keeps turn = (f : Polynomial) (s : State) → IsSmallIn F n f → (answer : text.Answer Polynomial) → turn f s ≡ Some answer → Yields Small answer

  repeat_small : (turn : Polynomial → State → Option (text.Answer Polynomial)) → Keeps turn → (m : ℕ) (f : Polynomial) (s : State) → IsSmallIn F n f → Yields Small (text.repeat turn m f s)
  unfolding text.repeat
  repeat_small turn keeps zero f s h = h
  repeat_small turn keeps (suc m) f s h =
      yields_option Small (turn f s) (λ answer. answer >>= λ r. text.repeat turn m r.0 r.1) (Ok (f, s))
      (λ answer e. yields_bind Small Small answer (λ r. text.repeat turn m r.0 r.1) (keeps f s h answer e) (λ r k. repeat_small turn keeps m r.0 r.1 k)) h

  module _ (meaning : List ℕ → Meaning) (known : (w : List ℕ) (i : ℕ) → meaning w ≡ meanings.Variable i → i < n) where
    variable_read : (m : Meaning) (s : State) → ((i : ℕ) → m ≡ meanings.Variable i → i < n) → Yields Small (text.variable m s)
    unfolding text.variable
    variable_read (meanings.Variable i) s k = variable_small L n i (k i refl)
    variable_read meanings.Unknown s k = tt
    variable_read meanings.OtherKind s k = tt

    module _ (inside : State → text.Answer Polynomial) (I : (s : State) → Yields Small (inside s)) where
      atom_read : (t : Token) (s : State) → Yields Small (text.atom_of F meaning inside t s)
      unfolding text.atom_of text.constant
      atom_read (Number m) s = yields_if Small (text.is_wide m) _ _ (λ _. tt) (λ _. constant_small L n (m % F.characteristic) (reduced m))
      atom_read (Word w) s = variable_read (meaning w) s (known w)
      atom_read (Sign b) s = yields_if Small (eqb b opening) _ _ (λ _. I s) (λ _. tt)
      atom_read BadByte s = tt

      factor_read : (s : State) → Yields Small (text.factor F meaning inside s)
      unfolding text.factor text.atom
      factor_read s =
          yields_bind Small Small (text.atom F meaning inside s) _
          (yields_option Small (next s) _ _ (λ t _. atom_read t.0 t.1) tt)
          (λ base h. yields_option Small (after_sign caret base.1) _ _
          (λ t _. yields_bind Anything Small (text.taking text.exponent_of t) _ (yields_anything _) (λ k _. formed_small (text.power_within F base.0 k.0) k.1 (λ f e. power_small L n h k.0 e))) h)

      times_keeps : Keeps (text.times_factor F meaning inside)
      unfolding text.times_factor
      times_keeps f s h answer = by (after_sign star s)
        where
          by : (o : Option State) → option_map (λ t. text.factor F meaning inside t >>= λ g. text.formed (text.within (product F f g.0)) g.1) o ≡ Some answer → Yields Small answer
          by None e = absurd (none-some _ e)
          by (Some t) e =
              subst (Yields Small) (same_Some _ _ e) (yields_bind Small Small (text.factor F meaning inside t) _ (factor_read t) (λ g k. formed_small (text.within (product F f g.0)) g.1 (λ r d. product_small L n h k d)))

      term_read : (s : State) → Yields Small (text.term_at F meaning inside s)
      unfolding text.term_at
      term_read s = yields_bind Small Small (text.factor F meaning inside s) _ (factor_read s) (λ f h. repeat_small (text.times_factor F meaning inside) times_keeps (length f.1.left) f.0 f.1 h)

      first_read : (s : State) → Yields Small (text.first_term F meaning inside s)
      unfolding text.first_term
      first_read s =
          yields_option Small (after_sign minus s) _ _
          (λ t _. yields_bind Small Small (text.term_at F meaning inside t) _ (term_read t) (λ f h. negation_small L n h)) (term_read s)

      plus_keeps : Keeps (text.plus_term F meaning inside)
      unfolding text.plus_term
      plus_keeps f s h answer = by (after_sign plus s) (after_sign minus s)
        where
          added : State → text.Answer Polynomial
          added t = text.term_at F meaning inside t >>= λ g. text.formed (text.within (sum F f g.0)) g.1

          taken : State → text.Answer Polynomial
          taken t = text.term_at F meaning inside t >>= λ g. text.formed (text.within (sum F f (negation F g.0))) g.1

          by : (o p : Option State) → option_map_or (λ t. Some (added t)) o (option_map taken p) ≡ Some answer → Yields Small answer
          by (Some t) p e =
              subst (Yields Small) (same_Some _ _ e) (yields_bind Small Small (text.term_at F meaning inside t) _ (term_read t)
              (λ g k. formed_small (text.within (sum F f g.0)) g.1 (λ r d. within_small L n (sum_small L n h k) d)))
          by None (Some t) e =
              subst (Yields Small) (same_Some _ _ e) (yields_bind Small Small (text.term_at F meaning inside t) _ (term_read t)
              (λ g k. formed_small (text.within (sum F f (negation F g.0))) g.1 (λ r d. within_small L n (sum_small L n h (negation_small L n k)) d)))
          by None None e = absurd (none-some _ e)

      sum_read : (s : State) → Yields Small (text.sum_at F meaning inside s)
      unfolding text.sum_at
      sum_read s = yields_bind Small Small (text.first_term F meaning inside s) _ (first_read s) (λ f h. repeat_small (text.plus_term F meaning inside) plus_keeps (length f.1.left) f.0 f.1 h)

    parenthesised_read : (depth : ℕ) (s : State) → Yields Small (text.parenthesised F meaning depth s)
    unfolding text.parenthesised
    parenthesised_read zero s = tt
    parenthesised_read (suc depth) s =
        yields_bind Small Small (text.sum_at F meaning (text.parenthesised F meaning depth) s) _ (sum_read (text.parenthesised F meaning depth) (parenthesised_read depth) s)
        (λ f h. yields_option Small (after_sign closing f.1) _ _ (λ t _. h) tt)

    pub expression_read : (s : State) → Yields Small (text.expression F meaning s)
    unfolding text.expression
    expression_read s = sum_read (text.parenthesised F meaning 64) (parenthesised_read 64) s
