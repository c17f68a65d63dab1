-- What stands behind an opening parenthesis, and refusals that are passed on.
use Rattle.std.proofs.Common.{◌≡◌, ℕ, zero, suc, ◌-◌, ◌<◌, List, length, Option, Some, None, Ok, Err, refl, sym, ap, ◌∙◌, subst, arith}
use Rattle.std.specs.Option.{option_map_or}
use Rattle.fj_coeff.specs.Field.{Field}
use Rattle.fj_theory.specs.Polynomial.{Polynomial}
use Rattle.fj_text.specs.declared.fault.Cause.TheVariants as causes
use Rattle.fj_text.specs.declared.fault.Fault.{Fault}
use Rattle.fj_text.specs.declared.fault.ReadFault.{ReadFault}
use Rattle.fj_text.specs.declared.fault.ReadFault.TheVariants as refusals
use Rattle.fj_text.specs.declared.scope.Meaning.{Meaning}
use Rattle.fj_text.specs.Expression.{Answer, factor, first_term, parenthesised, plus_term, repeat, sum_at, term_at, times_factor}
use Rattle.fj_text.specs.Reading.{Reads}
use Rattle.fj_text.specs.State.{State, ◌>>=◌, after_sign, fault_at, unexpected}
use Rattle.fj_text.specs.Token.{closing, minus, plus, star}
use Rattle.fj_text.proofs.Repeats.{after_sign-left}

-- a refusal that is a fault
pub reads-fault : {A : Type 0} (e : ReadFault) (fault : Fault) (s : State) (answer : Answer A) → e ≡ refusals.At fault → answer ≡ Err fault → Reads {A = A} (Err e) s answer
reads-fault {A} e fault s answer is h = subst (λ r. Reads {A = A} (Err r) s answer) (sym is) h

-- what was refused is refused with what follows it
pub reads-passed : {A B : Type 0} (e : ReadFault) (s : State) (answer : Answer A) (f : A × State → Answer B) → Reads {A = A} (Err e) s answer → Reads {A = B} (Err e) s (answer >>= f)
reads-passed (refusals.At fault) s answer f h = ap (λ a. a >>= f) h
reads-passed refusals.Memory s answer f h = tt

-- the same answer
pub reads-same : {A : Type 0} (e : ReadFault) (s : State) (answer other : Answer A) → answer ≡ other → Reads {A = A} (Err e) s other → Reads {A = A} (Err e) s answer
reads-same {A} e s answer other is h = subst (Reads {A = A} (Err e) s) (sym is) h

module _ (F : Field) (meaning : List ℕ → Meaning) where
  pub parenthesised-zero : (depth : ℕ) (s : State) → depth ≡ 0 → parenthesised F meaning depth s ≡ Err (fault_at causes.Large s)
  unfolding parenthesised
  parenthesised-zero depth s e = ap (λ d. parenthesised F meaning d s) e

  -- up to the closing parenthesis
  abbrev pub closed : Polynomial × State → Answer Polynomial
  closed f = option_map_or (λ t. Ok (f.0, t)) (after_sign closing f.1) (Err (unexpected f.1))

  pub parenthesised-more : (depth : ℕ) (s : State) → 0 < depth → parenthesised F meaning depth s ≡ (sum_at F meaning (parenthesised F meaning (depth - 1)) s >>= closed)
  unfolding parenthesised
  parenthesised-more zero s h = absurd (omega arith)
  parenthesised-more (suc d) s h = let one : suc d - 1 ≡ d = omega arith in ap (λ n. sum_at F meaning (parenthesised F meaning n) s >>= closed) (sym one)

  -- the closing parenthesis is there, and isn't
  pub closes : (depth : ℕ) (s t u : State) (f : Polynomial) → 0 < depth → sum_at F meaning (parenthesised F meaning (depth - 1)) s ≡ Ok (f, t) → after_sign closing t ≡ Some u → parenthesised F meaning depth s ≡ Ok (f, u)
  closes depth s t u f h e k = parenthesised-more depth s h ∙ ap (λ a. a >>= closed) e ∙ ap (λ o. option_map_or (λ v. Ok (f, v)) o (Err (unexpected t))) k

  pub not_closed : (depth : ℕ) (s t : State) (f : Polynomial) → 0 < depth → sum_at F meaning (parenthesised F meaning (depth - 1)) s ≡ Ok (f, t) → after_sign closing t ≡ None → parenthesised F meaning depth s ≡ Err (unexpected t)
  not_closed depth s t f h e k = parenthesised-more depth s h ∙ ap (λ a. a >>= closed) e ∙ ap (λ o. option_map_or (λ v. Ok (f, v)) o (Err (unexpected t))) k

  module _ (inside : State → Answer Polynomial) where
    pub times_factor-left : (f : Polynomial) (s : State) (r : Answer Polynomial) → times_factor F meaning inside f s ≡ Some r → 0 < length s.left
    unfolding times_factor
    times_factor-left f s r = by (after_sign star s) refl
      where
        by : (o : Option State) → after_sign star s ≡ o → times_factor F meaning inside f s ≡ Some r → 0 < length s.left
        by None e h = absurd cc
        by (Some t) e h = after_sign-left star s t e

    pub plus_term-left : (f : Polynomial) (s : State) (r : Answer Polynomial) → plus_term F meaning inside f s ≡ Some r → 0 < length s.left
    unfolding plus_term
    plus_term-left f s r = by (after_sign plus s) (after_sign minus s) refl refl
      where
        by : (o p : Option State) → after_sign plus s ≡ o → after_sign minus s ≡ p → plus_term F meaning inside f s ≡ Some r → 0 < length s.left
        by (Some t) p e k h = after_sign-left plus s t e
        by None (Some t) e k h = after_sign-left minus s t k
        by None None e k h = absurd cc

    pub term-begins : (s t : State) (f : Polynomial) → factor F meaning inside s ≡ Ok (f, t) → term_at F meaning inside s ≡ repeat (times_factor F meaning inside) (length t.left) f t
    unfolding term_at
    term-begins s t f e = ap (λ a. a >>= λ r. repeat (times_factor F meaning inside) (length r.1.left) r.0 r.1) e

    pub sum-begins : (s t : State) (f : Polynomial) → first_term F meaning inside s ≡ Ok (f, t) → sum_at F meaning inside s ≡ repeat (plus_term F meaning inside) (length t.left) f t
    unfolding sum_at
    sum-begins s t f e = ap (λ a. a >>= λ r. repeat (plus_term F meaning inside) (length r.1.left) r.0 r.1) e
