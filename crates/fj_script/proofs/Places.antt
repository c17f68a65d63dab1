-- Where the faults of expressions stand: within the line.
use Rattle.std.proofs.Common.{ℕ, zero, suc, ◌≤◌, Bool, true, false, nat_lt, if◌then◌else◌, List, [], ◌∷◌, All, Option, Some, None, Result, Ok, Err, arith}
use Rattle.std.specs.Option.{option_and_then, option_map, option_map_or}
use Rattle.fj_coeff.specs.Field.{Field}
use Rattle.fj_theory.specs.Polynomial.{Polynomial}
use Rattle.fj_text.specs.declared.fault.Fault.{Fault}
use Rattle.fj_text.specs.declared.scope.Meaning.{Meaning}
use Rattle.fj_text.specs.declared.scope.Meaning.TheVariants as meanings
use Rattle.fj_text.specs.Expression.{Answer, atom, atom_of, constant, exponent_of, expression, factor, first_term, formed, is_wide, parenthesised, plus_term, repeat, sum_at, taking, term_at, times_factor, variable}
use Rattle.fj_text.specs.State.{State, ◌>>=◌, after, after_sign, is_the_sign, next, unexpected}
use Rattle.fj_text.specs.Token.{Token, Word, Number, Sign, BadByte, Placed, caret, closing, minus, plus, star}

-- The tokens that are left and the one that was taken last stand within n columns.
pub record IsNear (n : ℕ) (s : State) : Type 0 where
  pub start : s.start ≤ n
  pub end : s.end ≤ n
  pub left : All (λ t. (t.start ≤ n) × (t.end ≤ n)) s.left

-- A value with this property, or a fault within n columns.
pub data Stands {E A : Type 0} (place : E → ℕ) (n : ℕ) (P : A → Type 0) : Result A E → Type 0 where
  fine : {x : A} → P x → Stands place n P (Ok x)
  faulty : {e : E} → place e ≤ n → Stands place n P (Err e)

pub choose : {R : Type 0} (Good : R → Type 0) (b : Bool) (x y : R) → Good x → Good y → Good (if b then x else y)
choose Good true x y p q = p
choose Good false x y p q = q

module _ (n : ℕ) where
  pub after_near : (u : Placed) (ts : List Placed) → All (λ t. (t.start ≤ n) × (t.end ≤ n)) (u ∷ ts) → IsNear n (after u ts)
  after_near u ts near =
      let first = near 0 u (omega arith) in
      record { start = first.0; end = first.1; left = λ k d inside. near (suc k) d (omega arith) }

  module _ {R : Type 0} (Good : R → Type 0) where
    pub at_next : (f : Token × State → R) (d : R) (s : State) → IsNear n s → ((t : Token × State) → IsNear n t.1 → Good (f t)) → Good d → Good (option_map_or f (next s) d)
    unfolding next
    at_next f d s near some none = by s.left near.left
      where
        by : (ts : List Placed) → All (λ t. (t.start ≤ n) × (t.end ≤ n)) ts → Good (option_map_or f (elim ts [ [] ↦ None | t ∷ ts ↦ Some (t.token, after t ts) ]) d)
        by [] all = none
        by (u ∷ ts) all = some (u.token, after u ts) (after_near u ts all)

    of_sign : (g : Option State → R) (b : ℕ) (s : State) → IsNear n s → ((t : State) → IsNear n t → Good (g (Some t))) → Good (g None) → Good (g (after_sign b s))
    unfolding after_sign next
    of_sign g b s near some none = by s.left near.left
      where
        test : (t : State) → IsNear n t → (c : Bool) → Good (g (if c then Some t else None))
        test t all true = some t all
        test t all false = none

        by : (ts : List Placed) → All (λ t. (t.start ≤ n) × (t.end ≤ n)) ts → Good (g (option_and_then {T = Token × State} (λ t. if is_the_sign b t.0 then Some t.1 else None) (elim ts [ [] ↦ None | t ∷ ts ↦ Some (t.token, after t ts) ])))
        by [] all = none
        by (u ∷ ts) all = test (after u ts) (after_near u ts all) (is_the_sign b u.token)

    pub at_sign : (f : State → R) (d : R) (b : ℕ) (s : State) → IsNear n s → ((t : State) → IsNear n t → Good (f t)) → Good d → Good (option_map_or f (after_sign b s) d)
    at_sign f d b s near some none = of_sign (λ o. option_map_or f o d) b s near some none

  pub unexpected_near : (s : State) → IsNear n s → (unexpected s).place ≤ n
  unfolding unexpected
  unexpected_near s near = by s.left near.left
    where
      by : (ts : List Placed) → All (λ t. (t.start ≤ n) × (t.end ≤ n)) ts → (unexpected (record { left = ts; start = s.start; end = s.end })).place ≤ n
      by [] all = near.end
      by (u ∷ ts) all = (all 0 u (omega arith)).0

  -- An answer of a text: the state after it is near, or the fault.
  abbrev pub Near : {A : Type 0} → Answer A → Type 0
  Near answer = Stands (λ (e : Fault). e.place) n (λ r. IsNear n r.1) answer

  bind : {A B : Type 0} (r : Answer A) (f : A × State → Answer B) → Near r → ((x : A × State) → IsNear n x.1 → Near (f x)) → Near (r >>= f)
  bind (Ok x) f (fine near) g = g x near
  bind (Err e) f (faulty near) g = faulty near

  choose_near : {A : Type 0} (b : Bool) (x y : Answer A) → Near x → Near y → Near (if b then x else y)
  choose_near {A = A} b x y p q = choose {R = Answer A} (λ r. Near {A = A} r) b x y p q

  sign_near : {A : Type 0} (f : State → Answer A) (d : Answer A) (b : ℕ) (s : State) → IsNear n s → ((t : State) → IsNear n t → Near (f t)) → Near d → Near (option_map_or f (after_sign b s) d)
  sign_near {A = A} f d b s near some none = at_sign {R = Answer A} (λ r. Near {A = A} r) f d b s near some none

  taking_near : {A : Type 0} (read : Token → State → Answer A) → ((t : Token) (s : State) → IsNear n s → Near (read t s)) → (s : State) → IsNear n s → Near (taking read s)
  taking_near {A = A} read each s near = at_next {R = Answer A} (λ r. Near {A = A} r) (λ t. read t.0 t.1) (Err (unexpected s)) s near (λ t. each t.0 t.1) (faulty (unexpected_near s near))

  abbrev Turn : {A : Type 0} → Option (Answer A) → Type 0
  Turn None = Unit {0}
  Turn (Some answer) = Near answer

  turn_near : {A : Type 0} (f : State → Answer A) (b : ℕ) (s : State) → IsNear n s → ((t : State) → IsNear n t → Near (f t)) → Turn (option_map f (after_sign b s))
  turn_near {A = A} f b s near some = of_sign {R = Option (Answer A)} (λ o. Turn {A = A} o) (λ o. option_map f o) b s near some tt

  turn_or : {A : Type 0} (f : State → Answer A) (d : Option (Answer A)) (b : ℕ) (s : State) → IsNear n s → ((t : State) → IsNear n t → Near (f t)) → Turn d → Turn (option_map_or (λ t. Some (f t)) (after_sign b s) d)
  turn_or {A = A} f d b s near some none = at_sign {R = Option (Answer A)} (λ o. Turn {A = A} o) (λ t. Some (f t)) d b s near some none

  repeat_near : {A : Type 0} (turn : A → State → Option (Answer A)) → ((x : A) (s : State) → IsNear n s → Turn (turn x s)) → (k : ℕ) (x : A) (s : State) → IsNear n s → Near (repeat turn k x s)
  unfolding repeat
  repeat_near turn each zero x s near = fine near
  repeat_near {A = A} turn each (suc k) x s near = by (turn x s) (each x s near) (repeat_near turn each k)
    where
      by : (o : Option (Answer A)) → Turn o → ((x : A) (s : State) → IsNear n s → Near (repeat turn k x s)) → Near (option_map_or (λ answer. answer >>= λ r. repeat turn k r.0 r.1) o (Ok (x, s)))
      by None now rest = fine near
      by (Some answer) now rest = bind answer (λ r. repeat turn k r.0 r.1) now (λ r. rest r.0 r.1)

  formed_near : (o : Option Polynomial) (s : State) → IsNear n s → Near (formed o s)
  formed_near None s near = faulty near.start
  formed_near (Some f) s near = fine near

  exponent_near : (t : Token) (s : State) → IsNear n s → Near (exponent_of t s)
  unfolding exponent_of
  exponent_near (Number k) s near = choose_near (is_wide k) _ _ (faulty near.start) (choose_near (nat_lt 1000 k) _ _ (faulty near.start) (fine near))
  exponent_near (Word w) s near = faulty near.start
  exponent_near (Sign b) s near = faulty near.start
  exponent_near BadByte s near = faulty near.start

  variable_near : (m : Meaning) (s : State) → IsNear n s → Near (variable m s)
  unfolding variable
  variable_near (meanings.Variable i) s near = fine near
  variable_near meanings.Unknown s near = faulty near.start
  variable_near meanings.OtherKind s near = faulty near.start

  module _ (F : Field) (meaning : List ℕ → Meaning) where
    module _ (inside : State → Answer Polynomial) (inside_near : (s : State) → IsNear n s → Near (inside s)) where
      atom_near : (t : Token) (s : State) → IsNear n s → Near (atom_of F meaning inside t s)
      unfolding atom_of constant
      atom_near (Number k) s near = choose_near (is_wide k) _ _ (faulty near.start) (fine near)
      atom_near (Word w) s near = variable_near (meaning w) s near
      atom_near (Sign b) s near = choose_near _ _ _ (inside_near s near) (faulty near.start)
      atom_near BadByte s near = faulty near.start

      factor_near : (s : State) → IsNear n s → Near (factor F meaning inside s)
      unfolding factor atom
      factor_near s near =
          bind _ _ (taking_near (atom_of F meaning inside) atom_near s near)
          (λ base now. sign_near _ _ caret base.1 now (λ t behind. bind _ _ (taking_near exponent_of exponent_near t behind) (λ k last. formed_near _ k.1 last)) (fine now))

      times_near : (f : Polynomial) (s : State) → IsNear n s → Turn (times_factor F meaning inside f s)
      unfolding times_factor
      times_near f s near =
          turn_near _ star s near (λ t now. bind _ _ (factor_near t now) (λ g last. formed_near _ g.1 last))

      term_near : (s : State) → IsNear n s → Near (term_at F meaning inside s)
      unfolding term_at
      term_near s near = bind _ _ (factor_near s near) (λ f now. repeat_near (times_factor F meaning inside) times_near _ f.0 f.1 now)

      first_near : (s : State) → IsNear n s → Near (first_term F meaning inside s)
      unfolding first_term
      first_near s near = sign_near _ _ minus s near (λ t now. bind _ _ (term_near t now) (λ f last. fine last)) (term_near s near)

      plus_near : (f : Polynomial) (s : State) → IsNear n s → Turn (plus_term F meaning inside f s)
      unfolding plus_term
      plus_near f s near =
          turn_or _ _ plus s near (λ t now. bind _ _ (term_near t now) (λ g last. formed_near _ g.1 last))
          (turn_near _ minus s near (λ t now. bind _ _ (term_near t now) (λ g last. formed_near _ g.1 last)))

      sum_near : (s : State) → IsNear n s → Near (sum_at F meaning inside s)
      unfolding sum_at
      sum_near s near = bind _ _ (first_near s near) (λ f now. repeat_near (plus_term F meaning inside) plus_near _ f.0 f.1 now)

    parenthesised_near : (depth : ℕ) (s : State) → IsNear n s → Near (parenthesised F meaning depth s)
    unfolding parenthesised
    parenthesised_near zero s near = faulty near.start
    parenthesised_near (suc depth) s near =
        bind _ _ (sum_near (parenthesised F meaning depth) (parenthesised_near depth) s near)
        (λ f now. sign_near _ _ closing f.1 now (λ t last. fine last) (faulty (unexpected_near f.1 now)))

    -- An expression's fault stands within the line.
    pub expression_near : (s : State) → IsNear n s → Near (expression F meaning s)
    unfolding expression
    expression_near s near = sum_near (parenthesised F meaning 64) (parenthesised_near 64) s near
