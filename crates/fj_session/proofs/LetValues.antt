-- The values of the lets that a question uses, one after the other.
use Rattle.std.proofs.Common.{◌≡◌, ◌≢◌, ◌⊎◌, ℕ, ◌+◌, ◌<◌, ◌≤◌, ◌^◌, Bool, true, List, [], ◌∷◌, ◌++◌, length, get_or, All, Option, Some, None, Result, Ok, Err, IfErr, inl, inr, refl, sym, ap, ◌∙◌, subst, arith}
use Rattle.std.specs.List.{slice_get}
use Rattle.std.specs.Result.{IsErrAnd}
use Rattle.std.proofs.lemmas.Bool.{cases_lt}
use Rattle.std.proofs.lemmas.List.{get_or_append_left, get_or_push, length-append}
use Rattle.std.proofs.lemmas.List.Elements.{All-contains, All-head, All-tail, All-weaker}
use Rattle.std.proofs.lemmas.Option.{get_or_from_slice_get, slice_get-get_or, slice_get_within}
use Rattle.fj_algebra.proofs.Pairs.{All-from_elements}
use Rattle.fj_coeff.specs.Field.{Field}
use Rattle.fj_theory.specs.Polynomial.{Polynomial}
use Rattle.fj_plain.specs.declared.order_name.OrderName.{OrderName}
use Rattle.fj_plain.specs.declared.order_name.OrderName.TheVariants.{Grevlex}
use Rattle.fj_basis.specs.declared.stop.Stop.{Stop}
use Rattle.fj_ideal.specs.Ideal.{WithBasis}
use Rattle.fj_script.specs.declared.question.Question.{Question}
use Rattle.fj_script.specs.declared.question.Question.TheVariants as questions
use Rattle.fj_script.specs.declared.script.Env.{Env}
use Rattle.fj_shell.specs.Asked.{IsLetAt, IsOfSession}
use Rattle.fj_shell.specs.Named.{places_in, point_at, polynomial_at}
use Rattle.fj_session.specs.Ideals.{meaning_of_basis, meaning_of_colon, meaning_of_meet, meaning_of_member, meaning_of_power, meaning_of_product, meaning_of_root, meaning_of_same, meaning_of_sum}
use Rattle.fj_session.specs.Lets.{AreValues, IsValue}
use Rattle.fj_session.specs.Meaning.{Meaning}
use Rattle.fj_session.specs.Names.{AreAtHand, IsKept, IsKeptValue, list_of, values_kept}
use Rattle.fj_session.specs.Splittings.{meaning_of_compatible, meaning_of_pure, meaning_of_pure_at, meaning_of_split}
use Rattle.fj_session.specs.Standing.{IsLet, Standing, Uses, Values, standing_at, standing_of}
use Rattle.fj_session.specs.Standing as standing
use Rattle.fj_session.specs.Statement.{meaning_of}
use Rattle.fj_session.specs.Thresholds.{meaning_of_nu, meaning_of_threshold}
use Rattle.fj_session.specs.Used.{AreMarks, HasValues, IsCauseAt, IsCauseFor, IsCauseOfLet, IsMarked, IsValueOf}
use Rattle.fj_session.specs.declared.names.Names.{Names}
use Rattle.fj_session.proofs.Marks.{is_let, marked_within, named_earlier, used_earlier, uses_further}
use Rattle.fj_session.proofs.Standings.{value_there}

-- ---- what a question means depends on the values of the lets that it names, and on no other

module _ (env : Env) (V W : Values) where
  standing_agrees : (j : ℕ) → V j ≡ W j → standing_at env V j ≡ standing_at env W j
  standing_agrees j e = ap (λ L. elim (slice_get env.values j) [ None ↦ record { list = []; is_declared = true } | Some named ↦ standing_of named.1 L ]) e

  abbrev IsSame : ℕ → Type 0
  IsSame j = V j ≡ W j

  first : (j : ℕ) (rest : List ℕ) → All IsSame (j ∷ rest) → standing_at env V j ≡ standing_at env W j
  first j rest same = standing_agrees j (All-head IsSame j rest same)

  second : (i j : ℕ) → All IsSame (i ∷ j ∷ []) → standing_at env V j ≡ standing_at env W j
  second i j same = first j [] (All-tail IsSame i (j ∷ []) same)

  module _ (F : Field) (o : OrderName) (P : Meaning → Type 0) where
    meaning_agrees : (q : Question) → All IsSame (places_in q) → P (meaning_of F env V o q) → P (meaning_of F env W o q)
    meaning_agrees (questions.Parts e f) same h = h
    meaning_agrees (questions.Basis j) same h = subst (λ S. P (meaning_of_basis F o S)) (first j [] same) h
    meaning_agrees (questions.Member f j) same h = subst (λ S. P (meaning_of_member F (polynomial_at env f) S)) (second f j same) h
    meaning_agrees (questions.Same j k) same h = subst (λ S. P (meaning_of_same F (standing_at env W j) S)) (second j k same) (subst (λ S. P (meaning_of_same F S (standing_at env V k))) (first j (k ∷ []) same) h)
    meaning_agrees (questions.Sum j k) same h = subst (λ S. P (meaning_of_sum F o (standing_at env W j) S)) (second j k same) (subst (λ S. P (meaning_of_sum F o S (standing_at env V k))) (first j (k ∷ []) same) h)
    meaning_agrees (questions.Product j k) same h = subst (λ S. P (meaning_of_product F o (standing_at env W j) S)) (second j k same) (subst (λ S. P (meaning_of_product F o S (standing_at env V k))) (first j (k ∷ []) same) h)
    meaning_agrees (questions.Meet j k) same h = subst (λ S. P (meaning_of_meet F o (standing_at env W j) S)) (second j k same) (subst (λ S. P (meaning_of_meet F o S (standing_at env V k))) (first j (k ∷ []) same) h)
    meaning_agrees (questions.Colon j k) same h = subst (λ S. P (meaning_of_colon F o (standing_at env W j) S)) (second j k same) (subst (λ S. P (meaning_of_colon F o S (standing_at env V k))) (first j (k ∷ []) same) h)
    meaning_agrees (questions.Power e j) same h = subst (λ S. P (meaning_of_power F o (F.characteristic ^ e) S)) (first j [] same) h
    meaning_agrees (questions.Root e j) same h = subst (λ S. P (meaning_of_root F o e S)) (first j [] same) h
    meaning_agrees (questions.Test f t) same h = h
    meaning_agrees (questions.Left f t) same h = h
    meaning_agrees (questions.IsJump f t) same h = h
    meaning_agrees (questions.Regular f t) same h = h
    meaning_agrees (questions.Jumps f e) same h = h
    meaning_agrees (questions.Nu e f j) same h = subst (λ S. P (meaning_of_nu F e (polynomial_at env f) S)) (second f j same) h
    meaning_agrees (questions.Threshold f j e) same h = subst (λ S. P (meaning_of_threshold F e (polynomial_at env f) S)) (second f j same) h
    meaning_agrees (questions.ThresholdAt f at e) same h = h
    meaning_agrees (questions.Pure j) same h = subst (λ S. P (meaning_of_pure F S)) (first j [] same) h
    meaning_agrees (questions.PureAt j at) same h = subst (λ S. P (meaning_of_pure_at F S (point_at env at))) (first j (at ∷ []) same) h
    meaning_agrees (questions.Split j) same h = subst (λ S. P (meaning_of_split F o S)) (first j [] same) h
    meaning_agrees (questions.Compatible e u j) same h = subst (λ S. P (meaning_of_compatible F e (polynomial_at env u) S)) (second u j same) h

  value_agrees : (F : Field) (q : Question) {G : List Polynomial} → All IsSame (places_in q) → IsValue F env V q G → IsValue F env W q G
  value_agrees F q same h = record { ideal = h.ideal; asked = meaning_agrees F Grevlex (λ m. m.ideal h.ideal) q same h.asked; reduced = h.reduced }

-- ---- one more value is kept

module _ (lets : List (Option WithBasis)) (value : Option WithBasis) where
  more_there : (j : ℕ) {x : Option WithBasis} → slice_get lets j ≡ Some x → slice_get (lets ++ value ∷ []) j ≡ Some x
  more_there j {x} e =
      let within = slice_get_within lets j x e in
      slice_get-get_or (lets ++ value ∷ []) j x (let longer = length-append lets (value ∷ []) in omega (arith, within, longer)) ∙ ap Some (get_or_append_left lets (value ∷ []) x j within ∙ get_or_from_slice_get lets j x x e)

  last_there : slice_get (lets ++ value ∷ []) (length lets) ≡ Some value
  last_there = slice_get-get_or (lets ++ value ∷ []) (length lets) value (let longer = length-append lets (value ∷ []) in omega (arith, longer)) ∙ ap Some (get_or_push lets value value (length lets) refl)

  more_same : (j : ℕ) → j < length lets → values_kept lets j ≡ values_kept (lets ++ value ∷ []) j
  more_same j within = by (get_or lets j value) (slice_get-get_or lets j value within)
    where
      there : {x : Option WithBasis} (xs : List (Option WithBasis)) → slice_get xs j ≡ Some x → values_kept xs j ≡ list_of x
      there xs e = rw (e, values_kept) refl

      by : (x : Option WithBasis) → slice_get lets j ≡ Some x → values_kept lets j ≡ values_kept (lets ++ value ∷ []) j
      by x e = there lets e ∙ sym (there (lets ++ value ∷ []) (more_there j e))

-- The values of the lets before this place that the question uses are kept.
pub record AreValuesTo {K : Type 0} (F : Field) (env : Env) (question : Question) (place : ℕ) (names : Names K) : Type 0 where
  pub env_there : names.env.now ≡ env
  pub long : length names.lets.items ≡ place
  pub kept : (j budget : ℕ) (asked : Question) → j < place → Uses env question j budget asked → IsKept F names j
  pub values : (j budget : ℕ) (asked : Question) → j < place → Uses env question j budget asked → IsValue F env (values_kept names.lets.items) asked (values_kept names.lets.items j)

module _ {K : Type 0} {F : Field} {env : Env} {question : Question} (session : IsOfSession env) {marks : List Bool} (M : AreMarks env question marks) {place : ℕ} {names : Names K} (N : AreValuesTo F env question place names) where
  let_in : {j budget : ℕ} {asked : Question} → IsLet names.env.now j budget asked → IsLet env j budget asked
  let_in {j} {budget} {asked} h = subst (λ e. IsLet e j budget asked) N.env_there h

  -- What a marked let names is at hand.
  pub named_at_hand : IsMarked marks place → {budget : ℕ} {asked : Question} → IsLet names.env.now place budget asked → AreAtHand F names asked
  named_at_hand marked {budget} {asked} h =
      let here = let_in h in
      let uses = M.only place budget asked marked here in
      All-from_elements (λ j. IsLetAt names.env.now j → IsKept F names j) (places_in asked)
      (λ j there l. N.kept j l.budget l.question (All-contains (λ i. i < place) (places_in asked) j (named_earlier env session here) there) (standing.through uses there (let_in (record { name = l.name; stands = l.stands }))))

  module _ (value : Option WithBasis) (of_let : IsMarked marks place → (budget : ℕ) (asked : Question) → IsLet names.env.now place budget asked → IsValueOf F names asked value) (new : Names K) (same_env : new.env.now ≡ names.env.now)
      (pushed : new.lets.items ≡ names.lets.items ++ value ∷ []) where
    kept_more : {j : ℕ} → IsKept F names j → IsKept F new j
    kept_more {j} h = record {
      is_let = subst (λ e. IsLetAt e j) (sym same_env) h.is_let;
      J = h.J;
      stands = subst (λ xs. slice_get xs j ≡ Some (Some h.J)) (sym pushed) (more_there names.lets.items value j h.stands);
      value = subst (λ e. IsKeptValue F (length e.vars) h.J) (sym same_env) h.value;
    }

    same_before : (j : ℕ) → j < place → values_kept names.lets.items j ≡ values_kept new.lets.items j
    same_before j before = subst (λ xs. values_kept names.lets.items j ≡ values_kept xs j) (sym pushed) (more_same names.lets.items value j (let long = N.long in omega (arith, before, long)))

    agrees : {j budget : ℕ} {asked : Question} → j ≤ place → IsLet env j budget asked → All (λ i. values_kept names.lets.items i ≡ values_kept new.lets.items i) (places_in asked)
    agrees {j} {budget} {asked} before h =
        All-weaker (λ i. i < j) (λ i. values_kept names.lets.items i ≡ values_kept new.lets.items i) (λ i below. same_before i (omega (arith, below, before))) (places_in asked) (named_earlier env session h)

    value_more : {j budget : ℕ} {asked : Question} → j ≤ place → IsLet env j budget asked → {G : List Polynomial} → IsValue F env (values_kept names.lets.items) asked G → IsValue F env (values_kept new.lets.items) asked G
    value_more {j} {budget} {asked} before h v = value_agrees env (values_kept names.lets.items) (values_kept new.lets.items) F asked (agrees before h) v

    last_is : {J : WithBasis} → value ≡ Some J → slice_get new.lets.items place ≡ Some (Some J)
    last_is {J} is =
        subst (λ xs. slice_get xs place ≡ Some (Some J)) (sym pushed)
        (subst (λ n. slice_get (names.lets.items ++ value ∷ []) n ≡ Some (Some J)) N.long (last_there names.lets.items value ∙ ap Some is))

    own : {budget : ℕ} {asked : Question} → Uses env question place budget asked → IsValueOf F names asked value
    own {budget} {asked} uses = of_let (M.used place budget asked uses) budget asked (subst (λ e. IsLet e place budget asked) (sym N.env_there) (is_let uses))

    own_kept : {budget : ℕ} {asked : Question} → Uses env question place budget asked → IsKept F new place
    own_kept {budget} {asked} uses =
        let o = own uses in
        let l = is_let uses in
        let there = N.env_there in
        record {
          is_let = subst (λ e. IsLetAt e place) (sym (same_env ∙ there)) (record { session = session; name = l.name; budget = budget; question = asked; stands = l.stands });
          J = o.J;
          stands = last_is o.is;
          value = subst (λ e. IsKeptValue F (length e.vars) o.J) (sym same_env) o.value;
        }

    own_value : {budget : ℕ} {asked : Question} → Uses env question place budget asked → IsValue F env (values_kept new.lets.items) asked (values_kept new.lets.items place)
    own_value {budget} {asked} uses =
        let o = own uses in
        subst (IsValue F env (values_kept new.lets.items) asked) (sym (value_there new.lets.items place (last_is o.is)))
        (value_more (omega arith) (is_let uses) (subst (λ e. IsValue F e (values_kept names.lets.items) asked o.J.given) N.env_there o.of_question))

    -- One more place.
    pub values_next : AreValuesTo F env question (place + 1) new
    values_next = record {
      env_there = same_env ∙ N.env_there;
      long = ap length pushed ∙ length-append names.lets.items (value ∷ []) ∙ ap (λ n. n + 1) N.long;
      kept = λ j b a before uses. kept j b a before uses (cases_lt j place);
      values = λ j b a before uses. values j b a before uses (cases_lt j place);
    }
      where
        kept : (j b : ℕ) (a : Question) → j < place + 1 → Uses env question j b a → (j < place) ⊎ (place ≤ j) → IsKept F new j
        kept j b a before uses (inl l) = kept_more (N.kept j b a l uses)
        kept j b a before uses (inr ge) =
            let is : j ≡ place = omega (arith, before, ge) in
            subst (IsKept F new) (sym is) (own_kept (subst (λ n. Uses env question n b a) is uses))

        values : (j b : ℕ) (a : Question) → j < place + 1 → Uses env question j b a → (j < place) ⊎ (place ≤ j) → IsValue F env (values_kept new.lets.items) a (values_kept new.lets.items j)
        values j b a before uses (inl l) =
            subst (IsValue F env (values_kept new.lets.items) a) (same_before j l) (value_more (omega (arith, l)) (is_let uses) (N.values j b a l uses))
        values j b a before uses (inr ge) =
            let is : j ≡ place = omega (arith, before, ge) in
            subst (λ n. IsValue F env (values_kept new.lets.items) a (values_kept new.lets.items n)) (sym is) (own_value (subst (λ n. Uses env question n b a) is uses))

  -- Why a let stops that is marked.
  pub cause_of_let : IsMarked marks place → (s : Stop) → IsCauseAt F names place s → IsCauseOfLet F env question s
  cause_of_let marked s h =
      let here = let_in h.is_let in
      let uses = M.only place h.budget h.asked marked here in
      record {
        place = place;
        budget = h.budget;
        asked = h.asked;
        uses = uses;
        values = values_kept names.lets.items;
        are_values = λ p b k further. N.values p b k (used_earlier env session here further) (uses_further uses further);
        cause = subst (λ e. IsCauseFor F (meaning_of F e (values_kept names.lets.items) Grevlex h.asked) h.budget s) N.env_there h.cause;
      }

  -- After the last place all are kept.
  pub values_all : place ≡ length marks → HasValues F env question names
  values_all end = record {
    env_there = N.env_there;
    kept = λ j b a uses. N.kept j b a (within uses) uses;
    values = λ j b a uses. N.values j b a (within uses) uses;
  }
    where
      within : {j b : ℕ} {a : Question} → Uses env question j b a → j < place
      within {j} {b} {a} uses = subst (λ n. j < n) (sym end) (marked_within marks j (M.used j b a uses))

-- Where the lets have their values, what the question names is at hand.
pub hand_of_values : {K : Type 0} {F : Field} {question : Question} (names : Names K) → HasValues F names.env.now question names → AreAtHand F names question
hand_of_values {F = F} {question = question} names H =
    All-from_elements (λ j. IsLetAt names.env.now j → IsKept F names j) (places_in question)
    (λ j there l. H.kept j l.budget l.question (standing.itself there (record { name = l.name; stands = l.stands })))

-- A stop that is handed on.
pub err_handed : {T : Type 0} (P : Stop → Type 0) (s : Stop) (r : Result T Stop) → IsErrAnd r (λ y. y ≡ s) → P s → IfErr r P
err_handed P s (Ok x) is h = absurd is
err_handed P s (Err y) is h = subst P (sym is) h

-- Before the first place none is.
pub values_start : {K : Type 0} (F : Field) (env : Env) (question : Question) (names : Names K) → names.env.now ≡ env → names.lets.items ≡ [] → AreValuesTo F env question 0 names
values_start F env question names there empty = record {
  env_there = there;
  long = ap length empty;
  kept = λ j b a before uses. absurd (omega (arith, before));
  values = λ j b a before uses. absurd (omega (arith, before));
}
