-- Which lets a question uses, and lists of marks.
use Rattle.std.proofs.Common.{◌≡◌, ◌≢◌, ◌⊎◌, ℕ, ◌+◌, ◌<◌, ◌≤◌, Bool, true, false, List, [], ◌∷◌, length, set, get_or, replicate, max, All, Contains, Some, inl, inr, refl, sym, ap, ◌∙◌, subst, arith}
use Rattle.std.specs.List.{slice_get}
use Rattle.std.proofs.lemmas.Option.{same_Some, slice_get-get_or}
use Rattle.std.proofs.lemmas.Bool.{cases_eq, cases_lt, true≢false}
use Rattle.std.proofs.lemmas.List.{get_or-set_same, get_or-set_other, get_or_past, get_or-replicate, length-replicate, length-set}
use Rattle.std.proofs.lemmas.List.Elements.{All-contains, All-contains_itself, All-cons, All-head, All-nil, All-tail, All-weaker}
use Rattle.fj_script.specs.declared.question.Question.{Question}
use Rattle.fj_script.specs.declared.script.Env.{Env}
use Rattle.fj_script.specs.declared.value.Value.{Value}
use Rattle.fj_script.specs.declared.value.Value.TheVariants as values
use Rattle.fj_shell.specs.Asked.{IsLetAt, IsOfSession}
use Rattle.fj_shell.specs.Named.{places_in}
use Rattle.fj_shell.proofs.Lets.{let_earlier}
use Rattle.fj_session.specs.Standing.{IsLet, Uses}
use Rattle.fj_session.specs.Standing as standing
use Rattle.fj_session.specs.Used.{AreMarkedFrom, AreMarks, AreNamesOf, IsMarked, MarksNames}

-- ---- the names of a question

pub one_name : {given : Question} (q : Question) → given ≡ q → (j : ℕ) → places_in q ≡ j ∷ [] → AreNamesOf given j j
one_name q is j names =
    subst (λ k. AreNamesOf k j j) (sym is) (record {
      first_there = All-head (Contains (places_in q)) j [] (subst (All (Contains (places_in q))) names (All-contains_itself (places_in q)));
      second_there = All-head (Contains (places_in q)) j [] (subst (All (Contains (places_in q))) names (All-contains_itself (places_in q)));
      all = subst (All (λ i. (i ≡ j) ⊎ (i ≡ j))) (sym names) (All-cons (λ i. (i ≡ j) ⊎ (i ≡ j)) j [] (inl refl) (All-nil (λ i. (i ≡ j) ⊎ (i ≡ j))));
    })

pub two_names : {given : Question} (q : Question) → given ≡ q → (j k : ℕ) → places_in q ≡ j ∷ k ∷ [] → AreNamesOf given j k
two_names q is j k names =
    let IsOne : ℕ → Type 0 = λ i. (i ≡ j) ⊎ (i ≡ k) in
    let each = subst (All (Contains (places_in q))) names (All-contains_itself (places_in q)) in
    subst (λ g. AreNamesOf g j k) (sym is) (record {
      first_there = All-head (Contains (places_in q)) j (k ∷ []) each;
      second_there = All-contains (Contains (places_in q)) (j ∷ k ∷ []) k each (All-contains_second j k);
      all = subst (All IsOne) (sym names) (All-cons IsOne j (k ∷ []) (inl refl) (All-cons IsOne k [] (inr refl) (All-nil IsOne)));
    })
  where
    All-contains_second : (j k : ℕ) → Contains (j ∷ k ∷ []) k
    All-contains_second j k = All-head (Contains (j ∷ k ∷ [])) k [] (All-tail (Contains (j ∷ k ∷ [])) j (k ∷ []) (All-contains_itself (j ∷ k ∷ [])))

-- ---- lists of marks

pub marked_within : (marks : List Bool) (j : ℕ) → IsMarked marks j → j < length marks
marked_within marks j is = by (cases_lt j (length marks))
  where
    by : (j < length marks) ⊎ (length marks ≤ j) → j < length marks
    by (inl l) = l
    by (inr past) = absurd (true≢false (sym is ∙ get_or_past marks j false past))

pub max_below : (a b n : ℕ) → a < n → b < n → max a b < n
max_below a b n one two = omega (arith, one, two)

-- Where all are false none is.
pub none_marked : (n : ℕ) {marks : List Bool} → marks ≡ replicate n false → (j : ℕ) → IsMarked marks j → ⊥
none_marked n {marks} are j is =
    let inside = marked_within marks j is in
    let long : length marks ≡ n = ap length are ∙ length-replicate n false in
    true≢false (sym is ∙ ap (λ xs. get_or xs j false) are ∙ get_or-replicate n j false false (omega (arith, inside, long)))

-- One more mark.
module _ (marks : List Bool) (i : ℕ) (within : i < length marks) where
  pub mark_own : IsMarked (set marks i true) i
  mark_own = get_or-set_same marks i true false within

  pub mark_kept : (j : ℕ) → IsMarked marks j → IsMarked (set marks i true) j
  mark_kept j is = by (cases_eq j i)
    where
      by : (j ≡ i) ⊎ (j ≢ i) → IsMarked (set marks i true) j
      by (inl e) = subst (IsMarked (set marks i true)) (sym e) mark_own
      by (inr n) = get_or-set_other marks i j true false n ∙ is

  pub mark_only : (j : ℕ) → IsMarked (set marks i true) j → IsMarked marks j ⊎ (j ≡ i)
  mark_only j is = by (cases_eq j i)
    where
      by : (j ≡ i) ⊎ (j ≢ i) → IsMarked marks j ⊎ (j ≡ i)
      by (inl e) = inr e
      by (inr n) = inl (sym (get_or-set_other marks i j true false n) ∙ is)

-- The names of a question are marked, one after the other.
pub marks_names : (q : Question) (marks : List Bool) (first second : ℕ) → AreNamesOf q first second → All (λ j. j < length marks) (places_in q) → MarksNames q marks (set (set marks first true) second true)
marks_names q marks first second names within =
    let one = All-contains (λ j. j < length marks) (places_in q) first within names.first_there in
    let long = length-set marks first true in
    let two : second < length (set marks first true) = let l = All-contains (λ j. j < length marks) (places_in q) second within names.second_there in omega (arith, l, long) in
    let own = mark_own (set marks first true) second two in
    let kept = mark_kept (set marks first true) second two in
    record {
      long = length-set (set marks first true) second true ∙ long;
      kept = λ j is. kept j (mark_kept marks first one j is);
      named = All-weaker (λ j. (j ≡ first) ⊎ (j ≡ second)) (IsMarked (set (set marks first true) second true)) (each own (kept first (mark_own marks first one))) (places_in q) names.all;
      only = λ j is. only one two j (mark_only (set marks first true) second two j is);
    }
  where
    each : IsMarked (set (set marks first true) second true) second → IsMarked (set (set marks first true) second true) first → (j : ℕ) → (j ≡ first) ⊎ (j ≡ second) → IsMarked (set (set marks first true) second true) j
    each own there j (inl e) = subst (IsMarked (set (set marks first true) second true)) (sym e) there
    each own there j (inr e) = subst (IsMarked (set (set marks first true) second true)) (sym e) own

    once : first < length marks → (j : ℕ) → IsMarked marks j ⊎ (j ≡ first) → IsMarked marks j ⊎ Contains (places_in q) j
    once one j (inl is) = inl is
    once one j (inr e) = inr (subst (Contains (places_in q)) (sym e) names.first_there)

    only : first < length marks → second < length (set marks first true) → (j : ℕ) → IsMarked (set marks first true) j ⊎ (j ≡ second) → IsMarked marks j ⊎ Contains (places_in q) j
    only one two j (inl is) = once one j (mark_only marks first one j is)
    only one two j (inr e) = inr (subst (Contains (places_in q)) (sym e) names.second_there)

-- ---- the lets that a question uses

-- What is used is a let.
pub is_let : {env : Env} {q : Question} {place budget : ℕ} {k : Question} → Uses env q place budget k → IsLet env place budget k
is_let (standing.itself there is) = is
is_let (standing.through uses there is) = is

module _ (env : Env) (session : IsOfSession env) where
  abbrev pub let_at : {place budget : ℕ} {q : Question} → IsLet env place budget q → IsLetAt env place
  let_at {place} {budget} {q} h = record { session = session; name = h.name; budget = budget; question = q; stands = h.stands }

  -- A let names what stands before it.
  pub named_earlier : {place budget : ℕ} {q : Question} → IsLet env place budget q → All (λ j. j < place) (places_in q)
  named_earlier {place} h = let_earlier env place (let_at h)

  -- It uses lets that stand before it.
  pub used_earlier : {place budget : ℕ} {q : Question} → IsLet env place budget q → {p b : ℕ} {k : Question} → Uses env q p b k → p < place
  used_earlier {place} {budget} {q} h {p} (standing.itself there is) = All-contains (λ j. j < place) (places_in q) p (named_earlier h) there
  used_earlier {place} {budget} {q} h {p} (standing.through {between = between} {other = other} uses there is) =
      let first = used_earlier h uses in
      let next = All-contains (λ j. j < between) (places_in other) p (named_earlier (is_let uses)) there in
      omega (arith, first, next)

-- What a let uses that a question uses, the question uses.
pub uses_further : {env : Env} {q : Question} {place budget : ℕ} {k : Question} → Uses env q place budget k → {p b : ℕ} {l : Question} → Uses env k p b l → Uses env q p b l
uses_further uses (standing.itself there is) = standing.through uses there is
uses_further uses (standing.through more there is) = standing.through (uses_further uses more) there is

-- A mark that is read.
pub marked_read : (xs : List Bool) (i : ℕ) (b : Bool) → i < length xs → b ≡ get_or xs i b → b ≡ true → IsMarked xs i
marked_read xs i b within read is = same_Some _ _ (sym (slice_get-get_or xs i false within) ∙ slice_get-get_or xs i b within) ∙ sym read ∙ is

pub read_marked : (xs : List Bool) (i : ℕ) (b : Bool) → i < length xs → b ≡ get_or xs i b → IsMarked xs i → b ≡ true
read_marked xs i b within read is = read ∙ same_Some _ _ (sym (slice_get-get_or xs i b within) ∙ slice_get-get_or xs i false within) ∙ is

-- A let that is read.
pub let_here : {env : Env} {place budget : ℕ} {q : Question} {name : List ℕ} {v : Value} → slice_get env.values place ≡ Some (name, v) → v ≡ values.Let budget q → IsLet env place budget q
let_here {name = name} stands is = record { name = name; stands = stands ∙ ap (λ x. Some (name, x)) is }

-- A place has one value.
pub one_let : (env : Env) {place budget limit : ℕ} {q k : Question} → IsLet env place budget q → IsLet env place limit k → q ≡ k
one_let env g h = same_let (ap (λ (v : List ℕ × Value). v.1) (same_Some _ _ (sym g.stands ∙ h.stands)))
  where
    same_let : {budget limit : ℕ} {q k : Question} → values.Let budget q ≡ values.Let limit k → q ≡ k
    same_let e = cc

-- Where the let at a place is marked, the names of its question are.
pub marked_from_let : (env : Env) → IsOfSession env → {place budget : ℕ} {q : Question} {old new : List Bool} → IsMarked old place → IsLet env place budget q → MarksNames q old new → AreMarkedFrom env place old new
marked_from_let env session {place} {budget} {q} {old} {new} marked here S = record {
  long = S.long;
  kept = S.kept;
  named = λ b k m h. subst (λ l. All (IsMarked new) (places_in l)) (one_let env here h) S.named;
  only = λ j is. only j (S.only j is);
  above = λ j far is. above j far (S.only j is);
}
  where
    only : (j : ℕ) → IsMarked old j ⊎ Contains (places_in q) j → IsMarked old j ⊎ ((budget : ℕ) × (asked : Question) × IsMarked old place × IsLet env place budget asked × Contains (places_in asked) j)
    only j (inl is) = inl is
    only j (inr there) = inr (budget, q, marked, here, there)

    above : (j : ℕ) → place ≤ j → IsMarked old j ⊎ Contains (places_in q) j → IsMarked old j
    above j far (inl is) = is
    above j far (inr there) = absurd (let earlier = All-contains (λ i. i < place) (places_in q) j (named_earlier env session here) there in omega (arith, earlier, far))

-- The marks after a pass over the places from n down, i of them.
pub record AreMarkedTo (env : Env) (question : Question) (n i : ℕ) (marks : List Bool) : Type 0 where
  pub long : length marks ≡ n
  pub within : n ≤ length env.values
  pub first : All (IsMarked marks) (places_in question)
  pub closed : (place budget : ℕ) (asked : Question) → n ≤ place + i → IsMarked marks place → IsLet env place budget asked → All (IsMarked marks) (places_in asked)
  pub only : (place budget : ℕ) (asked : Question) → IsMarked marks place → IsLet env place budget asked → Uses env question place budget asked

module _ {env : Env} {question : Question} {n : ℕ} where
  -- The pass goes on.
  pub marked_next : {i place : ℕ} {old new : List Bool} → place + (i + 1) ≡ n → AreMarkedTo env question n i old → AreMarkedFrom env place old new → AreMarkedTo env question n (i + 1) new
  marked_next {i} {place} {old} {new} at M S = record {
    long = S.long ∙ M.long;
    within = M.within;
    first = All-weaker (IsMarked old) (IsMarked new) S.kept (places_in question) M.first;
    closed = λ p b a far is h. closed p b a far is h (cases_eq p place);
    only = λ p b a is h. only p b a h (S.only p is);
  }
    where
      closed : (p b : ℕ) (a : Question) → n ≤ p + (i + 1) → IsMarked new p → IsLet env p b a → (p ≡ place) ⊎ (p ≢ place) → All (IsMarked new) (places_in a)
      closed p b a far is h (inl e) =
          S.named b a (S.above place (omega arith) (subst (IsMarked new) e is)) (subst (λ k. IsLet env k b a) e h)
      closed p b a far is h (inr other) =
          All-weaker (IsMarked old) (IsMarked new) S.kept (places_in a) (M.closed p b a (omega (arith, at, far, other)) (S.above p (omega (arith, at, far, other)) is) h)

      only : (p b : ℕ) (a : Question) → IsLet env p b a → IsMarked old p ⊎ ((budget : ℕ) × (asked : Question) × IsMarked old place × IsLet env place budget asked × Contains (places_in asked) p) → Uses env question p b a
      only p b a h (inl is) = M.only p b a is h
      only p b a h (inr (budget, asked, marked, named, there)) = standing.through (M.only place budget asked marked named) there h

  -- Before it the names of the question are marked.
  pub marked_start : {old new : List Bool} → ((j : ℕ) → IsMarked old j → ⊥) → length new ≡ n → n ≤ length env.values → MarksNames question old new → AreMarkedTo env question n 0 new
  marked_start {old} {new} none long within S = record {
    long = long;
    within = within;
    first = S.named;
    closed = λ p b a far is h. absurd (let inside = marked_within new p is in omega (arith, inside, long, far));
    only = λ p b a is h. only p b a h (S.only p is);
  }
    where
      only : (p b : ℕ) (a : Question) → IsLet env p b a → IsMarked old p ⊎ Contains (places_in question) p → Uses env question p b a
      only p b a h (inl is) = absurd (none p is)
      only p b a h (inr there) = standing.itself there h

  -- After the pass the marks are those of the question.
  pub marked_all : {marks : List Bool} → AreMarkedTo env question n n marks → AreMarks env question marks
  marked_all {marks} M = record { within = subst (λ k. k ≤ length env.values) (sym M.long) M.within; used = used; only = M.only }
    where
      used : (place budget : ℕ) (asked : Question) → Uses env question place budget asked → IsMarked marks place
      used place budget asked (standing.itself there is) = All-contains (IsMarked marks) (places_in question) place M.first there
      used place budget asked (standing.through {between = between} {limit = limit} {other = other} uses there is) =
          All-contains (IsMarked marks) (places_in other) place (M.closed between limit other (omega arith) (used between limit other uses) (is_let uses)) there
