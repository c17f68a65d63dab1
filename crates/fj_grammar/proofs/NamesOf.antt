-- What tells a word that is a name of a session from one that isn't.
use Rattle.std.proofs.Common.{◌≡◌, ℕ, ◌<◌, Bool, true, false, cond, ◌||◌, List, [], length, get_or, Contains, Option, Some, None, refl, sym, ap, ◌∙◌, arith, inl, inr, ⊎_elim}
use Rattle.std.specs.List.{slice_get}
use Rattle.std.specs.Option.{is_some, option_and_then, option_map, option_map_or}
use Rattle.std.specs.Str.{bytes_eq}
use Rattle.std.proofs.lemmas.Bool.{cases_lt}
use Rattle.std.proofs.lemmas.List.{length-map}
use Rattle.std.proofs.lemmas.List.Quantifiers.{position-Some}
use Rattle.std.proofs.lemmas.Option.{get_or_from_slice_get, none-some, slice_get-get_or, slice_get-map, slice_get_past}
use Rattle.std.proofs.lemmas.Slice.Eq.{bytes_eq-Decides}
use Rattle.fj_text.specs.declared.scope.Meaning.TheVariants as meanings
use Rattle.fj_text.specs.Word.{place_of}
use Rattle.fj_script.specs.declared.value.Kind.{Kind}
use Rattle.fj_script.specs.declared.value.Kind.TheVariants as values
use Rattle.fj_script.specs.Names as names
use Rattle.fj_script.specs.Session.{Session, Terms, Value, Poly, Ideal, Point, Let, is_nonconstant, kind}
use Rattle.fj_grammar.specs.Wrong.{IsNameIn}
use Rattle.fj_grammar.proofs.GrammarPieces.{Declares, new_word}

pub contains_at : {X : Type 0} (xs : List X) (i : ℕ) (x : X) → slice_get xs i ≡ Some x → Contains xs x
contains_at xs i x e = (i, ⊎_elim (λ (inside : i < length xs). inside) (λ past. absurd (none-some _ (sym (slice_get_past xs i past) ∙ e))) (cases_lt i (length xs)), get_or_from_slice_get xs i x x e)

pub found_among : (vs : List (List ℕ)) (w : List ℕ) → is_some (place_of vs w) ≡ true → Contains vs w
found_among vs w = by (place_of vs w) refl
  where
    by : (o : Option ℕ) → place_of vs w ≡ o → is_some o ≡ true → Contains vs w
    by None e some = absurd cc
    by (Some i) e some = let p = position-Some (λ name. bytes_eq name w) vs i w e in (i, p.0, (bytes_eq-Decides _ _).0 p.1)

module _ (S : Session) (w : List ℕ) where
  pub declared_found : (i : ℕ) → place_of (names.declared_names S.values) w ≡ Some i → (v : Value) × (slice_get S.values i ≡ Some (w, v))
  declared_found i e =
      let p = position-Some (λ name. bytes_eq name w) (names.declared_names S.values) i [] e in
      let long = length-map S.values (λ (v : List ℕ × Value). v.0) in
      let x : List ℕ × Value = get_or S.values i ([], Point []) in
      let found : slice_get S.values i ≡ Some x = slice_get-get_or S.values i ([], Point []) (omega (arith, p.0, long)) in
      let called : get_or (names.declared_names S.values) i [] ≡ x.0 = get_or_from_slice_get (names.declared_names S.values) i x.0 [] (slice_get-map (λ v. v.0) S.values i ∙ ap (option_map (λ v. v.0)) found) in
      (x.1, found ∙ ap (λ v. Some (v, x.1)) (sym called ∙ (bytes_eq-Decides _ _).0 p.1))

  name_of_variable : names.is_variable S w ≡ true → IsNameIn S w
  name_of_variable e = inl (found_among S.variables w e)

  name_of_declared : is_some (place_of (names.declared_names S.values) w) ≡ true → IsNameIn S w
  name_of_declared = by (place_of (names.declared_names S.values) w) refl
    where
      by : (o : Option ℕ) → place_of (names.declared_names S.values) w ≡ o → is_some o ≡ true → IsNameIn S w
      by None e some = absurd cc
      by (Some i) e some = let x = declared_found i e in inr (x.0, contains_at S.values i (w, x.0) x.1)

  pub name_of : (names.is_variable S w || is_some (place_of (names.declared_names S.values) w)) ≡ true → IsNameIn S w
  name_of = by (names.is_variable S w) (is_some (place_of (names.declared_names S.values) w)) refl refl
    where
      by : (a b : Bool) → names.is_variable S w ≡ a → is_some (place_of (names.declared_names S.values) w) ≡ b → (a || b) ≡ true → IsNameIn S w
      by true b variable declared e = name_of_variable variable
      by false true variable declared e = name_of_declared declared
      by false false variable declared e = absurd cc

  no_name : (names.is_variable S w || is_some (place_of (names.declared_names S.values) w)) ≡ false → IsNameIn S w → ⊥
  no_name e (inl (i, inside, is)) = let new = new_word S w e in new.0 i w inside is
  no_name e (inr (v, (i, inside, is))) = let new = new_word S w e in new.1 i (w, v) inside (ap (λ x. x.0) is)

  undeclared : names.declared_as S w ≡ None → is_some (place_of (names.declared_names S.values) w) ≡ false
  unfolding names.declared_as
  undeclared = by (place_of (names.declared_names S.values) w) refl
    where
      by : (o : Option ℕ) → place_of (names.declared_names S.values) w ≡ o → option_and_then {U = ℕ × Kind} (λ i. option_map {U = ℕ × Kind} (λ v. (i, kind v.1)) (slice_get S.values i)) o ≡ None → is_some o ≡ false
      by None e none = refl
      by (Some i) e none = let x = declared_found i e in absurd (none-some _ (sym none ∙ ap (option_map {U = ℕ × Kind} (λ v. (i, kind v.1))) x.1))

  -- a word that isn't declared: a variable, or no name
  pub unless_declared : names.declared_as S w ≡ None → (b : Bool) → names.is_variable S w ≡ b → cond b (IsNameIn S w) (IsNameIn S w → ⊥)
  unless_declared none true e = name_of_variable e
  unless_declared none false e = no_name (ap (λ b. b || is_some (place_of (names.declared_names S.values) w)) e ∙ undeclared none)

  pub unknown_meaning : names.meaning S w ≡ meanings.Unknown → IsNameIn S w → ⊥
  unfolding names.meaning
  unknown_meaning e = no_name (by (place_of S.variables w) (is_some (place_of (names.declared_names S.values) w)) e)
    where
      by : (o : Option ℕ) (b : Bool) → option_map_or (λ i. meanings.Variable i) o (names.unless_declared b) ≡ meanings.Unknown → (is_some o || b) ≡ false
      by None false e = refl
      by None true e = absurd cc
      by (Some i) b e = absurd cc

  pub other_meaning : names.meaning S w ≡ meanings.OtherKind → IsNameIn S w
  unfolding names.meaning
  other_meaning e = name_of_declared (by (place_of S.variables w) (is_some (place_of (names.declared_names S.values) w)) e)
    where
      by : (o : Option ℕ) (b : Bool) → option_map_or (λ i. meanings.Variable i) o (names.unless_declared b) ≡ meanings.OtherKind → b ≡ true
      by None true e = refl
      by None false e = absurd cc
      by (Some i) b e = absurd cc

  pub declared_name : (i : ℕ) (k : Kind) → Declares S w i k → IsNameIn S w
  declared_name i k (v, is, e) = inr (v, contains_at S.values i (w, v) is)

  pub declared_constant : (i : ℕ) → Declares S w i values.Constant → (f : Terms) × Contains S.values (w, Poly f) × (is_nonconstant f ≡ false)
  declared_constant i (v, is, e) = by v is e
    where
      test : (f : Terms) (b : Bool) → is_nonconstant f ≡ b → cond b values.Nonconstant values.Constant ≡ values.Constant → is_nonconstant f ≡ false
      test f true is e = absurd cc
      test f false is e = is

      by : (v : Value) → slice_get S.values i ≡ Some (w, v) → kind v ≡ values.Constant → (f : Terms) × Contains S.values (w, Poly f) × (is_nonconstant f ≡ false)
      by (Poly f) is e = (f, contains_at S.values i (w, Poly f) is, test f (is_nonconstant f) refl e)
      by (Ideal fs) is e = absurd cc
      by (Point cs) is e = absurd cc
      by (Let b q) is e = absurd cc
