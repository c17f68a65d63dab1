-- What is known of a question of an accepted session: its names stand for values of the kinds that it takes, and its
-- numbers keep their limits.
use Rattle.std.proofs.Common.{◌≡◌, ℕ, ◌*◌, ◌^◌, ◌<◌, ◌≤◌, ◌⊎◌, inl, inr, Bool, true, false, cond, List, [], ◌∷◌, ◌++◌, length-append, Option, Some, None, refl, ap, ◌∙◌, arith}
use Rattle.std.specs.List.{slice_get}
use Rattle.std.proofs.lemmas.List.{get_or_append_left}
use Rattle.std.proofs.lemmas.Option.{get_or_from_slice_get, slice_get-get_or, slice_get_within}
use Rattle.fj_theory.specs.Fraction.{Fraction}
use Rattle.fj_script.specs.declared.fault.FaultKind.{FaultKind}
use Rattle.fj_script.specs.declared.question.Question.{Question}
use Rattle.fj_script.specs.declared.question.Question.TheVariants as questions
use Rattle.fj_script.specs.declared.value.Kind.{Kind}
use Rattle.fj_script.specs.declared.value.Kind.TheVariants as kinds
use Rattle.fj_script.specs.Names as names
use Rattle.fj_script.specs.Session.{Terms, Value, Poly, Ideal, Point, Let, is_nonconstant, kind}

-- The name at this place stands for a value of a kind that is taken.
pub record Names (taken : Kind → Option FaultKind) (values : List (List ℕ × Value)) (place : ℕ) : Type 0 where
  pub name : List ℕ
  pub value : Value
  pub is : slice_get values place ≡ Some (name, value)
  pub fits : taken (kind value) ≡ None

abbrev pub NamesPoly : List (List ℕ × Value) → ℕ → Type 0
NamesPoly values place = Names names.as_polynomial values place

abbrev pub NamesNonconstant : List (List ℕ × Value) → ℕ → Type 0
NamesNonconstant values place = Names names.as_nonconstant values place

abbrev pub NamesIdeal : List (List ℕ × Value) → ℕ → Type 0
NamesIdeal values place = Names names.as_ideal values place

abbrev pub NamesPoint : List (List ℕ × Value) → ℕ → Type 0
NamesPoint values place = Names names.as_point values place

-- E: at least 1, with p^E at most 65,536.
pub record IsLevel (p e : ℕ) : Type 0 where
  pub positive : 0 < e
  pub low : p ^ e ≤ 65536

-- t: at most 8, with a denominator of at most 65,535, and above 0 where it has to be.
pub record IsExponent (positive : Bool) (t : Fraction) : Type 0 where
  pub denominator : t.denominator ≤ 65535
  pub low : t.numerator ≤ 8 * t.denominator
  pub above : positive ≡ true → 0 < t.numerator

abbrev pub IsSoundQuestion : ℕ → List (List ℕ × Value) → Question → Type 0
IsSoundQuestion p values (questions.Parts e f) = (e ≤ 12) × NamesPoly values f
IsSoundQuestion p values (questions.Basis j) = NamesIdeal values j
IsSoundQuestion p values (questions.Member f j) = NamesPoly values f × NamesIdeal values j
IsSoundQuestion p values (questions.Same j k) = NamesIdeal values j × NamesIdeal values k
IsSoundQuestion p values (questions.Sum j k) = NamesIdeal values j × NamesIdeal values k
IsSoundQuestion p values (questions.Product j k) = NamesIdeal values j × NamesIdeal values k
IsSoundQuestion p values (questions.Meet j k) = NamesIdeal values j × NamesIdeal values k
IsSoundQuestion p values (questions.Colon j k) = NamesIdeal values j × NamesIdeal values k
IsSoundQuestion p values (questions.Power e j) = (e ≤ 12) × NamesIdeal values j
IsSoundQuestion p values (questions.Root e j) = (e ≤ 12) × NamesIdeal values j
IsSoundQuestion p values (questions.Test f t) = NamesNonconstant values f × IsExponent false t
IsSoundQuestion p values (questions.Left f t) = NamesNonconstant values f × IsExponent true t
IsSoundQuestion p values (questions.IsJump f t) = NamesNonconstant values f × IsExponent true t
IsSoundQuestion p values (questions.Regular f t) = NamesNonconstant values f × IsExponent false t
IsSoundQuestion p values (questions.Jumps f e) = NamesNonconstant values f × IsLevel p e
IsSoundQuestion p values (questions.Nu e f j) = (e ≤ 12) × NamesNonconstant values f × NamesIdeal values j
IsSoundQuestion p values (questions.Threshold f j e) = NamesNonconstant values f × NamesIdeal values j × IsLevel p e
IsSoundQuestion p values (questions.ThresholdAt f at e) = NamesNonconstant values f × NamesPoint values at × IsLevel p e
IsSoundQuestion p values (questions.Pure j) = NamesIdeal values j
IsSoundQuestion p values (questions.PureAt j at) = NamesIdeal values j × NamesPoint values at
IsSoundQuestion p values (questions.Split j) = NamesIdeal values j
IsSoundQuestion p values (questions.Compatible e u j) = (e ≤ 12) × NamesPoly values u × NamesIdeal values j

slice_get_kept : {X : Type 0} (xs : List X) (v : X) (i : ℕ) (x : X) → slice_get xs i ≡ Some x → slice_get (xs ++ v ∷ []) i ≡ Some x
slice_get_kept xs v i x e =
    let within = slice_get_within xs i x e in
    slice_get-get_or (xs ++ v ∷ []) i x (let longer = length-append xs (v ∷ []) in omega (arith, within, longer)) ∙ ap Some (get_or_append_left xs (v ∷ []) x i within ∙ get_or_from_slice_get xs i x x e)

-- One more name keeps the others.
module _ (values : List (List ℕ × Value)) (v : List ℕ × Value) where
  name_kept : {taken : Kind → Option FaultKind} {place : ℕ} → Names taken values place → Names taken (values ++ v ∷ []) place
  name_kept {taken} {place} h = record { name = h.name; value = h.value; is = slice_get_kept values v place (h.name, h.value) h.is; fits = h.fits }

  pub question_kept : (p : ℕ) (q : Question) → IsSoundQuestion p values q → IsSoundQuestion p (values ++ v ∷ []) q
  question_kept p (questions.Parts e f) h = (h.0, name_kept h.1)
  question_kept p (questions.Basis j) h = name_kept h
  question_kept p (questions.Member f j) h = (name_kept h.0, name_kept h.1)
  question_kept p (questions.Same j k) h = (name_kept h.0, name_kept h.1)
  question_kept p (questions.Sum j k) h = (name_kept h.0, name_kept h.1)
  question_kept p (questions.Product j k) h = (name_kept h.0, name_kept h.1)
  question_kept p (questions.Meet j k) h = (name_kept h.0, name_kept h.1)
  question_kept p (questions.Colon j k) h = (name_kept h.0, name_kept h.1)
  question_kept p (questions.Power e j) h = (h.0, name_kept h.1)
  question_kept p (questions.Root e j) h = (h.0, name_kept h.1)
  question_kept p (questions.Test f t) h = (name_kept h.0, h.1)
  question_kept p (questions.Left f t) h = (name_kept h.0, h.1)
  question_kept p (questions.IsJump f t) h = (name_kept h.0, h.1)
  question_kept p (questions.Regular f t) h = (name_kept h.0, h.1)
  question_kept p (questions.Jumps f e) h = (name_kept h.0, h.1)
  question_kept p (questions.Nu e f j) h = (h.0, name_kept h.1, name_kept h.2)
  question_kept p (questions.Threshold f j e) h = (name_kept h.0, name_kept h.1, h.2)
  question_kept p (questions.ThresholdAt f at e) h = (name_kept h.0, name_kept h.1, h.2)
  question_kept p (questions.Pure j) h = name_kept h
  question_kept p (questions.PureAt j at) h = (name_kept h.0, name_kept h.1)
  question_kept p (questions.Split j) h = name_kept h
  question_kept p (questions.Compatible e u j) h = (h.0, name_kept h.1, name_kept h.2)

-- A value of a kind that is taken has the shape of that kind.
pub is_poly : (v : Value) → names.as_polynomial (kind v) ≡ None → (f : Terms) × (v ≡ Poly f)
is_poly (Poly f) h = (f, refl)
is_poly (Ideal fs) h = absurd cc
is_poly (Point cs) h = absurd cc
is_poly (Let b q) h = absurd cc

pub is_nonconstant_poly : (v : Value) → names.as_nonconstant (kind v) ≡ None → (f : Terms) × (v ≡ Poly f) × (is_nonconstant f ≡ true)
is_nonconstant_poly (Poly f) h = (f, refl, by (is_nonconstant f) h)
  where
    by : (b : Bool) → names.as_nonconstant (cond b kinds.Nonconstant kinds.Constant) ≡ None → b ≡ true
    by true h = refl
    by false h = absurd cc
is_nonconstant_poly (Ideal fs) h = absurd cc
is_nonconstant_poly (Point cs) h = absurd cc
is_nonconstant_poly (Let b q) h = absurd cc

pub is_ideal : (v : Value) → names.as_ideal (kind v) ≡ None → ((fs : List Terms) × (v ≡ Ideal fs)) ⊎ ((budget : ℕ) × (q : Question) × (v ≡ Let budget q))
is_ideal (Poly f) h = absurd (by (is_nonconstant f) h)
  where
    by : (b : Bool) → names.as_ideal (cond b kinds.Nonconstant kinds.Constant) ≡ None → ⊥
    by true h = cc
    by false h = cc
is_ideal (Ideal fs) h = inl (fs, refl)
is_ideal (Point cs) h = absurd cc
is_ideal (Let b q) h = inr (b, q, refl)

pub is_point : (v : Value) → names.as_point (kind v) ≡ None → (cs : List ℕ) × (v ≡ Point cs)
is_point (Poly f) h = absurd (by (is_nonconstant f) h)
  where
    by : (b : Bool) → names.as_point (cond b kinds.Nonconstant kinds.Constant) ≡ None → ⊥
    by true h = cc
    by false h = cc
is_point (Ideal fs) h = absurd cc
is_point (Point cs) h = (cs, refl)
is_point (Let b q) h = absurd cc
