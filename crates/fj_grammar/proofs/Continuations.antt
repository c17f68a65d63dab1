-- Names, numbers and fractions with which the beginning of a question can go on, in a session with three more names.
use Rattle.std.proofs.Common.{◌≡◌, ◌≢◌, ℕ, zero, suc, ◌+◌, ◌*◌, ◌^◌, ◌<◌, ◌≤◌, List, [], ◌∷◌, ◌++◌, length, get_or, replicate, All, Contains, Some, refl, ap, ◌∙◌, arith, zero-add, ⊎_elim}
use Rattle.std.specs.List.{slice_get}
use Rattle.std.proofs.lemmas.List.{length-replicate}
use Rattle.std.proofs.lemmas.List.Elements.{Contains-append_cases, Contains-append_left}
use Rattle.std.proofs.lemmas.Nat.Gcd.{IsGcd-from_mod, IsGcd-from_zero}
use Rattle.std.proofs.lemmas.Option.{none-some}
use Rattle.std.proofs.Math.Nat.{pow-suc, pow-zero}
use Rattle.fj_coeff.specs.Field.{primes}
use Rattle.fj_coeff.specs.PrimeFieldLaws.{prime_bounds}
use Rattle.fj_theory.specs.Fraction.{Fraction}
use Rattle.fj_text.specs.Token.{Token, Word, Number, Sign, BadByte}
use Rattle.fj_grammar.specs.Beginning.{IsAlikeFor}
use Rattle.fj_grammar.specs.Grammar as grammar
use Rattle.fj_grammar.specs.Grammar.{IsExponent, IsLevel, NamesIdeal, NamesNonconstant, NamesPoint, NamesPolynomial}
use Rattle.fj_script.specs.Session.{Session, Value, Poly, Ideal, Point}

-- A word of this length.
pub fresh : ℕ → List ℕ
fresh n = replicate n 120

pub fresh-length : (n : ℕ) → length (fresh n) ≡ n
unfolding fresh
fresh-length n = length-replicate n 120

-- No word is longer than all together.
pub longest : List Token → ℕ
longest [] = 0
longest (Word w ∷ ts) = length w + longest ts
longest (Number n ∷ ts) = longest ts
longest (Sign b ∷ ts) = longest ts
longest (BadByte ∷ ts) = longest ts

word_short : (ts : List Token) (w : List ℕ) (k : ℕ) → k < length ts → get_or ts k (Word w) ≡ Word w → length w ≤ longest ts
unfolding longest
word_short [] w k inside e = absurd (omega arith)
word_short (Word v ∷ ts) w zero inside e = let same : v ≡ w = cc in let long = ap length same in omega (arith, long)
word_short (Number n ∷ ts) w zero inside e = absurd cc
word_short (Sign b ∷ ts) w zero inside e = absurd cc
word_short (BadByte ∷ ts) w zero inside e = absurd cc
word_short (Word v ∷ ts) w (suc k) inside e = let rest = word_short ts w k (omega arith) e in omega (arith, rest)
word_short (Number n ∷ ts) w (suc k) inside e = word_short ts w k (omega arith) e
word_short (Sign b ∷ ts) w (suc k) inside e = word_short ts w k (omega arith) e
word_short (BadByte ∷ ts) w (suc k) inside e = word_short ts w k (omega arith) e

pub first_short : (w : List ℕ) (ts : List Token) → length w ≤ longest (Word w ∷ ts)
unfolding longest
first_short w ts = omega arith

-- A polynomial, an ideal and a point.
abbrev pub extra : ℕ → List (List ℕ × Value)
extra n = (fresh (n + 1), Poly ((1 ∷ [], 1) ∷ [])) ∷ (fresh (n + 2), Ideal []) ∷ (fresh (n + 3), Point []) ∷ []

abbrev pub wide : Session → ℕ → Session
wide S n = record S { values = S.values ++ extra n; asked = [] }

pub not_extra : (n : ℕ) (w : List ℕ) (v : Value) → length w ≤ n → Contains (extra n) (w, v) → ⊥
not_extra n w v short found = by found.0 found.1 found.2
  where
    long : (m : ℕ) (u : Value) → n < m → ◌≡◌ {A = List ℕ × Value} (fresh m, u) (w, v) → ⊥
    long m u above e = let same = ap (λ x. length x.0) e in omega (arith, same, fresh-length m, short, above)

    by : (k : ℕ) → k < 3 → get_or (extra n) k (w, v) ≡ (w, v) → ⊥
    by zero inside e = long (n + 1) (Poly ((1 ∷ [], 1) ∷ [])) (omega arith) e
    by (suc zero) inside e = long (n + 2) (Ideal []) (omega arith) e
    by (suc (suc zero)) inside e = long (n + 3) (Point []) (omega arith) e
    by (suc (suc (suc k))) inside e = absurd (omega arith)

pub wide_alike : (ts : List Token) (S : Session) → IsAlikeFor ts S (wide S (longest ts))
wide_alike ts S = record {
  prime = refl;
  variables = refl;
  names = λ w v there. (
    λ found. Contains-append_left S.values (extra (longest ts)) (w, v) found,
    λ found. ⊎_elim (λ here. here) (λ more. absurd (not_extra (longest ts) w v (word_short ts w there.0 there.1 there.2) more)) (Contains-append_cases S.values (extra (longest ts)) (w, v) found),
  );
}

-- ---- names

kept : {X : Type 0} (xs ys : List X) (i : ℕ) (x : X) → slice_get xs i ≡ Some x → slice_get (xs ++ ys) i ≡ Some x
kept [] ys i x e = absurd (none-some _ e)
kept (y ∷ xs) ys zero x e = e
kept (y ∷ xs) ys (suc i) x e = kept xs ys i x e

at_behind : {X : Type 0} (xs ys : List X) (k : ℕ) → slice_get (xs ++ ys) (length xs + k) ≡ slice_get ys k
at_behind [] ys k = ap (slice_get ys) (zero-add k)
at_behind (x ∷ xs) ys k = let more : suc (length xs) + k ≡ suc (length xs + k) = omega arith in ap (slice_get (x ∷ (xs ++ ys))) more ∙ at_behind xs ys k

module _ (S : Session) (n : ℕ) where
  pub wide_polynomial : (w : List ℕ) (i : ℕ) → NamesPolynomial S w i → NamesPolynomial (wide S n) w i
  wide_polynomial w i h = record { terms = h.terms; is = kept S.values (extra n) i (w, Poly h.terms) h.is }

  pub wide_nonconstant : (w : List ℕ) (i : ℕ) → NamesNonconstant S w i → NamesNonconstant (wide S n) w i
  wide_nonconstant w i h = record { terms = h.terms; is = kept S.values (extra n) i (w, Poly h.terms) h.is; nonconstant = h.nonconstant }

  pub wide_ideal : (w : List ℕ) (i : ℕ) → NamesIdeal S w i → NamesIdeal (wide S n) w i
  wide_ideal w i h = record { value = h.value; is = kept S.values (extra n) i (w, h.value) h.is; ideal = h.ideal }

  pub wide_point : (w : List ℕ) (i : ℕ) → NamesPoint S w i → NamesPoint (wide S n) w i
  wide_point w i h = record { coordinates = h.coordinates; is = kept S.values (extra n) i (w, Point h.coordinates) h.is }

  pub some_nonconstant : NamesNonconstant (wide S n) (fresh (n + 1)) (length S.values + 0)
  some_nonconstant = record { terms = (1 ∷ [], 1) ∷ []; is = at_behind S.values (extra n) 0; nonconstant = refl }

  pub some_polynomial : NamesPolynomial (wide S n) (fresh (n + 1)) (length S.values + 0)
  some_polynomial = record { terms = (1 ∷ [], 1) ∷ []; is = at_behind S.values (extra n) 0 }

  pub some_ideal : NamesIdeal (wide S n) (fresh (n + 2)) (length S.values + 1)
  some_ideal = record { value = Ideal []; is = at_behind S.values (extra n) 1; ideal = grammar.generated }

  pub some_point : NamesPoint (wide S n) (fresh (n + 3)) (length S.values + 2)
  some_point = record { coordinates = []; is = at_behind S.values (extra n) 2 }

-- ---- numbers

one-mul_here : (p : ℕ) → 1 * p ≡ p
one-mul_here p = omega arith

pub some_level : (p : ℕ) → Contains primes p → IsLevel p 1
some_level p known = let small = (prime_bounds p known).1 in let one : p ^ 1 ≡ p = pow-suc p 0 ∙ ap (λ k. k * p) (pow-zero p) ∙ one-mul_here p in record { above_zero = omega arith; low = omega (arith, one, small) }

pub one_ratio : Fraction
one_ratio = record { numerator = 1; denominator = 1; positive = omega arith }

pub zero_ratio : Fraction
zero_ratio = record { numerator = 0; denominator = 1; positive = omega arith }

-- m/m is 1, and 0/1 is 0.
pub whole_ratio : (m : ℕ) → m < 2 ^ 32 → 0 < m → IsExponent m m one_ratio
unfolding one_ratio
whole_ratio m fits above = record {
  numerator_fits = fits;
  denominator_fits = fits;
  divides = above;
  form = record { value = omega arith; lowest = IsGcd-from_mod 1 1 1 (IsGcd-from_zero 1 0 refl) };
  low = omega arith;
  short = omega arith;
}

pub nothing_ratio : IsExponent 0 1 zero_ratio
unfolding zero_ratio
nothing_ratio = record {
  numerator_fits = omega arith;
  denominator_fits = omega arith;
  divides = omega arith;
  form = record { value = omega arith; lowest = IsGcd-from_mod 0 1 1 (IsGcd-from_zero 1 0 refl) };
  low = omega arith;
  short = omega arith;
}

pub one_above : 0 < one_ratio.numerator
unfolding one_ratio
one_above = omega arith

-- ---- new names

names_length : List (List ℕ) → ℕ
names_length [] = 0
names_length (v ∷ vs) = length v + names_length vs

names_short : (vs : List (List ℕ)) (i : ℕ) (d : List ℕ) → i < length vs → length (get_or vs i d) ≤ names_length vs
unfolding names_length
names_short [] i d inside = absurd (omega arith)
names_short (v ∷ vs) zero d inside = omega arith
names_short (v ∷ vs) (suc i) d inside = let rest = names_short vs i d (omega arith) in omega (arith, rest)

-- a word that is none of these
pub other_word : List (List ℕ) → List ℕ
other_word vs = fresh (suc (names_length vs))

pub other_word-is : (vs : List (List ℕ)) → All (λ v. v ≢ other_word vs) vs
unfolding other_word
other_word-is vs i d inside same = let short = names_short vs i d inside in let long = ap length same in absurd (omega (arith, short, long, fresh-length (suc (names_length vs))))
