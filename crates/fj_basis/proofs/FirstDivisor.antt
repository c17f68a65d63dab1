-- The first divisor in a list, found from the front.
use Rattle.std.proofs.Common.{◌≡◌, ℕ, zero, suc, ◌+◌, ◌<◌, ◌≤◌, Bool, true, false, cond, List, [], ◌∷◌, ◌++◌, length, map, take, drop, get_or, Option, Some, None, refl, sym, ap, ◌∙◌, subst, arith}
use Rattle.std.specs.Option.{option_map}
use Rattle.std.specs.FinMap.{empty}
use Rattle.std.proofs.lemmas.List.{drop_more, drop_all, get_or-map, length-map, map-append, take_more}
use Rattle.fj_theory.specs.Exponents.{divides}
use Rattle.fj_theory.specs.Lead.{lead_exponents}
use Rattle.fj_groebner.specs.Division.{Sugared, first_divisor}
use Rattle.fj_basis.specs.Leads.{IsNextDivisor, NoneDivides, lead_list}

-- The leads of one member more.
pub lead_list-more : {D : Type 0} (key : List ℕ → List ℕ) (f : D → Sugared) (list : List D) (k : ℕ) (g : D) → k < length list → g ≡ get_or list k g
    → lead_list key (map f (take (k + 1) list)) ≡ lead_list key (map f (take k list)) ++ lead_exponents key (f g).polynomial ∷ []
lead_list-more key f list k g l is =
    ap (λ xs. lead_list key (map f xs)) (take_more list k g l) ∙ ap (lead_list key) (map-append f (take k list) (get_or list k g ∷ []))
    ∙ map-append (λ s. lead_exponents key s.polynomial) (map f (take k list)) (f (get_or list k g) ∷ [])
    ∙ ap (λ x. lead_list key (map f (take k list)) ++ lead_exponents key (f x).polynomial ∷ []) (sym is)

-- Behind k members, as a place in the whole list.
abbrev pub behind : ℕ → Option ℕ → Option ℕ
behind k o = option_map (λ j. j + k) o

behind_suc : (k : ℕ) (o : Option ℕ) → behind k (option_map suc o) ≡ behind (k + 1) o
behind_suc k None = refl
behind_suc k (Some j) = let e : suc j + k ≡ j + (k + 1) = omega arith in ap Some e

behind_zero : (o : Option ℕ) → behind 0 o ≡ o
behind_zero None = refl
behind_zero (Some j) = let e : j + 0 ≡ j = omega arith in ap Some e

module _ (key : List ℕ → List ℕ) (a : List ℕ) where
  -- None of the first k members divides.
  abbrev pub PassedBy : List Sugared → ℕ → Type 0
  PassedBy G k = first_divisor key G a ≡ behind k (first_divisor key (drop k G) a)

  pub passed-start : (G : List Sugared) → PassedBy G 0
  passed-start G = sym (behind_zero (first_divisor key G a))

  first_is : (G : List Sugared) (k : ℕ) (d : Sugared) (t : Bool) → k < length G → divides (lead_exponents key (get_or G k d).polynomial) a ≡ t
      → first_divisor key (drop k G) a ≡ cond t (Some 0) (option_map suc (first_divisor key (drop (k + 1) G) a))
  unfolding first_divisor
  first_is G k d t l e = ap (λ H. first_divisor key H a) (drop_more G k d l) ∙ ap (λ b. cond b (Some 0) (option_map suc (first_divisor key (drop (k + 1) G) a))) e

  pub passed-more : (G : List Sugared) (k : ℕ) (d : Sugared) → k < length G → PassedBy G k → divides (lead_exponents key (get_or G k d).polynomial) a ≡ false → PassedBy G (k + 1)
  passed-more G k d l h e = h ∙ ap (behind k) (first_is G k d false l e) ∙ behind_suc k _

  pub passed-found : (G : List Sugared) (k : ℕ) (d : Sugared) → k < length G → PassedBy G k → divides (lead_exponents key (get_or G k d).polynomial) a ≡ true → Some k ≡ first_divisor key G a
  passed-found G k d l h e = let n : 0 + k ≡ k = omega arith in sym (h ∙ ap (behind k) (first_is G k d true l e) ∙ ap Some n)

  pub passed-all : (G : List Sugared) (k : ℕ) → length G ≤ k → PassedBy G k → None ≡ first_divisor key G a
  unfolding first_divisor
  passed-all G k l h = sym (h ∙ ap (λ H. behind k (first_divisor key H a)) (drop_all k G l))

  -- The lead at a place of the index.
  lead_at : (G : List Sugared) {es : List (List ℕ)} → es ≡ lead_list key G → (k : ℕ) (d : Sugared) → k < length G → get_or es k [] ≡ lead_exponents key (get_or G k d).polynomial
  lead_at G e k d l = ap (λ xs. get_or xs k []) e ∙ get_or-map (λ g. lead_exponents key g.polynomial) G k d [] l

  passed-none : (G : List Sugared) {es : List (List ℕ)} → es ≡ lead_list key G → (k : ℕ) → k ≤ length G → NoneDivides es 0 k a → PassedBy G k
  passed-none G e zero l h = passed-start G
  passed-none G e (suc k) l h =
      let d : Sugared = record { polynomial = empty; sugar = 0 } in
      let before = passed-none G e k (omega (arith, l)) (record { none = λ j from to. h.none j from (omega (arith, to)) }) in
      let more : k + 1 ≡ suc k = omega arith in
      subst (PassedBy G) more
      (passed-more G k d (omega (arith, l)) before (ap (λ b. divides b a) (sym (lead_at G e k d (omega (arith, l)))) ∙ h.none k (omega arith) (omega arith)))

  -- What the index of the leads answers is the first divisor.
  pub first_divisor-from_leads : (G : List Sugared) {es : List (List ℕ)} → es ≡ lead_list key G → (o : Option ℕ) → IsNextDivisor es 0 a o → o ≡ first_divisor key G a
  first_divisor-from_leads G {es} e None h =
      let long : length es ≡ length G = ap length e ∙ length-map G (λ g. lead_exponents key g.polynomial) in
      passed-all G (length es) (omega (arith, long)) (passed-none G e (length es) (omega (arith, long)) h)
  first_divisor-from_leads G {es} e (Some k) h =
      let d : Sugared = record { polynomial = empty; sugar = 0 } in
      let long : length es ≡ length G = ap length e ∙ length-map G (λ g. lead_exponents key g.polynomial) in
      let within = h.place in
      let l : k < length G = omega (arith, long, within) in
      passed-found G k d l (passed-none G e k (omega (arith, l)) h.before) (ap (λ b. divides b a) (sym (lead_at G e k d l)) ∙ h.divides)
