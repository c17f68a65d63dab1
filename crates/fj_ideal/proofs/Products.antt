-- The products of two lists, formed one after another.
use Rattle.std.proofs.Common.{◌≡◌, ℕ, ◌+◌, ◌<◌, ◌≤◌, List, [], ◌∷◌, ◌++◌, length, take, get_or, All, sym, ap, ap₂, ◌∙◌, subst, add-one, append-nil, append_assoc}
use Rattle.std.proofs.Math.Seq.{take-suc}
use Rattle.std.proofs.lemmas.Grind.{flat_map-append}
use Rattle.std.proofs.lemmas.List.{map-append, take_all}
use Rattle.std.proofs.lemmas.List.Elements.{All-append, All-cons, All-contains, All-nil}
use Rattle.fj_algebra.proofs.Lists.{All-flat_map_back, All-map_back}
use Rattle.fj_coeff.specs.Field.{Field}
use Rattle.fj_theory.specs.Polynomial.{Polynomial, product}
use Rattle.fj_theory.specs.Ideal.{multiples, products}
use Rattle.fj_poly.specs.Limit.{IsHigh}
use Rattle.fj_ideal.specs.Lists.{AreLow, IsHighPair}

-- One element more of a list of which all that come before have the property.
pub All-take_more : {A : Type 0} (P : A → Type 0) (xs : List A) (i : ℕ) (x : A) → i < length xs → x ≡ get_or xs i x → All P (take i xs) → P x → All P (take (i + 1) xs)
All-take_more P xs i x l at all here =
    subst (All P) (sym (ap (λ n. take n xs) (add-one i) ∙ take-suc xs i x l))
    (All-append P (take i xs) (get_or xs i x ∷ []) all (All-cons P (get_or xs i x) [] (subst P at here) (All-nil P)))

-- The multiples of g by one polynomial more.
pub multiples-take : (F : Field) (g : Polynomial) (M : List Polynomial) (j : ℕ) (h : Polynomial) → j < length M → h ≡ get_or M j h → multiples F g (take (j + 1) M) ≡ multiples F g (take j M) ++ product F g h ∷ []
multiples-take F g M j h l at =
    ap (λ n. multiples F g (take n M)) (add-one j) ∙ ap (multiples F g) (take-suc M j h l) ∙ map-append (product F g) (take j M) (get_or M j h ∷ [])
    ∙ ap (λ f. multiples F g (take j M) ++ product F g f ∷ []) (sym at)

-- The products with one polynomial more.
pub products-take : (F : Field) (L M : List Polynomial) (i : ℕ) (g : Polynomial) → i < length L → g ≡ get_or L i g → products F (take (i + 1) L) M ≡ products F (take i L) M ++ multiples F g M
products-take F L M i g l at =
    ap (λ n. products F (take n L) M) (add-one i) ∙ ap (λ xs. products F xs M) (take-suc L i g l)
    ∙ flat_map-append (λ f. multiples F f M) (take i L) (get_or L i g ∷ [])
    ∙ ap (λ xs. products F (take i L) M ++ xs) (append-nil (multiples F (get_or L i g) M) ∙ ap (λ f. multiples F f M) (sym at))

-- One product more is formed.
pub products_more : (F : Field) (before : List Polynomial) (g : Polynomial) (M : List Polynomial) (j : ℕ) (h f : Polynomial) (old new : List Polynomial) → j < length M → h ≡ get_or M j h
    → old ≡ before ++ multiples F g (take j M) → f ≡ product F g h → new ≡ old ++ f ∷ [] → new ≡ before ++ multiples F g (take (j + 1) M)
products_more F before g M j h f old new l at is here e =
    e ∙ ap₂ (λ xs x. xs ++ x ∷ []) is here ∙ append_assoc before (multiples F g (take j M)) (product F g h ∷ []) ∙ sym (ap (λ xs. before ++ xs) (multiples-take F g M j h l at))

-- All products of the list are formed with those of g.
pub products_all : (F : Field) (L M : List Polynomial) (i j : ℕ) (g : Polynomial) (new : List Polynomial) → i < length L → g ≡ get_or L i g → length M ≤ j
    → new ≡ products F (take i L) M ++ multiples F g (take j M) → new ≡ products F (take (i + 1) L) M
products_all F L M i j g new l at all is =
    is ∙ ap (λ xs. products F (take i L) M ++ multiples F g xs) (take_all j M all) ∙ sym (products-take F L M i g l at)

-- Where no product is too high, no pair has one that is.
pub low_pairs : (F : Field) (L M : List Polynomial) → AreLow (products F L M) → (N : List Polynomial) → IsHighPair F L M N → ⊥
low_pairs F L M low N e =
    let rows = All-flat_map_back (λ h. IsHigh h → ⊥) (λ g. multiples F g M) L low in
    let row = All-contains (λ g. AreLow (multiples F g M)) L e.g rows e.g_there in
    All-contains (λ h. IsHigh (product F e.g h) → ⊥) M e.h (All-map_back (λ h. IsHigh h → ⊥) (product F e.g) M row) e.h_there e.high
