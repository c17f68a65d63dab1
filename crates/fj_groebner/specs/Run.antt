-- The run that calculates a reduced basis by Buchberger's algorithm: its turns, its finishing, and where it stops.
-- (Cox, Little and O'Shea 2015, chapter 2, sections 7 and 10; the chain criterion is that of Buchberger 1979, "A criterion
-- for detecting unnecessary reductions", and of Gebauer and Möller 1988, "On an installation of Buchberger's algorithm")
use Rattle.std.specs.Prelude.{◌≡◌, ℕ, ◌+◌, ◌-◌, ◌<◌, ◌≤◌, ◌≢◌, ◌==◌, ◌&&◌, ◌||◌, ◌⊎◌, not, nat_le, nat_lt, max, Bool, IsTrue, true, false, if◌then◌else◌, List, [], ◌∷◌, ◌++◌, length, map, filter, All, Any, Contains, unwrap_or}
use Rattle.std.specs.List.{flat_map, list_any, range_with_len}
use Rattle.std.specs.Ordering.{nat_cmp, is_gt}
use Rattle.std.specs.Cmp.Lexicographic.{slice_cmp}
use Rattle.std.specs.declared.cmp.Ordering.TheVariants.{Greater}
use Rattle.std.specs.FinMap.{len}
use Rattle.fj_coeff.specs.Field.{Field}
use Rattle.fj_theory.specs.Exponents.{total, divides, minus, least_common_multiple}
use Rattle.fj_theory.specs.MonomialOrder.{compare_by}
use Rattle.fj_theory.specs.Polynomial.{difference, Polynomial, term, product, degree}
use Rattle.fj_theory.specs.Lead.{lead_exponents, made_monic}
use Rattle.fj_theory.specs.Steps.{StepsTo}
use Rattle.fj_groebner.specs.Division.{degree_limit, Sugared, Division, member_at, IsLowDivision, IsHighDivision}

-- The two monomials have no variable in common.
unfoldable pub are_coprime : List ℕ → List ℕ → Bool
are_coprime [] b = true
are_coprime (x ∷ a) [] = true
are_coprime (x ∷ a) (y ∷ b) = (x == 0 || y == 0) && are_coprime a b

-- A polynomial that is handed in has its total degree as its sugar.
unfoldable pub given : Polynomial → Sugared
given f = record { polynomial = f; sugar = unwrap_or (degree f) 0 }

-- It is divided by its leading coefficient.
unfoldable pub monic_member : Field → (List ℕ → List ℕ) → Sugared → Sugared
monic_member F key g = record { polynomial = made_monic F key g.polynomial; sugar = g.sugar }

-- The state of a run: the members found so far, and the pending pairs (i, j) of their places, i < j.
pub record Run : Type 0 where
  pub members : List Sugared
  pub pending : List (ℕ × ℕ)

-- The pairs of the place j with those before it.
unfoldable pub pairs_with : ℕ → List (ℕ × ℕ)
pairs_with j = map (λ i. (i, j)) (range_with_len 0 j)

-- The run on L begins with those of its polynomials that are not zero, made monic, and with all pairs.
unfoldable pub first_members : Field → (List ℕ → List ℕ) → List Polynomial → List Sugared
first_members F key L = map (λ f. monic_member F key (given f)) (filter (λ f. not (len f == 0)) L)

unfoldable pub run_start : Field → (List ℕ → List ℕ) → List Polynomial → Run
run_start F key L =
    record {
      members = first_members F key L;
      pending = flat_map pairs_with (range_with_len 0 (length (first_members F key L)));
    }

-- The exponents of the lead of the member at a place.
unfoldable pub lead_of : (List ℕ → List ℕ) → List Sugared → ℕ → List ℕ
lead_of key G k = lead_exponents key (member_at G k).polynomial

-- The exponents of the least common multiple of the leads of a pair.
unfoldable pub pair_multiple : (List ℕ → List ℕ) → List Sugared → ℕ × ℕ → List ℕ
pair_multiple key G pair = least_common_multiple (lead_of key G pair.0) (lead_of key G pair.1)

-- Where a pair (i, j) stands among all: the least common multiple of its leads decides, then j, then i. A pair whose least
-- common multiple is above the limit stands behind all that are not, and j and i alone decide.
unfoldable pub pair_place : (List ℕ → List ℕ) → List Sugared → ℕ × ℕ → List ℕ
pair_place key G pair =
    if nat_le (total (pair_multiple key G pair)) degree_limit then
    0 ∷ key (pair_multiple key G pair) ++ pair.1 ∷ pair.0 ∷ []
    else
    1 ∷ pair.1 ∷ pair.0 ∷ []

-- The pair is the pending pair that stands first.
pub record IsNext (key : List ℕ → List ℕ) (s : Run) (pair : ℕ × ℕ) : Type 0 where
  pub pending : Contains s.pending pair
  pub least : All (λ other. slice_cmp nat_cmp (pair_place key s.members pair) (pair_place key s.members other) ≢ Greater) s.pending

-- The pair of two places is pending.
abbrev pub IsPending : Run → ℕ → ℕ → Type 0
IsPending s i j = Contains s.pending (i, j) ⊎ Contains s.pending (j, i)

-- The pair (i, j) is spared by the chain criterion: there is a place k other than i and j whose lead divides the least
-- common multiple of the leads of i and j, and neither the pair of i and k nor the pair of j and k is pending.
pub record IsSpared (key : List ℕ → List ℕ) (s : Run) (pair : ℕ × ℕ) : Type 0 where
  pub place : ℕ
  pub is_place : place < length s.members
  pub not_first : place ≢ pair.0
  pub not_second : place ≢ pair.1
  pub lead_divides : IsTrue (divides (lead_of key s.members place) (pair_multiple key s.members pair))
  pub first_done : IsPending s pair.0 place → ⊥
  pub second_done : IsPending s pair.1 place → ⊥

-- The leads of the pair have no variable in common.
unfoldable pub has_coprime_leads : (List ℕ → List ℕ) → List Sugared → ℕ × ℕ → Bool
has_coprime_leads key G pair = are_coprime (lead_of key G pair.0) (lead_of key G pair.1)

-- The S-polynomial of a pair, with its sugar.
unfoldable pub s_polynomial : Field → (List ℕ → List ℕ) → List Sugared → ℕ × ℕ → Sugared
s_polynomial F key G pair =
    let multiple : ℕ → Polynomial = λ k. product F (term 1 (minus (pair_multiple key G pair) (lead_of key G k))) (member_at G k).polynomial in
    let above : ℕ → ℕ = λ k. (member_at G k).sugar - total (lead_of key G k) in
    record {
      polynomial = difference F (multiple pair.0) (multiple pair.1);
      sugar = max (above pair.0) (above pair.1) + total (pair_multiple key G pair);
    }

-- The pair is no longer pending.
unfoldable pub drop_pair : Run → ℕ × ℕ → Run
drop_pair s pair = record { members = s.members; pending = filter (λ other. not (other.0 == pair.0 && other.1 == pair.1)) s.pending }

-- A removal: the next pair is spared, and is no longer pending.
pub record IsRemoval (key : List ℕ → List ℕ) (s t : Run) : Type 0 where
  pub pair : ℕ × ℕ
  pub next : IsNext key s pair
  pub spared : IsSpared key s pair
  pub removed : t ≡ drop_pair s pair

-- The next pair is removed as long as it is spared: removals lead from s to t, whose next pair is not spared.
pub record AreRemovals (key : List ℕ → List ℕ) (s t : Run) : Type 0 where
  pub states : List Run
  pub steps : StepsTo (IsRemoval key) s states t
  pub ended : (pair : ℕ × ℕ) → IsNext key t pair → IsSpared key t pair → ⊥

-- A member is appended, and its pairs with all earlier members become pending.
unfoldable pub append_member : Run → Sugared → Run
append_member s g = record { members = s.members ++ g ∷ []; pending = s.pending ++ pairs_with (length s.members) }

-- The pair is treated, its S-polynomial having been divided: a remainder that is not zero is made monic and appended.
unfoldable pub treat_pair : Field → (List ℕ → List ℕ) → Run → ℕ × ℕ → Division → Run
treat_pair F key s pair d =
    if len d.remainder == 0 then
    drop_pair s pair
    else
    append_member (drop_pair s pair) (monic_member F key (record { polynomial = d.remainder; sugar = d.sugar }))

-- One turn: the next pair is dropped where its leads are coprime, else its S-polynomial is divided by the members.
pub data IsTurn (F : Field) (key : List ℕ → List ℕ) (s t : Run) : Type 0 where
  dropped : (pair : ℕ × ℕ) → IsNext key s pair → has_coprime_leads key s.members pair ≡ true → t ≡ drop_pair s pair → IsTurn F key s t
  treated : (pair : ℕ × ℕ) (d : Division) → IsNext key s pair → has_coprime_leads key s.members pair ≡ false
      → IsLowDivision F key s.members (s_polynomial F key s.members pair) d → t ≡ treat_pair F key s pair d → IsTurn F key s t

-- In the next turn a sugar above the limit arises.
pub record IsHighTurn (F : Field) (key : List ℕ → List ℕ) (s : Run) : Type 0 where
  pub pair : ℕ × ℕ
  pub next : IsNext key s pair
  pub treated : has_coprime_leads key s.members pair ≡ false
  pub high : IsHighDivision F key s.members (s_polynomial F key s.members pair)

-- A turn, and the removals after it, which are no turns.
pub record IsRound (F : Field) (key : List ℕ → List ℕ) (s t : Run) : Type 0 where
  pub turned : Run
  pub turn : IsTurn F key s turned
  pub removals : AreRemovals key turned t

-- The run on L leads to the state `last` by this number of turns: there are removals at its start, and then after each turn.
pub record IsRun (F : Field) (key : List ℕ → List ℕ) (L : List Polynomial) (turns : ℕ) (last : Run) : Type 0 where
  pub first : Run
  pub removals : AreRemovals key (run_start F key L) first
  pub states : List Run
  pub steps : StepsTo (IsRound F key) first states last
  pub made : length states ≡ turns

-- Finishing, the first act: a member is left out whose lead is divided by the lead of another; of members with equal leads
-- the first is kept.
unfoldable pub is_left_out : (List ℕ → List ℕ) → List Sugared → ℕ → Bool
is_left_out key G i =
    list_any (λ j. divides (lead_of key G j) (lead_of key G i) && (not (divides (lead_of key G i) (lead_of key G j)) || nat_lt j i)) (range_with_len 0 (length G))

unfoldable pub kept_members : (List ℕ → List ℕ) → List Sugared → List Sugared
kept_members key G = map (member_at G) (filter (λ i. not (is_left_out key G i)) (range_with_len 0 (length G)))

-- The second act: the kept members, their leads rising ..
unfoldable pub place_by_lead : (List ℕ → List ℕ) → Sugared → List Sugared → List Sugared
place_by_lead key g [] = g ∷ []
place_by_lead key g (h ∷ more) =
    if is_gt (compare_by key (lead_exponents key g.polynomial) (lead_exponents key h.polynomial)) then h ∷ place_by_lead key g more else g ∷ h ∷ more

unfoldable pub sort_by_lead : (List ℕ → List ℕ) → List Sugared → List Sugared
sort_by_lead key [] = []
sort_by_lead key (g ∷ G) = place_by_lead key g (sort_by_lead key G)

-- .. are replaced in turn by their remainders by those before them, already replaced. The state: those that are replaced,
-- and the rest.
pub record Replacing : Type 0 where
  pub replaced : List Sugared
  pub rest : List Sugared

pub record IsReplacement (F : Field) (key : List ℕ → List ℕ) (s t : Replacing) : Type 0 where
  pub member : Sugared
  pub rest : List Sugared
  pub first : s.rest ≡ member ∷ rest
  pub last : Division
  pub division : IsLowDivision F key s.replaced member last
  pub next : t ≡ record { replaced = s.replaced ++ record { polynomial = last.remainder; sugar = last.sugar } ∷ []; rest = rest }

-- The replacing of the kept members leads to this state.
pub record IsReplacing (F : Field) (key : List ℕ → List ℕ) (members : List Sugared) (last : Replacing) : Type 0 where
  pub states : List Replacing
  pub steps : StepsTo (IsReplacement F key) (record { replaced = []; rest = sort_by_lead key (kept_members key members) }) states last

-- All are replaced, and in the third act each polynomial of L is divided by the result.
pub record IsFinishing (F : Field) (key : List ℕ → List ℕ) (L : List Polynomial) (members basis : List Sugared) : Type 0 where
  pub replacing : IsReplacing F key members (record { replaced = basis; rest = [] })
  pub divisions : All (λ f. (d : Division) × IsLowDivision F key basis (given f) d) L

-- A sugar above the limit arises in the second or in the third act.
pub data IsHighFinishing (F : Field) (key : List ℕ → List ℕ) (L : List Polynomial) (members : List Sugared) : Type 0 where
  replacing : (s : Replacing) (member : Sugared) (rest : List Sugared) → IsReplacing F key members s → s.rest ≡ member ∷ rest
      → IsHighDivision F key s.replaced member → IsHighFinishing F key L members
  dividing : (basis : List Sugared) → IsReplacing F key members (record { replaced = basis; rest = [] })
      → Any (λ f. IsHighDivision F key basis (given f)) L → IsHighFinishing F key L members

-- The run on L is finished within the budget of turns, and its result is the list `basis`.
pub record IsFinished (F : Field) (key : List ℕ → List ℕ) (L : List Polynomial) (budget : ℕ) (basis : List Sugared) : Type 0 where
  pub turns : ℕ
  pub last : Run
  pub run : IsRun F key L turns last
  pub within : turns ≤ budget
  pub none_pending : last.pending ≡ []
  pub finishing : IsFinishing F key L last.members basis

-- As many turns as the budget allows were made, no sugar above the limit arose, and pairs are pending.
pub record Unfinished (F : Field) (key : List ℕ → List ℕ) (L : List Polynomial) (budget : ℕ) : Type 0 where
  pub last : Run
  pub run : IsRun F key L budget last
  pub some_pending : last.pending ≢ []

-- A sugar above the limit arises within the budget of turns or, where no pair is then pending, in finishing.
pub data TooHigh (F : Field) (key : List ℕ → List ℕ) (L : List Polynomial) (budget : ℕ) : Type 0 where
  in_turn : (turns : ℕ) (last : Run) → IsRun F key L turns last → turns < budget → IsHighTurn F key last → TooHigh F key L budget
  in_finishing : (turns : ℕ) (last : Run) → IsRun F key L turns last → turns ≤ budget → last.pending ≡ []
      → IsHighFinishing F key L last.members → TooHigh F key L budget
