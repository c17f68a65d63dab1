-- Laws of finishing: leaving out keeps the covered leads, reducing in turn gives the reduced basis.
use Rattle.std.proofs.Common.{◌≡◌, ◌≢◌, ℕ, suc, ◌<◌, List, [], ◌∷◌, ◌++◌, length, get_or, Contains, ◌⊎◌, inl, inr, sym, ap, ◌∙◌, subst, arith, append_assoc, append-nil}
use Rattle.std.specs.List.{AllPairs}
use Rattle.std.proofs.lemmas.List.Elements.{Contains-get_or, Contains-append_left, Contains-push, Contains-push_cases}
use Rattle.std.proofs.lemmas.List.Quantifiers.{all_pairs_push}
use Rattle.std.proofs.lemmas.List.{get_or_default}
use Rattle.fj_algebra.specs.Ring.{subtract}
use Rattle.fj_algebra.specs.Ideal.{Member, Inside}
use Rattle.fj_algebra.specs.Order.{IsAtMost, Divides, IsBelow}
use Rattle.fj_algebra.specs.Polynomial.{OrderedPolynomials, IsLead, IsMonic, Supported}
use Rattle.fj_algebra.specs.Representation.{Representation, nothing, more}
use Rattle.fj_algebra.specs.Buchberger.{AllMonic, IsReducible, LeadIsReducible, CoversLeads}
use Rattle.fj_algebra.specs.Division.{IsRemainder}
use Rattle.fj_algebra.specs.ReducedBasis.{LeadsRise, AreReduced, IsReducedBasis}
use Rattle.fj_algebra.specs.Finishing.{IsLeftOut, Kept, EndsIn, ReplacedInTurn, LeadsApart}
use Rattle.fj_algebra.proofs.Ideal.{Member-subtract, Member-Inside, Member-same, Inside-Contains}
use Rattle.fj_algebra.proofs.Pairs.{contains_cons, contains_head, contains_tail, contains_nil, All-from_elements, AllPairs-head, AllPairs-tail}
use Rattle.fj_algebra.proofs.Order.{below_at_most, trichotomy, below_irrefl, below_trans, not_below_multiple, Divides-refl, Divides-trans, order_induction, below_all}
use Rattle.fj_algebra.proofs.Polynomial.{same_monomial, at_most_lead, coefficient_subtract, subtract_zero, coefficient_outside, lead_from_monic, lead_unique}
use Rattle.fj_algebra.proofs.Buchberger.{Supported-from_representation}
use Rattle.fj_algebra.proofs.Division.{division_remainder, division_representation, difference_back}

module _ {K M A : Type 0} (P : OrderedPolynomials K M A) where
  open P use {coefficient, term, ring.{zero as 𝟘, one as 𝟙, add, neg, mul}, field.ring as scalars, monomials.{one, times}, order}

  -- The leads stay covered where each lead of S is divided by a lead of T.
  pub covers_smaller : {L : List A} {S T : A → Type 0} → ((g : A) (a : M) → S g → IsLead P g a → IsReducible P T a) → CoversLeads P L S → CoversLeads P L T
  covers_smaller {S = S} {T = T} smaller covers = record { covers = λ h m n. go (covers.covers h m n) }
    where
      go : {h : A} → LeadIsReducible P S h → LeadIsReducible P T h
      go k =
          let r = smaller k.reducible.divisor k.reducible.lead k.reducible.member k.reducible.is_lead in record {
            lead = k.lead;
            is_lead = k.is_lead;
            reducible = record {
              divisor = r.divisor;
              member = r.member;
              lead = r.lead;
              is_lead = r.is_lead;
              divides = Divides-trans r.divides k.reducible.divides;
            };
          }

  -- The lead of each member is divided by the lead of a member that isn't left out.
  pub kept_divides : (G : List A) → ((i : ℕ) → i < length G → Dec (IsLeftOut P G i)) → (a : M) (i : ℕ) → i < length G → IsLead P (get_or G i 𝟘) a → Kept P G a
  kept_divides G decided =
      order_induction order (λ a. (i : ℕ) → i < length G → IsLead P (get_or G i 𝟘) a → Kept P G a)
      (λ a lower i l k. below_all (λ i. i < length G → IsLead P (get_or G i 𝟘) a → Kept P G a)
      (λ i earlier l k. go a lower i earlier l k (decided i l)) (suc i) i (omega arith) l k)
    where
      go : (a : M) → ((b : M) → IsBelow order b a → (i : ℕ) → i < length G → IsLead P (get_or G i 𝟘) b → Kept P G b) → (i : ℕ) →
          ((j : ℕ) → j < i → j < length G → IsLead P (get_or G j 𝟘) a → Kept P G a) → i < length G → IsLead P (get_or G i 𝟘) a →
          Dec (IsLeftOut P G i) → Kept P G a
      go a lower i earlier l k (no n) = record { place = i; in_list = l; kept = n; lead = a; is_lead = k; divides = Divides-refl P.monomials a }
      go a lower i earlier l k (yes o) = descend (trichotomy order o.divisor a) o.before
        where
          divides : Divides P.monomials o.divisor a
          divides = subst (Divides P.monomials o.divisor) (lead_unique P o.is_lead k) o.divides

          widen : Kept P G o.divisor → Kept P G a
          widen w =
              record {
                place = w.place;
                in_list = w.in_list;
                kept = w.kept;
                lead = w.lead;
                is_lead = w.is_lead;
                divides = Divides-trans w.divides divides;
              }

          descend : IsBelow order o.divisor a ⊎ ((o.divisor ≡ a) ⊎ IsBelow order a o.divisor) → (o.divisor ≢ o.lead) ⊎ (o.other < i) → Kept P G a
          descend (inl s) before = widen (lower o.divisor s o.other o.in_list o.is_divisor)
          descend (inr (inr s)) before = absurd (not_below_multiple order divides s)
          descend (inr (inl e)) (inl n) = absurd (n (e ∙ lead_unique P k o.is_lead))
          descend (inr (inl e)) (inr s) = earlier o.other s o.in_list (subst (IsLead P (get_or G o.other 𝟘)) e o.is_divisor)

  -- So a list that has all members that aren't left out covers the same leads.
  pub kept_covers : {L G : List A} (ms : List A) → ((i : ℕ) → i < length G → Dec (IsLeftOut P G i)) →
      ((i : ℕ) → i < length G → (IsLeftOut P G i → ⊥) → Contains ms (get_or G i 𝟘)) → CoversLeads P L (Contains G) → CoversLeads P L (Contains ms)
  kept_covers {L} {G} ms decided has covers = covers_smaller (λ g a c l. from_kept (kept_divides G decided a c.0 c.1 (at_place g a c l))) covers
    where
      at_place : (g : A) (a : M) (c : Contains G g) → IsLead P g a → IsLead P (get_or G c.0 𝟘) a
      at_place g a c l = subst (λ f. IsLead P f a) (sym (get_or_default G c.0 𝟘 g c.1 ∙ c.2)) l

      from_kept : {a : M} → Kept P G a → IsReducible P (Contains ms) a
      from_kept k = record { divisor = get_or G k.place 𝟘; member = has k.place k.in_list k.kept; lead = k.lead; is_lead = k.is_lead; divides = k.divides }

  -- The lead of a member that isn't left out doesn't divide the lead of another one.
  pub kept_apart : {G : List A} {i j : ℕ} → i < length G → j < length G → (i ≡ j → ⊥) → (IsLeftOut P G i → ⊥) → (IsLeftOut P G j → ⊥) →
      LeadsApart P (get_or G i 𝟘) (get_or G j 𝟘)
  kept_apart {G} {i} {j} in_i in_j apart kept_i kept_j = record { apart = λ a b l k d. go a b l k d (same_monomial P a b) (order_places i j) }
    where
      order_places : (i j : ℕ) → (i ≡ j) ⊎ ((i < j) ⊎ (j < i))
      order_places i j = grind arith

      go : (a b : M) → IsLead P (get_or G i 𝟘) a → IsLead P (get_or G j 𝟘) b → Divides P.monomials a b → Dec (a ≡ b) → (i ≡ j) ⊎ ((i < j) ⊎ (j < i)) → ⊥
      go a b l k d (no n) places =
          kept_j (record { other = i; in_list = in_i; lead = b; is_lead = k; divisor = a; is_divisor = l; divides = d; before = inl n })
      go a b l k d (yes e) (inl h) = apart h
      go a b l k d (yes e) (inr (inl h)) =
          kept_j (record { other = i; in_list = in_i; lead = b; is_lead = k; divisor = a; is_divisor = l; divides = d; before = inr h })
      go a b l k d (yes e) (inr (inr h)) =
          kept_i (record {
            other = j;
            in_list = in_j;
            lead = a;
            is_lead = l;
            divisor = b;
            is_divisor = k;
            divides = subst (λ c. Divides P.monomials c a) e (Divides-refl P.monomials a);
            before = inr h;
          })

  -- A remainder by members whose leads don't divide the lead of m has this lead, and is monic where m is.
  pub remainder_monic : {G : List A} {m r : A} {a : M} → AllMonic P (Contains G) → IsMonic P m a →
      ((g : A) (b : M) → Contains G g → IsLead P g b → Divides P.monomials b a → ⊥) → EndsIn P G m r → IsMonic P r a
  remainder_monic {G} {m} {r} {a} monic is apart ends =
      record { monic = at a (below_irrefl order) ∙ is.monic; top = λ b l. at b (λ k. below_irrefl order (below_trans order k l)) ∙ is.top b l }
    where
      bounded : {h : A} → Representation P (Contains G) (λ e. IsAtMost order e a) h → Representation P (Contains G) (λ e. IsBelow order e a) h
      bounded (nothing e) = nothing e
      bounded (more c n g s w rest e) =
          more c n g s (λ b k. elim
          (w b k) [ inl l ↦ l | inr i ↦ absurd (apart g b s k (record { quotient = n; product = P.monomials.times_comm b n ∙ i })) ])
          (bounded rest) e

      under : Supported P.polynomials (λ e. IsBelow order e a) (subtract P.ring m r)
      under =
          Supported-from_representation P monic
          (bounded (subst (λ r. Representation P (Contains G) (λ e. IsAtMost order e a) (subtract P.ring m r)) ends.remainder
          (division_representation P a (at_most_lead P is.top) ends.division)))

      at : (b : M) → (IsBelow order b a → ⊥) → coefficient r b ≡ coefficient m b
      at b n =
          ap (λ r. coefficient r b) (difference_back P.ring m r) ∙ coefficient_subtract P.polynomials m (subtract P.ring m r) b
          ∙ ap (subtract scalars (coefficient m b)) (coefficient_outside P.polynomials under b n) ∙ subtract_zero scalars (coefficient m b)

  -- what holds of the members that are replaced, and of those that aren't yet
  record Between (L before ms : List A) : Type 0 where
    inside : (g : A) → Contains before g → Member P.ring L g
    monic : AllMonic P (Contains before)
    rising : AllPairs (LeadsRise P) before
    reduced : AllPairs (AreReduced P) before
    rest_inside : (m : A) → Contains ms m → Member P.ring L m
    rest_monic : AllMonic P (Contains ms)
    rest_rising : AllPairs (LeadsRise P) ms
    rest_apart : AllPairs (LeadsApart P) ms
    next_rising : (g m : A) → Contains before g → Contains ms m → LeadsRise P g m
    next_apart : (g m : A) → Contains before g → Contains ms m → LeadsApart P g m

  -- what holds at the end
  record Done (L before ms all : List A) : Type 0 where
    inside : (g : A) → Contains all g → Member P.ring L g
    monic : AllMonic P (Contains all)
    rising : AllPairs (LeadsRise P) all
    reduced : AllPairs (AreReduced P) all
    kept : (g : A) → Contains before g → Contains all g
    leads : (m : A) (a : M) → Contains ms m → IsLead P m a → IsReducible P (Contains all) a

  module _ {L before ms : List A} {m r : A} (b : Between L before (m ∷ ms)) (ends : EndsIn P before m r) where
    replaced_monic : {a : M} → IsMonic P m a → IsMonic P r a
    replaced_monic {a} is =
        remainder_monic b.monic is (λ g c in_before l d. (b.next_apart g m in_before (contains_head m ms)).apart c a l (lead_from_monic P is) d) ends

    own_lead : (a : M) × IsMonic P m a
    own_lead = b.rest_monic.lead m (contains_head m ms)

    -- the lead of r is the lead of m
    lead_back : (a : M) → IsLead P r a → IsLead P m a
    lead_back a l = subst (IsLead P m) (lead_unique P (lead_from_monic P (replaced_monic own_lead.1)) l) (lead_from_monic P own_lead.1)

    remainder_is : IsRemainder P before m r
    remainder_is = subst (IsRemainder P before m) ends.remainder (division_remainder P ends.division)

    replaced_inside : Member P.ring L r
    replaced_inside =
        Member-same (difference_back P.ring m r)
        (Member-subtract (b.rest_inside m (contains_head m ms))
        (Member-Inside (record { each = All-from_elements (Member P.ring L) before b.inside }) remainder_is.difference))

    replaced_rises : (g : A) → LeadsRise P g m → LeadsRise P g r
    replaced_rises g h = record { below = λ a c l k. h.below a c l (lead_back c k) }

    replaced_reduced : (g : A) → Contains before g → AreReduced P g r
    replaced_reduced g c = record {
      first = record { free = λ x y n l d. not_below_multiple order d (monomial_below x n y (lead_back y l)) };
      second = record { free = λ x y n l d. remainder_is.reduced.within x n (record { divisor = g; member = c; lead = y; is_lead = l; divides = d }) };
    }
      where
        monomial_below : (x : M) → coefficient g x ≢ scalars.zero → (y : M) → IsLead P m y → IsBelow order x y
        monomial_below x n y l =
            let is = b.monic.lead g c in below_at_most order x is.0 y ((at_most_lead P is.1.top).within x n)
            ((b.next_rising g m c (contains_head m ms)).below is.0 y (lead_from_monic P is.1) l)

    between : Between L (before ++ (r ∷ [])) ms
    between = record {
      inside = λ g c. elim (Contains-push_cases before r g c) [ inl d ↦ b.inside g d | inr e ↦ subst (Member P.ring L) e replaced_inside ];
      monic =
          record {
            lead = λ g c. elim
                (Contains-push_cases before r g c)
                [ inl d ↦ b.monic.lead g d | inr e ↦ subst (λ g. (a : M) × IsMonic P g a) e (own_lead.0, replaced_monic own_lead.1) ];
          };
      rising =
          all_pairs_push (LeadsRise P) before r b.rising
          (λ k d l. replaced_rises (get_or before k d) (b.next_rising (get_or before k d) m (Contains-get_or before k d l) (contains_head m ms)));
      reduced = all_pairs_push (AreReduced P) before r b.reduced (λ k d l. replaced_reduced (get_or before k d) (Contains-get_or before k d l));
      rest_inside = λ n c. b.rest_inside n (contains_tail m ms n c);
      rest_monic = record { lead = λ n c. b.rest_monic.lead n (contains_tail m ms n c) };
      rest_rising = AllPairs-tail (LeadsRise P) m ms b.rest_rising;
      rest_apart = AllPairs-tail (LeadsApart P) m ms b.rest_apart;
      next_rising =
          λ g n c d. elim (Contains-push_cases before r g c) [
            | inl e ↦ b.next_rising g n e (contains_tail m ms n d)
            | inr e ↦ subst (λ g. LeadsRise P g n) e
                (record { below = λ x y l k. (AllPairs-head (LeadsRise P) m ms b.rest_rising n d).below x y (lead_back x l) k })
          ];
      next_apart =
          λ g n c d. elim (Contains-push_cases before r g c) [
            | inl e ↦ b.next_apart g n e (contains_tail m ms n d)
            | inr e ↦ subst (λ g. LeadsApart P g n) e
                (record { apart = λ x y l k. (AllPairs-head (LeadsApart P) m ms b.rest_apart n d).apart x y (lead_back x l) k })
          ];
    }

    finish_one : (all : List A) → Done L (before ++ (r ∷ [])) ms all → Done L before (m ∷ ms) all
    finish_one all d = record {
      inside = d.inside;
      monic = d.monic;
      rising = d.rising;
      reduced = d.reduced;
      kept = λ g c. d.kept g (Contains-append_left before (r ∷ []) g c);
      leads =
          λ n a c l. elim (contains_cons m ms n c) [
            | inl e ↦ record {
              divisor = r;
              member = d.kept r (Contains-push before r);
              lead = a;
              is_lead = lead_forth a (subst (λ n. IsLead P n a) (sym e) l);
              divides = Divides-refl P.monomials a;
            }
            | inr c ↦ d.leads n a c l
          ];
    }
      where
        lead_forth : (a : M) → IsLead P m a → IsLead P r a
        lead_forth a l = subst (IsLead P r) (lead_unique P (lead_from_monic P own_lead.1) l) (lead_from_monic P (replaced_monic own_lead.1))

  in_turn : (L before ms rs : List A) → Between L before ms → ReplacedInTurn P before ms rs → Done L before ms (before ++ rs)
  unfolding ReplacedInTurn
  in_turn L before [] [] b replaced =
      rw append-nil (record
      { inside = b.inside; monic = b.monic; rising = b.rising; reduced = b.reduced; kept = λ g c. c; leads = λ m a c. absurd (contains_nil m c) })
  in_turn L before [] (r ∷ rs) b replaced = absurd replaced
  in_turn L before (m ∷ ms) [] b replaced = absurd replaced
  in_turn L before (m ∷ ms) (r ∷ rs) b replaced =
      finish_one b replaced.0 (before ++ (r ∷ rs))
      (subst (Done L (before ++ (r ∷ [])) ms) (append_assoc before (r ∷ []) rs)
      (in_turn L (before ++ (r ∷ [])) ms rs (between b replaced.0) replaced.1))

  -- The members of (L) whose leads cover it, with rising leads of which none divides a later one, reduced in turn, are the reduced basis.
  pub finished : {L ms rs : List A} → Inside P.ring ms L → AllMonic P (Contains ms) → AllPairs (LeadsRise P) ms → AllPairs (LeadsApart P) ms →
      CoversLeads P L (Contains ms) → ReplacedInTurn P [] ms rs → IsReducedBasis P L rs
  finished {L} {ms} {rs} inside monic rising apart covers replaced =
      let d = in_turn L [] ms rs (record {
        inside = λ g c. absurd (contains_nil g c);
        monic = record { lead = λ g c. absurd (contains_nil g c) };
        rising = λ i j d l k. absurd (omega arith);
        reduced = λ i j d l k. absurd (omega arith);
        rest_inside = λ m c. Inside-Contains inside c;
        rest_monic = monic;
        rest_rising = rising;
        rest_apart = apart;
        next_rising = λ g m c. absurd (contains_nil g c);
        next_apart = λ g m c. absurd (contains_nil g c);
      }) replaced in
      record {
        members = record { each = All-from_elements (Member P.ring L) rs d.inside };
        monic = d.monic;
        rising = d.rising;
        reduced = d.reduced;
        covers = covers_smaller (λ g a c l. d.leads g a c l) covers;
      }
