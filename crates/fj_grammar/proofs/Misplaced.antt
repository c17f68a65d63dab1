-- A token that isn't wanted is misplaced: no statement has it there, and no other kind has its cause at it.
use Rattle.std.proofs.Common.{◌≡◌, ℕ, Bool, true, false, List, [], ◌∷◌, ◌++◌, codes, Option, Some, None, refl, sym, ap, ◌∙◌, subst, append_assoc, inl, inr, ◌⊎◌}
use Rattle.std.specs.Option.{is_some, option_and_then}
use Rattle.fj_text.specs.Token.{Token, Word, Number, Sign}
use Rattle.fj_script.specs.Items.{comma, equals, slash}
use Rattle.fj_script.specs.Question.{ask_of, ideal_ask_of}
use Rattle.fj_script.specs.Session.{Session}
use Rattle.fj_script.specs.Statement.{keyword_of}
use Rattle.fj_grammar.specs.Beginning as beginning
use Rattle.fj_grammar.specs.Beginning.{CanGoOn, IsDoomedWith}
use Rattle.fj_grammar.specs.Owed as owed
use Rattle.fj_grammar.specs.Owed.{AreAlike, IsMisplaced, IsUnfinished, IsWhole, NeedKeyword}
use Rattle.fj_grammar.specs.Wrong.{BeginsLater}
use Rattle.fj_grammar.proofs.Wanted.{MayEnd, Want, Beginning, Variables, run, run_behind, run_front, step}
use Rattle.fj_grammar.proofs.WantedGrammar.{IsFull, MayCome, arity_has_come, come, comes_front, large_has_come, many_has_come, ring_full, statement_full, variables_run}
use Rattle.fj_grammar.proofs.WantedNames.{TakesAnyName, needs_keyword, same_number}

no_ring_there : (ts : List Token) (ws : List Want) → run (Word (codes "ring") ∷ ts) (Beginning true ∷ []) ≡ Some ws → ⊥
unfolding keyword_of
no_ring_there ts ws e = cc

no_question_yet : (t : Token) (ts : List Token) (ws : List Want) → run (Word (codes "ask") ∷ t ∷ ts) (Beginning false ∷ []) ≡ Some ws → ⊥
unfolding keyword_of
no_question_yet t ts ws e = cc

no_result_yet : (t : Token) (ts : List Token) (ws : List Want) → run (Word (codes "let") ∷ t ∷ ts) (Beginning false ∷ []) ≡ Some ws → ⊥
unfolding keyword_of
no_result_yet t ts ws e = cc

-- The beginnings that can't go on, and the token that comes next all the same.
doomed_comes : (ring : Bool) {ts : List Token} {t : Token} → IsDoomedWith ts t → (ws : List Want) → run ts (Beginning ring ∷ []) ≡ Some ws → MayCome (ts ++ t ∷ []) (Beginning ring ∷ [])
unfolding keyword_of ask_of ideal_ask_of
doomed_comes true (beginning.eighth {p} {ts = vs} l full) ws e = absurd (no_ring_there (Number p ∷ vs ++ Sign comma ∷ []) ws e)
doomed_comes false (beginning.eighth {p} {ts = vs} {w = w} l full) ws e =
    comes_front {us = vs ++ Sign comma ∷ Word w ∷ []} {xs = _} (ap (λ us. run (Word (codes "ring") ∷ Number p ∷ us) (Beginning false ∷ [])) (append_assoc vs (Sign comma ∷ []) (Word w ∷ [])))
    (come (run_behind vs (Sign comma ∷ Word w ∷ []) _ (Variables ∷ []) (variables_run l [])))
doomed_comes true beginning.left_over ws e = come refl
doomed_comes false (beginning.left_over {F}) ws e = absurd (no_question_yet (Word (codes "left")) (Word F ∷ Number 0 ∷ Sign slash ∷ []) ws e)
doomed_comes true beginning.isjump_over ws e = come refl
doomed_comes false (beginning.isjump_over {F}) ws e = absurd (no_question_yet (Word (codes "isjump")) (Word F ∷ Number 0 ∷ Sign slash ∷ []) ws e)
doomed_comes true beginning.named_left_over ws e = come refl
doomed_comes false (beginning.named_left_over {N} {F}) ws e = absurd (no_result_yet (Word N) (Sign equals ∷ Word (codes "left") ∷ Word F ∷ Number 0 ∷ Sign slash ∷ []) ws e)

later_comes : (w : List ℕ) → BeginsLater w → MayCome (Word w ∷ []) (Beginning false ∷ [])
unfolding keyword_of
later_comes w (inl e) = subst (λ v. MayCome (Word v ∷ []) (Beginning false ∷ [])) (sym e) (come refl)
later_comes w (inr (inl e)) = subst (λ v. MayCome (Word v ∷ []) (Beginning false ∷ [])) (sym e) (come refl)
later_comes w (inr (inr (inl e))) = subst (λ v. MayCome (Word v ∷ []) (Beginning false ∷ [])) (sym e) (come refl)
later_comes w (inr (inr (inr (inl e)))) = subst (λ v. MayCome (Word v ∷ []) (Beginning false ∷ [])) (sym e) (come refl)
later_comes w (inr (inr (inr (inr (inl e))))) = subst (λ v. MayCome (Word v ∷ []) (Beginning false ∷ [])) (sym e) (come refl)
later_comes w (inr (inr (inr (inr (inr (inl e)))))) = subst (λ v. MayCome (Word v ∷ []) (Beginning false ∷ [])) (sym e) (come refl)
later_comes w (inr (inr (inr (inr (inr (inr e)))))) = subst (λ v. MayCome (Word v ∷ []) (Beginning false ∷ [])) (sym e) (come refl)

-- ---- tokens that are alike

run_last : (ts : List Token) (t : Token) (ws : List Want) → run (ts ++ t ∷ []) ws ≡ option_and_then (step t) (run ts ws)
run_last [] t ws = by (step t ws)
  where
    by : (o : Option (List Want)) → option_and_then (run []) o ≡ o
    by None = refl
    by (Some vs) = refl
run_last (u ∷ ts) t ws = by (step u ws) (run_last ts t)
  where
    by : (o : Option (List Want)) → ((vs : List Want) → run (ts ++ t ∷ []) vs ≡ option_and_then (step t) (run ts vs)) → option_and_then (run (ts ++ t ∷ [])) o ≡ option_and_then (step t) (option_and_then (run ts) o)
    by None rec = refl
    by (Some vs) rec = rec vs

module _ (ring : Bool) where
  abbrev first : List Want
  first = Beginning ring ∷ []

  alike_last : (ts us : List Token) (t u : Token) → run ts first ≡ run us first → ((ws : List Want) → run ts first ≡ Some ws → step t ws ≡ step u ws) → run (ts ++ t ∷ []) first ≡ run (us ++ u ∷ []) first
  alike_last ts us t u e each = run_last ts t first ∙ by (run ts first) refl ∙ ap (option_and_then (step u)) e ∙ sym (run_last us u first)
    where
      by : (o : Option (List Want)) → run ts first ≡ o → option_and_then (step t) o ≡ option_and_then (step u) o
      by None is = refl
      by (Some ws) is = each ws is

  alike_run : {ts us : List Token} → AreAlike ts us → run ts first ≡ run us first
  alike_run owed.none = refl
  alike_run (owed.same ts us t h) = alike_last ts us t t (alike_run h) (λ ws is. refl)
  alike_run (owed.number ts us n m h) = alike_last ts us (Number n) (Number m) (alike_run h) (λ ws is. same_number n m ws)
  alike_run (owed.name ts us v w h named) = alike_last ts us (Word v) (Word w) (alike_run h) (λ ws is. by ws (needs_keyword ring ts ws is))
    where
      by : (ws : List Want) → NeedKeyword ts ⊎ TakesAnyName ws → step (Word v) ws ≡ step (Word w) ws
      by ws (inl k) = absurd (named k)
      by ws (inr k) = k v w

-- ---- a token that isn't wanted

can_come : (before : Option Session) (ts : List Token) → CanGoOn before ts → MayCome ts (Beginning (is_some before) ∷ [])
can_come None ts (more, T, h) = let x = ring_full h in come (run_front ts more (Beginning false ∷ []) x.wants x.reached).1
can_come (Some S) ts (other, alike, more, T, h) = let x = statement_full h in come (run_front ts more (Beginning true ∷ []) x.wants x.reached).1

whole_full : (before : Option Session) (ts : List Token) → IsWhole before ts → IsFull ts (Beginning (is_some before) ∷ [])
whole_full None ts (T, h) = ring_full h
whole_full (Some S) ts (other, alike, T, h) = statement_full h

pub misplaced : (before : Option Session) (ts : List Token) (t : Token) (wants : List Want) → run ts (Beginning (is_some before) ∷ []) ≡ Some wants → step t wants ≡ None → IsMisplaced before ts t
misplaced before ts t wants reached refused = record {
  no_statement = λ us alike h. never us alike (can_come before us h);
  not_doomed = λ u alike d. never (ts ++ u ∷ []) alike (doomed_comes (is_some before) d wants reached);
  no_later_statement = λ w none nothing is other. first_word w none nothing is other;
  nothing_large = λ S is h. not_with S is (large_has_come h);
  right_arity = λ S is h. not_with S is (arity_has_come h);
  not_too_many = λ S is h. not_with S is (many_has_come h);
}
  where
    nowhere : run (ts ++ t ∷ []) (Beginning (is_some before) ∷ []) ≡ None
    nowhere = run_last ts t (Beginning (is_some before) ∷ []) ∙ ap (option_and_then (step t)) reached ∙ refused

    never : (us : List Token) → AreAlike (ts ++ t ∷ []) us → MayCome us (Beginning (is_some before) ∷ []) → ⊥
    never us alike H = let both = sym nowhere ∙ alike_run (is_some before) alike ∙ H.reached in cc

    not_with : (S : Session) → before ≡ Some S → MayCome (ts ++ t ∷ []) (Beginning true ∷ []) → ⊥
    not_with S is H = let both = sym (subst (λ o. run (ts ++ t ∷ []) (Beginning (is_some o) ∷ []) ≡ None) is nowhere) ∙ H.reached in cc

    first_word : (w : List ℕ) → before ≡ None → ts ≡ [] → t ≡ Word w → BeginsLater w → ⊥
    first_word w none nothing is other =
        let here : run (ts ++ t ∷ []) (Beginning false ∷ []) ≡ None = subst (λ o. run (ts ++ t ∷ []) (Beginning (is_some o) ∷ []) ≡ None) none nowhere in
        let H = later_comes w other in
        let both = sym here ∙ ap (λ us. run (us ++ t ∷ []) (Beginning false ∷ [])) nothing ∙ ap (λ u. run (u ∷ []) (Beginning false ∷ [])) is ∙ H.reached in
        cc

pub unfinished : (before : Option Session) (ts : List Token) (wants : List Want) → run ts (Beginning (is_some before) ∷ []) ≡ Some wants → (MayEnd wants → ⊥) → IsUnfinished before ts
unfinished before ts wants reached more_wanted us alike h =
    let x = whole_full before us h in
    let same : x.wants ≡ wants = (let both = sym x.reached ∙ sym (alike_run (is_some before) alike) ∙ reached in cc) in
    more_wanted (subst MayEnd same x.may_end)
