use Rattle.std.proofs.Common.{◌∷◌, [], get_or, codes, sym, ap, ◌∙◌}
use Rattle.std.proofs.lemmas.Slice.Eq.{bytes_eq-Decides}
use Rattle.fj_session.proofs.WordLists.{alone, single}
use Rattle.fj_session.proofs.words.is_run.Goals as goal

pub returns-then-words-eq1 : goal.returns-then-words-eq1
returns-then-words-eq1 c =
    let one = single c.args.words.now (record { ref_ptr = (0, 0); now = [] }) c.if-words-eq1.true in
    let decides = bytes_eq-Decides (get_or c.args.words.now 0 (record { ref_ptr = (0, 0); now = [] })).now (codes "run") in
    (λ yes. one ∙ ap (λ w. w ∷ []) (decides.0 (sym c.eq.ensures ∙ yes)), λ run. c.eq.ensures ∙ decides.1 (alone _ _ (sym one ∙ run)))
