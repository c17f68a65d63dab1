use Rattle.std.proofs.Common.{◌∷◌, [], get_or, codes, sym, ap, ◌∙◌}
use Rattle.std.proofs.lemmas.Slice.Eq.{bytes_eq-Decides}
use Rattle.fj_session.proofs.Forms.{true_from_not}
use Rattle.fj_session.proofs.WordLists.{pair}
use Rattle.fj_session.proofs.words.generated.Goals as goal

pub returns-clause-found : goal.returns-clause-found
returns-clause-found c =
    let words = c.args.words.now in
    let two = pair words (record { ref_ptr = (0, 0); now = [] }) c.if-words-ne2.false in
    let first = (bytes_eq-Decides (get_or words 0 (record { ref_ptr = (0, 0); now = [] })).now (codes "gen")).0 (true_from_not _ (sym c.ne.ensures ∙ c.if-ne.false)) in
    ((get_or words 1 (record { ref_ptr = (0, 0); now = [] })).now, two ∙ ap (λ a. a ∷ (get_or words 1 (record { ref_ptr = (0, 0); now = [] })).now ∷ []) first, c.in_ok-n.ensures.found)
