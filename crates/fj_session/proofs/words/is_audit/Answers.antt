use Rattle.std.proofs.Common.{◌∷◌, [], get_or, codes, sym, ap₂, ◌∙◌, arith}
use Rattle.std.proofs.lemmas.Slice.Eq.{bytes_eq-Decides}
use Rattle.fj_session.proofs.WordLists.{both, pair}
use Rattle.fj_session.proofs.words.is_audit.Goals as goal
use Rattle.fj_session.proofs.words.is_audit.Goals.{then-words-eq2, else-words-eq2}

pub returns-then-eq : goal.returns-then-eq
returns-then-eq c =
    let words = c.args.words.now in
    elim c.if-words-eq2.branch [
      | then-words-eq2 w ↦
          let two = pair words (record { ref_ptr = (0, 0); now = [] }) w.if-words-eq2.true in
          let first = (bytes_eq-Decides (get_or words 0 (record { ref_ptr = (0, 0); now = [] })).now (codes "run")).0 (sym w.eq.ensures ∙ sym w.value-is ∙ c.if-eq.true) in
          let second = bytes_eq-Decides (get_or words 1 (record { ref_ptr = (0, 0); now = [] })).now (codes "audit") in
          (λ yes. two ∙ ap₂ (λ a b. a ∷ b ∷ []) first (second.0 (sym c.eq-then-eq.ensures ∙ yes)), λ audit. c.eq-then-eq.ensures ∙ second.1 (both _ _ _ _ (sym two ∙ audit)).1)
      | else-words-eq2 w ↦ (let no = w.value-is in let yes = c.if-eq.true in absurd (grind arith))
    ]
