use Rattle.std.proofs.Common.{◌≡◌, ◌++◌, ◌∷◌, [], ℕ, List, ap, ap₂, ◌∙◌, append_assoc, codes, decimal}
use Rattle.fj_text.specs.Printed.{ratio_bytes}
use Rattle.fj_session.proofs.printing.push_threshold.Goals as goal

-- the pieces, appended one after the other
regrouped : (o a b c d : List ℕ) → ((o ++ (a ++ b)) ++ c) ++ d ≡ o ++ (a ++ b ++ c ++ d)
regrouped o a b c d = simp append_assoc

pub returns : goal.returns
returns c =
    let number : List ℕ = decimal c.args.number in
    let ratio : List ℕ = ratio_bytes c.args.t.now in
    c.in_ok-push.ensures.items
    ∙ ap (λ s. s ++ 10 ∷ []) (c.in_ok-extend_from_slice.ensures.items ∙ ap₂ ◌++◌ c.in_ok-push_word.ensures (c.deref.ensures.value ∙ c.in_ok-print_ratio.ensures.text))
    ∙ regrouped c.args.out.now.items number (codes ": threshold ") ratio (codes "\n")
