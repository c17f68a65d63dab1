use Rattle.std.proofs.Common.{◌≡◌, ◌++◌, ◌∷◌, [], ℕ, List, take, ap, ap₂, ◌∙◌, append_assoc, codes, decimal}
use Rattle.fj_text.specs.Printed.{polynomial_bytes}
use Rattle.fj_session.specs.Text.{residue_bytes, row_line}
use Rattle.fj_session.proofs.printing.push_row.Goals as goal

-- the pieces, appended one after the other
regrouped : (o a b c d e f : List ℕ) → ((((o ++ (a ++ b)) ++ c) ++ d) ++ e) ++ f ≡ o ++ (a ++ b ++ c ++ d ++ e ++ f)
regrouped o a b c d e f = simp append_assoc

pub returns : goal.returns
unfolding row_line
returns c =
    let names = c.args.vars.now in
    let number : List ℕ = decimal c.args.number in
    let exponents = c.args.row.now.residue.exponents in
    let residue : List ℕ = residue_bytes (take c.len.result exponents) in
    let poly : List ℕ = polynomial_bytes names c.args.row.now.poly in
    let printed = c.deref.ensures.value ∙ c.in_ok-print_poly.ensures in
    c.in_ok-push.ensures.items
    ∙ ap (λ s. s ++ 10 ∷ []) (c.in_ok-extend_from_slice-2.ensures.items ∙ ap₂ ◌++◌ (c.in_ok-extend_from_slice.ensures.items
    ∙ ap (λ s. s ++ codes " = ") (c.in_ok-push_residue.ensures ∙ ap (λ s. s ++ residue) c.in_ok-push_word.ensures)) printed)
    ∙ regrouped c.args.out.now.items number (codes ": part ") residue (codes " = ") poly (codes "\n")
    ∙ ap (λ k. c.args.out.now.items ++ (number ++ codes ": part " ++ residue_bytes (take k exponents) ++ codes " = " ++ poly ++ codes "\n")) c.len.ensures.count
