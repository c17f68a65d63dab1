use Rattle.std.proofs.Common.{◌++◌, ◌∙◌, ap, codes, map}
use Rattle.fj_text.specs.Printed.{list_bytes, polynomial_bytes, joined, or_zero}
use Rattle.fj_text.proofs.printed.print_list.Goals as goal

pub returns : goal.returns
unfolding list_bytes
returns c =
    let members = joined (codes ", ") (or_zero (map (polynomial_bytes c.args.vars.now) c.args.l.now)) in
    c.in_ok-push-2.ensures.items ∙ ap (λ s. s ++ codes ")") (c.in_ok-push_members.ensures ∙ ap (λ s. s ++ members) (c.in_ok-push.ensures.items ∙ ap (λ s. s ++ codes "(") c.new-out.ensures.items))
