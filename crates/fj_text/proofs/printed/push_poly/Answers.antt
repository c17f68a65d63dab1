use Rattle.std.proofs.Common.{◌++◌, ◌∙◌, sym, ap, codes, arith}
use Rattle.std.proofs.lemmas.Bool.{ne_eqb}
use Rattle.fj_text.specs.Printed.{polynomial_bytes, term_bytes}
use Rattle.fj_text.proofs.Joined.{no_piece, on_ok, piece_pushed, pieces_end}
use Rattle.fj_text.proofs.printed.push_poly.Goals as goal

pub returns-then-len-eq0 : goal.returns-then-len-eq0
unfolding polynomial_bytes
returns-then-len-eq0 c =
    on_ok c.push_zero.result (λ pushed. pushed ∙ ap (λ s. c.args.out.now.items ++ s) (sym (no_piece (codes "+") (term_bytes c.args.vars.now) c.args.h.now.terms (omega (arith, c.len.ensures, c.if-len-eq0.true))))) c.push_zero.ensures

pub loop-place-preserved : goal.loop-place-preserved
loop-place-preserved c =
    piece_pushed (codes "+") (term_bytes c.args.vars.now) c.args.h.now.terms c.loop-place.place _ c.args.out.now.items _ _ _ c.get.ensures c.loop-place.invariant c.in_ok-push_between.ensures c.in_ok-push_term.ensures

pub returns : goal.returns
unfolding polynomial_bytes
returns c =
    pieces_end (codes "+") (term_bytes c.args.vars.now) c.args.h.now.terms c.loop-place.place c.args.out.now.items _ (ne_eqb _ _ (λ none. c.if-len-eq0.false (c.len.ensures ∙ none)))
    (omega (arith, c.len-place-end.ensures, c.loop-place-test.false)) c.loop-place.invariant
