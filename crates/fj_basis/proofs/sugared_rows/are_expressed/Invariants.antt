use Rattle.std.proofs.Common.{◌≡◌, true, List, take}
use Rattle.fj_theory.specs.Polynomial.{Polynomial}
use Rattle.fj_groebner.specs.Division.{polynomials_of}
use Rattle.fj_basis.specs.History.{IsHistoryOf}
use Rattle.fj_basis.specs.Members.{sugared_members}
use Rattle.fj_basis.specs.SugaredRun.{AreExpressed}
use Rattle.fj_basis.proofs.sugared_rows.are_expressed.Given as goal

-- those so far are expressed
abbrev pub invariant-loop-member : goal.invariant-loop-member
invariant-loop-member g l =
    (N : List Polynomial) → l.fn.history.is_kept ≡ true → IsHistoryOf g.K.Coeff.field N (sugared_members l.members) l.fn.history
    → AreExpressed g.K.Coeff.field N (sugared_members l.members) (polynomials_of (sugared_members (take l.member-index l.basis))) l.history
