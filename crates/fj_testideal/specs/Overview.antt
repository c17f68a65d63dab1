-- What the program means, on one page: each definition in the order in which they build on one another, with the module that
-- holds it. No law stands here. A list of polynomials stands for the ideal that it generates, p is the characteristic, q = p^e.

-- GF(p): the numbers below p with sum and product modulo p.
pub use Rattle.fj_coeff.specs.PrimeField.{prime_field}
-- A polynomial: a finite map from lists of eight exponents to nonzero coefficients.
pub use Rattle.fj_theory.specs.Polynomial.{Polynomial, IsPolynomial}
-- The sum by coefficients, the product by convolution, the power by repeated product.
pub use Rattle.fj_theory.specs.Polynomial.{sum, product, power}
-- h is in the ideal (L); (L) is inside (M); (L) and (M) are one ideal.
pub use Rattle.fj_theory.specs.Ideal.{Member, Inside, SameIdeal}
-- The Frobenius power L^[q]: the q-th powers of the polynomials of L.
pub use Rattle.fj_theory.specs.FrobeniusPower.{frobenius_power}
-- The Frobenius root of L at q: the smallest ideal whose Frobenius power has L inside.
pub use Rattle.fj_theory.specs.Root.{IsRoot}
-- The parts of h over q-th powers: h is the sum over a of h_a^q * x^a.
pub use Rattle.fj_theory.specs.Parts.{IsParts}
-- The test ideal tau(f^t): the root of f^ceil(t*q) at every large e.
pub use Rattle.fj_testideal.specs.TestIdeal.{IsTestIdeal}
-- The left limit of the test ideals at t: the root of f^(ceil(t*q) - 1) at every large e.
pub use Rattle.fj_testideal.specs.TestIdeal.{IsLeftLimit}
-- t is an F-jumping number: tau(f^t) is tau(f^s) for no s below t.
pub use Rattle.fj_testideal.specs.Jump.{IsJump}
-- tau is constant on [s, t).
pub use Rattle.fj_testideal.specs.Jump.{IsConstant}
-- The step with a digit, and the numbers of periods after which the chains from (f) and from (1) first repeat.
pub use Rattle.fj_testideal.specs.Chain.{IsStep, IsNumberOfRisingPeriods, IsNumberOfFallingPeriods}
-- The candidates C_E, the fractions with at most E digits before their period and in it together; the gaps between them.
pub use Rattle.fj_theory.specs.Candidates.{IsCandidate, AreCandidates, gaps}
-- The list for E: the candidates that are jumps, the open gaps, and that it is complete.
pub use Rattle.fj_testideal.specs.JumpList.{AreJumps, AreOpenGaps, IsComplete}
-- nu(e), the greatest r with f^r outside J^[q]; the threshold of f at J; a gap that has the threshold inside.
pub use Rattle.fj_testideal.specs.Threshold.{IsNu, IsThreshold, HasThresholdInside}
-- A q^-1-linear map, and that it keeps an ideal; the ring modulo (L) is F-pure; it is F-pure at a point.
pub use Rattle.fj_theory.specs.Splitting.{IsInverseLinear, Keeps, IsFPure, IsFPureAt}
-- J is compatible with u at e.
pub use Rattle.fj_theory.specs.Splitting.{IsCompatible}
-- The meet of two ideals, and the quotient of one by the other.
pub use Rattle.fj_theory.specs.Colon.{IsMeet, IsColon}
-- The reduced Groebner basis of an ideal for a monomial order.
pub use Rattle.fj_groebner.specs.ReducedBasis.{IsReducedBasis}
-- For stops alone: the division of a polynomial by a list; a turn of a run, and a run of some turns; the run on a list is
-- finished, has pairs left at the end of its budget, or comes to a degree above 2^40.
pub use Rattle.fj_groebner.specs.Division.{IsDivision}
pub use Rattle.fj_groebner.specs.Run.{IsSpared, AreRemovals, IsTurn, IsRun, IsFinished, Unfinished, TooHigh}

-- In the crates above:
-- the script of a session, or its first fault: fj_script, module Script (the grammar of sessions: fj_grammar, module Grammar);
-- the lists that a question runs, and its products: fj_session, modules Statement and Lists; when it may stop: module Stop;
-- the answer to a question: fj_session, module Answer; its text: module Text; what the program writes: module Program;
-- certificates: fj_theory, module Certificate.
