-- Generated sessions are accepted.
use Rattle.std.proofs.Common.{◌≡◌, ◌≢◌, ℕ, List, [], ◌++◌, get_or, map, AllPairs, Contains, sym, ap, ◌∙◌, subst, arith, codes}
use Rattle.std.specs.List.{flat_map, range_with_len}
use Rattle.fj_coeff.specs.Field.{primes}
use Rattle.fj_coeff.specs.PrimeFieldLaws.{prime_bounds}
use Rattle.fj_theory.proofs.Exponents.{heads_same}
use Rattle.fj_script.specs.Script.{lines}
use Rattle.fj_script.specs.Session.{new_session}
use Rattle.fj_grammar.specs.Grammar as grammar
use Rattle.fj_grammar.specs.Grammar.{IsRing, IsSession, tokens_of}
use Rattle.fj_grammar.proofs.GrammarComplete.{session_complete}
use Rattle.fj_gen.specs.Accepted.{GeneratedIsAccepted}
use Rattle.fj_gen.specs.Generated.{generated, lines_at, prime_for, ring_line}
use Rattle.fj_gen.proofs.Lengths.{session_short}
use Rattle.fj_gen.proofs.LineTokens.{ring_read, ring_tokens}
use Rattle.fj_gen.proofs.Pieces.{line_read}
use Rattle.fj_gen.proofs.Polynomials.{xy}
use Rattle.fj_gen.proofs.Primes.{prime_in_table}
use Rattle.fj_gen.proofs.Statements.{after_none, rest_of}

apart : AllPairs (λ v w. v ≢ w) xy
apart j k d before inside e =
    let first : j ≡ 0 = omega (arith, before, inside) in
    let second : k ≡ 1 = omega (arith, before, inside) in
    let same : codes "x" ≡ codes "y" = ap (λ a. get_or xy a d) (sym first) ∙ e ∙ ap (λ b. get_or xy b d) second in
    let head : 120 ≡ 121 = heads_same same in
    absurd (omega (arith, head))

ring_statement : (p : ℕ) → Contains primes p → IsRing (ring_tokens p) (new_session p xy)
ring_statement p prime = grammar.ring prime (grammar.more grammar.variable (grammar.last grammar.variable)) (omega arith) apart

pub generated_accepted : GeneratedIsAccepted
unfolding generated
generated_accepted n some few =
    let p = prime_for n in
    let prime = prime_in_table n in
    let bounds = prime_bounds p prime in
    let R = rest_of prime n 0 (omega arith) [] 0 [] after_none in
    let rest : List ℕ = flat_map (lines_at p) (range_with_len 1 n) in
    let S : IsSession (map tokens_of (lines (ring_line p ++ rest))) R.session =
    subst (λ ls. IsSession ls R.session) (sym (line_read (ring_read p bounds.1) rest)) (grammar.begins (ring_statement p prime) R.statements) in
    record {
      session = R.session;
      accepted = session_complete (generated n) R.session (record { few = session_short p (omega (arith, bounds.0)) bounds.1 n few; is = S });
      prime = R.over;
      names = R.names ∙ omega arith;
      questions = R.questions ∙ omega arith;
    }
