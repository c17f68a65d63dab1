-- The law that generated sessions are accepted.
use Rattle.std.specs.Prelude.{◌≡◌, ℕ, ◌*◌, ◌≤◌, length, Ok}
use Rattle.fj_script.specs.Script.{script}
use Rattle.fj_script.specs.Session.{Session}
use Rattle.fj_gen.specs.Generated.{generated, prime_for}

-- The session of n is accepted: over its prime it declares n polynomials, and asks two questions on each.
pub record IsAccepted (n : ℕ) : Type 0 where
  pub session : Session
  pub accepted : script (generated n) ≡ Ok session
  pub prime : session.prime ≡ prime_for n
  pub names : length session.values ≡ n
  pub questions : length session.asked ≡ 2 * n

abbrev pub GeneratedIsAccepted : Type 0
GeneratedIsAccepted = (n : ℕ) → 1 ≤ n → n ≤ 1000 → IsAccepted n
