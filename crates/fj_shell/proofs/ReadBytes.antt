-- The bytes that were read, as the session sees them.
use Rattle.std.proofs.Common.{◌≡◌, ◌≤◌, ◌⊎◌, ℕ, List, length, Option, sym, subst}
use Rattle.std.specs.Io.KnownBytes.{Consumes, IsAtEnd}
use Rattle.fj_shell.specs.Shell.{IsRead}

pub is_read : {before after : Option (List ℕ)} (bytes seen : List ℕ) {n : ℕ} → n ≡ length bytes → seen ≡ bytes → Consumes before after bytes → n ≤ 1048577 → IsAtEnd after ⊎ (n ≡ 1048577) → IsRead before after seen
is_read {before} {after} bytes seen long same taken short whole =
    subst (IsRead before after) (sym same) (record {
      taken = taken;
      short = subst (λ k. k ≤ 1048577) long short;
      whole = subst (λ k. IsAtEnd after ⊎ (k ≡ 1048577)) long whole;
    })
